-- `region_call` meets its contract: each arm is a row of the table.
use mathlib.Core.Path.{refl}
use Rattle.call_words.specs.CallOf.{call_of}
use Rattle.call_words.specs.CallOfLaws.{at_number, only_start}
use Rattle.call_words.proofs.region_call.Goals as goal

pub returns-in-1 : goal.returns-in-1
unfolding call_of
returns-in-1 c = at_number c.args.args _ 1 _ c.in-1.is refl

pub returns-in-2 : goal.returns-in-2
unfolding call_of
returns-in-2 c = at_number c.args.args _ 2 _ c.in-2.is refl

pub returns-in-3 : goal.returns-in-3
unfolding call_of
returns-in-3 c = at_number c.args.args _ 3 _ c.in-3.is refl

pub returns-in-4 : goal.returns-in-4
unfolding call_of
returns-in-4 c = at_number c.args.args _ 4 _ c.in-4.is c.private_call.ensures

pub returns-in-5 : goal.returns-in-5
unfolding call_of
returns-in-5 c = at_number c.args.args _ 5 _ c.in-5.is c.file_call.ensures

pub returns-in-6 : goal.returns-in-6
unfolding call_of
returns-in-6 c = at_number c.args.args _ 6 _ c.in-6.is c.shared_call.ensures

pub returns-in-7 : goal.returns-in-7
unfolding call_of
returns-in-7 c = at_number c.args.args _ 7 _ c.in-7.is refl

pub returns-in-8 : goal.returns-in-8
unfolding call_of
returns-in-8 c = at_number c.args.args _ 8 _ c.in-8.is refl

pub returns-in-9 : goal.returns-in-9
unfolding call_of
returns-in-9 c = at_number c.args.args _ 9 _ c.in-9.is refl

pub returns-in-10 : goal.returns-in-10
unfolding call_of
returns-in-10 c = at_number c.args.args _ 10 _ c.in-10.is refl

pub returns-in-11 : goal.returns-in-11
unfolding call_of
returns-in-11 c = at_number c.args.args _ 11 _ c.in-11.is refl

pub returns-in-12 : goal.returns-in-12
unfolding call_of
returns-in-12 c = at_number c.args.args _ 12 _ c.in-12.is refl

pub returns-in_default : goal.returns-in_default
unfolding call_of
returns-in_default c = at_number c.args.args _ 0 _ (only_start _ c.requires (search c.in_default)) refl
