-- `page_call` meets its contract: each arm is a row of the table.
use mathlib.Core.Path.{refl}
use Rattle.call_words.specs.CallOf.{call_of}
use Rattle.call_words.specs.CallOfLaws.{at_number, past_all}
use Rattle.call_words.proofs.page_call.Goals as goal

pub returns-in-13 : goal.returns-in-13
unfolding call_of
returns-in-13 c = at_number c.args.args _ 13 _ c.in-13.is c.fault_call.ensures

pub returns-in-14 : goal.returns-in-14
unfolding call_of
returns-in-14 c = at_number c.args.args _ 14 _ c.in-14.is c.populate_call.ensures

pub returns-in-15 : goal.returns-in-15
unfolding call_of
returns-in-15 c = at_number c.args.args _ 15 _ c.in-15.is refl

pub returns-in-16 : goal.returns-in-16
unfolding call_of
returns-in-16 c = at_number c.args.args _ 16 _ c.in-16.is refl

pub returns-in-17 : goal.returns-in-17
unfolding call_of
returns-in-17 c = at_number c.args.args _ 17 _ c.in-17.is refl

pub returns-in-18 : goal.returns-in-18
unfolding call_of
returns-in-18 c = at_number c.args.args _ 18 _ c.in-18.is refl

pub returns-in-19 : goal.returns-in-19
unfolding call_of
returns-in-19 c = at_number c.args.args _ 19 _ c.in-19.is refl

pub returns-in-20 : goal.returns-in-20
unfolding call_of
returns-in-20 c = at_number c.args.args _ 20 _ c.in-20.is refl

pub returns-in-21 : goal.returns-in-21
unfolding call_of
returns-in-21 c = at_number c.args.args _ 21 _ c.in-21.is refl

pub returns-in-22 : goal.returns-in-22
unfolding call_of
returns-in-22 c = at_number c.args.args _ 22 _ c.in-22.is c.store_call.ensures

pub returns-in_default : goal.returns-in_default
unfolding call_of
returns-in_default c = past_all c.args.args _ c.requires (search c.in_default)
