-- `machine_create_file`: the call's answer as numbers.
use mathlib.Core.Bool.{Bool, not}
use lib.Dec.{eqb}
use Rattle.model.specs.declared.Place.{Place}
use Rattle.model.specs.Create.{is_copy}
use Rattle.model.specs.Calls as model
use Rattle.machine_c.specs.Numbers.{place_of}
use Rattle.machine_c.specs.OutLaws.{told_nothing, left_alone, placed_out}
use Rattle.machine_c.proofs.machine_create_file.Goals as goal

pub returns-then-out-ne1 : goal.returns-then-out-ne1
returns-then-out-ne1 c = record { told = told_nothing _ _ _ c.if-out-ne1.true; leaves_out = left_alone _ _ _ _ _ _ c.if-out-ne1.true }

pub returns : goal.returns
returns c =
    let a = c.args in
    let worked : Place × Bool = (c.place_at-place.result, is_copy c.fork_of-fork.result) in
    let asked : Place × Bool = (place_of a.given a.start, not (eqb a.copy 0)) in let the = placed_out {A = Place × Bool} (λ y s. model.create_file s a.process y.0 a.size a.flags y.1 (not (eqb a.thread 0)) a.file a.offset a.length) _ _ _ worked asked (λ k. (c.place_at-place.ensures k, c.fork_of-fork.ensures k)) _ _ _ _ _ _ c.if-out-ne1.false c.create_file.ensures.value c.create_file.ensures.leaves c.tell_placed.ensures.value c.tell_placed.ensures.out_after in record { told = the.0; leaves_out = the.1 }
