-- `Machine::start` meets its contract: start is the call of crate `calls` on what is lent.
use Rattle.std.specs.Prelude.{Result, ⊤}
use mathlib.Core.Path.{◌≡◌, ap, sym, ◌∙◌}
use native.Mathlib.Omega.{arith}
use lib.ListN.{length}
use lib.Seq.{length-take-le}
use Rattle.answers.specs.declared.Refusal.{Refusal}
use Rattle.script_step.specs.MachineStep.{started_as}
use Rattle.script_step.specs.MachineStepLaws.{began_not, began}
use Rattle.script_step.proofs.machine.Machine.start.Goals as goal

pub returns-then-most-count : goal.returns-then-most-count
returns-then-most-count c = began_not c.args.self _ _ _ _ _ c.if-most-count.true c.says.ensures

pub slice_bounds-start-end : goal.slice_bounds-start-end
slice_bounds-start-end c = sym (length-take-le _ _ (omega (arith, c.if-most-count.false)))

pub slice_bounds-start-end-2 : goal.slice_bounds-start-end-2
slice_bounds-start-end-2 c = sym (length-take-le _ _ c.requires.in_files)

pub slice_bounds-rows-end : goal.slice_bounds-rows-end
slice_bounds-rows-end c = let long : length c.args.self.rows ≡ 24 = c.well_formed.0.1.1.1.1.1.1.0.1.0.1 in omega (arith, c.requires.few)

pub slice_bounds-start-end-3 : goal.slice_bounds-start-end-3
slice_bounds-start-end-3 c = let long : length c.args.self.rows ≡ 24 = c.well_formed.0.1.1.1.1.1.1.0.1.0.1 in sym (length-take-le _ _ (omega (arith, c.requires.few)))

pub returns-in-Ok : goal.returns-in-Ok
returns-in-Ok c = began c.args.self _ _ _ _ _ _ _ c.if-most-count.false c.start.ensures (ap (λ (d : Result ⊤ Refusal). started_as c.args.self c.args.count d) (sym c.in-Ok.is))

pub returns-in-Err : goal.returns-in-Err
returns-in-Err c = began c.args.self _ _ _ _ _ _ _ c.if-most-count.false c.start.ensures (c.says-in-Err.ensures ∙ ap (λ (d : Result ⊤ Refusal). started_as c.args.self c.args.count d) (sym c.in-Err.is))
