-- `Machine::answer` meets its contract: the call on what is lent, and nothing before there is a machine.
use mathlib.Core.Path.{sym, ap}
use native.Mathlib.Omega.{arith}
use lib.Seq.{length-take-le}
use borrow.Author.Tests.{not-true, not-false}
use Rattle.answer_text.specs.declared.answer.Answer.{Answer}
use Rattle.script_step.specs.declared.said.Said.TheVariants as said
use Rattle.script_step.specs.MachineStepLaws.{answers_none, answers_some}
use Rattle.script_step.proofs.machine.Machine.answer.Goals as goal

pub returns-then-not-self : goal.returns-then-not-self
returns-then-not-self c = answers_none _ _ _ _ _ _ _ (not-true _ c.if-not-self.true) c.no_machine.ensures

pub slice_bounds-run-end-2 : goal.slice_bounds-run-end-2
slice_bounds-run-end-2 c = sym (length-take-le _ _ (omega arith))

pub slice_bounds-run-end-3 : goal.slice_bounds-run-end-3
slice_bounds-run-end-3 c = sym (length-take-le _ _ (omega arith))

pub returns : goal.returns
returns c = answers_some _ _ _ _ _ _ _ _ _ _ _ (not-false _ c.if-not-self.false) c.requires.frames_in_bounds c.run-answer.auto.frames c.run-answer.ensures (ap (λ (a : Answer). said.Answer a) c.written_as.ensures)
