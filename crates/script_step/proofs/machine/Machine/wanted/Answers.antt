-- `Machine::wanted` meets its contract.
use borrow.Author.Tests.{not-true, not-false}
use Rattle.script_step.specs.MachineStepLaws.{wanted_none, wanted_some}
use Rattle.script_step.proofs.machine.Machine.wanted.Goals as goal

pub returns-then-not-self : goal.returns-then-not-self
returns-then-not-self c = wanted_none c.args.self _ _ (not-true _ c.if-not-self.true) c.no_machine.ensures

pub returns : goal.returns
returns c = wanted_some c.args.self _ (not-false _ c.if-not-self.false)
