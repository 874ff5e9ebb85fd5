-- `parse::asked_of` meets its contract: what is none of the manager's is the machine's.
use Rattle.call_text.specs.ParseLaws.{asked_machine}
use Rattle.call_text.proofs.parse.asked_of.Goals as goal

pub returns-in_default : goal.returns-in_default
returns-in_default c = asked_machine c.args.name c.args.list _ _ (search c.in_default) _ c.number_of.ensures _ c.call_of.ensures c.machine_of.ensures
