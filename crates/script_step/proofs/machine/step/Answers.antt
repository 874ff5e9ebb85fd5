-- `machine::step` meets its contract: every way keeps the machine in its memory.
use mathlib.Core.Path.{refl}
use Rattle.script_step.specs.MachineStep.{Stepping}
use Rattle.script_step.specs.MachineStepLaws.{says_lends, file_lends, began_lends, stepping_as, says_wanted}
use Rattle.script_step.proofs.machine.step.Goals as goal

pub returns-in-Nothing : goal.returns-in-Nothing
unfolding Stepping
returns-in-Nothing c = record { stepping = stepping_as _ _ _ _ _ _ _ _ _ _ _ _ _ c.in-Nothing.is (c.says.ensures, (refl, refl, refl, refl)); lends = says_lends _ _ c.says.result _ _ c.says.ensures c.requires }

pub returns-in-Bad : goal.returns-in-Bad
unfolding Stepping
returns-in-Bad c = record { stepping = stepping_as _ _ _ _ _ _ _ _ _ _ _ _ _ c.in-Bad.is (c.says-in-Bad.ensures, (refl, refl, refl, refl)); lends = says_lends _ _ c.says-in-Bad.result _ _ c.says-in-Bad.ensures c.requires }

pub returns-in-Lone : goal.returns-in-Lone
unfolding Stepping
returns-in-Lone c = record { stepping = stepping_as _ _ _ _ _ _ _ _ _ _ _ _ _ c.in-Lone.is (c.says-in-Lone.ensures, (refl, refl, refl, refl)); lends = says_lends _ _ c.says-in-Lone.result _ _ c.says-in-Lone.ensures c.requires }

pub returns-in-File : goal.returns-in-File
unfolding Stepping
returns-in-File c = record { stepping = stepping_as _ _ _ _ _ _ _ _ _ _ _ _ _ c.in-File.is (c.file.ensures, (refl, refl, refl)); lends = file_lends _ _ _ _ _ _ _ c.file.ensures c.requires }

pub returns-in-Start : goal.returns-in-Start
unfolding Stepping
returns-in-Start c = record { stepping = stepping_as _ _ _ _ _ _ _ _ _ _ _ _ _ c.in-Start.is (c.start.ensures, (refl, refl, refl)); lends = began_lends _ _ _ _ _ _ _ c.start.ensures c.requires }

pub returns-in-Machine : goal.returns-in-Machine
unfolding Stepping
returns-in-Machine c = record { stepping = stepping_as _ _ _ _ _ _ _ _ _ _ _ _ _ c.in-Machine.is (record { answer = _; is = c.says-in-Machine.ensures; answers = c.answer.ensures }, refl); lends = says_lends _ _ c.says-in-Machine.result _ _ c.says-in-Machine.ensures c.requires }

pub returns-in-State : goal.returns-in-State
unfolding Stepping
returns-in-State c = record { stepping = stepping_as _ _ _ _ _ _ _ _ _ _ _ _ _ c.in-State.is (says_wanted _ _ _ _ c.wanted.ensures c.says-in-State.ensures, (refl, refl, refl, refl)); lends = says_lends _ _ c.says-in-State.result _ _ c.says-in-State.ensures c.requires }
