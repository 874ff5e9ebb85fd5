-- `run_for` searches the lowest run where one is needed; of a sound machine it is the model's.
use mathlib.Core.Path.{ap, ◌∙◌}
use Rattle.model.specs.Layout.{machine}
use Rattle.model.specs.Backing.{lowest_run}
use Rattle.backing.specs.BackingLaws.{fit_is}
use Rattle.create.specs.ReadyLaws.{words_ready}
use Rattle.create.specs.PlansLaws.{run_needed_is, run_not_needed}
use Rattle.create.proofs.plan.run_for.Goals as goal

pub returns-then-is_run_needed : goal.returns-then-is_run_needed
returns-then-is_run_needed c = let a = c.args in let w = a.words.now in run_needed_is a.eager a.region (machine w) _ c.is_run_needed.ensures c.if-is_run_needed.true _ (c.lowest_run.ensures ∙ fit_is (machine w) (words_ready w c.requires.sound_words) _ ∙ ap (lowest_run (machine w)) c.pages_for.ensures)

pub returns : goal.returns
returns c = let a = c.args in run_not_needed a.eager a.region (machine a.words.now) _ c.is_run_needed.ensures c.if-is_run_needed.false
