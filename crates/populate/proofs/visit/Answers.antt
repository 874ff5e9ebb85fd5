-- The answers for `visit`.
use mathlib.Core.Path.{refl, ◌∙◌}
use Rattle.populate.specs.PopulateWalkLaws.{walking_more, walking_done}
use Rattle.populate.proofs.visit.Goals as goal

pub loop-at-init : goal.loop-at-init
loop-at-init c = (refl, (refl, record { same = refl; sound = c.requires.files_value; goes = λ h. refl }))

pub visit_step-at-requires : goal.visit_step-at-requires
visit_step-at-requires c = record { words_len = c.loop-at.invariant.0 ∙ c.requires.words_len; files_value = c.loop-at.invariant.1.1.sound; process_bound = c.requires.process_bound; last_bound = c.requires.last_bound; left_nonzero = c.loop-at-test.true; done_value = c.loop-at.invariant.1.1.goes c.loop-at-test.true }

pub loop-at-smaller : goal.loop-at-smaller
loop-at-smaller c = c.visit_step-at.ensures.fewer

pub loop-at-preserved : goal.loop-at-preserved
loop-at-preserved c = (c.visit_step-at.auto.words ∙ c.loop-at.invariant.0, (c.visit_step-at.auto.frames ∙ c.loop-at.invariant.1.0, walking_more _ _ _ _ _ _ _ _ c.loop-at.invariant.1.1 c.visit_step-at.ensures))

pub shape_of-words : goal.shape_of-words
shape_of-words c = c.loop-at.invariant.0

pub shape_of-frames : goal.shape_of-frames
shape_of-frames c = c.loop-at.invariant.1.0

pub returns : goal.returns
returns c = walking_done _ _ _ _ _ _ c.loop-at.invariant.1.1 c.loop-at-test.false
