-- `visit` goes step by step. The invariant: what is left of the walk gives what the whole gives.
use mathlib.Core.Path.{◌≡◌}
use lib.ListN.{length}
use Rattle.rows.specs.LentMemory.{state_of}
use Rattle.populate.specs.PopulateWalk.{resume}
use Rattle.populate.specs.PopulateWalkLaws.{Walking}
use Rattle.populate.proofs.visit.Given as goal

abbrev pub invariant-loop-at : goal.invariant-loop-at
invariant-loop-at l = (length l.words ≡ length l.initial.words) × ((length l.frames ≡ length l.initial.frames) × Walking l.process l.last.0 l.write (resume l.process l.last.0 l.write l.initial.at (state_of l.initial.words l.initial.frames l.files)) l.at (state_of l.words l.frames l.files))

abbrev pub decreases-loop-at : goal.decreases-loop-at
decreases-loop-at l = l.at.left
