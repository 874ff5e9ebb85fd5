-- `populate_eager_copies` goes region by region. The invariant: what is left of the tour gives what the whole gives.
use mathlib.Core.Path.{◌≡◌}
use lib.ListN.{length}
use Rattle.std.specs.Prelude.{◌-◌, Ok}
use Rattle.model.specs.Layout.{machine}
use Rattle.model.specs.Machine.{order_of}
use Rattle.model.specs.Populate.{core_populate_eager_copies}
use Rattle.rows.specs.LentMemory.{state_of}
use Rattle.populate_eager.specs.TourLaws.{Touring}
use Rattle.populate_eager.proofs.populate_eager_copies.Given as goal

abbrev pub invariant-loop-i : goal.invariant-loop-i
invariant-loop-i l = (length l.words ≡ length l.initial.words) × ((length l.frames ≡ length l.initial.frames) × Touring l.process (order_of (machine l.initial.words) l.process) (core_populate_eager_copies (state_of l.initial.words l.initial.frames l.files) l.process) (record { next = l.i; left = l.count - l.i; done = Ok tt }) l.words l.frames l.files)
