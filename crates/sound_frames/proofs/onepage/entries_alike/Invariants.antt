-- `entries_alike` compares holders with the first of their frame. The invariant: the first holder of each frame is marked, and all passed are alike it.
use Rattle.model.specs.Layout.{machine}
use Rattle.sound_frames.specs.Held.{held_rows}
use Rattle.sound_frames.specs.OnePage.{Firsts}
use Rattle.sound_frames.proofs.onepage.entries_alike.Given as goal

abbrev pub invariant-loop-k : goal.invariant-loop-k
invariant-loop-k l = Firsts (held_rows (machine l.words)) l.marks l.k
