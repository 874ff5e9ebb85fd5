-- `bench_steps`: the test, then each call's step. The invariant: lengths stay, and the machine is sound.
use Rattle.std.proofs.Common.{◌≡◌, ◌-◌, ◌≤◌, true, length}
use Rattle.model.specs.SoundTest.{soundb}
use Rattle.rows.specs.LentMemory.{state_of}
use Rattle.bench_c.proofs.steps.bench_steps.Given as goal

abbrev pub invariant-loop-at : goal.invariant-loop-at
invariant-loop-at l = (length l.words ≡ length l.initial.words) × (length l.starts ≡ length l.initial.starts) × (length l.frames ≡ length l.initial.frames) × (soundb (state_of l.words l.frames l.files) ≡ true) × (l.at ≤ length l.calls)

abbrev pub decreases-loop-at : goal.decreases-loop-at
decreases-loop-at l = length l.calls - l.at
