-- `run_all`: one test, then row after row. The invariant: what ran is told and left, and the test's verdict still holds.
use Prim.Native.Nat.{◌-◌}
use Rattle.call_runs.specs.RunAllLaws.{Sofar}
use Rattle.call_runs.proofs.run_all.Given as goal

abbrev pub invariant-loop-ran : goal.invariant-loop-ran
invariant-loop-ran l = Sofar l.calls l.initial.words l.initial.frames l.files l.initial.answers l.sound l.at l.ran l.words l.frames l.answers

abbrev pub decreases-loop-ran : goal.decreases-loop-ran
decreases-loop-ran l = l.rows - l.ran
