-- `any_region_for` finds the lowest slot of a region at an address. The invariant: what is left to look at gives the same answer.
use Rattle.model.specs.Layout.{machine}
use Rattle.model.specs.Lookup.{regions_of}
use Rattle.lookup.specs.ScanLaws.{Passed}
use Rattle.lookup.specs.Attached.{used_at}
use Rattle.lookup.proofs.attached.any_region_for.Given as goal

abbrev pub invariant-loop-i : goal.invariant-loop-i
invariant-loop-i l = Passed (used_at l.addr.0) (regions_of (machine l.words) l.process) 64 l.i
