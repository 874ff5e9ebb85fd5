-- `PageTableFlags::contains` tells that every bit is set.
use native.Mathlib.Omega.{arith}
use Rattle.address.specs.FlagsLaws.{contains_tells}
use Rattle.address.proofs.flags.PageTableFlags.contains.Goals as goal

pub returns : goal.returns
returns c = contains_tells c.args.self.0 c.args.other.0 (omega arith)
