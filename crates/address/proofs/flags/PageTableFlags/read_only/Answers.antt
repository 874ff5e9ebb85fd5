-- `PageTableFlags::read_only` takes bit 1 off.
use native.Mathlib.Omega.{arith}
use Rattle.address.specs.FlagsLaws.{without_writable}
use Rattle.address.proofs.flags.PageTableFlags.read_only.Goals as goal

pub returns : goal.returns
returns c = without_writable c.args.self.0 c.without.result.0 (omega arith) (omega arith) c.without.ensures
