-- `PageTableFlags::is_no_execute` is bit 63.
use mathlib.Core.Path.{refl}
use Rattle.address.specs.Bits.{bit}
use Rattle.address.specs.FlagsLaws.{contains_one}
use Rattle.address.proofs.flags.PageTableFlags.is_no_execute.Goals as goal

pub returns : goal.returns
unfolding bit
returns c = contains_one _ c.args.self.0 63 c.contains.ensures refl
