-- `PageTableFlags::is_user_accessible` is bit 2.
use mathlib.Core.Path.{refl}
use Rattle.address.specs.Bits.{bit}
use Rattle.address.specs.FlagsLaws.{contains_one}
use Rattle.address.proofs.flags.PageTableFlags.is_user_accessible.Goals as goal

pub returns : goal.returns
unfolding bit
returns c = contains_one _ c.args.self.0 2 c.contains.ensures refl
