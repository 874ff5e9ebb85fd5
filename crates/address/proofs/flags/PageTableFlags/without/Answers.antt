-- `PageTableFlags::without` takes the bits off.
use Rattle.address.specs.FlagsLaws.{without_each}
use Rattle.address.proofs.flags.PageTableFlags.without.Goals as goal

pub returns : goal.returns
returns c = without_each _ _
