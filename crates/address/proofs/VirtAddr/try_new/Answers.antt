-- `VirtAddr::try_new` is checked_addr.
use Rattle.address.specs.CanonicalLaws.{addr_good, addr_bad}
use Rattle.address.proofs.VirtAddr.try_new.Goals as goal

pub returns-then-is_canonical : goal.returns-then-is_canonical
returns-then-is_canonical c = addr_good _ _ c.is_canonical.ensures.test c.if-is_canonical.true

pub returns-else-is_canonical : goal.returns-else-is_canonical
returns-else-is_canonical c = addr_bad _ _ c.is_canonical.ensures.test c.if-is_canonical.false
