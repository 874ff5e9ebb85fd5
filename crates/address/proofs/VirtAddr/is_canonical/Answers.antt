-- `VirtAddr::is_canonical` tells canonical form, on either side of the comparison.
use native.Mathlib.Omega.{arith}
use Rattle.address.specs.CanonicalLaws.{canonical_low, canonical_else}
use Rattle.address.proofs.VirtAddr.is_canonical.Goals as goal

pub returns-then-self-lt-USER_END : goal.returns-then-self-lt-USER_END
returns-then-self-lt-USER_END c = let the = canonical_low c.args.self.0 (omega arith) c.if-self-lt-USER_END.true in record { intel = the.0; test = the.1 }

pub returns-else-self-lt-USER_END : goal.returns-else-self-lt-USER_END
returns-else-self-lt-USER_END c = let the = canonical_else c.args.self.0 (omega arith) c.if-self-lt-USER_END.false in record { intel = the.0; test = the.1 }
