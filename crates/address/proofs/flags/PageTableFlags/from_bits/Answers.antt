-- `PageTableFlags::from_bits` is checked_flags: one law a way.
use native.Mathlib.Omega.{arith}
use Rattle.address.specs.FlagsLaws.{flags_good, flags_absent, flags_outside}
use Rattle.address.proofs.flags.PageTableFlags.from_bits.Goals as goal

pub returns-then-not-contains : goal.returns-then-not-contains
returns-then-not-contains c = flags_absent c.args.bits (omega arith) _ c.contains.ensures c.if-not-contains.true

pub returns-then-contains : goal.returns-then-contains
returns-then-contains c = flags_good c.args.bits (omega arith) _ _ c.contains.ensures c.contains-2.ensures c.if-not-contains.false c.if-contains.true

pub returns-else-contains : goal.returns-else-contains
returns-else-contains c = flags_outside c.args.bits (omega arith) _ _ c.contains.ensures c.contains-2.ensures c.if-not-contains.false c.if-contains.false
