-- `has_bad_flags`: a Shared region has none, else the checked construction tells.
use Rattle.create.specs.RequestRefusedLaws.{flags_shared, flags_tested}
use Rattle.create.proofs.refusals.has_bad_flags.Goals as goal

pub returns-then-region-eq-SHARED : goal.returns-then-region-eq-SHARED
returns-then-region-eq-SHARED c = flags_shared c.args.region c.if-region-eq-SHARED.true

pub returns : goal.returns
returns c = flags_tested c.args.region c.if-region-eq-SHARED.false _ c.from_bits.ensures _ c.is_none.ensures
