-- `well_mapped`: not mapped, a read, a write.
use Rattle.std.proofs.lemmas.Bool.{not_from_true}
use Rattle.fault_way.specs.WayLaws.{well_write}
use Rattle.fault_way.proofs.well_mapped.Goals as goal

pub returns : goal.returns
returns c = well_write c.args.page _ c.in-Some.is c.args.write (not_from_true _ c.if-not-write.false) _ c.is_writable.ensures
