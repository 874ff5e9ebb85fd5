-- `file_of`: a row, or past the last one.
use Rattle.fault_fill.specs.FillLaws.{file_past}
use Rattle.fault_fill.proofs.file_of.Goals as goal

pub returns : goal.returns
returns c = file_past _ _ c.if-region.false
