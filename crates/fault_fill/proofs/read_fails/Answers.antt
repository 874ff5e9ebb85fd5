-- `read_fails`: no file, none of its bytes, or whether it can be read.
use mathlib.Core.Path.{refl}
use Rattle.fault_fill.specs.FillLaws.{reads_none, reads_zeros, reads_file}
use Rattle.fault_fill.proofs.read_fails.Goals as goal

pub returns-then-region-ne-FILE_BACKED : goal.returns-then-region-ne-FILE_BACKED
returns-then-region-ne-FILE_BACKED c = reads_none _ _ _ c.if-region-ne-FILE_BACKED.true

pub returns-then-from_file-eq0 : goal.returns-then-from_file-eq0
returns-then-from_file-eq0 c = reads_zeros _ _ _ c.if-region-ne-FILE_BACKED.false _ c.from_file.ensures c.if-from_file-eq0.true

pub returns : goal.returns
returns c = reads_file _ _ _ c.if-region-ne-FILE_BACKED.false _ c.from_file.ensures c.if-from_file-eq0.false _ c.file_of-file.ensures _ refl
