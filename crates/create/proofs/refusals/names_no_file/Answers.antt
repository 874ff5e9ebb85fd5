-- `names_no_file`: only a FileBacked region names one, by a number below the count.
use Rattle.model.specs.Layout.{machine}
use Rattle.create.specs.RequestRefusedLaws.{file_none, file_counted}
use Rattle.create.proofs.refusals.names_no_file.Goals as goal

pub returns-then-region-ne-FILE_BACKED : goal.returns-then-region-ne-FILE_BACKED
returns-then-region-ne-FILE_BACKED c = file_none (machine c.args.words.now) c.args.region c.if-region-ne-FILE_BACKED.true

pub returns : goal.returns
returns c = file_counted (machine c.args.words.now) c.args.region c.if-region-ne-FILE_BACKED.false _ c.file_count.ensures
