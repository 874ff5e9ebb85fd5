-- `file_count` reads its words.
use Rattle.model.specs.Layout.{machine}
use borrow.Author.Rules.{rules}
use Rattle.rows.proofs.files.file_count.Goals as goal

pub returns : goal.returns
unfolding machine
returns c = search rules
