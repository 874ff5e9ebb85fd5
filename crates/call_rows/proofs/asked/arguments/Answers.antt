-- The answer for `arguments`.
use Rattle.laws.specs.ListsLaws.{fill_pad}
use Rattle.call_rows.proofs.asked.arguments.Goals as goal

pub returns : goal.returns
returns c = rw c.copy_from_slice.ensures.after (fill_pad 10 0 c.args.given.now c.requires)
