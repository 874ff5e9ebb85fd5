-- `copy_within`: std's, whose paste is the part put.
use Rattle.std.proofs.Common.{◌∙◌}
use Rattle.frames.specs.PutBytesLaws.{within_put}
use Rattle.frames.proofs.raw.copy_within.Goals as goal

pub returns : goal.returns
returns c = c.copy_within.ensures.after ∙ within_put c.args.bytes.now c.args.start c.args.at c.args.count c.requires.count_in_bounds
