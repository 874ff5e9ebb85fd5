-- `words::put_out` meets its contract: four stores into four words.
use Rattle.segments_c.specs.LentManagerLaws.{four}
use Rattle.segments_c.proofs.words.put_out.Goals as goal

pub returns : goal.returns
returns c = four c.args.out.now c.args.a c.args.b c.args.c c.args.d c.requires
