-- `frames::copy` meets its contract: the bytes of one frame put at the other's place. Assumes nothing.
use Rattle.frames.specs.FrameLaws.{copy_is}
use Rattle.frames.proofs.copy.Goals as goal

pub returns : goal.returns
returns c =
    copy_is c.args.frames.now _ c.args.from.0 c.args.to.0 _ _ c.first_byte.ensures
    c.first_byte-2.ensures c.requires.from_in_bounds c.copy_within.ensures
