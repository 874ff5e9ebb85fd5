-- `lacks_frames`: nothing is asked of the pool, or it is.
use Rattle.model.specs.Layout.{machine}
use Rattle.clone_region.specs.CloneWayLaws.{frames_unasked, frames_asked}
use Rattle.clone_region.proofs.lacks_frames.Goals as goal

pub returns-then-region-ne-COPY_EAGER : goal.returns-then-region-ne-COPY_EAGER
returns-then-region-ne-COPY_EAGER c =
    let from = c.args in
    frames_unasked (machine from.words.now) from.region from.needed c.if-region-ne-COPY_EAGER.true

pub returns : goal.returns
returns c =
    let from = c.args in
    frames_asked (machine from.words.now) from.region from.needed c.if-region-ne-COPY_EAGER.false _ c.pool.ensures
