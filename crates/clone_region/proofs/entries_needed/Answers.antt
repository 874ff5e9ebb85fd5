-- `entries_needed`: an entry for each entry, and where it copies for each page of the range too.
use Rattle.model.specs.Layout.{machine}
use Rattle.clone_region.specs.CloneWayLaws.{needs_singles, needs_all}
use Rattle.clone_region.proofs.entries_needed.Goals as goal

pub returns-then-region-ne-COPY_EAGER : goal.returns-then-region-ne-COPY_EAGER
returns-then-region-ne-COPY_EAGER c =
    let from = c.args in
    needs_singles (machine from.words.now) from.process from.slot _ c.region_in-region.ensures _ c.single_count-singles.ensures.value c.if-region-ne-COPY_EAGER.true

pub returns : goal.returns
returns c =
    let from = c.args in
    needs_all (machine from.words.now) from.process from.slot _ c.region_in-region.ensures _ c.single_count-singles.ensures.value c.if-region-ne-COPY_EAGER.false _ c.range_count.ensures.value
