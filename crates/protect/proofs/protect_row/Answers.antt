-- `protect_row` puts the row with the flags that its page gets, or leaves it.
use Rattle.model.specs.Layout.{machine}
use Rattle.protect.specs.ProtectsLaws.{row_protected, row_passed}
use Rattle.protect.proofs.protect_row.Goals as goal

pub put_row-requires : goal.put_row-requires
put_row-requires c = record { words_len = c.requires.words_len; process_bound = c.requires.process_bound; i_bound = c.requires.i_bound }

pub returns-then-maps_in : goal.returns-then-maps_in
returns-then-maps_in c =
    let from = c.args in
    row_protected (machine from.words.now) from.process from.slot from.i from.flags.0 _ c.region_in-region.ensures _ c.row_at-row.ensures _ c.maps_in.ensures c.if-maps_in.true _ c.page_flags-other.ensures _ c.reflag.ensures _ c.put_row.ensures

pub returns : goal.returns
returns c =
    let from = c.args in
    row_passed (machine from.words.now) from.process from.slot from.i from.flags.0 _ c.region_in-region.ensures _ c.row_at-row.ensures _ c.maps_in.ensures c.if-maps_in.false
