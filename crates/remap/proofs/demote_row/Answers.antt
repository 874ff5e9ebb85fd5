-- `demote_row` puts the row without WRITABLE, or leaves it.
use Rattle.model.specs.Layout.{machine}
use Rattle.remap.specs.DemotedLaws.{row_demoted, row_left}
use Rattle.remap.proofs.demote_row.Goals as goal

pub returns-then-not-maps_in : goal.returns-then-not-maps_in
returns-then-not-maps_in c =
    let from = c.args in
    row_left (machine from.words.now) from.process from.i from.region _ c.row_at-row.ensures _ c.maps_in.ensures c.if-not-maps_in.true

pub returns : goal.returns
returns c =
    let from = c.args in
    row_demoted (machine from.words.now) from.process from.i from.region _ c.row_at-row.ensures _ c.maps_in.ensures c.if-not-maps_in.false _ c.read_only.ensures _ c.reflag.ensures _ c.put_row.ensures
