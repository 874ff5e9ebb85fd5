-- `demote` leaves a shared region's pages, and does the rows of another.
use Rattle.model.specs.Layout.{machine}
use Rattle.remap.specs.DemotedLaws.{shared_stays, rows_demoted}
use Rattle.remap.proofs.demote.Goals as goal

pub returns-then-region-eq-SHARED : goal.returns-then-region-eq-SHARED
returns-then-region-eq-SHARED c =
    let from = c.args in
    shared_stays from.region (machine from.words.now) from.process c.if-region-eq-SHARED.true

pub returns : goal.returns
returns c =
    let from = c.args in
    rows_demoted from.region (machine from.words.now) from.process c.if-region-eq-SHARED.false _ c.demote_rows.ensures
