-- `maps_in` compares in pages.
use native.Mathlib.Omega.{arith}
use Rattle.remap.specs.DemotedLaws.{before_region, from_region}
use Rattle.remap.proofs.maps_in.Goals as goal

pub returns-then-page-first : goal.returns-then-page-first
returns-then-page-first c =
    let from = c.args in
    let first = c.starting_from-first.ensures in
    before_region from.region from.page.0 _ (omega arith) c.if-page-first.true

pub returns : goal.returns
returns c =
    let from = c.args in
    let first = c.starting_from-first.ensures in
    from_region from.region from.page.0 _ (omega arith) c.if-page-first.false _ c.starting_from-end.ensures
