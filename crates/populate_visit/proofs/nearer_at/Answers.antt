-- `nearer_at`: the slot at a place of the list, its region's first page.
use Rattle.model.specs.Layout.{machine}
use Rattle.populate_visit.specs.PageWalkLaws.{nearer_is}
use Rattle.populate_visit.proofs.nearer_at.Goals as goal

pub returns : goal.returns
returns c =
    let top = c.args in
    nearer_is (machine top.words.now) top.process top.page.0 _ _ c.order_at-slot.ensures _ c.region_in-region.ensures _ c.containing_address.ensures top.later _ c.nearer.ensures
