-- `unmap_from` takes out the rows between the places of the region's first page and of the first past it.
use Rattle.model.specs.Layout.{machine}
use Rattle.paging.specs.MapperStepLaws.{some_taken, none_taken}
use Rattle.paging.proofs.mapper.unmap_from.Goals as goal

pub returns-then-from-to : goal.returns-then-from-to
returns-then-from-to c =
    let given = c.args in
    some_taken (machine given.words.now) given.process _ c.mapped_count-n.ensures.value given.region _ _ _ _ c.starting_from-first.ensures c.starting_from-end.ensures c.place-from.ensures.value c.place-to.ensures.value _ c.if-from-to.true c.take_out.ensures

pub returns-else-from-to : goal.returns-else-from-to
returns-else-from-to c =
    let given = c.args in
    none_taken (machine given.words.now) given.process _ c.mapped_count-n.ensures.value given.region _ _ _ _ c.starting_from-first.ensures c.starting_from-end.ensures c.place-from.ensures.value c.place-to.ensures.value c.if-from-to.false
