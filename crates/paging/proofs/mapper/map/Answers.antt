-- `map` puts the row in its place, where there is room.
use Rattle.model.specs.Layout.{machine}
use Rattle.paging.specs.MapperStepLaws.{map_done, map_full}
use Rattle.paging.proofs.mapper.map.Goals as goal

pub returns-then-n-lt-MAPPED_PAGES : goal.returns-then-n-lt-MAPPED_PAGES
returns-then-n-lt-MAPPED_PAGES c =
    let given = c.args in let the = map_done (machine given.words.now) given.process _ c.mapped_count-n.ensures.value given.row _ _ c.if-n-lt-MAPPED_PAGES.true c.place-at.ensures.value c.insert.ensures in record { value = the.0; words_after = the.1 }

pub returns : goal.returns
returns c =
    let given = c.args in let the = map_full (machine given.words.now) given.process _ c.mapped_count-n.ensures.value given.row c.if-n-lt-MAPPED_PAGES.false in record { value = the.0; words_after = the.1 }
