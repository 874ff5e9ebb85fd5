-- `starts_in` is contains, of the page's start: as an address where it is one.
use mathlib.Core.Path.{ap, ◌∙◌}
use Rattle.address.specs.PagesLaws.{start_exact}
use Rattle.model.specs.Lookup.{contains}
use Rattle.sound_rows.proofs.entries.starts_in.Goals as goal

pub returns-then-page-lt-PAGE_COUNT : goal.returns-then-page-lt-PAGE_COUNT
returns-then-page-lt-PAGE_COUNT c =
    let given = c.args in
    let start = c.start_address.ensures ∙ start_exact given.page.0 c.if-page-lt-PAGE_COUNT.true in
    c.region_contains.ensures ∙ ap (contains given.region) start
