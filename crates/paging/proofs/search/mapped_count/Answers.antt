-- `mapped_count` is the length of the list of mapped pages.
use Rattle.model.specs.Layout.{machine}
use Rattle.lookup.specs.LookupsLaws.{mapped_length}
use Rattle.paging.specs.ProcessRowsLaws.{count_min}
use Rattle.paging.proofs.search.mapped_count.Goals as goal

pub returns-clause-value : goal.returns-clause-value
returns-clause-value c =
    let given = c.args in
    let w = given.words.now in
    count_min (machine w) given.process c.requires.process_bound (mapped_length w) _ c.process_at-p.ensures _ c.min.ensures
