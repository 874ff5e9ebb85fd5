-- `range_count` counts the pages of the range.
use Rattle.model.specs.Layout.{machine}
use Rattle.clone_pages.specs.BackedPagesLaws.{range_total, len_fits}
use borrow.Author.Rules.{rules}
use Rattle.clone_pages.proofs.range_count.Goals as goal

pub bare_count-requires : goal.bare_count-requires
bare_count-requires c =
    let fits = len_fits (machine c.args.words.now) _ _ c.region_in-region.ensures c.requires.slot_bound_2 _ c.range_len-len.ensures in record { words_len = search rules; row_bound = search rules; len_bound = search rules }

pub returns : goal.returns
returns c =
    let from = c.args in record { value = range_total (machine from.words.now) from.process from.slot _ c.region_in-region.ensures _ c.range_len-len.ensures _ c.bare_count.ensures.value; upper_bound = c.bare_count.ensures.upper_bound }
