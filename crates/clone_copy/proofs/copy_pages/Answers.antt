-- `copy_pages`: the range's pages, then the entries'.
use mathlib.Core.Path.{◌∙◌}
use Rattle.clone_copy.specs.CopyIntoLaws.{range_ready, singles_ready, pages_copied}
use Rattle.clone_copy.proofs.copy_pages.Goals as goal

pub copy_range-requires : goal.copy_range-requires
copy_range-requires c =
    let from = c.args in record { words_len = c.requires.words_len; src_bound = c.requires.src_bound; row_bound = c.requires.row_bound; range_copy = range_ready from.words.now from.frames.now from.src from.row from.region c.requires.pages_copy _ c.range_len-len.ensures }

pub copy_entries-requires : goal.copy_entries-requires
copy_entries-requires c =
    let from = c.args in record { words_len = c.copy_range.auto.words ∙ c.requires.words_len; src_bound = c.requires.src_bound; row_bound = c.requires.row_bound; single_copy = singles_ready from.words.now from.frames.now from.src from.row from.region c.requires.pages_copy _ c.range_len-len.ensures _ _ c.copy_range.auto.frames c.copy_range.ensures }

pub returns : goal.returns
returns c =
    let from = c.args in
    pages_copied from.words.now from.frames.now from.src from.row from.region c.requires.pages_copy _ c.range_len-len.ensures _ _ c.copy_range.auto.frames c.copy_range.ensures _ _ c.copy_entries.ensures
