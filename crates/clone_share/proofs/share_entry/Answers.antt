-- `share_entry`: one holder more, then the entry.
use Rattle.model.specs.Layout.{machine}
use Rattle.clone_share.specs.ShareNextLaws.{share_low, share_found, shares_entry}
use borrow.Author.Rules.{rules}
use Rattle.clone_share.proofs.share_entry.Goals as goal

pub hold-requires : goal.hold-requires
hold-requires c =
    let from = c.args in
    let low = share_low (machine from.words.now) from.frame.0 c.requires.can_share in record { words_len = search rules; frame_bound = search rules }

pub add_entry-requires : goal.add_entry-requires
add_entry-requires c =
    let from = c.args in
    let found = share_found (machine from.words.now) from.frame.0 c.requires.can_share _ c.hold.ensures in record { words_len = search rules; row_bound = search rules; words_value = search rules }

pub returns : goal.returns
returns c =
    let from = c.args in
    shares_entry (machine from.words.now) from.frame.0 c.requires.can_share from.row from.page.0 _ c.hold.ensures _ c.add_entry.ensures
