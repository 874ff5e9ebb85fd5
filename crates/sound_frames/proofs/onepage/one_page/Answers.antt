-- `one_page` compares entries, then ranges, and tells that holders are alike, where they fit.
use mathlib.Core.Path.{sym}
use Rattle.laws.specs.TellsLaws.{not_told}
use Rattle.model.specs.Layout.{machine}
use Rattle.sound_frames.specs.Held.{held_rows}
use Rattle.sound_frames.specs.OnePageLaws.{firsts_none, compared_alike, compared_unlike, compared_tells}
use Rattle.sound_frames.specs.HoldRowsLaws.{holds_tell}
use Rattle.sound_frames.proofs.onepage.one_page.Goals as goal

pub entries_alike-requires : goal.entries_alike-requires
entries_alike-requires c = record { words_len = c.requires; firsts = firsts_none (held_rows (machine c.args.words.now)) }

pub returns-then-not-entries_alike : goal.returns-then-not-entries_alike
returns-then-not-entries_alike c = λ fit. sym (not_told (holds_tell c.args.words.now fit) (compared_unlike (held_rows (machine c.args.words.now)) _ 512 c.entries_alike.result c.entries_alike.ensures c.if-not-entries_alike.true))

pub ranges_alike-requires : goal.ranges_alike-requires
ranges_alike-requires c = record { words_len = c.requires; firsts = compared_alike (held_rows (machine c.args.words.now)) _ 512 c.entries_alike.result c.entries_alike.ensures c.if-not-entries_alike.false }

pub returns : goal.returns
returns c = λ fit. compared_tells (held_rows (machine c.args.words.now)) _ c.ranges_alike.result _ c.ranges_alike.ensures (holds_tell c.args.words.now fit)
