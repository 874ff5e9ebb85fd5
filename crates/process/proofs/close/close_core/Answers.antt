-- `close_core` refuses what is not open or pinned, and closes the process.
use mathlib.Core.Path.{sym, ◌∙◌}
use Rattle.lookup.specs.FirstOfLaws.{open_small}
use Rattle.process.specs.CloseLaws.{close_missing, close_pinned, close_done}
use borrow.Author.Rules.{rules}
use Rattle.process.proofs.close.close_core.Goals as goal

pub returns-then-not-is_open : goal.returns-then-not-is_open
returns-then-not-is_open c = close_missing c.args.words.now c.args.process (sym c.is_open.ensures ∙ c.if-not-is_open.true)

pub pin_stands-requires : goal.pin_stands-requires
pin_stands-requires c = let small = open_small c.args.words.now c.args.process (sym c.is_open.ensures ∙ c.if-not-is_open.false) in record { words_len = search rules; process_bound = search rules }

pub returns-then-pin_stands : goal.returns-then-pin_stands
returns-then-pin_stands c = close_pinned c.args.words.now c.args.process (sym c.is_open.ensures ∙ c.if-not-is_open.false) (sym c.pin_stands.ensures ∙ c.if-pin_stands.true)

pub close-requires : goal.close-requires
close-requires c = let small = open_small c.args.words.now c.args.process (sym c.is_open.ensures ∙ c.if-not-is_open.false) in record { words_len = search rules; process_bound = search rules }

pub returns : goal.returns
returns c = close_done c.args.words.now c.args.process (sym c.is_open.ensures ∙ c.if-not-is_open.false) (sym c.pin_stands.ensures ∙ c.if-pin_stands.false) _ c.close.ensures
