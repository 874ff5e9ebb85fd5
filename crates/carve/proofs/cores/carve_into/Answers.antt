-- `carve_into`: one law for each test that decides, then the range.
use mathlib.Core.Path.{sym, ap, ◌∙◌}
use lib.ListN.{length}
use Rattle.carve.specs.CarveCoreLaws.{carve_closed, carve_bounds, can_carve, carve_done}
use Rattle.carve.proofs.cores.carve_into.Goals as goal

pub returns-then-not-is_open : goal.returns-then-not-is_open
returns-then-not-is_open c = carve_closed c.args.words.now c.args.process c.args.start c.args.end (sym c.is_open.ensures ∙ c.if-not-is_open.true) c.args.out.now c.requires.out_value

pub returns-then-is_bad_bounds : goal.returns-then-is_bad_bounds
returns-then-is_bad_bounds c = carve_bounds c.args.words.now c.args.process c.args.start c.args.end (sym c.is_open.ensures ∙ c.if-not-is_open.false) (sym c.is_bad_bounds.ensures ∙ c.if-is_bad_bounds.true) c.args.out.now c.requires.out_value

pub carve_range-requires : goal.carve_range-requires
carve_range-requires c = record { words_len = c.requires.words_len; out_len = ap (λ l. length l) c.requires.out_value; carvable = can_carve c.args.words.now c.args.process c.args.start c.args.end (sym c.is_open.ensures ∙ c.if-not-is_open.false) (sym c.is_bad_bounds.ensures ∙ c.if-is_bad_bounds.false) c.requires.sound_words }

pub returns : goal.returns
returns c = carve_done c.args.words.now c.args.process c.args.start c.args.end (sym c.is_open.ensures ∙ c.if-not-is_open.false) (sym c.is_bad_bounds.ensures ∙ c.if-is_bad_bounds.false) _ _ c.carve_range.ensures
