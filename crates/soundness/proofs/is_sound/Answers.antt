-- `is_sound` asks the stages one after the other; the earlier ones tell what the later ones lean on.
use mathlib.Core.Path.{sym, ◌∙◌}
use Rattle.soundness.specs.StageLaws.{other_length, records_fail, lists_fail, frames_fail, mapped_last, few_frames, holders_fit, laid}
use borrow.Author.Rules.{rules}
use Rattle.soundness.proofs.is_sound.Goals as goal

pub returns-then-words-ne-WORD_COUNT : goal.returns-then-words-ne-WORD_COUNT
returns-then-words-ne-WORD_COUNT c = other_length _ _ _ c.if-words-ne-WORD_COUNT.true

pub returns-then-not-records_fit : goal.returns-then-not-records_fit
returns-then-not-records_fit c = records_fail _ _ _ c.if-words-ne-WORD_COUNT.false (sym c.records_fit.ensures ∙ c.if-not-records_fit.true)

pub returns-then-not-lists_fit : goal.returns-then-not-lists_fit
returns-then-not-lists_fit c = lists_fail _ _ _ c.if-words-ne-WORD_COUNT.false (sym c.records_fit.ensures ∙ c.if-not-records_fit.false) (sym c.lists_fit.ensures ∙ c.if-not-lists_fit.true)

pub frames_fit-requires : goal.frames_fit-requires
frames_fit-requires c = let few = few_frames _ _ _ (sym c.records_fit.ensures ∙ c.if-not-records_fit.false) in record { words_len = search rules; words_bound = search rules }

pub returns-then-not-frames_fit : goal.returns-then-not-frames_fit
returns-then-not-frames_fit c = let records = sym c.records_fit.ensures ∙ c.if-not-records_fit.false in frames_fail _ _ _ c.if-words-ne-WORD_COUNT.false records (sym c.lists_fit.ensures ∙ c.if-not-lists_fit.false) (sym (c.frames_fit.ensures (holders_fit _ _ _ records)) ∙ c.if-not-frames_fit.true)

pub returns : goal.returns
returns c = let records = sym c.records_fit.ensures ∙ c.if-not-records_fit.false in let lists = sym c.lists_fit.ensures ∙ c.if-not-lists_fit.false in mapped_last _ _ _ c.if-words-ne-WORD_COUNT.false records lists (sym (c.frames_fit.ensures (holders_fit _ _ _ records)) ∙ c.if-not-frames_fit.false) _ (c.mapped_fit.ensures (laid _ _ _ records lists))
