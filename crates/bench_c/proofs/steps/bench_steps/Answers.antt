-- The answers for `bench_steps`.
use Rattle.std.proofs.Common.{sym, refl, ◌∙◌, zero-le, arith}
use Rattle.calls.specs.AnsweredLaws.{sound_length, sound_state}
use Rattle.call_runs.specs.OneLaws.{sound_stays}
use Rattle.bench_c.proofs.steps.bench_steps.Goals as goal

pub loop-at-init : goal.loop-at-init
loop-at-init c = let told = sym c.is_sound.ensures ∙ c.if-not-is_sound.false in (refl, refl, refl, sound_state _ _ _ told, zero-le)

pub shape_of-words-in_default : goal.shape_of-words-in_default
shape_of-words-in_default c = c.loop-at.invariant.0

pub shape_of-frames-in_default : goal.shape_of-frames-in_default
shape_of-frames-in_default c = c.loop-at.invariant.2

pub shape_of-starts-in_default : goal.shape_of-starts-in_default
shape_of-starts-in_default c = c.loop-at.invariant.1

pub step-answer-requires : goal.step-answer-requires
step-answer-requires c = record { words_len = c.loop-at.invariant.0 ∙ sound_length _ _ _ (sym c.is_sound.ensures ∙ c.if-not-is_sound.false); starts_len = c.loop-at.invariant.1 ∙ c.if-starts-ne-SLOTS.false; files_value = c.loop-at.invariant.3 }

pub overflow_add-at : goal.overflow_add-at
overflow_add-at c = let good = c.well_formed.1.1.1.1.0 in omega (arith, good)

pub loop-at-preserved : goal.loop-at-preserved
loop-at-preserved c = let inv = c.loop-at.invariant in (c.step-answer.auto.words ∙ inv.0, c.step-answer.auto.starts ∙ inv.1, c.step-answer.auto.frames ∙ inv.2, sound_stays _ _ _ _ _ _ _ c.step-answer.ensures.does_with inv.3, omega arith)

pub shape_of-words : goal.shape_of-words
shape_of-words c = c.loop-at.invariant.0

pub shape_of-frames : goal.shape_of-frames
shape_of-frames c = c.loop-at.invariant.2

pub shape_of-starts : goal.shape_of-starts
shape_of-starts c = c.loop-at.invariant.1
