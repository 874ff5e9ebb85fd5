-- `split_point` is point_lent: one law a way.
use Rattle.std.proofs.lemmas.Result.{err_from_is_err_and}
use mathlib.Core.Path.{refl, sym, ◌∙◌}
use Rattle.segments.specs.CallLaws.{point_address, point_form, point_inside, point_outside}
use Rattle.segments_lent.specs.LentWords.{manager_of}
use Rattle.segments_lent.specs.LentWordsLaws.{lent_sound_is}
use Rattle.segments_lent.specs.LentCallsLaws.{point_unsound, point_sound}
use Rattle.segments_lent.proofs.manager.split_point.Goals as goal

pub returns-then-not-is_sound : goal.returns-then-not-is_sound
returns-then-not-is_sound c = point_unsound c.args.words.now c.args.segment c.args.at _ c.is_sound.ensures c.if-not-is_sound.true

pub returns-then-not-is_canonical : goal.returns-then-not-is_canonical
returns-then-not-is_canonical c = point_sound c.args.words.now c.args.segment c.args.at _ c.is_sound.ensures c.if-not-is_sound.false _ (point_address (manager_of c.args.words.now) c.args.segment c.args.at _ refl (lent_sound_is c.args.words.now (sym c.is_sound.ensures ∙ c.if-not-is_sound.false)).1 _ c.is_canonical.ensures.test c.if-not-is_canonical.true)

pub returns-in_err-form : goal.returns-in_err-form
returns-in_err-form c = let p = err_from_is_err_and c.from_residual.result c.from_residual.ensures.1 in rw (p.1, p.2) (point_sound c.args.words.now c.args.segment c.args.at _ c.is_sound.ensures c.if-not-is_sound.false _ (point_form (manager_of c.args.words.now) c.args.segment c.args.at _ refl (lent_sound_is c.args.words.now (sym c.is_sound.ensures ∙ c.if-not-is_sound.false)).1 _ c.is_canonical.ensures.test c.if-not-is_canonical.false _ c.form.ensures _ c.in_err-form.was))

pub returns-then-inside : goal.returns-then-inside
returns-then-inside c = point_sound c.args.words.now c.args.segment c.args.at _ c.is_sound.ensures c.if-not-is_sound.false _ (point_inside (manager_of c.args.words.now) c.args.segment c.args.at _ refl (lent_sound_is c.args.words.now (sym c.is_sound.ensures ∙ c.if-not-is_sound.false)).1 _ c.is_canonical.ensures.test c.if-not-is_canonical.false _ c.form.ensures c.in_ok-form.was _ c.inside.ensures c.if-inside.true)

pub returns-else-inside : goal.returns-else-inside
returns-else-inside c = point_sound c.args.words.now c.args.segment c.args.at _ c.is_sound.ensures c.if-not-is_sound.false _ (point_outside (manager_of c.args.words.now) c.args.segment c.args.at _ refl (lent_sound_is c.args.words.now (sym c.is_sound.ensures ∙ c.if-not-is_sound.false)).1 _ c.is_canonical.ensures.test c.if-not-is_canonical.false _ c.form.ensures c.in_ok-form.was _ c.inside.ensures c.if-inside.false)
