-- `checked` is checked_lent: one law a way.
use Rattle.segments_lent.specs.LentCallsLaws.{checked_unsound, checked_form}
use Rattle.segments_lent.proofs.manager.checked.Goals as goal

pub returns-then-not-is_sound : goal.returns-then-not-is_sound
returns-then-not-is_sound c = checked_unsound c.args.words.now c.args.segment _ c.is_sound.ensures c.if-not-is_sound.true

pub returns : goal.returns
returns c = checked_form c.args.words.now c.args.segment _ c.is_sound.ensures c.if-not-is_sound.false _ c.form.ensures
