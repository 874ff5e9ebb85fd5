-- `VirtualMemoryManager::split_point` is split_point: one law a way.
use Rattle.std.proofs.lemmas.Result.{err_from_is_err_and}
use Rattle.segments.specs.CallLaws.{point_unsound, point_address, point_form, point_inside, point_outside}
use Rattle.segments.proofs.table.VirtualMemoryManager.split_point.Goals as goal

pub returns-then-not-is_sound : goal.returns-then-not-is_sound
returns-then-not-is_sound c = point_unsound _ c.args.segment c.args.at _ c.is_sound.ensures c.if-not-is_sound.true

pub returns-then-not-is_canonical : goal.returns-then-not-is_canonical
returns-then-not-is_canonical c = point_address _ c.args.segment c.args.at _ c.is_sound.ensures c.if-not-is_sound.false _ c.is_canonical.ensures.test c.if-not-is_canonical.true

pub returns-in_err-form : goal.returns-in_err-form
returns-in_err-form c = let p = err_from_is_err_and c.from_residual.result c.from_residual.ensures.1 in rw (p.1, p.2) (point_form _ c.args.segment c.args.at _ c.is_sound.ensures c.if-not-is_sound.false _ c.is_canonical.ensures.test c.if-not-is_canonical.false _ c.form.ensures _ c.in_err-form.was)

pub returns-then-inside : goal.returns-then-inside
returns-then-inside c = point_inside _ c.args.segment c.args.at _ c.is_sound.ensures c.if-not-is_sound.false _ c.is_canonical.ensures.test c.if-not-is_canonical.false _ c.form.ensures c.in_ok-form.was _ c.inside.ensures c.if-inside.true

pub returns-else-inside : goal.returns-else-inside
returns-else-inside c = point_outside _ c.args.segment c.args.at _ c.is_sound.ensures c.if-not-is_sound.false _ c.is_canonical.ensures.test c.if-not-is_canonical.false _ c.form.ensures c.in_ok-form.was _ c.inside.ensures c.if-inside.false
