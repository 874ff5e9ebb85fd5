-- `VirtualMemoryManager::new` is new_call: one law a way.
use mathlib.Core.Path.{ap, sym, ◌∙◌}
use Rattle.laws.specs.ResultLaws.{err_told, ok_told}
use Rattle.segment.specs.Form.{form_of}
use Rattle.segments.specs.CallLaws.{new_good, new_bad}
use Rattle.segments.proofs.table.VirtualMemoryManager.new.Goals as goal

pub returns-then-is_err : goal.returns-then-is_err
returns-then-is_err c = new_bad _ _ _ (c.form-form.ensures ∙ ap form_of c.new.ensures) _ _ (err_told _ (sym c.is_err.ensures.value ∙ c.if-is_err.true)).1 c.over.ensures

pub returns : goal.returns
returns c = new_good _ _ _ (c.form-form.ensures ∙ ap form_of c.new.ensures) _ (ok_told _ (sym c.is_err.ensures.value ∙ c.if-is_err.false)).1 c.over-2.ensures
