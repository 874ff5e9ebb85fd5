-- `Segment::form` answers as form_of says: one law a way.
use native.Mathlib.Omega.{arith}
use mathlib.Core.Path.{sym, ◌∙◌}
use Rattle.segment.specs.FormLaws.{form_address, form_empty, form_low, form_low_past, form_high, form_high_past}
use Rattle.segment.proofs.Segment.form.Goals as goal

pub returns-then-not-is_canonical : goal.returns-then-not-is_canonical
returns-then-not-is_canonical c = form_address _ (sym c.is_canonical.ensures.test ∙ c.if-not-is_canonical.true)

pub returns-then-len-eq0 : goal.returns-then-len-eq0
returns-then-len-eq0 c = form_empty _ (sym c.is_canonical.ensures.test ∙ c.if-not-is_canonical.false) c.if-len-eq0.true

pub returns-then-len-start : goal.returns-then-len-start
returns-then-len-start c = form_low _ (sym c.is_canonical.ensures.test ∙ c.if-not-is_canonical.false) c.if-len-eq0.false c.if-start-lt140737488355328.true c.if-len-start.true

pub returns-then-start-lt140737488355328 : goal.returns-then-start-lt140737488355328
returns-then-start-lt140737488355328 c = form_low_past _ (sym c.is_canonical.ensures.test ∙ c.if-not-is_canonical.false) c.if-len-eq0.false c.if-start-lt140737488355328.true c.if-len-start.false

pub returns-then-len-start-2 : goal.returns-then-len-start-2
returns-then-len-start-2 c = form_high _ (sym c.is_canonical.ensures.test ∙ c.if-not-is_canonical.false) c.if-len-eq0.false c.if-start-lt140737488355328.false (omega arith) c.if-len-start-2.true

pub returns : goal.returns
returns c = form_high_past _ (sym c.is_canonical.ensures.test ∙ c.if-not-is_canonical.false) c.if-len-eq0.false c.if-start-lt140737488355328.false (omega arith) c.if-len-start-2.false
