-- `mark_listed` marks a slot in use that has no mark yet.
use mathlib.Core.Path.{refl, ap, sym, ◌∙◌}
use mathlib.Core.Bool.{not, false≢true}
use borrow.Author.Tests.{eq-eqb, ne_eqb}
use Rattle.model.specs.Layout.{machine}
use Rattle.sound_lists.specs.Marks.{marked}
use Rattle.sound_lists.specs.MarksLaws.{listed_past, listed_free, listed_used}
use Rattle.sound_lists.proofs.lists.mark_listed.Goals as goal

pub returns-then-slot : goal.returns-then-slot
returns-then-slot c = let a = c.args in record { value = listed_past (machine a.words.now) a.process a.slot (not (marked a.marks.now a.slot)) c.if-slot.true; marks_after = λ e. absurd (false≢true e) }

pub returns-then-region-eq-FREE : goal.returns-then-region-eq-FREE
returns-then-region-eq-FREE c = let a = c.args in record { value = listed_free (machine a.words.now) a.process a.slot (not (marked a.marks.now a.slot)) c.if-slot.false _ c.region_at-region.ensures c.if-region-eq-FREE.true; marks_after = λ e. absurd (false≢true e) }

pub returns-then-marks-slot-ne0 : goal.returns-then-marks-slot-ne0
returns-then-marks-slot-ne0 c = let a = c.args in record { value = sym (ap (λ b. not (not b)) (ne_eqb _ 0 c.if-marks-slot-ne0.true)) ∙ listed_used (machine a.words.now) a.process a.slot (not (marked a.marks.now a.slot)) c.if-slot.false _ c.region_at-region.ensures c.if-region-eq-FREE.false; marks_after = λ e. absurd (false≢true e) }

pub returns : goal.returns
returns c = let a = c.args in record { value = sym (ap (λ b. not (not b)) (eq-eqb _ 0 c.if-marks-slot-ne0.false)) ∙ listed_used (machine a.words.now) a.process a.slot (not (marked a.marks.now a.slot)) c.if-slot.false _ c.region_at-region.ensures c.if-region-eq-FREE.false; marks_after = λ e. refl }
