-- `home_place` finds the place of a page's home: near by, or else in the whole list.
use Rattle.std.specs.Prelude.{Option}
use mathlib.Core.Path.{subst, ◌∙◌}
use Prim.Native.Nat.{ℕ, ◌+◌, ◌<◌}
use native.Mathlib.Omega.{arith}
use Rattle.address.specs.PagesLaws.{start_exact}
use Rattle.model.specs.Layout.{machine}
use Rattle.model.specs.Lookup.{row_found}
use Rattle.sound_pages.specs.MappedRows.{HeldAt}
use Rattle.sound_pages.specs.MappedHomeLaws.{home_past}
use Rattle.sound_pages.specs.MappedRowsLaws.{held_low, home_near, home_any}
use Rattle.sound_pages.proofs.mapped.home_place.Goals as goal

pub returns-then-page-ge-PAGE_COUNT : goal.returns-then-page-ge-PAGE_COUNT
returns-then-page-ge-PAGE_COUNT c = record { result_bound = omega arith; result_value = λ laid. home_past c.args.words.now laid c.args.process c.requires.process_bound c.args.page.0 c.if-page-ge-PAGE_COUNT.true }

pub returns-in_default : goal.returns-in_default
returns-in_default c = let w = c.args.words.now in let p = c.args.process in let start = c.start_address-start.ensures ∙ start_exact c.args.page.0 c.if-page-ge-PAGE_COUNT.false in record { result_bound = held_low (machine w) p _ _ _ _ c.attached_count-count.ensures.upper_bound c.place_for-in_default.ensures; result_value = λ laid. home_any w laid p c.requires.process_bound _ c.attached_count-count.ensures.value c.attached_count-count.ensures.upper_bound c.args.page.0 _ (subst (λ (x : ℕ). HeldAt (machine w) p x 0 c.attached_count-count.result c.place_for-in_default.result) start c.place_for-in_default.ensures) }

pub returns : goal.returns
returns c = let w = c.args.words.now in let p = c.args.process in let start = c.start_address-start.ensures ∙ start_exact c.args.page.0 c.if-page-ge-PAGE_COUNT.false in let k = c.two_from-to.ensures in let l = c.attached_count-count.ensures.upper_bound in record { result_bound = subst (λ (f : Option ℕ). row_found f < 64) c.in-Some.is (held_low (machine w) p _ _ _ _ (omega arith) c.place_for.ensures); result_value = λ laid. home_near w laid p c.requires.process_bound _ c.attached_count-count.ensures.value c.attached_count-count.ensures.upper_bound c.args.page.0 (c.args.near + 1) c.two_from-to.result _ c.two_from-to.ensures _ c.in-Some.is (subst (λ (x : ℕ). HeldAt (machine w) p x (c.args.near + 1) c.two_from-to.result c.place_for.result) start c.place_for.ensures) }
