-- `starts_far` is contains, of the page's start.
use mathlib.Core.Path.{ap, subst, ◌∙◌}
use Prim.Native.Nat.{ℕ, ◌-◌, ◌%◌, ◌≤◌, ◌<◌}
use Rattle.model.specs.Lookup.{pages_for}
use Rattle.sound_rows.specs.EntryRowLaws.{starts_before, starts_nowhere, starts_within}
use Rattle.sound_rows.proofs.entries.starts_far.Goals as goal

pub returns-then-page-first : goal.returns-then-page-first
returns-then-page-first c = starts_before c.args.region c.args.page.0 _ c.pages_for-first.ensures c.if-page-first.true

pub returns-then-region-skipped : goal.returns-then-region-skipped
returns-then-region-skipped c =
    let given = c.args in
    let few = subst (λ (o : ℕ). given.region.size ≤ (4096 - o) % 4096) c.page_offset.ensures c.if-region-skipped.true in
    starts_nowhere given.region given.page.0 _ c.pages_for-first.ensures c.if-page-first.false few

pub returns : goal.returns
returns c =
    let given = c.args in
    let offset = c.page_offset.ensures in
    let some = subst (λ (o : ℕ). (4096 - o) % 4096 < given.region.size) offset c.if-region-skipped.false in
    let counted = c.pages_for-pages.ensures ∙ ap (λ (o : ℕ). pages_for (given.region.size - (4096 - o) % 4096)) offset in
    starts_within given.region given.page.0 _ c.pages_for-first.ensures c.if-page-first.false some _ counted
