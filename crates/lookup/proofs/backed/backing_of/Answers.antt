-- `backing_of` is the model's backing: by the entry, else by the range.
use mathlib.Core.Path.{subst, sym, ◌∙◌}
use Prim.Native.Nat.{◌≤◌}
use Rattle.model.specs.declared.Region.{Region}
use Rattle.model.specs.Layout.{machine}
use Rattle.model.specs.Backing.{backing_at}
use Rattle.lookup.specs.BackedLaws.{backing_by}
use Rattle.lookup.proofs.backed.backing_of.Goals as goal

pub by_range-range-requires : goal.by_range-range-requires
by_range-range-requires c = record { words_len = c.requires.words_len; range_bound = subst (λ (r : Region). (backing_at (machine c.args.words.now) r.range.0).len ≤ 256) (sym c.region_at.ensures) c.requires.slot_bound_2 }

pub returns : goal.returns
returns c = c.else_by.ensures ∙ backing_by (machine c.args.words.now) c.args.process c.args.slot c.args.page.0 _ c.by_entry-entry.ensures _ c.region_at.ensures _ c.by_range-range.ensures
