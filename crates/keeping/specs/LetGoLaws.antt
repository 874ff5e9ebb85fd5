-- A backing let go changes backings and pool alone: it commutes with a change of another table.
use Rattle.std.specs.Prelude.{◌≡◌, refl, Bool, true, false, cond, List, ℕ, ◌-◌, set, leb}
use Rattle.std.proofs.Common.{ap, sym, subst, ◌∙◌}
use Rattle.model.specs.declared.Backing.{Backing}
use Rattle.model.specs.declared.Entry.{Entry}
use Rattle.model.specs.declared.Region.{Region}
use Rattle.model.specs.Machine.{Machine, no_backing, with_entries, with_regions}
use Rattle.model.specs.Backing.{backing_at, with_backings, let_go}
use Rattle.keeping.specs.CoreKept.{Lends}

-- the row of a backing with a holder less
abbrev pub less_held : Backing → Backing
less_held b = cond (leb b.holders 1) no_backing (record { len = b.len; holders = b.holders - 1 })

-- letting go replaces that row
pub let_go_is : (m : Machine) (f : ℕ) → let_go m f ≡ with_backings m (set m.backings f (less_held (backing_at m f)))
unfolding let_go
let_go_is m f = go (leb (backing_at m f).holders 1)
  where
    go : (b : Bool)
        → cond b (with_backings m (set m.backings f no_backing))
        (with_backings m (set m.backings f (record { len = (backing_at m f).len; holders = (backing_at m f).holders - 1 }))) ≡ with_backings m
        (set m.backings f (cond b no_backing (record { len = (backing_at m f).len; holders = (backing_at m f).holders - 1 })))
    go true = refl
    go false = refl

pub lends_let_go : (m : Machine) (f : ℕ) → Lends m (let_go m f)
unfolding with_backings
lends_let_go m f = subst (Lends m) (sym (let_go_is m f)) (record { files = refl; file_count = refl; frame_count = refl })

-- with other entries, other regions
pub let_go_entries : (m : Machine) (l : List Entry) (f : ℕ) → let_go (with_entries m l) f ≡ with_entries (let_go m f) l
unfolding with_backings
let_go_entries m l f = let_go_is (with_entries m l) f ∙ ap (λ (x : Machine). with_entries x l) (sym (let_go_is m f))

pub let_go_regions : (m : Machine) (l : List Region) (f : ℕ) → let_go (with_regions m l) f ≡ with_regions (let_go m f) l
unfolding with_backings
let_go_regions m l f = let_go_is (with_regions m l) f ∙ ap (λ (x : Machine). with_regions x l) (sym (let_go_is m f))

pub let_go_kept_entries : (m : Machine) (f : ℕ) → (let_go m f).entries ≡ m.entries
unfolding with_backings
let_go_kept_entries m f = ap (λ (x : Machine). x.entries) (let_go_is m f)
