-- Laws of `Backed`: what backs a page: the backing at any frame number, and the two ways of the model's `backing`, by the page entry and by the range.
use Rattle.std.specs.Prelude.{◌≡◌, Bool, true, false, ◌&&◌, cond, List, ℕ, ◌+◌, ◌≤◌, ◌<◌, get_or, ltb, Option, Some, None}
use Rattle.std.proofs.Math.Path.{refl}
use Rattle.std.proofs.Common.{ap, sym, ◌∙◌, arith, eq-eqb, ne_eqb, lt-ltb, le-ltb, ltb-true, ltb-false}
use Rattle.std.proofs.Math.ListN.{get_or-eq_default}
use Rattle.model.specs.declared.Region.{Region}
use Rattle.model.specs.declared.Entry.{Entry}
use Rattle.model.specs.declared.Backing.{Backing}
use Rattle.model.specs.declared.Backed.{Backed}
use Rattle.model.specs.declared.Backed.TheVariants.{ByEntry, ByRange, Unbacked}
use Rattle.model.specs.Layout.{machine}
use Rattle.model.specs.Machine.{Machine, no_entry, no_backing, region_at, row_of}
use Rattle.model.specs.Lookup.{is_ranged}
use Rattle.model.specs.Backing.{backing_at, entry_for, backing}
use Rattle.lookup.specs.Lookups.{entry_of}
use Rattle.lookup.specs.LookupsLaws.{entries_length, backings_length}
use Rattle.model.specs.FoundRowLaws.{first_found}
use Rattle.lookup.specs.Backed.{by_entry, pages_past, by_range, else_by}

-- the page entry if any, else the range (RULES B1)
module _ (m : Machine) (p s page : ℕ) where
  backing_is : else_by (by_entry m (entry_for m (row_of p s) page)) (by_range m (region_at m p s) page) ≡ backing m p s page
  unfolding backing
  backing_is = go (entry_for m (row_of p s) page) refl
    where
      go : (f : Option ℕ) → entry_for m (row_of p s) page ≡ f → else_by (by_entry m (entry_for m (row_of p s) page)) (by_range m (region_at m p s) page) ≡ backing m p s page
      go None e = rw e refl
      go (Some i) e = rw e refl

  pub backing_by : (x : Backed) → x ≡ by_entry m (entry_for m (row_of p s) page) → (r : Region) → r ≡ region_at m p s → (y : Backed) → y ≡ by_range m r page → else_by x y ≡ backing m p s page
  backing_by x entry r row y range =
      ap (λ (u : Backed). else_by u y) entry ∙ ap (λ (u : Backed). else_by (by_entry m (entry_for m (row_of p s) page)) u) (range ∙ ap (λ (u : Region). by_range m u page) row) ∙ backing_is

-- past the last row no backing starts
pub no_backing_past : (w : List ℕ) (f : ℕ) → 256 ≤ f → no_backing ≡ backing_at (machine w) f
no_backing_past w f h = sym (get_or-eq_default (machine w).backings no_backing {n = f} (rw backings_length h))

-- so a backing with a frame starts in a row
pub backing_row : (w : List ℕ) (f n : ℕ) → n < (backing_at (machine w) f).len → f < 256
backing_row w f n h = go (ltb f 256) refl
  where
    go : (b : Bool) → ltb f 256 ≡ b → f < 256
    go true e = ltb-true f 256 e
    go false e = let none = ap (λ (b : Backing). b.len) (no_backing_past w f (ltb-false f 256 e)) in absurd (omega arith)

-- the row of a search's first hit is one of the list's
pub entry_row : (w : List ℕ) (row page i : ℕ) → Some i ≡ entry_for (machine w) row page → i < 512
unfolding entry_for
entry_row w row page i e = let below = (first_found (entry_of (row + 1) page) (machine w).entries i no_entry (sym e)).0 in let sized = entries_length w in omega arith

module _ (m : Machine) (r : Region) (page : ℕ) where
  pub range_none : (r.ranged ≡ 1 → ⊥) → Unbacked ≡ by_range m r page
  range_none n = rw (ne_eqb r.ranged 1 n) refl

  pub range_past : (n : ℕ) → n ≡ pages_past r page → (b : Backing) → b ≡ backing_at m r.range.0 → b.len ≤ n → Unbacked ≡ by_range m r page
  range_past n e b f h = go (is_ranged r)
    where
      past : ltb (pages_past r page) (backing_at m r.range.0).len ≡ false
      past = let same = ap (λ (x : Backing). x.len) f in le-ltb (pages_past r page) (backing_at m r.range.0).len (omega arith)

      go : (t : Bool) → Unbacked ≡ cond (t && ltb (pages_past r page) (backing_at m r.range.0).len) (ByRange (record { 0 = r.range.0 + pages_past r page }) (backing_at m r.range.0).holders) Unbacked
      go true = rw past refl
      go false = refl

  pub range_frame : r.ranged ≡ 1 → (n : ℕ) → n ≡ pages_past r page → (b : Backing) → b ≡ backing_at m r.range.0 → n < b.len → ByRange (record { 0 = r.range.0 + n }) b.holders ≡ by_range m r page
  range_frame y n e b f h = ap (λ (k : ℕ). ByRange (record { 0 = r.range.0 + k }) b.holders) e ∙ ap (λ (x : Backing). ByRange (record { 0 = r.range.0 + pages_past r page }) x.holders) f ∙ rw (eq-eqb r.ranged 1 y, inside) refl
    where
      inside : ltb (pages_past r page) (backing_at m r.range.0).len ≡ true
      inside = let same = ap (λ (x : Backing). x.len) f in lt-ltb (pages_past r page) (backing_at m r.range.0).len (omega arith)

-- the frame of a page in a backing of at most 256 frames is a number that fits
pub frame_fits : (w : List ℕ) (f n : ℕ) (b : Backing) → b ≡ backing_at (machine w) f → n < b.len → (backing_at (machine w) f).len ≤ 256 → f + n < 512
frame_fits w f n b e h few =
    let same = ap (λ (x : Backing). x.len) e in
    let low = backing_row w f n (omega arith) in
    omega arith

-- an entry found and its backing
pub entry_backed : (m : Machine) (f : Option ℕ) (i : ℕ) → Some i ≡ f → (e : Entry) → e ≡ get_or m.entries i no_entry → (b : Backing) → b ≡ backing_at m e.frame.0 → ByEntry i e.frame b.holders ≡ by_entry m f
entry_backed m f i found e same b read = ap (λ (x : Backing). ByEntry i e.frame x.holders) read ∙ ap (λ (x : Entry). ByEntry i x.frame (backing_at m x.frame.0).holders) same ∙ ap (λ (x : Option ℕ). by_entry m x) found
