-- The counts of backed pages, step by step.
use Rattle.std.specs.Prelude.{◌≡◌, refl, Bool, true, false, not, cond, List, [], ◌∷◌, eqb, ltb}
use Rattle.std.proofs.Math.Path.{ap}
use Rattle.std.proofs.Common.{sym, ◌∙◌, eq-eqb, ne_eqb}
use Prim.Native.Nat.{ℕ, suc, ◌+◌, ◌-◌, ◌/◌, ◌≤◌, ◌<◌}
use native.Mathlib.Omega.{arith}
use Rattle.std.proofs.Math.ListN.{length}
use Rattle.model.specs.declared.Entry.{Entry}
use Rattle.model.specs.declared.Region.{Region}
use Rattle.model.specs.declared.Backing.{Backing}
use Rattle.laws.specs.Lists.{keep, up_from, count}
use Rattle.model.specs.Machine.{Machine, region_at, row_of}
use Rattle.model.specs.Lookup.{is_found, is_ranged}
use Rattle.model.specs.Backing.{backing_at, entry_for}
use Rattle.model.specs.Clone.{Held, in_order, single_pages, range_pages}
use Rattle.clone_pages.specs.BackedPages.{range_len, bare_one, frames_from, bare_in}

-- ---- entries

abbrev pub owned_by : ℕ → Entry → Bool
owned_by owner e = eqb e.owner owner

length_order : (h : Held) (l : List Held) → length (in_order h l) ≡ suc (length l)
unfolding in_order
length_order h [] = refl
length_order h (x ∷ l) = go (ltb h.page x.page) (length_order h l)
  where
    go : (b : Bool) → length (in_order h l) ≡ suc (length l) → length (cond b (h ∷ x ∷ l) (x ∷ in_order h l)) ≡ suc (suc (length l))
    go true e = refl
    go false e = ap (λ (n : ℕ). suc n) e

pub single_length : (l : List Entry) (row : ℕ) → count (owned_by (row + 1)) l ≡ length (single_pages l row)
unfolding count single_pages
single_length [] row = refl
single_length (e ∷ l) row = go (eqb e.owner (row + 1)) (single_length l row)
  where
    held : Held
    held = record { page = e.page.0; frame = e.frame.0 }

    go : (b : Bool) → count (owned_by (row + 1)) l ≡ length (single_pages l row) → cond b (count (owned_by (row + 1)) l + 1) (count (owned_by (row + 1)) l) ≡ length (cond b (in_order held (single_pages l row)) (single_pages l row))
    go true r = let s = length_order held (single_pages l row) in omega arith
    go false r = r

pub counts_owned : (e : Entry) (owner : ℕ) → e.owner ≡ owner → ◌≡◌ {A = ℕ} 1 (cond (eqb e.owner owner) 1 0)
counts_owned e owner p = rw (eq-eqb e.owner owner p) refl

pub counts_other : (e : Entry) (owner : ℕ) → (e.owner ≡ owner → ⊥) → ◌≡◌ {A = ℕ} 0 (cond (eqb e.owner owner) 1 0)
counts_other e owner p = rw (ne_eqb e.owner owner p) refl

pub range_none : (m : Machine) (r : Region) → (r.ranged ≡ 1 → ⊥) → 0 ≡ range_len m r
unfolding range_len
range_none m r n = rw (ne_eqb r.ranged 1 n) refl

pub range_some : (m : Machine) (r : Region) → r.ranged ≡ 1 → (b : Backing) → b ≡ backing_at m r.range.0 → b.len ≡ range_len m r
unfolding range_len
range_some m r e b read = ap (λ (x : Backing). x.len) read ∙ ap (λ (t : Bool). cond t (backing_at m r.range.0).len 0) (sym (eq-eqb r.ranged 1 e))

pub bare_shadowed : (m : Machine) (row page : ℕ) (b : Bool) → b ≡ is_found (entry_for m row page) → b ≡ true → 0 ≡ bare_one m row page
bare_shadowed m row page b told e = ap (λ (t : Bool). cond t 0 1) (sym e ∙ told)

pub bare_alone : (m : Machine) (row page : ℕ) (b : Bool) → b ≡ is_found (entry_for m row page) → b ≡ false → 1 ≡ bare_one m row page
bare_alone m row page b told e = ap (λ (t : Bool). cond t 0 1) (sym e ∙ told)

pub range_pages_are : (m : Machine) (p s : ℕ) → range_pages m p s ≡ keep (bare_in m (row_of p s)) (frames_from (region_at m p s) 0 (range_len m (region_at m p s)))
unfolding range_pages range_len keep up_from
range_pages_are m p s = go (is_ranged (region_at m p s))
  where
    r : Region
    r = region_at m p s

    go : (b : Bool) → cond b (keep (bare_in m (row_of p s)) (frames_from r 0 (backing_at m r.range.0).len)) [] ≡ keep (bare_in m (row_of p s)) (frames_from r 0 (cond b (backing_at m r.range.0).len 0))
    go true = refl
    go false = refl

-- i of them are passed, and n of those had no entry
abbrev pub Ranged : Machine → ℕ → Region → ℕ → ℕ → ℕ → Type 0
Ranged m row r len i n = (i ≤ len) × ((n ≤ i) × (n + length (keep (bare_in m row) (frames_from r i (len - i))) ≡ length (keep (bare_in m row) (frames_from r 0 len))))

module _ (m : Machine) (row : ℕ) (r : Region) (len : ℕ) where
  pub ranged_first : Ranged m row r len 0 0
  ranged_first = let e = ap (λ (k : ℕ). length (keep (bare_in m row) (frames_from r 0 k))) same in (omega arith, (omega arith, omega arith))
    where
      same : len - 0 ≡ len
      same = omega arith

  one_frame : (i : ℕ) → i < len → length (keep (bare_in m row) (frames_from r i (len - i))) ≡ bare_one m row (r.start.0 / 4096 + i) + length (keep (bare_in m row) (frames_from r (i + 1) (len - (i + 1))))
  unfolding up_from keep
  one_frame i h = ap (λ (k : ℕ). length (keep (bare_in m row) (frames_from r i k))) more ∙ go (is_found (entry_for m row (r.start.0 / 4096 + i)))
    where
      more : len - i ≡ suc (len - (i + 1))
      more = omega arith

      rest : List Held
      rest = keep (bare_in m row) (frames_from r (i + 1) (len - (i + 1)))

      here : Held
      here = record { page = r.start.0 / 4096 + i; frame = r.range.0 + i }

      go : (b : Bool) → length (cond (not b) (here ∷ rest) rest) ≡ cond b 0 1 + length rest
      go true = omega arith
      go false = omega arith

  pub ranged_more : (i n : ℕ) → Ranged m row r len i n → i < len → (x : ℕ) → x ≡ bare_one m row (r.start.0 / 4096 + i) → x ≤ 1 → Ranged m row r len (i + 1) (n + x)
  ranged_more i n k h x e one = let step = one_frame i h in let was = k.1.1 in let low = k.1.0 in (omega arith, (omega arith, omega arith))

  pub ranged_all : (i n : ℕ) → Ranged m row r len i n → len ≤ i → n ≡ length (keep (bare_in m row) (frames_from r 0 len))
  unfolding up_from keep
  ranged_all i n k h = let was = k.1.1 in let none = ap (λ (j : ℕ). length (keep (bare_in m row) (frames_from r i j))) zero_left in omega arith
    where
      zero_left : len - i ≡ 0
      zero_left = omega arith

pub range_total : (m : Machine) (p s : ℕ) (r : Region) → r ≡ region_at m p s → (len : ℕ) → len ≡ range_len m r → (n : ℕ) → n ≡ length (keep (bare_in m (row_of p s)) (frames_from r 0 len)) → n ≡ length (range_pages m p s)
range_total m p s r read len long n e = e ∙ ap (λ (k : ℕ). length (keep (bare_in m (row_of p s)) (frames_from r 0 k))) long ∙ ap (λ (x : Region). length (keep (bare_in m (row_of p s)) (frames_from x 0 (range_len m x)))) read ∙ ap (λ l. length l) (sym (range_pages_are m p s))

-- a range of a region's row that was read is no longer than the region's
pub len_fits : (m : Machine) (r x : Region) → x ≡ r → range_len m r ≤ 256 → (n : ℕ) → n ≡ range_len m x → n ≤ 256
len_fits m r x e h n k = let same = k ∙ ap (λ (y : Region). range_len m y) e in omega arith
