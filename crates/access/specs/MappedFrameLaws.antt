-- A page that is mapped on a sound machine is mapped to one of its frames.
use Rattle.std.specs.Prelude.{◌≡◌, refl, Bool, true, false, ◌&&◌, cond, List, [], ◌∷◌, ℕ, zero, suc, ◌+◌, ◌<◌, length, get_or, eqb, ltb, Option, Some, None}
use Rattle.std.proofs.Common.{ap, sym, subst, ◌∙◌, zero-le, suc-le-suc}
use native.Mathlib.Omega.{arith}
use Rattle.std.proofs.Math.ListN.{get_or-eq_default}
use borrow.Author.Tests.{ltb-true, ltb-false, eqb-true}
use Rattle.laws.specs.ResultLaws.{none_not_some, some_same}
use Rattle.laws.specs.BoolLaws.{both_true}
use Rattle.model.specs.declared.Mapping.{Mapping}
use Rattle.model.specs.declared.Region.{Region}
use Rattle.model.specs.declared.Backing.{Backing}
use Rattle.model.specs.declared.Backed.TheVariants.{ByRange, Unbacked}
use Rattle.model.specs.Machine.{Machine, State, mapped_of, region_at, row_of, no_mapping, no_entry, no_backing}
use Rattle.model.specs.Lookup.{is_ranged}
use Rattle.model.specs.Paging.{translate}
use Rattle.model.specs.Backing.{backing_at, backing, entry_for}
use Rattle.model.specs.Sound.{Sound, Homed, frame_by}
use Rattle.lookup.specs.Lookups.{entry_of}
use Rattle.lookup.specs.Backed.{by_entry, by_range, else_by, pages_past}
use Rattle.lookup.specs.BackedLaws.{backing_by}
use Rattle.model.specs.FoundRowLaws.{first_found}

-- what holds of every row holds of the one that a page is mapped by
pub of_mapped : (P : Mapping → Type 0) (l : List Mapping) (page : ℕ) (x : Mapping) → ((i : ℕ) → i < length l → P (get_or l i no_mapping)) → translate l page ≡ Some x → P x
unfolding translate
of_mapped P [] page x h e = absurd (none_not_some e)
of_mapped P (y ∷ l) page x h e = go (eqb y.page.0 page) e (of_mapped P l page x (λ i k. h (suc i) (suc-le-suc k)))
  where
    go : (b : Bool) → cond b (Some y) (translate l page) ≡ Some x → (translate l page ≡ Some x → P x) → P x
    go true p later = subst P (some_same p) (h zero (suc-le-suc zero-le))
    go false p later = later p

module _ (s : State) (sound : Sound s) where
  abbrev m : Machine
  m = s.machine

  -- a backing's frames are frames
  backed_inside : (f n : ℕ) → n < (backing_at m f).len → f + n < m.frame_count
  backed_inside f n h = go (ltb f (length m.backings)) refl
    where
      go : (b : Bool) → ltb f (length m.backings) ≡ b → f + n < m.frame_count
      go true e = let last = sound.r2.within f (ltb-true f (length m.backings) e) (λ z. omega arith) in omega arith
      go false e = let none = ap (λ (b : Backing). b.len) (get_or-eq_default m.backings no_backing {n = f} (ltb-false f (length m.backings) e)) in absurd (omega arith)

  through_entry : (row page i : ℕ) → entry_for m row page ≡ Some i → (get_or m.entries i no_entry).frame.0 < m.frame_count
  unfolding entry_for
  through_entry row page i e =
      let found = first_found (entry_of (row + 1) page) m.entries i no_entry e in
      let owner = eqb-true (get_or m.entries i no_entry).owner (row + 1) (both_true _ _ found.1).0 in
      let one = ((sound.r6.entries i found.0).used (λ z. omega arith)).frame in
      let inside = backed_inside (get_or m.entries i no_entry).frame.0 0 (omega arith) in
      omega arith

  through_range : (r : Region) (page f : ℕ) → frame_by (by_range m r page) ≡ Some f → f < m.frame_count
  through_range r page f e = go (is_ranged r && ltb (pages_past r page) (backing_at m r.range.0).len) refl e
    where
      go : (b : Bool) → (is_ranged r && ltb (pages_past r page) (backing_at m r.range.0).len) ≡ b → frame_by (cond b (ByRange (record { 0 = r.range.0 + pages_past r page }) (backing_at m r.range.0).holders) Unbacked) ≡ Some f → f < m.frame_count
      go true t q =
          let inside = backed_inside r.range.0 (pages_past r page) (ltb-true (pages_past r page) (backing_at m r.range.0).len (both_true (is_ranged r) (ltb (pages_past r page) (backing_at m r.range.0).len) t).1) in
          let same = some_same q in
          omega arith
      go false t q = absurd (none_not_some q)

  backing_inside : (p slot page f : ℕ) → frame_by (backing m p slot page) ≡ Some f → f < m.frame_count
  backing_inside p slot page f e = go (entry_for m (row_of p slot) page) refl
    where
      split : frame_by (else_by (by_entry m (entry_for m (row_of p slot) page)) (by_range m (region_at m p slot) page)) ≡ Some f
      split = ap frame_by (backing_by m p slot page _ refl _ refl _ refl) ∙ e

      go : (x : Option ℕ) → entry_for m (row_of p slot) page ≡ x → f < m.frame_count
      go (Some i) q =
          let inside = through_entry (row_of p slot) page i q in
          let same = some_same (ap (λ (y : Option ℕ). frame_by (else_by (by_entry m y) (by_range m (region_at m p slot) page))) (sym q) ∙ split) in
          omega arith
      go None q = through_range (region_at m p slot) page f (ap (λ (y : Option ℕ). frame_by (else_by (by_entry m y) (by_range m (region_at m p slot) page))) (sym q) ∙ split)

  pub frame_inside : (p page : ℕ) (x : Mapping) → p < 8 → translate (mapped_of m p) page ≡ Some x → x.frame.0 < m.frame_count
  frame_inside p page x h e =
      let home : Homed m p x = of_mapped (Homed m p) (mapped_of m p) page x (λ i k. sound.r4 p (rw sound.r6.sized.processes h) i k) e in
      backing_inside p home.slot x.page.0 x.frame.0 home.frame
