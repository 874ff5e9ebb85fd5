-- Laws of `MappedFit`: r4 and R5 of a mapped page as one test, and what it asks where the page has an entry, a range, or no home.
use Rattle.std.specs.Prelude.{◌≡◌, Bool, ◌&&◌, cond, List, ℕ, zero, suc, ◌+◌, ◌-◌, ◌≤◌, ◌<◌, length, get_or, eqb, ltb, Option, Some, None}
use Rattle.std.proofs.Math.Path.{refl, sym}
use Rattle.std.proofs.Common.{ap, subst, ◌∙◌, arith, add-one}
use Rattle.std.proofs.Math.Bool.{true, false}
use borrow.Author.Tests.{eq-eqb, eqb-true}
use Rattle.laws.specs.TestLaws.{rows_agree, rows_both, tells_bool, tells_rows}
use Rattle.model.specs.declared.Region.{Region}
use Rattle.model.specs.declared.Mapping.{Mapping}
use Rattle.model.specs.declared.Backed.{Backed}
use Rattle.model.specs.declared.Backed.TheVariants.{ByEntry, ByRange, Unbacked}
use Rattle.model.specs.Layout.{machine}
use Rattle.model.specs.Machine.{Machine, no_region, no_entry, no_mapping, region_at, row_of, mapped_of}
use Rattle.model.specs.Lookup.{is_ranged}
use Rattle.laws.specs.BoolLaws.{clash, both_true}
use Rattle.model.specs.Backing.{backing, backing_at, entry_for}
use Rattle.model.specs.Protect.{holders_by}
use Rattle.laws.specs.Tests.{all_rows}
use Rattle.model.specs.Sound.{home_of, frame_by}
use Rattle.model.specs.SoundTest.{same_found, homedb, flags_fit, flaggedb, r4b, r5b}
use Rattle.laws.specs.TellsLaws.{not_told}
use Rattle.lookup.specs.ScanLaws.{Passed, pass_found, pass_more, pass_all}
use Rattle.lookup.specs.Lookups.{entry_of}
use Rattle.lookup.specs.LookupsLaws.{entries_length}
use Rattle.lookup.specs.Backed.{by_entry, by_range, pages_past}
use Rattle.lookup.specs.BackedLaws.{backing_by}
use Rattle.sound_pages.specs.Laid.{Laid}
use Rattle.sound_pages.specs.MappedFit.{fit, all_fit, allows, range_allows}

-- ---- both rules at once

pub all_fit_rules : (m : Machine) → all_rows (λ p q. all_fit m p) 0 m.processes ≡ (r4b m && r5b m)
unfolding r4b r5b
all_fit_rules m =
    rows_agree (λ p q. all_fit m p) (λ p q. all_rows (λ i x. homedb m p x) 0 (mapped_of m p) && all_rows (λ i x. flags_fit m p x) 0 (mapped_of m p)) 0 m.processes (λ p q _. rows_both (λ i x. homedb m p x) (λ i x. flags_fit m p x) 0 (mapped_of m p))
    ∙ rows_both (λ p q. all_rows (λ i x. homedb m p x) 0 (mapped_of m p)) (λ p q. all_rows (λ i x. flags_fit m p x) 0 (mapped_of m p)) 0 m.processes

-- a row that does not fit: not all do
pub one_misfits : (m : Machine) (p i : ℕ) → i < length (mapped_of m p) → fit m p (get_or (mapped_of m p) i no_mapping) ≡ false → all_fit m p ≡ false
one_misfits m p i h e = not_told (tells_rows no_mapping (λ i x. fit m p x) (λ i x. fit m p x ≡ true) (λ i x. tells_bool (fit m p x)) (mapped_of m p)) (λ r. clash (r i h) e)

module _ (m : Machine) (p : ℕ) (x : Mapping) where
  pub homeless : home_of m p x ≡ None → fit m p x ≡ false
  unfolding homedb
  homeless e = rw e

  -- with a home, the test is of what backs the page there
  fit_backed : (s : ℕ) → home_of m p x ≡ Some s → (b : Backed) → b ≡ backing m p s x.page.0 → fit m p x ≡ (same_found (frame_by b) (Some x.frame.0) && flaggedb (region_at m p s) x.flags.0 (holders_by b))
  unfolding homedb flags_fit
  fit_backed s e b f = rw (e, f)

  -- a range's frame of the page, where it has one
  abbrev range_if : Region → Bool → Backed
  range_if r b = cond b (ByRange (record { 0 = r.range.0 + pages_past r x.page.0 }) (backing_at m r.range.0).holders) Unbacked

  range_fit : (r : Region) (b : Bool) → (same_found (frame_by (range_if r b)) (Some x.frame.0) && flaggedb r x.flags.0 (holders_by (range_if r b))) ≡ (b && (eqb (r.range.0 + pages_past r x.page.0) x.frame.0 && flaggedb r x.flags.0 (backing_at m r.range.0).holders))
  range_fit r true = refl
  range_fit r false = refl

  pub through_range : (s : ℕ) → home_of m p x ≡ Some s → None ≡ entry_for m (row_of p s) x.page.0 → fit m p x ≡ range_allows m (region_at m p s) x
  through_range s e none =
      fit_backed s e (by_range m (region_at m p s) x.page.0) (backing_by m p s x.page.0 Unbacked (ap (λ (f : Option ℕ). by_entry m f) none) (region_at m p s) refl _ refl)
      ∙ range_fit (region_at m p s) (is_ranged (region_at m p s) && ltb (pages_past (region_at m p s) x.page.0) (backing_at m (region_at m p s).range.0).len)

  pub through_entry : (s : ℕ) → home_of m p x ≡ Some s → (k : ℕ) → Some k ≡ entry_for m (row_of p s) x.page.0 → (get_or m.entries k no_entry).owner - 1 ≡ row_of p s → fit m p x ≡ allows m (get_or m.entries k no_entry) x
  through_entry s e k found own =
      fit_backed s e (ByEntry k (get_or m.entries k no_entry).frame (backing_at m (get_or m.entries k no_entry).frame.0).holders)
      (backing_by m p s x.page.0 _ (ap (λ (f : Option ℕ). by_entry m f) found) (region_at m p s) refl (by_range m (region_at m p s) x.page.0) refl)
      ∙ ap (λ (n : ℕ). eqb (get_or m.entries k no_entry).frame.0 x.frame.0 && flaggedb (get_or m.regions n no_region) x.flags.0 (backing_at m (get_or m.entries k no_entry).frame.0).holders) (sym own)

-- ---- the entry of a page

-- rows that fail a test are passed
passed_to : {A : Type 0} (f : A → Bool) (l : List A) (n : ℕ) → length l ≡ n → (d : A) (k : ℕ) → k ≤ n → ((i : ℕ) → i < k → f (get_or l i d) ≡ false) → Passed f l n k
passed_to f l n sized d zero h fails = (omega arith, refl)
passed_to f l n sized d (suc k) h fails = subst (λ (j : ℕ). Passed f l n j) (add-one k) (pass_more f l n sized k (passed_to f l n sized d k (omega arith) (λ i j. fails i (omega arith))) (omega arith) d (get_or l k d) refl (fails k (omega arith)))

module _ (w : List ℕ) where
  pub no_entry_there : (row page : ℕ) → ((k : ℕ) → k < 512 → entry_of (row + 1) page (get_or (machine w).entries k no_entry) ≡ false) → None ≡ entry_for (machine w) row page
  unfolding entry_for
  no_entry_there row page none = pass_all (entry_of (row + 1) page) (machine w).entries 512 (entries_length w) 512 (passed_to (entry_of (row + 1) page) (machine w).entries 512 (entries_length w) no_entry 512 (omega arith) none) (omega arith)

  -- entries are one a page: an entry of a region's page is the one that is found
  pub entry_is : Laid (machine w) → (row page k : ℕ) → k < 512 → (get_or (machine w).entries k no_entry).owner ≡ row + 1 → (get_or (machine w).entries k no_entry).page.0 ≡ page → Some k ≡ entry_for (machine w) row page
  unfolding entry_for
  entry_is laid row page k h own at =
      pass_found (entry_of (row + 1) page) (machine w).entries 512 (entries_length w) k (passed_to (entry_of (row + 1) page) (machine w).entries 512 (entries_length w) no_entry k (omega arith) others) h no_entry (get_or (machine w).entries k no_entry) refl
      (rw (eq-eqb (get_or (machine w).entries k no_entry).owner (row + 1) own, eq-eqb (get_or (machine w).entries k no_entry).page.0 page at))
    where
      others : (i : ℕ) → i < k → entry_of (row + 1) page (get_or (machine w).entries i no_entry) ≡ false
      others i l = go (entry_of (row + 1) page (get_or (machine w).entries i no_entry)) refl
        where
          go : (b : Bool) → entry_of (row + 1) page (get_or (machine w).entries i no_entry) ≡ b → b ≡ false
          go false e = refl
          go true e =
              let b = both_true _ _ e in
              let owner = eqb-true _ _ b.0 in
              let paged = eqb-true _ _ b.1 in
              absurd (laid.once_a_page i k l (rw entries_length h) (λ z. omega arith) (owner ∙ sym own) (paged ∙ sym at))
