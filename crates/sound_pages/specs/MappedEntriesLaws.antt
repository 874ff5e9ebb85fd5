-- Laws of `MappedEntries`: the pass over the entries: the row of an entry's page, and what is known after each entry.
use Rattle.std.specs.Prelude.{◌≡◌, refl, Bool, true, false, cond, List, [], ◌∷◌, ℕ, zero, suc, ◌+◌, ◌≤◌, ◌<◌, length, get_or, set, replicate, eqb, ltb, Option, Some, None}
use Rattle.std.proofs.Math.Path.{ap, sym, subst}
use Rattle.std.proofs.Common.{◌∙◌, le_of_suc-le-suc, not-suc-le-zero}
use native.Mathlib.Omega.{arith}
use borrow.Author.Tests.{ltb-true, eqb-true, eq-eqb}
use Rattle.model.specs.declared.Mapping.{Mapping}
use Rattle.model.specs.declared.Entry.{Entry}
use Rattle.model.specs.Layout.{machine}
use Rattle.model.specs.Machine.{Machine, no_entry, no_mapping, mapped_of}
use Rattle.model.specs.Lookup.{row_found}
use Rattle.laws.specs.BoolLaws.{clash, both_true}
use Rattle.model.specs.Paging.{translate}
use Rattle.lookup.specs.LookupsLaws.{mapped_length}
use Rattle.paging.specs.Place.{page_at, stands_at, row_for}
use Rattle.paging.specs.ProcessRows.{rows_of}
use Rattle.paging.specs.ProcessRowsLaws.{mapped_row, mapped_most}
use Rattle.paging.specs.PlaceLaws.{row_inside, translate_missing}
use Rattle.paging.specs.Order.{Rising}
use Rattle.paging.specs.OrderLaws.{stands_mapped, translate_by_is}
use Rattle.sound_pages.specs.Laid.{Laid}
use Rattle.sound_pages.specs.MappedFit.{all_fit, allows}
use Rattle.sound_pages.specs.MappedMarks.{of_process, Standing, Seen}
use Rattle.sound_pages.specs.MappedMarksLaws.{rises, seen_none, seen_skip, seen_mark, entry_misfits}
use Rattle.sound_pages.specs.MappedEntries.{RowOf, After, AfterAll}

-- ---- the row of an entry's page

translate_at : (l : List Mapping) (page i : ℕ) → i < length l → page_at l i ≡ page → translate l page ≡ None → ⊥
unfolding translate
translate_at [] page i h e q = not-suc-le-zero h
translate_at (x ∷ l) page i h e q = go (eqb x.page.0 page) refl q i h e (translate_at l page)
  where
    go : (b : Bool) → eqb x.page.0 page ≡ b → cond b (Some x) (translate l page) ≡ None → (i : ℕ) → i < suc (length l) → page_at (x ∷ l) i ≡ page → ((j : ℕ) → j < length l → page_at l j ≡ page → translate l page ≡ None → ⊥) → ⊥
    go true p q i h e ih = let z : ◌≡◌ {A = ℕ} 0 1 = cc in omega arith
    go false p q zero h e ih = clash (eq-eqb x.page.0 page e) p
    go false p q (suc j) h e ih = ih j (le_of_suc-le-suc h) e q

few : (w : List ℕ) (p : ℕ) → p < 8 → length (mapped_of (machine w) p) ≤ 128
few w p small = mapped_most (machine w) p small (mapped_length w)

module _ (w : List ℕ) (p : ℕ) (small : p < 8) (page : ℕ) where
  pub near_row : (i : ℕ) (b : Bool) → b ≡ stands_at (mapped_of (machine w) p) i page → b ≡ true → (i < 128) × RowOf (mapped_of (machine w) p) page (Some i)
  unfolding RowOf
  near_row i b e t =
      let s = both_true (ltb i (length (mapped_of (machine w) p))) (eqb (page_at (mapped_of (machine w) p) i) page) (sym e ∙ t) in
      let inside = ltb-true i (length (mapped_of (machine w) p)) s.0 in
      let most = few w p small in
      (omega arith, (inside, eqb-true (page_at (mapped_of (machine w) p) i) page s.1))

  pub searched_row : (f : Option ℕ) → f ≡ row_for (mapped_of (machine w) p) page → (row_found f < 128) × (Rising (mapped_of (machine w) p) → RowOf (mapped_of (machine w) p) page f)
  unfolding RowOf
  searched_row (Some i) e = let inside = row_inside (mapped_of (machine w) p) page i e in let most = few w p small in (omega arith, λ r. (inside, (stands_mapped (mapped_of (machine w) p) page i r e).1))
  searched_row None e = (omega arith, λ r i h q. translate_at (mapped_of (machine w) p) page i h q (sym (translate_missing (mapped_of (machine w) p) page e ∙ translate_by_is (mapped_of (machine w) p) page r)))

-- ---- the pass over the entries

pub seen_first : (w : List ℕ) (p : ℕ) → p < 8 → Seen (machine w) p 0 (replicate 128 0)
seen_first w p small = seen_none (machine w) p (few w p small)

module _ (w : List ℕ) (laid : Laid (machine w)) (p : ℕ) (small : p < 8) (j : ℕ) (low : j < 512) (marks : List ℕ) (seen : Seen (machine w) p j marks) (e : Entry) (read : e ≡ get_or (machine w).entries j no_entry) where
  -- an entry of another process
  pub mark_other : of_process p e ≡ false → (n : ℕ) → After (machine w) p (j + 1) marks (Some n)
  unfolding After
  mark_other o n = seen_skip (machine w) p j marks seen (λ i s. clash s.owned (ap (λ (x : Entry). of_process p x) (sym read) ∙ o))

  module _ (f : Option ℕ) (found : Rising (mapped_of (machine w) p) → RowOf (mapped_of (machine w) p) e.page.0 f) where
    -- its page is not mapped
    pub mark_none : f ≡ None → (n : ℕ) → After (machine w) p (j + 1) marks (Some n)
    unfolding After RowOf
    mark_none none n = seen_skip (machine w) p j marks seen (λ i s. nowhere i s.within (s.page ∙ ap (λ (x : Entry). x.page.0) (sym read)))
      where
        nowhere : RowOf (mapped_of (machine w) p) e.page.0 None
        nowhere = subst (λ (g : Option ℕ). RowOf (mapped_of (machine w) p) e.page.0 g) none (found (rises w laid p small))

    module _ (own : of_process p e ≡ true) (i : ℕ) (is_row : f ≡ Some i) (x : Mapping) (is : x ≡ get_or (rows_of (machine w) p) i no_mapping) where
      stands : Standing (machine w) p j i
      unfolding RowOf
      stands = record { owned = ap (λ (x : Entry). of_process p x) (sym read) ∙ own; within = at.0; page = at.1 ∙ ap (λ (x : Entry). x.page.0) read }
        where
          at : RowOf (mapped_of (machine w) p) e.page.0 (Some i)
          at = subst (λ (g : Option ℕ). RowOf (mapped_of (machine w) p) e.page.0 g) is_row (found (rises w laid p small))

      same : allows (machine w) (get_or (machine w).entries j no_entry) (get_or (mapped_of (machine w) p) i no_mapping) ≡ allows (machine w) e x
      same = ap (λ (y : Mapping). allows (machine w) (get_or (machine w).entries j no_entry) y) (sym (is ∙ mapped_row (machine w) p i stands.within)) ∙ ap (λ (y : Entry). allows (machine w) y x) (sym read)

      pub mark_misfit : allows (machine w) e x ≡ false → After (machine w) p (j + 1) marks None
      unfolding After
      mark_misfit refused = entry_misfits w laid p small j i low stands (same ∙ refused)

      pub mark_row : allows (machine w) e x ≡ true → length marks ≡ 128 → (n : ℕ) → After (machine w) p (j + 1) (set marks i 1) (Some n)
      unfolding After
      mark_row ok sized n = let most = few w p small in seen_mark (machine w) p j marks seen (rises w laid p small) (omega arith) low i stands (same ∙ ok)

-- a row that was found is one of the 128
pub row_low : (f : Option ℕ) (i : ℕ) → f ≡ Some i → row_found f < 128 → i < 128
row_low f i e h = subst (λ (g : Option ℕ). row_found g < 128) e h

module _ (m : Machine) (p j : ℕ) (marks : List ℕ) (r : Option ℕ) (after : After m p j marks r) where
  pub after_fits : (n : ℕ) → r ≡ Some n → Seen m p j marks
  unfolding After
  after_fits n e = subst (λ (x : Option ℕ). After m p j marks x) e after

  pub after_misfit : r ≡ None → (new : List ℕ) → AfterAll m p new false
  unfolding After AfterAll
  after_misfit e new = subst (λ (x : Option ℕ). After m p j marks x) e after

pub after_last : (m : Machine) (p i : ℕ) (marks : List ℕ) → i ≤ 512 → 512 ≤ i → Seen m p i marks → AfterAll m p marks true
unfolding AfterAll
after_last m p i marks h k seen = let same : i ≡ 512 = omega arith in subst (λ (j : ℕ). Seen m p j marks) same seen

module _ (m : Machine) (p : ℕ) (marks : List ℕ) (r : Bool) (after : AfterAll m p marks r) where
  pub all_marked : r ≡ true → Seen m p 512 marks
  unfolding AfterAll
  all_marked e = subst (λ (b : Bool). AfterAll m p marks b) e after

  pub some_misfit : r ≡ false → false ≡ all_fit m p
  unfolding AfterAll
  some_misfit e = sym (subst (λ (b : Bool). AfterAll m p marks b) e after)
