-- Laws of `MappedMarks`: marks of the mapped rows whose pages have an entry: what the pass over the entries knows, and what it tells of every mapped page.
use Rattle.std.specs.Prelude.{◌≡◌, refl, Bool, true, false, not, List, ℕ, ◌+◌, ◌-◌, ◌*◌, ◌≤◌, ◌<◌, length, get_or, set, replicate, eqb, ltb, leb, Option, Some, None}
use Rattle.std.proofs.Common.{ap, sym, subst, ◌∙◌, arith, get_or-set_same, get_or-set_other, ltb-true, ltb-false, leb-true, eqb-true, lt-ltb, le-leb}
use Rattle.std.proofs.lemmas.Bool.{false≢true}
use Rattle.std.proofs.Math.Decide.{ℕ_discrete}
use Rattle.std.proofs.Math.Numerals.{lt_of_le_of_ne}
use Rattle.std.proofs.lemmas.List.{get_or-replicate}
use Rattle.model.specs.declared.Mapping.{Mapping}
use Rattle.model.specs.declared.Entry.{Entry}
use Rattle.model.specs.Layout.{machine}
use Rattle.model.specs.Machine.{Machine, no_region, no_entry, no_mapping, region_at, row_of, mapped_of}
use Rattle.model.specs.Lookup.{contains}
use Rattle.laws.specs.BoolLaws.{clash, both_true}
use Rattle.model.specs.Paging.{page_start}
use Rattle.model.specs.Sound.{Used, Entered, home_of}
use Rattle.lookup.specs.Lookups.{entry_of}
use Rattle.lookup.specs.LookupsLaws.{entries_length, processes_length}
use Rattle.paging.specs.Place.{page_at}
use Rattle.paging.specs.Order.{Rising}
use Rattle.sound_lists.specs.Marks.{marked}
use Rattle.sound_pages.specs.Laid.{Laid}
use Rattle.sound_pages.specs.MappedHomeLaws.{home_of_is, alone}
use Rattle.sound_pages.specs.MappedFit.{fit, all_fit, allows, range_allows}
use Rattle.sound_pages.specs.MappedFitLaws.{one_misfits, homeless, through_entry, through_range, entry_is, no_entry_there}
use Rattle.sound_pages.specs.MappedMarks.{Standing, Allowed, Seen}

-- pages rise, so a page stands in one row
same_row : (l : List Mapping) → Rising l → (i j : ℕ) → i < length l → j < length l → page_at l i ≡ page_at l j → i ≡ j
same_row l r i j h k e = go (ltb i j) refl (ltb j i) refl
  where
    go : (a : Bool) → ltb i j ≡ a → (b : Bool) → ltb j i ≡ b → i ≡ j
    go true p b q = let x = r i j (ltb-true i j p) k tt in absurd (omega arith)
    go false p true q = let x = r j i (ltb-true j i q) h tt in absurd (omega arith)
    go false p false q = let x = ltb-false i j p in let y = ltb-false j i q in omega arith

-- ---- the pass over the entries

module _ (m : Machine) (p : ℕ) where
  pub seen_none : length (mapped_of m p) ≤ 128 → Seen m p 0 (replicate 128 0)
  seen_none few = record { every = λ k i h. absurd (omega arith); some = λ i h e. absurd (false≢true (sym (blank i (omega arith)) ∙ e)) }
    where
      blank : (i : ℕ) → i < 128 → marked (replicate 128 0) i ≡ false
      blank i h = ap (λ (x : ℕ). not (eqb x 0)) (get_or-replicate 128 i 0 0 h)

  module _ (j : ℕ) (marks : List ℕ) (seen : Seen m p j marks) where
    -- entry j stands in no row
    pub seen_skip : ((i : ℕ) → Standing m p j i → ⊥) → Seen m p (j + 1) marks
    seen_skip none = record { every = λ k i h s. go k i h s (ℕ_discrete k j); some = seen.some }
      where
        go : (k i : ℕ) → k < j + 1 → Standing m p k i → Dec (k ≡ j) → marked marks i ≡ true
        go k i h s (yes e) = absurd (none i (subst (λ (x : ℕ). Standing m p x i) e s))
        go k i h s (no n) = seen.every k i (lt_of_le_of_ne (omega arith) n) s

    -- it stands in row r, which gets a mark
    pub seen_mark : Rising (mapped_of m p) → length (mapped_of m p) ≤ length marks → j < 512 → (r : ℕ) → Standing m p j r → allows m (get_or m.entries j no_entry) (get_or (mapped_of m p) r no_mapping) ≡ true → Seen m p (j + 1) (set marks r 1)
    seen_mark rises few low r stands ok = record { every = λ k i h s. old k i h s (ℕ_discrete i r); some = λ i h e. new i h e (ℕ_discrete i r) }
      where
        here : marked (set marks r 1) r ≡ true
        here = let h = stands.within in ap (λ (x : ℕ). not (eqb x 0)) (get_or-set_same marks r 1 0 (omega arith))

        there : (i : ℕ) → (i ≡ r → ⊥) → marked (set marks r 1) i ≡ marked marks i
        there i n = ap (λ (x : ℕ). not (eqb x 0)) (get_or-set_other marks r i 1 0 n)

        before : (k i : ℕ) → k < j + 1 → Standing m p k i → (i ≡ r → ⊥) → Dec (k ≡ j) → k < j
        before k i h s n (yes e) = absurd (n (same_row (mapped_of m p) rises i r s.within stands.within (s.page ∙ ap (λ (x : ℕ). (get_or m.entries x no_entry).page.0) e ∙ sym stands.page)))
        before k i h s n (no d) = lt_of_le_of_ne (omega arith) d

        old : (k i : ℕ) → k < j + 1 → Standing m p k i → Dec (i ≡ r) → marked (set marks r 1) i ≡ true
        old k i h s (yes e) = subst (λ (x : ℕ). marked (set marks r 1) x ≡ true) (sym e) here
        old k i h s (no n) = there i n ∙ seen.every k i (before k i h s n (ℕ_discrete k j)) s

        new : (i : ℕ) → i < length (mapped_of m p) → marked (set marks r 1) i ≡ true → Dec (i ≡ r) → Allowed m p i
        new i h e (yes q) = subst (λ (x : ℕ). Allowed m p x) (sym q) (record { row = j; low = low; standing = stands; fits = ok })
        new i h e (no n) = seen.some i h (sym (there i n) ∙ e)

-- ---- what an entry and the marks tell of a mapped page

module _ (w : List ℕ) (laid : Laid (machine w)) (p : ℕ) (small : p < 8) where
  abbrev entry : ℕ → Entry
  entry k = get_or (machine w).entries k no_entry

  abbrev row : ℕ → Mapping
  row i = get_or (mapped_of (machine w) p) i no_mapping

  pub rises : Rising (mapped_of (machine w) p)
  rises = (laid.paged p (rw processes_length small)).rising

  -- an entry's region holds the start of its page, so it is the page's home
  owner_home : (k i s : ℕ) → k < 512 → Standing (machine w) p k i → home_of (machine w) p (row i) ≡ Some s → (entry k).owner ≡ row_of p s + 1
  owner_home k i s low st e =
      let b = both_true (ltb (p * 64) (entry k).owner) (leb (entry k).owner (p * 64 + 64)) st.owned in
      let above = ltb-true (p * 64) (entry k).owner b.0 in
      let most = leb-true (entry k).owner (p * 64 + 64) b.1 in
      let t : ℕ = (entry k).owner - 1 - p * 64 in
      let own : (entry k).owner - 1 ≡ row_of p t = omega arith in
      let in_row : k < length (machine w).entries = rw entries_length low in
      let fits : Entered (machine w) (entry k) = (laid.entries k in_row).used (λ z. omega arith) in
      let home = home_of_is w laid p small (row i).page.0 s e in
      let used = subst (λ (n : ℕ). Used (get_or (machine w).regions n no_region)) own fits.used in
      let holds = subst (λ (n : ℕ). contains (get_or (machine w).regions n no_region) (page_start (entry k).page.0) ≡ true) own fits.inside in
      let there = subst (λ (n : ℕ). contains (region_at (machine w) p s) (page_start n) ≡ true) st.page home.holds in
      let same : s ≡ t = alone w laid p small s t (page_start (entry k).page.0) home.low (omega arith) home.used used there holds in
      omega arith

  entry_fit : (k i s : ℕ) → k < 512 → Standing (machine w) p k i → home_of (machine w) p (row i) ≡ Some s → fit (machine w) p (row i) ≡ allows (machine w) (entry k) (row i)
  entry_fit k i s low st e =
      let own = owner_home k i s low st e in
      through_entry (machine w) p (row i) s e k (entry_is w laid (row_of p s) (row i).page.0 k low own (sym st.page)) (omega arith)

  -- an entry that does not allow what is mapped
  pub entry_misfits : (k i : ℕ) → k < 512 → Standing (machine w) p k i → allows (machine w) (entry k) (row i) ≡ false → all_fit (machine w) p ≡ false
  entry_misfits k i low st e = one_misfits (machine w) p i st.within (go (home_of (machine w) p (row i)) refl)
    where
      go : (f : Option ℕ) → home_of (machine w) p (row i) ≡ f → fit (machine w) p (row i) ≡ false
      go None h = homeless (machine w) p (row i) h
      go (Some s) h = entry_fit k i s low st h ∙ e

  module _ (marks : List ℕ) (seen : Seen (machine w) p 512 marks) (i : ℕ) (inside : i < length (mapped_of (machine w) p)) (s : ℕ) (home : home_of (machine w) p (row i) ≡ Some s) where
    pub marked_fits : marked marks i ≡ true → fit (machine w) p (row i) ≡ true
    marked_fits e = let a = seen.some i inside e in entry_fit a.row i s a.low a.standing home ∙ a.fits

    pub unmarked_fits : marked marks i ≡ false → fit (machine w) p (row i) ≡ range_allows (machine w) (region_at (machine w) p s) (row i)
    unmarked_fits e = through_range (machine w) p (row i) s home (no_entry_there w (row_of p s) (row i).page.0 (λ k h. none k h (entry_of (row_of p s + 1) (row i).page.0 (entry k)) refl))
      where
        none : (k : ℕ) → k < 512 → (b : Bool) → entry_of (row_of p s + 1) (row i).page.0 (entry k) ≡ b → b ≡ false
        none k h false q = refl
        none k h true q =
            let b = both_true (eqb (entry k).owner (row_of p s + 1)) (eqb (entry k).page.0 (row i).page.0) q in
            let own = eqb-true (entry k).owner (row_of p s + 1) b.0 in
            let low = (home_of_is w laid p small (row i).page.0 s home).low in
            let above : p * 64 < (entry k).owner = omega arith in
            let most : (entry k).owner ≤ p * 64 + 64 = omega arith in
            clash (seen.every k i h (record { owned = rw (lt-ltb (p * 64) (entry k).owner above, le-leb (entry k).owner (p * 64 + 64) most); within = inside; page = sym (eqb-true (entry k).page.0 (row i).page.0 b.1) })) e
