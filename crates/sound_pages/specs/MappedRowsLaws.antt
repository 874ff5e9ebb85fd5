-- Laws of `MappedRows`: the place of a page's home, the rows with one home, and what is known after each run of them.
use Rattle.std.specs.Prelude.{◌≡◌, Bool, not, ◌&&◌, ◌||◌, List, [], ◌∷◌, ℕ, ◌+◌, ◌-◌, ◌*◌, ◌%◌, ◌≤◌, ◌<◌, length, get_or, eqb, ltb, leb, Option, Some, None}
use Rattle.std.proofs.Math.Path.{refl, ap, sym, subst}
use Rattle.std.proofs.Common.{◌∙◌, eqb-true}
use Rattle.std.proofs.Math.Bool.{true, false}
use Rattle.std.proofs.Math.Decide.{ℕ_discrete}
use native.Mathlib.Omega.{arith}
use Rattle.model.specs.declared.Mapping.{Mapping}
use Rattle.model.specs.declared.Region.{Region}
use Rattle.address.specs.Pages.{page_of}
use Rattle.model.specs.Layout.{machine}
use Rattle.model.specs.Machine.{Machine, no_mapping, no_region, row_of, region_at, order_of, mapped_of}
use Rattle.model.specs.Lookup.{row_found, contains, pages_for}
use Rattle.model.proofs.PopulateSoundLaws.{place_of}
use Rattle.model.specs.Paging.{page_start}
use Rattle.model.specs.Sound.{home_of}
use Rattle.laws.specs.BoolLaws.{clash}
use Rattle.laws.specs.Lists.{among}
use Rattle.laws.specs.InLaws.{in_at}
use Rattle.laws.specs.InListsLaws.{in_among}
use Rattle.laws.specs.Tests.{all_rows}
use Rattle.laws.specs.TellsLaws.{tells_both, tells_same}
use Rattle.laws.specs.TestLaws.{tells_le, tells_lt, tells_as}
use Rattle.laws.specs.LoopLaws.{every_first, every_fails, every_more, every_all}
use Rattle.lookup.specs.LookupsLaws.{regions_length}
use Rattle.lookup.specs.AttachedLaws.{order_slot}
use Rattle.paging.specs.Place.{page_at}
use Rattle.paging.specs.ProcessRows.{rows_of}
use Rattle.paging.specs.ProcessRowsLaws.{mapped_row}
use Rattle.sound_lists.specs.Marks.{marked}
use Rattle.sound_pages.specs.Laid.{Laid}
use Rattle.sound_pages.specs.MappedHome.{home_at}
use Rattle.sound_pages.specs.MappedHomeLaws.{Home, home_of_is, home_here, attached_used}
use Rattle.sound_pages.specs.MappedFit.{fit, all_fit, range_allows}
use Rattle.sound_pages.specs.MappedFitLaws.{homeless}
use Rattle.sound_pages.specs.MappedMarks.{Seen}
use Rattle.sound_pages.specs.MappedMarksLaws.{marked_fits, unmarked_fits}
use Rattle.sound_pages.specs.MappedRows.{slot_at, Unheld, HeldAt, listed, FitFrom, Ran}

-- ---- the places of a list, one after the other

module _ (m : Machine) (p a from : ℕ) where
  pub held_first : Unheld m p a from from
  held_first j h k = absurd (omega arith)

  module _ (i s : ℕ) (read : s ≡ slot_at m p i) (b : Bool) (test : b ≡ contains (region_at m p s) a) where
    here : contains (region_at m p (slot_at m p i)) a ≡ b
    here = ap (λ (x : ℕ). contains (region_at m p x) a) (sym read) ∙ sym test

    pub held_here : (to : ℕ) → i < to → b ≡ true → HeldAt m p a from to (Some i)
    unfolding HeldAt
    held_here to h t = (h, here ∙ t)

    pub held_more : Unheld m p a from i → b ≡ false → Unheld m p a from (i + 1)
    held_more u f j h k = go (ℕ_discrete j i)
      where
        go : Dec (j ≡ i) → contains (region_at m p (slot_at m p j)) a ≡ false
        go (yes q) = subst (λ (x : ℕ). contains (region_at m p (slot_at m p x)) a ≡ false) (sym q) (here ∙ f)
        go (no n) = u j h (omega (arith, n))

  pub held_none : (i to : ℕ) → Unheld m p a from i → to ≤ i → HeldAt m p a from to None
  unfolding HeldAt
  held_none i to u h = λ j l k. u j l (omega arith)

  pub held_low : (to : ℕ) (f : Option ℕ) → to ≤ 64 → HeldAt m p a from to f → row_found f < 64
  unfolding HeldAt
  held_low to (Some i) h k = let l = k.0 in omega arith
  held_low to None h k = omega arith

-- ---- the place of a page's home

module _ (w : List ℕ) (laid : Laid (machine w)) (p : ℕ) (small : p < 8) (n : ℕ) (sized : n ≡ length (order_of (machine w) p)) (most : n ≤ 64) (page : ℕ) where
  listed_home : (i : ℕ) → i < n → contains (region_at (machine w) p (slot_at (machine w) p i)) (page_start page) ≡ true → Some (slot_at (machine w) p i) ≡ home_at (machine w) p page
  listed_home i h e =
      let s = order_slot w p n sized most i (slot_at (machine w) p i) h refl in
      home_here w laid p small page (slot_at (machine w) p i) (subst (λ (x : ℕ). among x (order_of (machine w) p) ≡ true) (sym s) (in_among (get_or (order_of (machine w) p) i 0) (order_of (machine w) p) (in_at 0 (order_of (machine w) p) i (omega arith)))) e

  -- a place found anywhere is the home's
  pub home_near : (from to i : ℕ) → to ≤ n → (f : Option ℕ) → f ≡ Some i → HeldAt (machine w) p (page_start page) from to f → Some (slot_at (machine w) p i) ≡ home_at (machine w) p page
  unfolding HeldAt
  home_near from to i h f e k =
      let held : HeldAt (machine w) p (page_start page) from to (Some i) = subst (HeldAt (machine w) p (page_start page) from to) e k in
      let l = held.0 in
      listed_home i (omega arith) held.1

  -- and where the whole list has none there is no home
  pub home_any : (f : Option ℕ) → HeldAt (machine w) p (page_start page) 0 n f → listed (machine w) p f ≡ home_at (machine w) p page
  unfolding HeldAt
  home_any (Some i) k = listed_home i k.0 k.1
  home_any None k = go (home_at (machine w) p page) refl
    where
      go : (f : Option ℕ) → home_at (machine w) p page ≡ f → None ≡ home_at (machine w) p page
      go None e = sym e
      go (Some t) e =
          let a = home_of_is w laid p small page t e in
          let q = place_of t (order_of (machine w) p) a.attached in
          let inside = q.inside in
          let below : q.at < n = omega arith in
          let s = order_slot w p n sized most q.at (slot_at (machine w) p q.at) below refl in
          clash (ap (λ (x : ℕ). contains (region_at (machine w) p x) (page_start page)) (s ∙ q.is) ∙ a.holds) (k q.at (omega arith) below)

-- ---- the rows of one home

-- a page starts in a region that begins with a page: counted in pages
pages_contain : (r : Region) (page : ℕ) → eqb (r.start.0 % 4096) 0 ≡ true → (leb (page_of r.start.0) page && ltb (page - page_of r.start.0) (pages_for r.size)) ≡ contains r (page_start page)
pages_contain r page e =
    let z = eqb-true (r.start.0 % 4096) 0 e in
    tells_same
    (tells_as (λ h. (omega (arith, h.0), omega (arith, h.0, h.1))) (λ h. (omega (arith, h.0), omega (arith, h.0, h.1))) (tells_both (tells_le (page_of r.start.0) page) (tells_lt (page - page_of r.start.0) (pages_for r.size))))
    (tells_both (tells_le r.start.0 (page_start page)) (tells_lt (page_start page) (r.start.0 + r.size)))

module _ (w : List ℕ) (laid : Laid (machine w)) (p : ℕ) (small : p < 8) (s : ℕ) (attached : among s (order_of (machine w) p) ≡ true) where
  pub run_low : s < 64
  run_low = (attached_used w laid p small s attached).0

  module _ (r : Region) (here : r ≡ get_or (machine w).regions (p * 64 + s) no_region) where
    -- the test of a page, counted in pages
    pub run_holds : (first n page : ℕ) → first ≡ page_of r.start.0 → n ≡ pages_for r.size → (b : Bool) → b ≡ (leb first page && ltb (page - first) n) → b ≡ contains (region_at (machine w) p s) (page_start page)
    run_holds first n page f k b e =
        let u = attached_used w laid p small s attached in
        let low = u.0 in
        let row : row_of p s < length (machine w).regions = rw regions_length (omega arith) in
        let fits = ((laid.regions (row_of p s) row).used u.1).aligned_start in
        e
        ∙ ap (λ (x : ℕ). leb x page && ltb (page - x) n) f
        ∙ ap (λ (x : ℕ). leb (page_of r.start.0) page && ltb (page - page_of r.start.0) x) k
        ∙ ap (λ (x : Region). leb (page_of x.start.0) page && ltb (page - page_of x.start.0) (pages_for x.size)) here
        ∙ pages_contain (region_at (machine w) p s) page fits

    module _ (from i : ℕ) (inv : FitFrom (machine w) p i) where
      -- no row is left
      pub run_ends : (n : ℕ) → n ≡ length (mapped_of (machine w) p) → n ≤ i → Ran (machine w) p s from (Some n)
      unfolding Ran
      run_ends n sized h =
          let most = inv.0 in
          let same : i ≡ n = omega arith in
          (subst (λ (j : ℕ). FitFrom (machine w) p j) same inv, λ l k. absurd (omega arith))

      module _ (n : ℕ) (sized : n ≡ length (mapped_of (machine w) p)) (below : i < n) (x : Mapping) (is : x ≡ get_or (rows_of (machine w) p) i no_mapping) where
        inside : i < length (mapped_of (machine w) p)
        inside = omega arith

        row : x ≡ get_or (mapped_of (machine w) p) i no_mapping
        row = is ∙ mapped_row (machine w) p i inside

        -- the row starts elsewhere
        pub run_stops : from ≤ i → contains (region_at (machine w) p s) (page_start x.page.0) ≡ false → Ran (machine w) p s from (Some i)
        unfolding Ran
        run_stops h e = (inv, λ l k. first l)
          where
            first : i ≤ from → contains (region_at (machine w) p s) (page_start (page_at (mapped_of (machine w) p) from)) ≡ false
            first l =
                let same : from ≡ i = omega arith in
                ap (λ (j : ℕ). contains (region_at (machine w) p s) (page_start (page_at (mapped_of (machine w) p) j))) same ∙ ap (λ (y : Mapping). contains (region_at (machine w) p s) (page_start y.page.0)) (sym row) ∙ e

        module _ (marks : List ℕ) (seen : Seen (machine w) p 512 marks) (starts : contains (region_at (machine w) p s) (page_start x.page.0) ≡ true) (b : Bool) (test : b ≡ (not (eqb (get_or marks i 0) 0) || range_allows (machine w) r x)) where
          home : home_of (machine w) p (get_or (mapped_of (machine w) p) i no_mapping) ≡ Some s
          home = sym (home_here w laid p small (page_at (mapped_of (machine w) p) i) s attached (ap (λ (y : Mapping). contains (region_at (machine w) p s) (page_start y.page.0)) (sym row) ∙ starts))

          by_mark : (c : Bool) → marked marks i ≡ c → (c || range_allows (machine w) (region_at (machine w) p s) (get_or (mapped_of (machine w) p) i no_mapping)) ≡ fit (machine w) p (get_or (mapped_of (machine w) p) i no_mapping)
          by_mark true k = sym (marked_fits w laid p small marks seen i inside s home k)
          by_mark false k = sym (unmarked_fits w laid p small marks seen i inside s home k)

          tells : fit (machine w) p x ≡ b
          tells =
              ap (λ (y : Mapping). fit (machine w) p y) row
              ∙ sym (by_mark (marked marks i) refl)
              ∙ ap (λ (y : Mapping). not (eqb (get_or marks i 0) 0) || range_allows (machine w) (region_at (machine w) p s) y) (sym row)
              ∙ ap (λ (y : Region). not (eqb (get_or marks i 0) 0) || range_allows (machine w) y x) (sym here)
              ∙ sym test

          pub run_fails : b ≡ false → Ran (machine w) p s from None
          unfolding Ran
          run_fails e = every_fails (λ i x. fit (machine w) p x) (mapped_of (machine w) p) (length (mapped_of (machine w) p)) refl i inv inside no_mapping x row (tells ∙ e)

          pub run_more : b ≡ true → FitFrom (machine w) p (i + 1)
          run_more e = every_more (λ i x. fit (machine w) p x) (mapped_of (machine w) p) (length (mapped_of (machine w) p)) refl i inv inside no_mapping x row (tells ∙ e)

-- ---- the runs, one after the other

pub rows_first : (m : Machine) (p : ℕ) → FitFrom m p 0
rows_first m p = every_first (λ i x. fit m p x) (mapped_of m p) (length (mapped_of m p)) refl

module _ (w : List ℕ) (laid : Laid (machine w)) (p : ℕ) (small : p < 8) (i n : ℕ) (sized : n ≡ length (mapped_of (machine w) p)) (inv : FitFrom (machine w) p i) where
  pub rows_end : n ≤ i → true ≡ all_fit (machine w) p
  rows_end h = every_all (λ i x. fit (machine w) p x) (mapped_of (machine w) p) (length (mapped_of (machine w) p)) refl i inv (omega arith)

  module _ (below : i < n) (x : Mapping) (is : x ≡ get_or (rows_of (machine w) p) i no_mapping) (f : Option ℕ) (found : listed (machine w) p f ≡ home_at (machine w) p x.page.0) where
    first : x ≡ get_or (mapped_of (machine w) p) i no_mapping
    first = is ∙ mapped_row (machine w) p i (omega arith)

    -- a page without a home
    pub rows_lost : f ≡ None → false ≡ all_fit (machine w) p
    rows_lost e =
        let none : home_at (machine w) p x.page.0 ≡ None = sym found ∙ ap (listed (machine w) p) e in
        every_fails (λ i x. fit (machine w) p x) (mapped_of (machine w) p) (length (mapped_of (machine w) p)) refl i inv (omega arith) no_mapping x first (homeless (machine w) p x none)

    module _ (place : ℕ) (at : f ≡ Some place) where
      home_found : home_at (machine w) p x.page.0 ≡ Some (slot_at (machine w) p place)
      home_found = sym found ∙ ap (listed (machine w) p) at

      slot_home : Home w laid p small x.page.0 (slot_at (machine w) p place)
      slot_home = home_of_is w laid p small x.page.0 (slot_at (machine w) p place) home_found

      pub rows_attached : (s : ℕ) → s ≡ slot_at (machine w) p place → among s (order_of (machine w) p) ≡ true
      rows_attached s e = ap (λ (y : ℕ). among y (order_of (machine w) p)) e ∙ slot_home.attached

      module _ (s : ℕ) (e : s ≡ slot_at (machine w) p place) (g : Option ℕ) (ran : Ran (machine w) p s i g) where
        pub rows_fail : g ≡ None → false ≡ all_fit (machine w) p
        unfolding Ran
        rows_fail z = subst (Ran (machine w) p s i) z ran

        pub rows_more : (next : ℕ) → g ≡ Some next → FitFrom (machine w) p next
        unfolding Ran
        rows_more next z = let t : Ran (machine w) p s i (Some next) = subst (Ran (machine w) p s i) z ran in t.0

        -- the run has its first row
        pub rows_stuck : (next : ℕ) → g ≡ Some next → next ≤ i → ⊥
        unfolding Ran
        rows_stuck next z h =
            let t : Ran (machine w) p s i (Some next) = subst (Ran (machine w) p s i) z ran in
            let holds : contains (region_at (machine w) p s) (page_start (page_at (mapped_of (machine w) p) i)) ≡ true = ap (λ (y : ℕ). contains (region_at (machine w) p y) (page_start (page_at (mapped_of (machine w) p) i))) e ∙ ap (λ (y : Mapping). contains (region_at (machine w) p (slot_at (machine w) p place)) (page_start y.page.0)) (sym first) ∙ slot_home.holds in
            clash holds (t.1 h (omega arith))

-- a process without mapped pages
pub none_mapped : (m : Machine) (p n : ℕ) → n ≡ length (mapped_of m p) → n ≡ 0 → true ≡ all_fit m p
unfolding all_rows
none_mapped m p n e z = go (mapped_of m p) (sym e ∙ z)
  where
    go : (l : List Mapping) → length l ≡ 0 → true ≡ all_rows (λ i x. fit m p x) 0 l
    go [] h = refl
    go (x ∷ l) h = absurd (omega arith)
