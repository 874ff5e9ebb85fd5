-- Where creation puts a region: page-aligned, below the end of user addresses, and apart from every region of the process.
use Rattle.std.specs.Prelude.{◌≡◌, ◌⊎◌, ◌&&◌, ◌||◌, not, List, [], ◌∷◌, leb, Option, Some, None}
use Rattle.std.proofs.Math.Path.{refl, ap, sym, subst}
use Rattle.std.proofs.Common.{◌∙◌, inl, inr, true≢false}
use Rattle.std.proofs.Math.Bool.{Bool, true, false, cond}
use Prim.Native.Nat.{ℕ, zero, suc, ◌+◌, ◌-◌, ◌*◌, ◌%◌, ◌≤◌, ◌<◌}
use native.Mathlib.Omega.{arith}
use Rattle.std.proofs.Math.Dec.{eqb, ltb}
use borrow.Author.Tests.{eqb-true, eqb-false, eq-eqb, ne_eqb, ltb-false, leb-true, leb-false, not-false}
use Rattle.laws.specs.ResultLaws.{none_not_some, some_not_none, some_same}
use Rattle.laws.specs.TellsLaws.{told}
use Rattle.address.specs.Pages.{aligned}
use Rattle.segment.specs.declared.Segment.{Segment}
use Rattle.segment.specs.Form.{start_of, overb, beforeb}
use Rattle.segment.specs.FormLaws.{over_tells}
use Rattle.segment_search.specs.Search.{first_over, try, tries, search, ahead}
use Rattle.segments.specs.Table.{insert, empty}
use Rattle.segments.specs.PositionLaws.{held_stored}
use Rattle.segments.specs.Calls.{segment, is_in, overlapsb, lowest}
use Rattle.model.specs.declared.Region.{Region}
use Rattle.model.specs.declared.Place.{Place}
use Rattle.model.specs.Machine.{Machine, process_at, region_at, row_of, no_region, user_end}
use Rattle.model.specs.Lookup.{regions_of, is_used, pages_for, segment_len, segment_end}
use Rattle.model.specs.Segments.{segments_in, segments_of, manager_of, reserved, found_start, lowest_start}
use Rattle.model.specs.Create.{round_up, bad_place, spot}
use Rattle.model.specs.Sound.{Used}
use Rattle.laws.specs.BoolLaws.{or_none}
use Rattle.laws.specs.In.{In}
use Rattle.laws.specs.InLaws.{in_at, in_row, in_later}
use Rattle.laws.specs.ListsLaws.{part_at, part_length}
use Rattle.keeping.specs.Owing.{Owing}
use Rattle.keeping.specs.OwingLaws.{open_low}

-- a region's segment
abbrev segment_for : Region → Segment
segment_for r = segment r.start.0 (segment_len r)

-- ---- the segments of a process

in_insert : (s : Segment) (t : List Segment) → In s (insert s t)
unfolding insert
in_insert s [] = inl refl
in_insert s (x ∷ t) = go (beforeb x s) (in_insert s t)
  where
    go : (b : Bool) → In s (insert s t) → In s (cond b (x ∷ insert s t) (s ∷ x ∷ t))
    go true i = inr i
    go false i = inl refl

insert_in : (x s : Segment) (t : List Segment) → In x t → In x (insert s t)
unfolding insert
insert_in x s [] i = absurd i
insert_in x s (y ∷ t) i = go (beforeb y s) i (insert_in x s t)
  where
    go : (b : Bool) → In x (y ∷ t) → (In x t → In x (insert s t)) → In x (cond b (y ∷ insert s t) (s ∷ y ∷ t))
    go true (inl e) more = inl e
    go true (inr j) more = inr (more j)
    go false j more = inr j

inserted : (x s : Segment) (t : List Segment) → In x (insert s t) → (x ≡ s) ⊎ In x t
unfolding insert
inserted x s [] (inl e) = inl e
inserted x s [] (inr i) = absurd i
inserted x s (y ∷ t) i = go (beforeb y s) i (inserted x s t)
  where
    go : (b : Bool) → In x (cond b (y ∷ insert s t) (s ∷ y ∷ t)) → (In x (insert s t) → (x ≡ s) ⊎ In x t) → (x ≡ s) ⊎ In x (y ∷ t)
    go true (inl e) more = inr (inl e)
    go true (inr j) more = in_later x s y t (more j)
    go false (inl e) more = inl e
    go false (inr j) more = inr j

region_segment : (r : Region) (l : List Region) → In r l → Used r → In (segment_for r) (segments_in l)
unfolding segments_in
region_segment r [] i u = absurd i
region_segment r (x ∷ l) (inl e) u =
    rw (ne_eqb x.kind 0 (λ z. u (ap (λ (y : Region). y.kind) e ∙ z)))
    (subst (λ (y : Region). In (segment_for y) (insert (segment_for x) (segments_in l))) (sym e) (in_insert (segment_for x) (segments_in l)))
region_segment r (x ∷ l) (inr i) u = go (is_used x) (region_segment r l i u)
  where
    go : (b : Bool) → In (segment_for r) (segments_in l) → In (segment_for r) (cond b (insert (segment_for x) (segments_in l)) (segments_in l))
    go true j = insert_in (segment_for r) (segment_for x) (segments_in l) j
    go false j = j

-- every one is of a region
segment_region : (s : Segment) (l : List Region) → In s (segments_in l) → (r : Region) × (In r l × (Used r × (s ≡ segment_for r)))
unfolding segments_in
segment_region s [] i = absurd i
segment_region s (x ∷ l) i = go (eqb x.kind 0) refl i (segment_region s l)
  where
    later : ((r : Region) × (In r l × (Used r × (s ≡ segment_for r)))) → (r : Region) × (In r (x ∷ l) × (Used r × (s ≡ segment_for r)))
    later k = (k.0, (inr k.1.0, k.1.1))

    go : (b : Bool) → eqb x.kind 0 ≡ b → In s (cond (not b) (insert (segment_for x) (segments_in l)) (segments_in l))
        → (In s (segments_in l) → (r : Region) × (In r l × (Used r × (s ≡ segment_for r)))) → (r : Region) × (In r (x ∷ l) × (Used r × (s ≡ segment_for r)))
    go true e j more = later (more j)
    go false e j more = side (inserted s (segment_for x) (segments_in l) j)
      where
        side : (s ≡ segment_for x) ⊎ In s (segments_in l) → (r : Region) × (In r (x ∷ l) × (Used r × (s ≡ segment_for r)))
        side (inl q) = (x, (inl refl, (eqb-false x.kind 0 e, q)))
        side (inr k) = later (more k)

-- ---- what is in the way

none_over : (first last : ℕ) (t : List Segment) → first_over t first last ≡ None → (s : Segment) → In s t → overb s first last ≡ false
unfolding first_over
none_over first last [] e s i = absurd i
none_over first last (x ∷ t) e s i = go (overb x first last) refl e i (none_over first last t)
  where
    go : (b : Bool) → overb x first last ≡ b → cond b (Some x) (first_over t first last) ≡ None → In s (x ∷ t)
        → (first_over t first last ≡ None → (s : Segment) → In s t → overb s first last ≡ false) → overb s first last ≡ false
    go true p q j more = absurd (some_not_none q)
    go false p q (inl j) more = ap (λ (y : Segment). overb y first last) j ∙ p
    go false p q (inr j) more = more q s j

first_member : (first last : ℕ) (t : List Segment) (s : Segment) → first_over t first last ≡ Some s → In s t
unfolding first_over
first_member first last [] s e = absurd (some_not_none (sym e))
first_member first last (x ∷ t) s e = go (overb x first last) e (first_member first last t s)
  where
    go : (b : Bool) → cond b (Some x) (first_over t first last) ≡ Some s → (first_over t first last ≡ Some s → In s t) → In s (x ∷ t)
    go true q more = let same : x ≡ s = cc in inl (sym same)
    go false q more = inr (more q)

-- a start whose segment of some bytes has nothing in its way
abbrev Clear : Machine → ℕ → ℕ → ℕ → Type 0
Clear m p start len = first_over (segments_of m p) start (start + (len - 1)) ≡ None

module _ (d : ℕ → ℕ) (m : Machine) (o : Owing d m) (p : ℕ) (low : p < 8) where
  slot_in : (t : ℕ) → t < 64 → In (region_at m p t) (regions_of m p)
  slot_in t h =
      let size = o.sizes.regions in
      let few = part_length m.regions 64 p (omega arith) in
      subst (λ (r : Region). In r (regions_of m p)) (part_at m.regions 64 p t no_region h) (in_at no_region (regions_of m p) t (omega arith))

  -- a start with nothing in its way is apart from every region
  pub clear_apart : (start size : ℕ) → 1 ≤ size → Clear m p start (round_up size) → (t : ℕ) → t < 64 → Used (region_at m p t)
      → (start + round_up size ≤ (region_at m p t).start.0) ⊎ (segment_end (region_at m p t) ≤ start)
  unfolding segments_of
  clear_apart start size some none t h u = go (leb (start + round_up size) x.start.0) refl (leb (segment_end x) start) refl
    where
      x : Region
      x = region_at m p t

      free : overb (segment_for x) start (start + (round_up size - 1)) ≡ false
      free = none_over start (start + (round_up size - 1)) (segments_in (regions_of m p)) none (segment_for x) (region_segment x (regions_of m p) (slot_in t h) u)

      go : (a : Bool) → leb (start + round_up size) x.start.0 ≡ a → (b : Bool) → leb (segment_end x) start ≡ b
          → (start + round_up size ≤ x.start.0) ⊎ (segment_end x ≤ start)
      go true e b f = inl (leb-true _ _ e)
      go false e true f = inr (leb-true _ _ f)
      go false e false f =
          let k = leb-false (start + round_up size) x.start.0 e in
          let l = leb-false (segment_end x) start f in
          let long = ((o.regions (row_of p t)).used u).some in
          let over = told (over_tells (segment_for x) start (start + (round_up size - 1))) (record { some = λ z. omega arith; reaches = omega arith; begins = omega arith }) in
          absurd (true≢false (sym over ∙ free))

  -- the segments end at pages
  ends_aligned : (s : Segment) → In s (segments_of m p) → (start_of s + s.len) % 4096 ≡ 0
  unfolding segments_of
  ends_aligned s i =
      let k = segment_region s (regions_of m p) i in
      let r = in_row no_region k.0 (regions_of m p) k.1.0 in
      let size = o.sizes.regions in
      let few = part_length m.regions 64 p (omega arith) in
      let inside = r.inside in
      let same : row_of' r.row ≡ k.0 = sym (part_at m.regions 64 p r.row no_region (omega arith)) ∙ r.is in
      let limits = (o.regions (row_of p r.row)).used (subst (λ (y : Region). Used y) (sym same) k.1.1.0) in
      let a = eqb-true (k.0.start.0 % 4096) 0 (subst (λ (y : Region). aligned y.start.0 ≡ true) same limits.aligned_start) in
      let b = ap (λ (y : Segment). (start_of y + y.len) % 4096) k.1.1.1 in
      let c : (k.0.start.0 + pages_for k.0.size * 4096) % 4096 ≡ 0 = omega arith in
      b ∙ c
    where
      row_of' : ℕ → Region
      row_of' j = region_at m p j

-- ---- the search

-- what the search finds
pub record Spot (t : List Segment) (last len a : ℕ) : Type 0 where
  pub page : a % 4096 ≡ 0
  pub fits : a + (len - 1) ≤ last
  pub clear : first_over t a (a + (len - 1)) ≡ None

module _ (t : List Segment) (ends : (s : Segment) → In s t → (start_of s + s.len) % 4096 ≡ 0) (last len : ℕ) where
  tries_spot : (n start r a q : ℕ) → start % 4096 ≡ 0 → tries n t last len start r ≡ Some (a, q) → Spot t last len a
  unfolding tries
  tries_spot zero start r a q z e = absurd (none_not_some e)
  tries_spot (suc n) start r a q z e = go (ltb last (start + (len - 1))) refl (first_over t start (start + (len - 1))) refl e (tries_spot n)
    where
      go : (b : Bool) → ltb last (start + (len - 1)) ≡ b → (f : Option Segment) → first_over t start (start + (len - 1)) ≡ f
          → try (tries n t last len) b f start r ≡ Some (a, q)
          → ((start r a q : ℕ) → start % 4096 ≡ 0 → tries n t last len start r ≡ Some (a, q) → Spot t last len a) → Spot t last len a
      go true u f v w more = absurd (none_not_some w)
      go false u None v w more =
          let same = ap (λ x. x.0) (some_same w) in
          subst (λ (x : ℕ). Spot t last len x) same (record { page = z; fits = ltb-false last (start + (len - 1)) u; clear = v })
      go false u (Some s) v w more = more (start_of s + s.len) (r + 1) a q (ends s (first_member start (start + (len - 1)) t s v)) w

-- ---- the spot of a new region

-- what a new region needs
pub record Room (m : Machine) (p start size : ℕ) : Type 0 where
  pub page : aligned start ≡ true
  pub ends : start + round_up size ≤ user_end
  pub clear : Clear m p start (round_up size)

found_free : (x : Option (ℕ × ℕ)) (a : ℕ) → found_start x ≡ Some a → (r : ℕ) × (x ≡ Some (a, r))
found_free None a e = absurd (none_not_some e)
found_free (Some (b, r)) a e = (r, ap (λ (y : ℕ). Some (y, r)) (some_same e))

module _ (d : ℕ → ℕ) (m : Machine) (o : Owing d m) (p : ℕ) (opened : (process_at m p).opened ≡ 1) (size : ℕ) (some : 1 ≤ size) where
  low : p < 8
  low = open_low m o p opened

  lowest_room : (a : ℕ) → lowest_start m p (round_up size) ≡ Some a → Room m p a size
  unfolding lowest_start lowest manager_of search
  lowest_room a e =
      let found = found_free (lowest (manager_of m p) (round_up size)) a e in
      let table = held_stored (empty (process_at m p).start (process_at m p).size) (segments_of m p) in
      go too_long refl found.0 (ap (λ t. cond too_long None (sought_in t)) (sym table) ∙ found.1)
    where
      too_long : Bool
      too_long = eqb (round_up size) 0 || ltb (process_at m p).size (round_up size)

      sought_in : List Segment → Option (ℕ × ℕ)
      sought_in t = search t ((process_at m p).start.0 + ((process_at m p).size - 1)) (round_up size) (process_at m p).start.0 0

      go : (b : Bool) → too_long ≡ b → (r : ℕ) → cond b None (sought_in (segments_of m p)) ≡ Some (a, r) → Room m p a size
      go true u r w = absurd (none_not_some w)
      go false u r w =
          let arena = o.arenas p low in
          let begin = eqb-true ((process_at m p).start.0 % 4096) 0 arena.aligned_start in
          let end = arena.user_last in
          let small = ltb-false (process_at m p).size (round_up size) (or_none (eqb (round_up size) 0) (ltb (process_at m p).size (round_up size)) u).1 in
          let last : ℕ = (process_at m p).start.0 + ((process_at m p).size - 1) in
          let most : ℕ = suc (ahead (segments_of m p) (process_at m p).start.0) in
          let k = tries_spot (segments_of m p) (ends_aligned d m o p low) last (round_up size) most (process_at m p).start.0 0 a r begin w in
          let fits = k.fits in
          record { page = eq-eqb (a % 4096) 0 k.page; ends = omega arith; clear = k.clear }

  -- what the test of a given start tells
  pub unreserved : (a : ℕ) → reserved m p a (round_up size) ≡ false → Clear m p a (round_up size)
  unfolding reserved overlapsb
  unreserved a e =
      go (first_over (segments_of m p) a (a + (round_up size - 1))) refl
      (subst (λ (b : Bool). (not b && is_in (first_over (segments_of m p) a (a + (round_up size - 1)))) ≡ false) (ne_eqb (round_up size) 0 (λ z. omega arith)) e)
    where
      go : (f : Option Segment) → first_over (segments_of m p) a (a + (round_up size - 1)) ≡ f
          → is_in (first_over (segments_of m p) a (a + (round_up size - 1))) ≡ false → f ≡ None
      go None u w = refl
      go (Some s) u w = absurd (true≢false (ap is_in (sym u) ∙ w))

  -- a given start, or the lowest free one
  pub spot_room : (place : Place) → bad_place place size ≡ false → (a : ℕ) → spot m p place (round_up size) ≡ Some a → Room m p a size
  spot_room Place.Lowest bad a e = lowest_room a e
  spot_room (Place.At x) bad a e = go (reserved m p x.0 (round_up size)) refl e
    where
      go : (b : Bool) → reserved m p x.0 (round_up size) ≡ b → cond b None (Some x.0) ≡ Some a → Room m p a size
      go true u w = absurd (none_not_some w)
      go false u w =
          let b = or_none (not (aligned x.0)) (ltb user_end (x.0 + round_up size)) bad in
          subst (λ (y : ℕ). Room m p y size) (some_same w) (record {
            page = not-false _ b.0;
            ends = ltb-false user_end (x.0 + round_up size) b.1;
            clear = unreserved x.0 u;
          })
