-- A region cut in two at a page: the low part keeps the slot, the high part goes, pinned and unlisted, to a free one with its page entries.
-- None of its pages from the cut on is mapped.
use Rattle.std.specs.Prelude.{◌≡◌, ◌⊎◌, ◌≢◌, Bool, true, false, ◌&&◌, cond, ℕ, zero, suc, ◌+◌, ◌-◌, ◌*◌, ◌/◌, ◌%◌, ◌≤◌, ◌<◌, length, get_or, eqb, ltb, leb}
use Rattle.std.proofs.Math.Path.{refl, ap, subst}
use Rattle.std.proofs.Common.{sym, ◌∙◌, true≢false, get_or-set_same, get_or-set_other}
use Rattle.std.proofs.Math.Logic.{inl, inr}
use mathlib.Core.List.{List, [], ◌∷◌, map}
use native.Mathlib.Omega.{arith}
use Rattle.std.proofs.Math.Decide.{ℕ_discrete}
use Rattle.std.proofs.Math.ListN.{set, length-set}
use Rattle.std.proofs.lemmas.List.{length-map}
use borrow.Author.Tests.{eqb-true, eqb-false, eq-eqb, ne_eqb, leb-true, leb-false, le-leb, lt-ltb, ltb-true}
use Rattle.model.specs.declared.Entry.{Entry}
use Rattle.model.specs.declared.Region.{Region}
use Rattle.model.specs.declared.Mapping.{Mapping}
use Rattle.laws.specs.Lists.{keep, count}
use Rattle.model.specs.Machine.{Machine, with_region, process_at, region_at, row_of, order_of, mapped_of, no_entry, no_region}
use Rattle.model.specs.Lookup.{contains, is_file}
use Rattle.model.specs.Paging.{page_start}
use Rattle.model.specs.Backing.{backing_at}
use Rattle.model.specs.Create.{one}
use Rattle.model.specs.Carve.{low_part, high_part, give_entries}
use Rattle.model.specs.Pins.{with_pins}
use Rattle.model.specs.Sound.{Used, Apart, Flagged, RegionFits, Limits, EntryFits, Entered, Hold, holders_of}
use Rattle.laws.specs.BoolLaws.{both_true}
use Rattle.laws.specs.In.{In}
use Rattle.keeping.specs.Owing.{row_at, entry_at, Backs, Placed, Owing, Holds, EntryHolds, RangeHolds}
use Rattle.model.specs.HolderLaws.{holding_put, holders_split, holding_cons, weight_taken, weight_unranged, weight_unused}
use Rattle.model.specs.Holders.{entry_hold, range_hold, one_if, weight, entry_taken, range_taken, entries_hold}
use Rattle.keeping.specs.OwingLaws.{open_low, listed_open, listed_row, apart_turn, unowned}
use Rattle.keeping.specs.AlikeLaws.{fits_as, pool_as, sizes_as, by_entry_as}

-- an entry given away
abbrev pub given : ℕ → ℕ → ℕ → Entry → Entry
given src b row e = cond (eqb e.owner (src + 1) && leb (b / 4096) e.page.0) (record { owner = row + 1; page = e.page; frame = e.frame }) e

-- it is given, or it stays
pub data Gives (src b row : ℕ) (e : Entry) : Type 0 where
  gone : e.owner ≡ src + 1 → b / 4096 ≤ e.page.0 → given src b row e ≡ record { owner = row + 1; page = e.page; frame = e.frame } → Gives src b row e
  stays : (e.owner ≡ src + 1 → e.page.0 < b / 4096) → given src b row e ≡ e → Gives src b row e

-- one of the two
pub gives : (src b row : ℕ) (e : Entry) → Gives src b row e
gives src b row e = go (eqb e.owner (src + 1)) refl (leb (b / 4096) e.page.0) refl
  where
    by : (x y : Bool) → eqb e.owner (src + 1) ≡ x → leb (b / 4096) e.page.0 ≡ y
        → given src b row e ≡ cond (x && y) (record { owner = row + 1; page = e.page; frame = e.frame }) e
    by x y p q = λ t. cond (p t && q t) (record { owner = row + 1; page = e.page; frame = e.frame }) e

    go : (x : Bool) → eqb e.owner (src + 1) ≡ x → (y : Bool) → leb (b / 4096) e.page.0 ≡ y → Gives src b row e
    go true p true q = gone (eqb-true _ _ p) (leb-true _ _ q) (by true true p q)
    go true p false q = stays (λ z. leb-false (b / 4096) e.page.0 q) (by true false p q)
    go false p y q = stays (λ z. absurd (eqb-false e.owner (src + 1) p z)) (by false y p q)

-- row by row
pub given_at : (src b row : ℕ) (l : List Entry) (i : ℕ) → get_or (map (given src b row) l) i no_entry ≡ given src b row (get_or l i no_entry)
given_at src b row [] i = sym (free (eqb 0 (src + 1)) (ne_eqb 0 (src + 1) (λ z. omega arith)))
  where
    free : (x : Bool) → x ≡ false
        → cond (x && leb (b / 4096) 0) (record { owner = row + 1; page = record { 0 = 0 }; frame = record { 0 = 0 } }) no_entry ≡ no_entry
    free true e = absurd (true≢false e)
    free false e = refl
given_at src b row (x ∷ l) zero = refl
given_at src b row (x ∷ l) (suc i) = given_at src b row l i

-- the holds stay
given_holds : (src b row f : ℕ) (l : List Entry) → entries_hold (map (given src b row) l) f ≡ entries_hold l f
unfolding count keep
given_holds src b row f [] = refl
given_holds src b row f (e ∷ l) = go (gives src b row e) (given_holds src b row f l)
  where
    head : (x : Entry) → entries_hold (x ∷ map (given src b row) l) f ≡ weight entry_taken entry_hold f x + entries_hold (map (given src b row) l) f
    head x = holding_cons entry_taken entry_hold f x (map (given src b row) l)

    go : Gives src b row e → entries_hold (map (given src b row) l) f ≡ entries_hold l f
        → entries_hold (given src b row e ∷ map (given src b row) l) f ≡ entries_hold (e ∷ l) f
    go (stays p q) ih =
        let a = head (given src b row e) in
        let c = holding_cons entry_taken entry_hold f e l in
        let w = ap (λ (x : Entry). weight entry_taken entry_hold f x) q in
        omega arith
    go (gone p z q) ih =
        let a = head (given src b row e) in
        let c = holding_cons entry_taken entry_hold f e l in
        let w = ap (λ (x : Entry). weight entry_taken entry_hold f x) q in
        let u = weight_taken f (record { owner = row + 1; page = e.page; frame = e.frame }) (λ y. omega arith) in
        let v : weight entry_taken entry_hold f e ≡ one_if (eqb e.frame.0 f) = weight_taken f e (λ y. omega arith) in
        omega arith

-- a region that can be cut at b, and where its high part goes
pub record Cuts (m : Machine) (p s b t : ℕ) : Type 0 where
  pub listed : In s (order_of m p)
  pub unranged : (region_at m p s).ranged ≢ 1
  pub unshared : (region_at m p s).kind ≢ 3
  pub above : (region_at m p s).start.0 < b
  pub below : b < (region_at m p s).start.0 + (region_at m p s).size
  pub page : b % 4096 ≡ 0
  pub small : t < 64
  pub free : (region_at m p t).kind ≡ 0
  pub unmapped : (x : Mapping) → In x (mapped_of m p) → contains (region_at m p s) (page_start x.page.0) ≡ true → x.page.0 < b / 4096

module _ (d : ℕ → ℕ) (m : Machine) (o : Owing d m) (p s b t : ℕ) (k : Cuts m p s b t) where
  abbrev r : Region
  r = region_at m p s

  abbrev src : ℕ
  src = row_of p s

  abbrev row : ℕ
  row = row_of p t

  opened : (process_at m p).opened ≡ 1
  opened = listed_open d m o p s k.listed

  low : p < 8
  low = open_low m o p opened

  is : (s < 64) × Used r
  is = o.listed p s low k.listed

  limits : Limits m r
  limits = (o.regions src).used is.1

  begins : r.start.0 % 4096 ≡ 0
  begins = eqb-true (r.start.0 % 4096) 0 limits.aligned_start

  differ : src ≢ row
  differ e = is.1 (ap (λ (j : ℕ). (row_at m j).kind) e ∙ k.free)

  -- the parts
  abbrev low_r : Region
  low_r = low_part r b

  abbrev high_r : Region
  high_r = with_pins (high_part r b) 1

  -- the machine with both
  abbrev n : Machine
  n = give_entries (with_region (with_region m p s low_r) p t high_r) src b row

  in_table : (j : ℕ) → j < 64 → row_of p j < length m.regions
  in_table j h = let a = o.sizes.regions in let l = low in omega arith

  each : (P : ℕ → Region → Type 0) → P src low_r → P row high_r → ((j : ℕ) → j ≢ src → j ≢ row → P j (row_at m j)) → (j : ℕ) → P j (row_at n j)
  unfolding give_entries
  each P a c else j = go (ℕ_discrete j row) (ℕ_discrete j src)
    where
      first : List Region
      first = set m.regions src low_r

      go : Dec (j ≡ row) → Dec (j ≡ src) → P j (get_or (set first row high_r) j no_region)
      go (yes z) e = subst (λ (i : ℕ). P i (get_or (set first row high_r) i no_region)) (sym z)
          (subst (P row) (sym (get_or-set_same first row high_r no_region (rw length-set (in_table t k.small)))) c)
      go (no z) (yes e) = subst (P j) (sym (get_or-set_other first row j high_r no_region z))
          (subst (λ (i : ℕ). P i (get_or first i no_region)) (sym e) (subst (P src) (sym (get_or-set_same m.regions src low_r no_region (in_table s is.0))) a))
      go (no z) (no e) = subst (P j) (sym (get_or-set_other first row j high_r no_region z ∙ get_or-set_other m.regions src j low_r no_region e)) (else j e z)

  -- its entries
  pub entry_is : (i : ℕ) → entry_at n i ≡ given src b row (entry_at m i)
  unfolding give_entries
  entry_is i = given_at src b row m.entries i

  each_entry : (P : Entry → Type 0) (i : ℕ)
      → ((entry_at m i).owner ≡ src + 1 → b / 4096 ≤ (entry_at m i).page.0 → P (record { owner = row + 1; page = (entry_at m i).page; frame = (entry_at m i).frame }))
      → (((entry_at m i).owner ≡ src + 1 → (entry_at m i).page.0 < b / 4096) → P (entry_at m i)) → P (entry_at n i)
  each_entry P i f g = subst P (sym (entry_is i)) (go (gives src b row (entry_at m i)))
    where
      go : Gives src b row (entry_at m i) → P (given src b row (entry_at m i))
      go (gone a c e) = subst P (sym e) (f a c)
      go (stays a e) = subst P (sym e) (g a)

  no_owner : (i : ℕ) → (entry_at m i).owner ≢ row + 1
  no_owner = unowned m o row k.free

  counts : (f : ℕ) → holders_of n f ≡ holders_of m f
  unfolding give_entries low_part high_part
  counts f =
      let was = holders_split m f in
      let is_now = holders_split n f in
      let e = given_holds src b row f m.entries in
      let a = holding_put range_taken range_hold f no_region m.regions src low_r (in_table s is.0) in
      let c = holding_put range_taken range_hold f no_region (set m.regions src low_r) row high_r (rw length-set (in_table t k.small)) in
      let whole = weight_unranged f r k.unranged in
      let low_weight = weight_unranged f low_r k.unranged in
      let high_weight = weight_unranged f high_r k.unranged in
      let still_free = ap (λ (x : Region). weight range_taken range_hold f x) (get_or-set_other m.regions src row low_r no_region (λ z. differ (sym z))) in
      let free_slot_found = weight_unused f (row_at m row) k.free in
      omega arith

  held_before : (h : Hold) → Holds n h → Holds m h
  unfolding low_part high_part
  held_before h (inl q) =
      inl (each_entry (λ e. e.owner ≢ 0 → h ≡ entry_hold e → EntryHolds m.entries h) q.row
      (λ a c u e. record { row = q.row; taken = λ z. omega arith; is = e }) (λ a u e. record { row = q.row; taken = u; is = e }) q.taken q.is)
  held_before h (inr q) =
      inr (each (λ j x. Used x → x.ranged ≡ 1 → h ≡ range_hold x → RangeHolds m.regions h) (λ u z e. absurd (k.unranged z))
      (λ u z e. absurd (k.unranged z)) (λ j w v u z e. record { row = j; taken = u; ranged = z; is = e }) q.row q.taken q.ranged q.is)

  -- ---- the parts

  low_fits : Limits m low_r
  unfolding low_part
  low_fits = let a = k.above in let c = k.below in let e = begins in let f = k.page in let u = limits.user_segment in record {
    kind = limits.kind;
    aligned_start = limits.aligned_start;
    some = omega arith;
    user_segment = omega arith;
    pins = limits.pins;
    flags = limits.flags;
    shared = limits.shared;
    file = λ z. let g = limits.file z in let g1 = g.1.0 in (g.0, (omega arith, (omega arith, g.1.1.1)));
    no_file = λ z. let g = limits.no_file z in let g2 = g.1.1 in (g.0, (g.1.0, omega arith));
    ranged = λ z. absurd (k.unranged z);
    unranged = limits.unranged;
  }

  high_fits : Limits m high_r
  unfolding high_part
  high_fits = let a = k.above in let c = k.below in let e = begins in let f = k.page in let u = limits.user_segment in record {
    kind = limits.kind;
    aligned_start = eq-eqb (b % 4096) 0 f;
    some = omega arith;
    user_segment = omega arith;
    pins = omega arith;
    flags = limits.flags;
    shared = limits.shared;
    file = λ z. let g = limits.file z in let g1 = g.1.0 in let g2 = g.1.1.0 in let o1 : one (is_file r) ≡ 1 = ap one (eq-eqb r.kind 2 z) in (
      g.0,
      (
        subst (λ (i : ℕ). r.offset + i * (b - r.start.0) + (r.size - (b - r.start.0)) ≤ 281474976710656) (sym o1) (omega arith),
        (omega arith, g.1.1.1),
      ),
    );
    no_file = λ z. let g = limits.no_file z in let g1 = g.1.0 in let g2 = g.1.1 in let o0 : one (is_file r) ≡ 0 = ap one (ne_eqb r.kind 2 z) in (
      g.0,
      (subst (λ (i : ℕ). r.offset + i * (b - r.start.0) ≡ 0) (sym o0) (omega arith), omega arith),
    );
    ranged = λ z. absurd (k.unranged z);
    unranged = limits.unranged;
  }

  parts_apart : Apart low_r high_r
  unfolding low_part high_part
  parts_apart = let a = k.above in let e = begins in let f = k.page in inl (omega arith)

  low_apart : (x : Region) → Apart r x → Apart low_r x
  unfolding low_part
  low_apart x (inl h) = let a = k.above in let c = k.below in let e = begins in let f = k.page in inl (omega arith)
  low_apart x (inr h) = inr h

  high_apart : (x : Region) → Apart r x → Apart high_r x
  unfolding high_part
  high_apart x (inl h) = let a = k.above in let c = k.below in let e = begins in let f = k.page in inl (omega arith)
  high_apart x (inr h) = let a = k.above in inr (omega arith)

  same_process : (j : ℕ) → row / 64 ≡ j / 64 → src / 64 ≡ j / 64
  same_process j e = let a = is.0 in let c = k.small in omega arith

  -- the low part, the high part and any other row are apart from each row
  low_apart_all : (j : ℕ) → src ≢ j → src / 64 ≡ j / 64 → Used (row_at n j) → Apart low_r (row_at n j)
  low_apart_all =
      each (λ j y. src ≢ j → src / 64 ≡ j / 64 → Used y → Apart low_r y)
      (λ z e v. absurd (z refl))
      (λ z e v. parts_apart)
      (λ j a c z e v. low_apart (row_at m j) (o.apart src j z e is.1 v))

  high_apart_all : (j : ℕ) → row ≢ j → row / 64 ≡ j / 64 → Used (row_at n j) → Apart high_r (row_at n j)
  high_apart_all =
      each (λ j y. row ≢ j → row / 64 ≡ j / 64 → Used y → Apart high_r y)
      (λ z e v. apart_turn low_r high_r parts_apart)
      (λ z e v. absurd (z refl))
      (λ j a c z e v. high_apart (row_at m j) (o.apart src j (λ w. a (sym w)) (same_process j e) is.1 v))

  other_apart_all : (i : ℕ) → i ≢ src → Used (row_at m i) → (j : ℕ) → i ≢ j → i / 64 ≡ j / 64 → Used (row_at n j) → Apart (row_at m i) (row_at n j)
  other_apart_all i a u =
      each (λ j y. i ≢ j → i / 64 ≡ j / 64 → Used y → Apart (row_at m i) y)
      (λ z e v. apart_turn low_r (row_at m i) (low_apart (row_at m i) (o.apart src i (λ w. a (sym w)) (sym e) is.1 u)))
      (λ z e v. apart_turn high_r (row_at m i) (high_apart (row_at m i) (o.apart src i (λ w. a (sym w)) (same_process i (sym e)) is.1 u)))
      (λ j a' c z e v. o.apart i j z e u v)

  apart : (i j : ℕ) → i ≢ j → i / 64 ≡ j / 64 → Used (row_at n i) → Used (row_at n j) → Apart (row_at n i) (row_at n j)
  apart i j =
      each (λ i x. i ≢ j → i / 64 ≡ j / 64 → Used x → Used (row_at n j) → Apart x (row_at n j))
      (λ z e u v. low_apart_all j z e v)
      (λ z e u v. high_apart_all j z e v)
      (λ i a c z e u v. other_apart_all i a u j z e v)
      i

  -- ---- the entries

  -- both parts are of the kind
  pub kind_low : low_r.kind ≡ r.kind
  unfolding low_part
  kind_low = refl

  pub kind_high : high_r.kind ≡ r.kind
  unfolding high_part
  kind_high = refl

  new_low : row_at n src ≡ low_r
  new_low = each (λ j x. j ≡ src → x ≡ low_r) (λ z. refl) (λ z. absurd (differ (sym z))) (λ j a c z. absurd (a z)) src refl

  -- the high part is in its slot
  pub new_high : row_at n row ≡ high_r
  new_high = each (λ j x. j ≡ row → x ≡ high_r) (λ z. absurd (differ z)) (λ z. refl) (λ j a c z. absurd (c z)) row refl

  old_row : (j : ℕ) → j ≢ src → j ≢ row → row_at n j ≡ row_at m j
  old_row j a c = each (λ i x. i ≡ j → x ≡ row_at m i) (λ z. absurd (a (sym z))) (λ z. absurd (c (sym z))) (λ i a' c' z. refl) j refl

  span : (pg : ℕ) → contains r (page_start pg) ≡ true → (r.start.0 ≤ pg * 4096) × (pg * 4096 < r.start.0 + r.size)
  span pg e = let q = both_true (leb r.start.0 (pg * 4096)) (ltb (pg * 4096) (r.start.0 + r.size)) e in (leb-true _ _ q.0, ltb-true _ _ q.1)

  in_low : (pg : ℕ) → contains r (page_start pg) ≡ true → pg < b / 4096 → contains low_r (page_start pg) ≡ true
  unfolding low_part
  in_low pg e h =
      let q = span pg e in
      let q0 = q.0 in
      let a = k.above in
      let f = k.page in
      rw (le-leb r.start.0 (pg * 4096) q0, lt-ltb (pg * 4096) (r.start.0 + (b - r.start.0)) (omega arith)) refl

  -- and has the pages from the cut on
  pub in_high : (pg : ℕ) → contains r (page_start pg) ≡ true → b / 4096 ≤ pg → contains high_r (page_start pg) ≡ true
  unfolding high_part
  in_high pg e h =
      let q = span pg e in
      let q1 = q.1 in
      let a = k.above in
      let c = k.below in
      let f = k.page in
      rw (le-leb b (pg * 4096) (omega arith), lt-ltb (pg * 4096) (b + (r.size - (b - r.start.0))) (omega arith)) refl

  pub same_backings : (f : ℕ) → backing_at n f ≡ backing_at m f
  unfolding give_entries
  same_backings f = refl

  given_fits : (i : ℕ) → (entry_at m i).owner ≡ src + 1 → b / 4096 ≤ (entry_at m i).page.0
      → EntryFits n (record { owner = row + 1; page = (entry_at m i).page; frame = (entry_at m i).frame })
  given_fits i a c = record {
    free = λ z. absurd (omega arith);
    used = λ u. record {
      owner = let l = low in let q = k.small in omega arith;
      used = subst (λ (x : Region). Used x) (sym at) (λ z. is.1 (sym kind_high ∙ z));
      unshared = subst (λ (x : Region). x.kind ≢ 3) (sym at) (λ z. k.unshared (sym kind_high ∙ z));
      inside = subst (λ (x : Region). contains x (page_start (entry_at m i).page.0) ≡ true) (sym at) (in_high (entry_at m i).page.0 inside c);
      frame = ap (λ x. x.len) (same_backings (entry_at m i).frame.0) ∙ entered.frame;
    };
  }
    where
      entered : Entered m (entry_at m i)
      entered = (o.entries i).used (λ z. omega arith)

      back : (entry_at m i).owner - 1 ≡ src
      back = omega arith

      forth : row + 1 - 1 ≡ row
      forth = omega arith

      at : row_at n (row + 1 - 1) ≡ high_r
      at = ap (λ (j : ℕ). row_at n j) forth ∙ new_high

      inside : contains r (page_start (entry_at m i).page.0) ≡ true
      inside = subst (λ (j : ℕ). contains (row_at m j) (page_start (entry_at m i).page.0) ≡ true) back entered.inside

  kept_fits : (i : ℕ) → ((entry_at m i).owner ≡ src + 1 → (entry_at m i).page.0 < b / 4096) → EntryFits n (entry_at m i)
  kept_fits i a = record { free = (o.entries i).free; used = λ u. entered u ((o.entries i).used u) (ℕ_discrete ((entry_at m i).owner - 1) src) }
    where
      entered : (entry_at m i).owner ≢ 0 → Entered m (entry_at m i) → Dec ((entry_at m i).owner - 1 ≡ src) → Entered n (entry_at m i)
      entered u e (yes z) =
          let own : (entry_at m i).owner ≡ src + 1 = omega (arith, u) in
          let at : row_at n ((entry_at m i).owner - 1) ≡ low_r = ap (λ (j : ℕ). row_at n j) z ∙ new_low in
          record {
            owner = e.owner;
            used = subst (λ (x : Region). Used x) (sym at) (λ y. is.1 (sym kind_low ∙ y));
            unshared = subst (λ (x : Region). x.kind ≢ 3) (sym at) (λ y. k.unshared (sym kind_low ∙ y));
            inside = subst (λ (x : Region). contains x (page_start (entry_at m i).page.0) ≡ true) (sym at)
                (in_low (entry_at m i).page.0 (subst (λ (j : ℕ). contains (row_at m j) (page_start (entry_at m i).page.0) ≡ true) z e.inside) (a own));
            frame = ap (λ x. x.len) (same_backings (entry_at m i).frame.0) ∙ e.frame;
          }
      entered u e (no z) =
          let at = old_row ((entry_at m i).owner - 1) z (λ y. e.used (ap (λ (j : ℕ). (row_at m j).kind) y ∙ k.free)) in
          record {
            owner = e.owner;
            used = subst (λ (x : Region). Used x) (sym at) e.used;
            unshared = subst (λ (x : Region). x.kind ≢ 3) (sym at) e.unshared;
            inside = subst (λ (x : Region). contains x (page_start (entry_at m i).page.0) ≡ true) (sym at) e.inside;
            frame = ap (λ x. x.len) (same_backings (entry_at m i).frame.0) ∙ e.frame;
          }

  once : (i j : ℕ) → i ≢ j → (entry_at n i).owner ≢ 0 → (entry_at n i).owner ≡ (entry_at n j).owner → (entry_at n i).page.0 ≢ (entry_at n j).page.0
  once i j z =
      each_entry (λ x. x.owner ≢ 0 → x.owner ≡ (entry_at n j).owner → x.page.0 ≢ (entry_at n j).page.0) i (λ a c u. of_given a) (λ a u. of_kept u)
    where
      of_given : (entry_at m i).owner ≡ src + 1 → row + 1 ≡ (entry_at n j).owner → (entry_at m i).page.0 ≢ (entry_at n j).page.0
      of_given a =
          each_entry (λ y. row + 1 ≡ y.owner → (entry_at m i).page.0 ≢ y.page.0) j
          (λ b c e. o.once_a_page i j z (λ w. omega arith) (a ∙ sym b))
          (λ b e. absurd (no_owner j (sym e)))

      of_kept : (entry_at m i).owner ≢ 0 → (entry_at m i).owner ≡ (entry_at n j).owner → (entry_at m i).page.0 ≢ (entry_at n j).page.0
      of_kept u =
          each_entry (λ y. (entry_at m i).owner ≡ y.owner → (entry_at m i).page.0 ≢ y.page.0) j
          (λ b c e. absurd (no_owner i e))
          (λ b e. o.once_a_page i j z u e)

  -- ---- the mappings

  backs_still : (at pg base fr : ℕ) → at ≢ row → (at ≡ src → pg < b / 4096) → Backs m at pg base fr → Backs n at pg base fr
  unfolding low_part
  backs_still at pg base fr z f (inl q) = inl (by_entry_as m n at pg base fr q same)
    where
      same : entry_at n q.at ≡ entry_at m q.at
      same = entry_is q.at ∙ go (gives src b row (entry_at m q.at))
        where
          go : Gives src b row (entry_at m q.at) → given src b row (entry_at m q.at) ≡ entry_at m q.at
          go (gone a c e) = let own = q.owner in let g = q.page in let l = f (omega arith) in absurd (omega arith)
          go (stays a e) = e
  backs_still at pg base fr z f (inr q) = go (ℕ_discrete at src)
    where
      go : Dec (at ≡ src) → Backs n at pg base fr
      go (yes e) = absurd (k.unranged (ap (λ (j : ℕ). (row_at m j).ranged) (sym e) ∙ q.ranged))
      go (no e) =
          let same = old_row at e z in
          inr (record {
            none = λ i. each_entry (λ x. x.owner ≡ at + 1 → x.page.0 ≢ pg) i (λ a c w. absurd (z (omega arith))) (λ a w. q.none i w);
            ranged = ap (λ (x : Region). x.ranged) same ∙ q.ranged;
            start = ap (λ (x : Region). x.range.0) same ∙ q.start;
            within = subst (λ (x : Region). pg - x.start.0 / 4096 < (backing_at n base).len) (sym same)
                (subst (λ x. pg - (row_at m at).start.0 / 4096 < x.len) (sym (same_backings base)) q.within);
            frame = q.frame ∙ ap (λ (x : Region). base + (pg - x.start.0 / 4096)) (sym same);
          })

  flag_low : (fl h : ℕ) → Flagged r fl h → Flagged low_r fl h
  unfolding low_part
  flag_low fl h g = record { private = g.private; lone = g.lone; shared = g.shared }

  placed : (p' : ℕ) → p' < 8 → (x : Mapping) → In x (mapped_of m p') → Placed n p' x
  unfolding give_entries order_of
  placed p' h x i = go (ℕ_discrete (row_of p' q.slot) src)
    where
      q : Placed m p' x
      q = o.mapped p' h x i

      lst : (q.slot < 64) × Used (region_at m p' q.slot)
      lst = o.listed p' q.slot h q.listed

      other : row_of p' q.slot ≢ row
      other e = lst.1 (ap (λ (j : ℕ). (row_at m j).kind) e ∙ k.free)

      held : (base : ℕ) → (backing_at m base).holders ≡ (backing_at n base).holders
      held base = ap (λ y. y.holders) (sym (same_backings base))

      go : Dec (row_of p' q.slot ≡ src) → Placed n p' x
      go (yes e) =
          let a = lst.0 in
          let c = is.0 in
          let here : p' ≡ p = omega arith in
          let inside : contains r (page_start x.page.0) ≡ true = subst (λ (j : ℕ). contains (row_at m j) (page_start x.page.0) ≡ true) e q.inside in
          let less = k.unmapped x (subst (λ (j : ℕ). In x (mapped_of m j)) here i) inside in
          let at : region_at n p' q.slot ≡ low_r = ap (λ (j : ℕ). row_at n j) e ∙ new_low in
          let before = subst (λ (j : ℕ). Flagged (row_at m j) x.flags.0 (backing_at m q.base).holders) e q.flagged in
          let flags = flag_low x.flags.0 (backing_at n q.base).holders (subst (λ (c : ℕ). Flagged r x.flags.0 c) (held q.base) before) in
          record {
            slot = q.slot;
            listed = q.listed;
            inside = subst (λ (y : Region). contains y (page_start x.page.0) ≡ true) (sym at) (in_low x.page.0 inside less);
            base = q.base;
            backed = backs_still (row_of p' q.slot) x.page.0 q.base x.frame.0 other (λ z. less) q.backed;
            flagged = subst (λ (y : Region). Flagged y x.flags.0 (backing_at n q.base).holders) (sym at) flags;
          }
      go (no e) =
          let at = old_row (row_of p' q.slot) e other in
          let flags = subst (λ (c : ℕ). Flagged (region_at m p' q.slot) x.flags.0 c) (held q.base) q.flagged in
          record {
            slot = q.slot;
            listed = q.listed;
            inside = subst (λ (y : Region). contains y (page_start x.page.0) ≡ true) (sym at) q.inside;
            base = q.base;
            backed = backs_still (row_of p' q.slot) x.page.0 q.base x.frame.0 other (λ z. absurd (e z)) q.backed;
            flagged = subst (λ (y : Region). Flagged y x.flags.0 (backing_at n q.base).holders) (sym at) flags;
          }

  fits_now : (x : Region) → RegionFits m x → RegionFits n x
  unfolding give_entries
  fits_now x f = fits_as m n x refl (λ u e. refl) f

  -- the cut machine keeps the rules
  pub cut_kept : Owing d n
  unfolding give_entries order_of mapped_of
  cut_kept = record {
    sizes = sizes_as m n refl (length-set (set m.regions src low_r) row high_r ∙ length-set m.regions src low_r) refl refl
        (length-map m.entries (given src b row)) refl refl refl refl o.sizes;
    pool = pool_as m n refl refl refl o.pool;
    counted = λ f. o.counted f ∙ ap (λ (c : ℕ). c + d f) (sym (counts f));
    held = o.held;
    unheld = o.unheld;
    apart = apart;
    regions = each (λ j x. RegionFits n x) (fits_now low_r (record { free = λ z. absurd (is.1 (sym kind_low ∙ z)); used = λ u. low_fits }))
        (fits_now high_r (record { free = λ z. absurd (is.1 (sym kind_high ∙ z)); used = λ u. high_fits })) (λ j a c. fits_now (row_at m j) (o.regions j));
    entries = λ i. each_entry (EntryFits n) i (given_fits i) (kept_fits i);
    once_a_page = once;
    one_page = λ h g a c. o.one_page h g (held_before h a) (held_before g c);
    closed = o.closed;
    empty = each (λ j x. (process_at m (j / 64)).opened ≢ 1 → x.kind ≡ 0) (λ u. absurd (u (subst (λ (j : ℕ). (process_at m j).opened ≡ 1) (sym src_of) opened)))
        (λ u. absurd (u (subst (λ (j : ℕ). (process_at m j).opened ≡ 1) (sym row_of_process) opened))) (λ j a c. o.empty j);
    arenas = o.arenas;
    listed = λ p' s' h i. let l = o.listed p' s' h i in (
      l.0,
      each (λ j x. Used (row_at m j) → Used x) (λ u z. is.1 (sym kind_low ∙ z)) (λ u z. is.1 (sym kind_high ∙ z)) (λ j a c u. u) (row_of p' s') l.1,
    );
    once = o.once;
    pinned = each (λ j x. Used x → In (j % 64) (order_of m (j / 64)) ⊎ (1 ≤ x.pins)) (λ u. pinned_low) (λ u. inr (omega arith)) (λ j a c. o.pinned j);
    order_rest = o.order_rest;
    paged = λ p' h. let q = o.paged p' h in record { rising = q.rising; free = q.free };
    mapped = placed;
  }
    where
      src_of : src / 64 ≡ p
      src_of = let a = is.0 in omega arith

      row_of_process : row / 64 ≡ p
      row_of_process = let a = k.small in omega arith

      pinned_low : In (src % 64) (order_of m (src / 64)) ⊎ (1 ≤ low_r.pins)
      pinned_low = inl (listed_row m p s is.0 k.listed)
