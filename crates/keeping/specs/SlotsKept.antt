-- A region's row replaced, set free, or put into a free slot. A range's holder is owed once its row is free, and paid by a row that is put.
use Rattle.std.specs.Prelude.{◌≡◌, ◌⊎◌, ◌≢◌, ◌&&◌, not, cond, ℕ, ◌+◌, ◌/◌, ◌%◌, ◌≤◌, ◌<◌, length, set, eqb}
use Rattle.std.proofs.Math.Path.{refl, ap, subst}
use Rattle.std.proofs.Common.{sym, ◌∙◌, inl, arith, length-set, get_or-set_other}
use Rattle.std.proofs.Math.Logic.{inr}
use Rattle.model.specs.declared.Region.{Region}
use Rattle.model.specs.declared.Mapping.{Mapping}
use Rattle.model.specs.Machine.{Machine, with_regions, process_at, row_of, order_of, mapped_of, no_region}
use Rattle.model.specs.Backing.{backing_at}
use Rattle.model.specs.Create.{one}
use Rattle.model.specs.Sound.{Used, Apart, Flagged, RegionFits, Hold, holders_of}
use Rattle.laws.specs.SetLaws.{each_row}
use Rattle.laws.specs.In.{In}
use Rattle.keeping.specs.Owing.{row_at, entry_at, Placed, Owing, Holds, Agree, Unlisted}
use Rattle.model.specs.HolderLaws.{holding_put, holders_split, weight_ranged, weight_unranged, weight_unused}
use Rattle.model.specs.Holders.{range_hold, one_if, weight, range_taken}
use Rattle.keeping.specs.OwingLaws.{used_there, apart_turn}
use Rattle.keeping.specs.HomesLaws.{agree_more}
use Rattle.keeping.specs.AlikeLaws.{alike_is, fits_as, entry_as, placed_as, pool_as, Alike, sizes_as}
use Rattle.keeping.specs.BackingsKept.{more}

-- the holder that a region's range is
abbrev pub owes : Region → (ℕ → ℕ) → ℕ → ℕ
owes r d g = d g + weight range_taken range_hold g r

-- a range owes one holder
pub owes_range : (r : Region) (d : ℕ → ℕ) → Used r → r.ranged ≡ 1 → owes r d ≡ more r.range.0 d
owes_range r d u e = λ t g. d g + weight_ranged g r u e t

-- no range owes none
pub owes_nothing : (r : Region) (d : ℕ → ℕ) → r.ranged ≢ 1 → (g : ℕ) → owes r d g ≡ d g
owes_nothing r d e g = let none = weight_unranged g r e in omega arith

-- a row of the regions replaced
module _ (m : Machine) (row : ℕ) (inside : row < length m.regions) (r : Region) where
  abbrev n : Machine
  n = with_regions m (set m.regions row r)

  each : (P : ℕ → Region → Type 0) → P row r → ((i : ℕ) → i ≢ row → P i (row_at m i)) → (i : ℕ) → P i (row_at n i)
  each P here else = each_row m.regions row r no_region inside P here else

  stays : (i : ℕ) → i ≢ row → row_at n i ≡ row_at m i
  stays i z = get_or-set_other m.regions row i r no_region z

  -- the holders counted: the old row's go, the new row's come
  pub row_counts : (f : ℕ) → holders_of n f + weight range_taken range_hold f (row_at m row) ≡ holders_of m f + weight range_taken range_hold f r
  row_counts f =
      let was = holders_split m f in
      let is = holders_split n f in
      let put = holding_put range_taken range_hold f no_region m.regions row r inside in
      omega arith

  placed_still : {d : ℕ → ℕ} → Owing d m → Unlisted m row → (p : ℕ) → p < 8 → (x : Mapping) → In x (mapped_of m p)
      → Placed n p x
  unfolding order_of
  placed_still o unlisted p h x i =
      let k = o.mapped p h x i in
      let same = stays (row_of p k.slot) (unlisted p k.slot h k.listed) in
      placed_as m n p x k k.listed (λ j. refl) (alike_is same) refl
      (subst (λ (y : Region). Flagged y x.flags.0 (backing_at m k.base).holders) (sym same) k.flagged)

-- ---- replaced by one that differs in flags, pins and what else the other tables do not see

apart_as : (r x r' x' : Region) → Alike r r' → Alike x x' → Apart r x → Apart r' x'
apart_as r x r' x' a b h = go h
  where
    begins : (r'.start.0 ≡ r.start.0) × (x'.start.0 ≡ x.start.0)
    begins = (ap (λ y. y.0) a.start, ap (λ y. y.0) b.start)

    go : Apart r x → Apart r' x'
    go (inl h) = let s = begins.0 in let t = begins.1 in let u = a.size in inl (omega arith)
    go (inr h) = let s = begins.0 in let t = begins.1 in let u = b.size in inr (omega arith)

hold_as : {r x : Region} → Alike r x → range_hold x ≡ range_hold r
hold_as a = λ t. record { frame = (a.range t).0; page = (a.start t).0 / 4096; shared = one (eqb (a.kind t) 3) }

weight_as : {r x : Region} (f : ℕ) → Alike r x → weight range_taken range_hold f x ≡ weight range_taken range_hold f r
weight_as f a = λ t. cond (not (eqb (a.kind t) 0) && eqb (a.ranged t) 1) (one_if (eqb (a.range t).0 f)) 0

module _ (m : Machine) (row : ℕ) (used : Used (row_at m row)) (r : Region) (alike : Alike (row_at m row) r) where
  -- every row is like the one it was
  pub rows_alike : (i : ℕ) → Alike (row_at m i) (row_at (with_regions m (set m.regions row r)) i)
  rows_alike = each m row (used_there m row used) r (λ i x. Alike (row_at m i) x) alike (λ i z. alike_is refl)

module _ (d : ℕ → ℕ) (m : Machine) (o : Owing d m) (row : ℕ) (used : Used (row_at m row)) (r : Region) (alike : Alike (row_at m row) r) (fits : RegionFits m r)
    (pins : In (row % 64) (order_of m (row / 64)) ⊎ (1 ≤ r.pins))
    (flags : (p : ℕ) → p < 8 → (x : Mapping) → In x (mapped_of m p) → (k : Placed m p x) → row_of p k.slot ≡ row
    → Flagged r x.flags.0 (backing_at m k.base).holders) where
  abbrev changed : Machine
  changed = with_regions m (set m.regions row r)

  inside : row < length m.regions
  inside = used_there m row used

  rows : (i : ℕ) → Alike (row_at m i) (row_at changed i)
  rows = rows_alike m row used r alike

  used_as : (i : ℕ) → Used (row_at changed i) → Used (row_at m i)
  used_as i u z = u ((rows i).kind ∙ z)

  counts : (f : ℕ) → holders_of changed f ≡ holders_of m f
  counts f = let put = row_counts m row inside r f in let same = weight_as f alike in omega arith

  held_as : (h : Hold) → Holds changed h → Holds m h
  held_as h (inl k) = inl k
  held_as h (inr k) = inr (record {
    row = k.row;
    taken = used_as k.row k.taken;
    ranged = sym (rows k.row).ranged ∙ k.ranged;
    is = k.is ∙ hold_as (rows k.row);
  })

  mapped : (p : ℕ) → p < 8 → (x : Mapping) → In x (mapped_of changed p) → Placed changed p x
  unfolding order_of mapped_of
  mapped p h x i =
      let k = o.mapped p h x i in
      placed_as m changed p x k k.listed (λ j. refl) (rows (row_of p k.slot)) refl
      (each m row inside r (λ j y. row_of p k.slot ≡ j → Flagged y x.flags.0 (backing_at m k.base).holders) (flags p h x i k)
      (λ j z e. subst (λ (t : ℕ). Flagged (row_at m t) x.flags.0 (backing_at m k.base).holders) e k.flagged) (row_of p k.slot) refl)

  -- the row replaced
  pub row_kept : Owing d changed
  unfolding order_of mapped_of
  row_kept = record {
    sizes = sizes_as m changed refl (length-set m.regions row r) refl refl refl refl refl refl refl o.sizes;
    pool = pool_as m changed refl refl refl o.pool;
    counted = λ f. o.counted f ∙ ap (λ (k : ℕ). k + d f) (sym (counts f));
    held = o.held;
    unheld = o.unheld;
    apart = λ i j z e u v. apart_as (row_at m i) (row_at m j) (row_at changed i) (row_at changed j) (rows i) (rows j)
        (o.apart i j z e (used_as i u) (used_as j v));
    regions = each m row inside r (λ i x. RegionFits changed x) (fits_as m changed r refl (λ u e. refl) fits)
        (λ i z. fits_as m changed (row_at m i) refl (λ u e. refl) (o.regions i));
    entries = λ i. entry_as m changed _ (λ u. rows _) (λ u. refl) (o.entries i);
    once_a_page = o.once_a_page;
    one_page = λ h k a b. o.one_page h k (held_as h a) (held_as k b);
    closed = o.closed;
    empty = λ i u. (rows i).kind ∙ o.empty i u;
    arenas = o.arenas;
    listed = λ p t h k. let l = o.listed p t h k in (l.0, λ z. l.1 (sym (rows (row_of p t)).kind ∙ z));
    once = o.once;
    pinned = each m row inside r (λ i x. Used x → In (i % 64) (order_of m (i / 64)) ⊎ (1 ≤ x.pins)) (λ u. pins) (λ i z. o.pinned i);
    order_rest = o.order_rest;
    paged = λ p h. let k = o.paged p h in record { rising = k.rising; free = k.free };
    mapped = mapped;
  }

-- ---- set free

module _ (d : ℕ → ℕ) (m : Machine) (o : Owing d m) (row : ℕ) (used : Used (row_at m row)) (unlisted : Unlisted m row)
    (bare : (i : ℕ) → (entry_at m i).owner ≢ row + 1) where
  there : row < length m.regions
  there = used_there m row used

  abbrev freed : Machine
  freed = with_regions m (set m.regions row no_region)

  held_before : (h : Hold) → Holds freed h → Holds m h
  held_before h (inl k) = inl k
  held_before h (inr k) =
      each m row there no_region (λ j y. Used y → y.ranged ≡ 1 → h ≡ range_hold y → Holds m h) (λ u q e. absurd (u refl))
      (λ j z u q e. inr (record { row = j; taken = u; ranged = q; is = e })) k.row k.taken k.ranged k.is

  -- a slot that no process lists, and that no entry names, set free
  pub slot_freed : Owing (owes (row_at m row) d) freed
  unfolding order_of mapped_of
  slot_freed = record {
    sizes = sizes_as m freed refl (length-set m.regions row _) refl refl refl refl refl refl refl o.sizes;
    pool = pool_as m freed refl refl refl o.pool;
    counted = λ g. let a = o.counted g in let b = row_counts m row there no_region g in omega arith;
    held = o.held;
    unheld = o.unheld;
    apart = λ i j z e. each m row there no_region (λ i y. i ≢ j → i / 64 ≡ j / 64 → Used y → Used (row_at freed j) → Apart y (row_at freed j))
        (λ z e u v. absurd (u refl)) (λ i w z e u. each m row there no_region (λ j y. i ≢ j → i / 64 ≡ j / 64 → Used y → Apart (row_at m i) y)
        (λ z e v. absurd (v refl)) (λ j q z e v. o.apart i j z e u v) j z e) i z e;
    regions = each m row there no_region (λ i y. RegionFits freed y) (record { free = λ z. refl; used = λ u. absurd (u refl) })
        (λ i z. fits_as m freed (row_at m i) refl (λ u e. refl) (o.regions i));
    entries = λ i. entry_as m freed _ (λ u. alike_is (stays m row there no_region _ (λ z. bare i (omega (arith, u))))) (λ u. refl) (o.entries i);
    once_a_page = o.once_a_page;
    one_page = λ h k a b. o.one_page h k (held_before h a) (held_before k b);
    closed = o.closed;
    empty = each m row there no_region (λ i y. (process_at m (i / 64)).opened ≢ 1 → y.kind ≡ 0) (λ u. refl) (λ i z. o.empty i);
    arenas = o.arenas;
    listed = λ p t h k. let l = o.listed p t h k in (
      l.0,
      subst (λ (y : Region). Used y) (sym (stays m row there no_region (row_of p t) (unlisted p t h k))) l.1,
    );
    once = o.once;
    pinned = each m row there no_region (λ i y. Used y → In (i % 64) (order_of m (i / 64)) ⊎ (1 ≤ y.pins)) (λ u. absurd (u refl)) (λ i z. o.pinned i);
    order_rest = o.order_rest;
    paged = λ p h. let k = o.paged p h in record { rising = k.rising; free = k.free };
    mapped = placed_still m row there no_region o unlisted;
  }

-- ---- put: detached and pinned at first

-- what the row has to be
pub record RegionNew (m : Machine) (row : ℕ) (r : Region) : Type 0 where
  pub inside : row < length m.regions
  pub free : (row_at m row).kind ≡ 0
  pub used : Used r
  pub pinned : 1 ≤ r.pins
  pub fits : RegionFits m r
  pub opened : (process_at m (row / 64)).opened ≡ 1
  pub apart : (j : ℕ) → j ≢ row → row / 64 ≡ j / 64 → Used (row_at m j) → Apart r (row_at m j)
  pub agree : r.ranged ≡ 1 → (h : Hold) → Holds m h → h.frame ≡ r.range.0 → (h.page ≡ r.start.0 / 4096) × (h.shared ≡ (range_hold r).shared)

module _ (d : ℕ → ℕ) (m : Machine) (row : ℕ) (r : Region) (o : Owing (owes r d) m) (new : RegionNew m row r) where
  abbrev filled : Machine
  filled = with_regions m (set m.regions row r)

  unlisted_yet : Unlisted m row
  unlisted_yet p t h k z = (o.listed p t h k).1 (ap (λ (j : ℕ). (row_at m j).kind) z ∙ new.free)

  no_range : (g : ℕ) → weight range_taken range_hold g (row_at m row) ≡ 0
  no_range g = weight_unused g (row_at m row) new.free

  held_now : (h : Hold) → Holds filled h → ((h ≡ range_hold r) × (r.ranged ≡ 1)) ⊎ Holds m h
  held_now h (inl k) = inr (inl k)
  held_now h (inr k) =
      each m row new.inside r (λ j y. Used y → y.ranged ≡ 1 → h ≡ range_hold y → ((h ≡ range_hold r) × (r.ranged ≡ 1)) ⊎ Holds m h) (λ u q e. inl (e, q))
      (λ j z u q e. inr (inr (record { row = j; taken = u; ranged = q; is = e }))) k.row k.taken k.ranged k.is

  agree : (h k : Hold) → ((h ≡ range_hold r) × (r.ranged ≡ 1)) ⊎ Holds m h → ((k ≡ range_hold r) × (r.ranged ≡ 1)) ⊎ Holds m k → Agree h k
  agree = agree_more m (range_hold r) (r.ranged ≡ 1) o.one_page new.agree

  -- the new row and each other are apart from each row
  new_apart : (j : ℕ) → row ≢ j → row / 64 ≡ j / 64 → Used (row_at filled j) → Apart r (row_at filled j)
  new_apart =
      each m row new.inside r (λ j y. row ≢ j → row / 64 ≡ j / 64 → Used y → Apart r y)
      (λ z e v. absurd (z refl))
      (λ j w z e v. new.apart j w e v)

  old_apart : (i : ℕ) → i ≢ row → Used (row_at m i) → (j : ℕ) → i ≢ j → i / 64 ≡ j / 64 → Used (row_at filled j) → Apart (row_at m i) (row_at filled j)
  old_apart i w u =
      each m row new.inside r (λ j y. i ≢ j → i / 64 ≡ j / 64 → Used y → Apart (row_at m i) y)
      (λ z e v. apart_turn r (row_at m i) (new.apart i w (sym e) u))
      (λ j q z e v. o.apart i j z e u v)

  apart_all : (i j : ℕ) → i ≢ j → i / 64 ≡ j / 64 → Used (row_at filled i) → Used (row_at filled j) → Apart (row_at filled i) (row_at filled j)
  apart_all i j =
      each m row new.inside r (λ i y. i ≢ j → i / 64 ≡ j / 64 → Used y → Used (row_at filled j) → Apart y (row_at filled j))
      (λ z e u v. new_apart j z e v)
      (λ i w z e u v. old_apart i w u j z e v)
      i

  -- the row put, detached and pinned
  pub slot_put : Owing d filled
  unfolding order_of mapped_of
  slot_put = record {
    sizes = sizes_as m filled refl (length-set m.regions row _) refl refl refl refl refl refl refl o.sizes;
    pool = pool_as m filled refl refl refl o.pool;
    counted = λ g. let a = o.counted g in let b = row_counts m row new.inside r g in let c = no_range g in omega arith;
    held = o.held;
    unheld = o.unheld;
    apart = apart_all;
    regions = each m row new.inside r (λ i y. RegionFits filled y) (fits_as m filled r refl (λ u e. refl) new.fits)
        (λ i z. fits_as m filled (row_at m i) refl (λ u e. refl) (o.regions i));
    entries = λ i. entry_as m filled _
        (λ u. alike_is (stays m row new.inside r _ (λ z. ((o.entries i).used u).used (ap (λ (j : ℕ). (row_at m j).kind) z ∙ new.free)))) (λ u. refl)
        (o.entries i);
    once_a_page = o.once_a_page;
    one_page = λ h k a b. agree h k (held_now h a) (held_now k b);
    closed = o.closed;
    empty = each m row new.inside r (λ i y. (process_at m (i / 64)).opened ≢ 1 → y.kind ≡ 0) (λ u. absurd (u new.opened)) (λ i z. o.empty i);
    arenas = o.arenas;
    listed = λ p t h k. let l = o.listed p t h k in (
      l.0,
      subst (λ (y : Region). Used y) (sym (stays m row new.inside r (row_of p t) (unlisted_yet p t h k))) l.1,
    );
    once = o.once;
    pinned = each m row new.inside r (λ i y. Used y → In (i % 64) (order_of m (i / 64)) ⊎ (1 ≤ y.pins)) (λ u. inr new.pinned) (λ i z. o.pinned i);
    order_rest = o.order_rest;
    paged = λ p h. let k = o.paged p h in record { rising = k.rising; free = k.free };
    mapped = placed_still m row new.inside r o unlisted_yet;
  }
