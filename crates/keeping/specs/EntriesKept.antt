-- A page entry put into a free row, which pays a holder that is owed; and one set free, whose holder is owed then.
use Rattle.std.specs.Prelude.{◌≡◌, ◌⊎◌, ◌≢◌, true, false, not, ℕ, ◌+◌, ◌-◌, ◌<◌, length, set, eqb}
use Rattle.std.proofs.Math.Path.{refl}
use Rattle.std.proofs.Common.{ap, sym, subst, ◌∙◌, inl, inr, length-set, get_or-set_other, eqb-true}
use native.Mathlib.Omega.{arith}
use Rattle.model.specs.declared.Entry.{Entry}
use Rattle.model.specs.declared.Mapping.{Mapping}
use Rattle.model.specs.Machine.{Machine, with_entries, row_of, order_of, mapped_of, no_entry}
use Rattle.model.specs.Lookup.{contains, free_entry, row_found, is_found}
use Rattle.model.specs.Paging.{page_start}
use Rattle.model.specs.Backing.{backing_at}
use Rattle.model.specs.Sound.{Used, Hold, EntryFits, holders_of}
use Rattle.laws.specs.SetLaws.{each_row}
use Rattle.laws.specs.In.{In}
use Rattle.model.specs.FoundRowLaws.{first_found}
use Rattle.keeping.specs.Owing.{row_at, entry_at, Backs, Placed, Owing, Holds, Agree}
use Rattle.model.specs.HolderLaws.{holding_put, holders_split, weight_free, weight_taken}
use Rattle.model.specs.Holders.{entry_hold, one_if, weight, entry_taken}
use Rattle.keeping.specs.OwingLaws.{taken_there}
use Rattle.keeping.specs.HomesLaws.{agree_more}
use Rattle.keeping.specs.AlikeLaws.{alike_same, fits_as, entry_as, pool_as, sizes_as, by_entry_as}
use Rattle.keeping.specs.BackingsKept.{more}
use Rattle.model.specs.FoundRowLaws.{found_row}

-- no process maps a page of the region at a row
abbrev pub Unmapped : Machine → ℕ → ℕ → Type 0
Unmapped m row pg = (p : ℕ) → p < 8 → (x : Mapping) → In x (mapped_of m p) → (k : Placed m p x) → row_of p k.slot ≡ row → x.page.0 ≢ pg

-- what one row of the entries does to the counts
module _ (m : Machine) (i : ℕ) (e : Entry) (inside : i < length m.entries) where
  pub entry_counts : (f : ℕ)
      → holders_of (with_entries m (set m.entries i e)) f + weight entry_taken entry_hold f (entry_at m i) ≡ holders_of m f + weight entry_taken entry_hold f e
  entry_counts f =
      let was = holders_split m f in
      let is = holders_split (with_entries m (set m.entries i e)) f in
      let put = holding_put entry_taken entry_hold f no_entry m.entries i e inside in
      omega arith

-- an entry of a row, a page and a frame
abbrev pub entry_on : ℕ → ℕ → ℕ → Entry
entry_on row pg f = record { owner = row + 1; page = record { 0 = pg }; frame = record { 0 = f } }

-- a new entry: what it has to be
pub record EntryNew (m : Machine) (i row pg f : ℕ) : Type 0 where
  pub inside : i < length m.entries
  pub free : (entry_at m i).owner ≡ 0
  pub low : row < 512
  pub used : Used (row_at m row)
  pub unshared : (row_at m row).kind ≢ 3
  pub contained : contains (row_at m row) (page_start pg) ≡ true
  pub none : (j : ℕ) → (entry_at m j).owner ≡ row + 1 → (entry_at m j).page.0 ≢ pg
  pub frame : (backing_at m f).len ≡ 1
  pub agree : (h : Hold) → Holds m h → h.frame ≡ f → (h.page ≡ pg) × (h.shared ≡ 0)
  pub unmapped : Unmapped m row pg

module _ (d : ℕ → ℕ) (m : Machine) (i row pg f : ℕ) (o : Owing (more f d) m) (new : EntryNew m i row pg f) where
  abbrev n : Machine
  n = with_entries m (set m.entries i (entry_on row pg f))

  each : (P : ℕ → Entry → Type 0) → P i (entry_on row pg f) → ((j : ℕ) → j ≢ i → P j (entry_at m j)) → (j : ℕ) → P j (entry_at n j)
  each P here else = each_row m.entries i (entry_on row pg f) no_entry new.inside P here else

  counts : (g : ℕ) → holders_of n g ≡ holders_of m g + one_if (eqb f g)
  counts g =
      let a = entry_counts m i (entry_on row pg f) new.inside g in
      let b = weight_free g (entry_at m i) new.free in
      let c = weight_taken g (entry_on row pg f) (λ z. omega arith) in
      omega arith

  -- a hold is the new one or one from before
  held_as : (h : Hold) → Holds n h → ((h ≡ entry_hold (entry_on row pg f)) × Unit {0}) ⊎ Holds m h
  held_as h (inr k) = inr (inr k)
  held_as h (inl k) =
      each (λ j e. e.owner ≢ 0 → h ≡ entry_hold e → ((h ≡ entry_hold (entry_on row pg f)) × Unit {0}) ⊎ Holds m h) (λ u e. inl (e, tt))
      (λ j z u e. inr (inl (record { row = j; taken = u; is = e }))) k.row k.taken k.is

  agree : (h k : Hold) → ((h ≡ entry_hold (entry_on row pg f)) × Unit {0}) ⊎ Holds m h → ((k ≡ entry_hold (entry_on row pg f)) × Unit {0}) ⊎ Holds m k → Agree h k
  agree = agree_more m (entry_hold (entry_on row pg f)) (Unit {0}) o.one_page (λ u. new.agree)

  once : (j k : ℕ) → j ≢ k → (entry_at n j).owner ≢ 0 → (entry_at n j).owner ≡ (entry_at n k).owner → (entry_at n j).page.0 ≢ (entry_at n k).page.0
  once j k =
      each (λ j e. j ≢ k → e.owner ≢ 0 → e.owner ≡ (entry_at n k).owner → e.page.0 ≢ (entry_at n k).page.0) (λ z u e. of_new z e)
      (λ j y z u e. of_old j z u e) j
    where
      of_new : i ≢ k → row + 1 ≡ (entry_at n k).owner → pg ≢ (entry_at n k).page.0
      of_new =
          each (λ k y. i ≢ k → row + 1 ≡ y.owner → pg ≢ y.page.0)
          (λ z e. absurd (z refl))
          (λ k y z e q. new.none k (sym e) (sym q))
          k

      of_old : (j : ℕ) → j ≢ k → (entry_at m j).owner ≢ 0 → (entry_at m j).owner ≡ (entry_at n k).owner → (entry_at m j).page.0 ≢ (entry_at n k).page.0
      of_old j =
          each (λ k y. j ≢ k → (entry_at m j).owner ≢ 0 → (entry_at m j).owner ≡ y.owner → (entry_at m j).page.0 ≢ y.page.0)
          (λ z u e q. new.none j e q)
          (λ k y z u e. o.once_a_page j k z u e)
          k

  backs : (at pg' base fr : ℕ) → (at ≡ row → pg' ≢ pg) → Backs m at pg' base fr → Backs n at pg' base fr
  backs at pg' base fr z (inl b) = inl (by_entry_as m n at pg' base fr b (get_or-set_other m.entries i b.at (entry_on row pg f) no_entry differ))
    where
      differ : b.at ≢ i
      differ y =
          let own = b.owner in
          let none : (entry_at m b.at).owner ≡ 0 = ap (λ (j : ℕ). (entry_at m j).owner) y ∙ new.free in
          omega arith
  backs at pg' base fr z (inr b) = inr (record {
    none = each (λ j e. e.owner ≡ at + 1 → e.page.0 ≢ pg') (λ q w. z (omega arith) (sym w)) (λ j y. b.none j);
    ranged = b.ranged;
    start = b.start;
    within = b.within;
    frame = b.frame;
  })

  mapped : (p : ℕ) → p < 8 → (x : Mapping) → In x (mapped_of m p) → Placed n p x
  unfolding order_of
  mapped p h x j =
      let k = o.mapped p h x j in
      record {
        slot = k.slot;
        listed = k.listed;
        inside = k.inside;
        base = k.base;
        backed = backs (row_of p k.slot) x.page.0 k.base x.frame.0 (new.unmapped p h x j k) k.backed;
        flagged = k.flagged;
      }

  -- the entry put pays the holder that is owed
  pub entry_kept : Owing d n
  unfolding order_of mapped_of
  entry_kept = record {
    sizes = sizes_as m n refl refl refl refl (length-set m.entries i _) refl refl refl refl o.sizes;
    pool = pool_as m n refl refl refl o.pool;
    counted = λ g. let a = o.counted g in let b = counts g in omega arith;
    held = o.held;
    unheld = o.unheld;
    apart = o.apart;
    regions = λ j. fits_as m n _ refl (λ u e. refl) (o.regions j);
    entries = each (λ j e. EntryFits n e) entered (λ j z. entry_as m n _ (λ u. alike_same _) (λ u. refl) (o.entries j));
    once_a_page = once;
    one_page = λ h k a b. agree h k (held_as h a) (held_as k b);
    closed = o.closed;
    empty = o.empty;
    arenas = o.arenas;
    listed = o.listed;
    once = o.once;
    pinned = o.pinned;
    order_rest = o.order_rest;
    paged = λ p h. let k = o.paged p h in record { rising = k.rising; free = k.free };
    mapped = mapped;
  }
    where
      back : row + 1 - 1 ≡ row
      back = omega arith

      entered : EntryFits n (entry_on row pg f)
      entered = record {
        free = λ z. absurd (omega arith);
        used = λ u. record {
          owner = let l = new.low in omega arith;
          used = subst (λ (k : ℕ). Used (row_at m k)) (sym back) new.used;
          unshared = subst (λ (k : ℕ). (row_at m k).kind ≢ 3) (sym back) new.unshared;
          inside = subst (λ (k : ℕ). contains (row_at m k) (page_start pg) ≡ true) (sym back) new.contained;
          frame = new.frame;
        };
      }

-- the lowest free row
pub free_row : (m : Machine) → not (is_found (free_entry m)) ≡ false
    → (row_found (free_entry m) < length m.entries) × ((entry_at m (row_found (free_entry m))).owner ≡ 0)
unfolding free_entry
free_row m e =
    let k = first_found (λ x. eqb x.owner 0) m.entries (row_found (free_entry m)) no_entry (found_row (free_entry m) e) in
    (k.0, eqb-true _ 0 k.1)

-- ---- an entry set free

module _ (d : ℕ → ℕ) (m : Machine) (o : Owing d m) (i : ℕ) (taken : (entry_at m i).owner ≢ 0)
    (unmapped : Unmapped m ((entry_at m i).owner - 1) (entry_at m i).page.0) where
  abbrev f : ℕ
  f = (entry_at m i).frame.0

  abbrev gone : Machine
  gone = with_entries m (set m.entries i no_entry)

  there : i < length m.entries
  there = taken_there m i taken

  each_left : (P : ℕ → Entry → Type 0) → P i no_entry → ((j : ℕ) → j ≢ i → P j (entry_at m j)) → (j : ℕ) → P j (entry_at gone j)
  each_left P here else = each_row m.entries i no_entry no_entry there P here else

  counts_left : (g : ℕ) → holders_of m g ≡ holders_of gone g + one_if (eqb f g)
  counts_left g =
      let a = entry_counts m i no_entry there g in
      let b = weight_taken g (entry_at m i) taken in
      let c = weight_free g no_entry refl in
      omega arith

  held_before : (h : Hold) → Holds gone h → Holds m h
  held_before h (inr k) = inr k
  held_before h (inl k) =
      each_left (λ j e. e.owner ≢ 0 → h ≡ entry_hold e → Holds m h) (λ u e. absurd (u refl))
      (λ j z u e. inl (record { row = j; taken = u; is = e })) k.row k.taken k.is

  backs_left : (at pg base fr : ℕ) → (at ≡ (entry_at m i).owner - 1 → pg ≢ (entry_at m i).page.0) → Backs m at pg base fr → Backs gone at pg base fr
  backs_left at pg base fr z (inl b) = inl (by_entry_as m gone at pg base fr b same)
    where
      differ : b.at ≢ i
      differ y =
          z (let own = b.owner in let at_i = ap (λ (j : ℕ). (entry_at m j).owner) y in omega arith) (sym b.page ∙ ap (λ (j : ℕ). (entry_at m j).page.0) y)

      same : entry_at gone b.at ≡ entry_at m b.at
      same = get_or-set_other m.entries i b.at no_entry no_entry differ
  backs_left at pg base fr z (inr b) = inr (record {
    none = each_left (λ j e. e.owner ≡ at + 1 → e.page.0 ≢ pg) (λ q w. omega arith) (λ j y. b.none j);
    ranged = b.ranged;
    start = b.start;
    within = b.within;
    frame = b.frame;
  })

  mapped_left : (p : ℕ) → p < 8 → (x : Mapping) → In x (mapped_of m p) → Placed gone p x
  unfolding order_of
  mapped_left p h x j =
      let k = o.mapped p h x j in
      record {
        slot = k.slot;
        listed = k.listed;
        inside = k.inside;
        base = k.base;
        backed = backs_left (row_of p k.slot) x.page.0 k.base x.frame.0 (unmapped p h x j k) k.backed;
        flagged = k.flagged;
      }

  -- an entry set free: its holder is owed
  pub free_kept : Owing (more f d) gone
  unfolding order_of mapped_of
  free_kept = record {
    sizes = sizes_as m gone refl refl refl refl (length-set m.entries i _) refl refl refl refl o.sizes;
    pool = pool_as m gone refl refl refl o.pool;
    counted = λ g. let a = o.counted g in let b = counts_left g in omega arith;
    held = o.held;
    unheld = o.unheld;
    apart = o.apart;
    regions = λ j. fits_as m gone _ refl (λ u e. refl) (o.regions j);
    entries = each_left (λ j e. EntryFits gone e) (record { free = λ z. refl; used = λ u. absurd (u refl) })
        (λ j z. entry_as m gone _ (λ u. alike_same _) (λ u. refl) (o.entries j));
    once_a_page = λ j k z. each_left (λ j e. j ≢ k → e.owner ≢ 0 → e.owner ≡ (entry_at gone k).owner → e.page.0 ≢ (entry_at gone k).page.0)
        (λ y u e. absurd (u refl)) (λ j y w u. each_left (λ k e. j ≢ k → (entry_at m j).owner ≡ e.owner → (entry_at m j).page.0 ≢ e.page.0)
        (λ v e. absurd (u e)) (λ k x v e. o.once_a_page j k v u e) k w) j z;
    one_page = λ h k a b. o.one_page h k (held_before h a) (held_before k b);
    closed = o.closed;
    empty = o.empty;
    arenas = o.arenas;
    listed = o.listed;
    once = o.once;
    pinned = o.pinned;
    order_rest = o.order_rest;
    paged = λ p h. let k = o.paged p h in record { rising = k.rising; free = k.free };
    mapped = mapped_left;
  }
