-- A sound machine keeps the rules in the form of Owing, and owes nothing.
use Rattle.std.specs.Prelude.{◌≡◌, refl, ◌⊎◌, ◌≢◌, Bool, true, false, ℕ, ◌+◌, ◌*◌, ◌/◌, ◌%◌, ◌≤◌, ◌<◌, length, get_or, ltb}
use Rattle.std.proofs.Common.{ap, sym, subst, ◌∙◌, inl, inr, arith, ltb-true, ltb-false}
use Rattle.std.proofs.Math.Decide.{ℕ_discrete}
use Rattle.std.proofs.Math.ListN.{get_or-eq_default}
use Rattle.model.specs.declared.Region.{Region}
use Rattle.model.specs.declared.Entry.{Entry}
use Rattle.model.specs.declared.Backing.{Backing}
use Rattle.model.specs.declared.Mapping.{Mapping}
use Rattle.laws.specs.Lists.{among}
use Rattle.model.specs.Machine.{Machine, State, process_at, region_at, order_of, mapped_of, no_process, no_region, no_mapping, no_entry, no_backing}
use Rattle.model.specs.Lookup.{regions_of}
use Rattle.model.specs.Backing.{backing_at}
use Rattle.model.specs.Sound.{Sound, Used, Apart, Hold, no_hold, holds, holders_of, RegionFits, EntryFits, Flagged}
use Rattle.laws.specs.SetLaws.{row_there}
use Rattle.laws.specs.In.{In}
use Rattle.laws.specs.InListsLaws.{rows_in, pairs_once, among_in, pairs_in}
use Rattle.laws.specs.ListsLaws.{part_at, part_length}
use Rattle.keeping.specs.Owing.{row_at, entry_at, Arena, Placed, Holds, Agree, Owing, nothing, Lent}
use Rattle.keeping.specs.OwingLaws.{apart_turn, taken_there, used_there}
use Rattle.keeping.specs.BacksLaws.{source_of}
use Rattle.keeping.specs.HomesLaws.{home_listed, in_holds, held_none, hold_used}

-- a region's row by process and slot
pub row_in_part : (m : Machine) (i : ℕ) → get_or (regions_of m (i / 64)) (i % 64) no_region ≡ row_at m i
row_in_part m i =
    let e : i / 64 * 64 + i % 64 ≡ i = omega arith in
    part_at m.regions 64 (i / 64) (i % 64) no_region (omega arith) ∙ ap (λ (j : ℕ). row_at m j) e

module _ (s : State) (sound : Sound s) where
  abbrev m : Machine
  m = s.machine

  regions_size : length m.regions ≡ 512
  regions_size = sound.r6.sized.regions

  processes_size : length m.processes ≡ 8
  processes_size = sound.r6.sized.processes

  used_row : (i : ℕ) → Used (row_at m i) → i < 512
  used_row i u = let h = used_there m i u in let k = regions_size in omega arith

  slots_size : (p : ℕ) → p < 8 → length (regions_of m p) ≡ 64
  slots_size p h = let k = regions_size in part_length m.regions 64 p (omega arith)

  there : (p : ℕ) → p < 8 → p < length m.processes
  there p h = let k = processes_size in omega arith

  apart : (i j : ℕ) → i ≢ j → i / 64 ≡ j / 64 → Used (row_at m i) → Used (row_at m j) → Apart (row_at m i) (row_at m j)
  apart i j n e u v = side (ltb i j) refl
    where
      row_j : get_or (regions_of m (i / 64)) (j % 64) no_region ≡ row_at m j
      row_j = ap (λ (p : ℕ). get_or (regions_of m p) (j % 64) no_region) e ∙ row_in_part m j

      both : (a b : ℕ) → a < 64 → b < 64 → a < b → Used (get_or (regions_of m (i / 64)) a no_region) → Used (get_or (regions_of m (i / 64)) b no_region)
          → Apart (get_or (regions_of m (i / 64)) a no_region) (get_or (regions_of m (i / 64)) b no_region)
      both a b h k l x y =
          let low = used_row i u in
          let size = slots_size (i / 64) (omega arith) in
          sound.r1 (i / 64) (there (i / 64) (omega arith)) a b l (omega arith) x y

      used_i : Used (get_or (regions_of m (i / 64)) (i % 64) no_region)
      used_i = subst (λ (r : Region). Used r) (sym (row_in_part m i)) u

      used_j : Used (get_or (regions_of m (i / 64)) (j % 64) no_region)
      used_j = subst (λ (r : Region). Used r) (sym row_j) v

      moved : Apart (get_or (regions_of m (i / 64)) (i % 64) no_region) (get_or (regions_of m (i / 64)) (j % 64) no_region) → Apart (row_at m i) (row_at m j)
      moved a =
          subst (λ (r : Region). Apart r (row_at m j)) (row_in_part m i)
          (subst (λ (r : Region). Apart (get_or (regions_of m (i / 64)) (i % 64) no_region) r) row_j a)

      side : (b : Bool) → ltb i j ≡ b → Apart (row_at m i) (row_at m j)
      side true q = let l = ltb-true i j q in moved (both (i % 64) (j % 64) (omega arith) (omega arith) (omega arith) used_i used_j)
      side false q =
          let l = ltb-false i j q in
          let o : j < i = omega (arith, n) in
          moved (apart_turn (get_or (regions_of m (i / 64)) (j % 64) no_region) (get_or (regions_of m (i / 64)) (i % 64) no_region)
          (both (j % 64) (i % 64) (omega arith) (omega arith) (omega arith) used_j used_i))

  held : (f : ℕ) → (backing_at m f).len ≢ 0 → ((backing_at m f).holders ≡ holders_of m f) × (1 ≤ (backing_at m f).holders)
  held f u = sound.r3 f (row_there m.backings no_backing f (λ e. u (ap (λ (b : Backing). b.len) e))) u

  unheld : (f : ℕ) → (backing_at m f).len ≡ 0 → (backing_at m f).holders ≡ 0
  unheld f e = go (ltb f (length m.backings)) refl
    where
      go : (b : Bool) → ltb f (length m.backings) ≡ b → (backing_at m f).holders ≡ 0
      go true q = sound.r6.free_backings f (ltb-true _ _ q) e
      go false q = ap (λ (b : Backing). b.holders) (get_or-eq_default m.backings no_backing {n = f} (ltb-false _ _ q))

  regions : (i : ℕ) → RegionFits m (row_at m i)
  regions i = go (ltb i (length m.regions)) refl
    where
      go : (b : Bool) → ltb i (length m.regions) ≡ b → RegionFits m (row_at m i)
      go true q = sound.r6.regions i (ltb-true _ _ q)
      go false q =
          let e = get_or-eq_default m.regions no_region {n = i} (ltb-false _ _ q) in
          record { free = λ z. e; used = λ u. absurd (u (ap (λ (r : Region). r.kind) e)) }

  entries : (i : ℕ) → EntryFits m (entry_at m i)
  entries i = go (ltb i (length m.entries)) refl
    where
      go : (b : Bool) → ltb i (length m.entries) ≡ b → EntryFits m (entry_at m i)
      go true q = sound.r6.entries i (ltb-true _ _ q)
      go false q =
          let e = get_or-eq_default m.entries no_entry {n = i} (ltb-false _ _ q) in
          record { free = λ z. e; used = λ u. absurd (u (ap (λ (x : Entry). x.owner) e)) }

  counted : (f : ℕ) → (backing_at m f).holders ≡ holders_of m f + nothing f
  counted f = go (ℕ_discrete (backing_at m f).len 0)
    where
      go : Dec ((backing_at m f).len ≡ 0) → (backing_at m f).holders ≡ holders_of m f + nothing f
      go (yes z) =
          let a = unheld f z in
          let b = held_none m f (λ h k e. hold_used m regions entries h k (ap (λ (x : ℕ). (backing_at m x).len) e ∙ z)) in
          omega arith
      go (no z) = let a = (held f z).0 in omega arith

  once_a_page : (i j : ℕ) → i ≢ j → (entry_at m i).owner ≢ 0 → (entry_at m i).owner ≡ (entry_at m j).owner → (entry_at m i).page.0 ≢ (entry_at m j).page.0
  once_a_page i j n u e = side (ltb i j) refl
    where
      low : (k : ℕ) → (entry_at m k).owner ≢ 0 → k < length m.entries
      low k v = taken_there m k v

      v : (entry_at m j).owner ≢ 0
      v z = u (e ∙ z)

      side : (b : Bool) → ltb i j ≡ b → (entry_at m i).page.0 ≢ (entry_at m j).page.0
      side true q = sound.r6.once_a_page i j (ltb-true i j q) (low j v) u e
      side false q = let l = ltb-false i j q in let o : j < i = omega (arith, n) in λ z. sound.r6.once_a_page j i o (low i u) v (sym e) (sym z)

  one_page : (h k : Hold) → Holds m h → Holds m k → Agree h k
  one_page h k a b =
      pairs_in no_hold (holds m) Agree sound.r6.one_page (λ x e. (refl, refl)) (λ x y f e. let r = f (sym e) in (sym r.0, sym r.1)) h k
      (in_holds m h a) (in_holds m k b)

  closed : (p : ℕ) → (process_at m p).opened ≢ 1 → process_at m p ≡ no_process
  closed p u = go (ltb p (length m.processes)) refl
    where
      go : (b : Bool) → ltb p (length m.processes) ≡ b → process_at m p ≡ no_process
      go true q = ((sound.r6.processes p (ltb-true _ _ q)).closed u).0
      go false q = get_or-eq_default m.processes no_process {n = p} (ltb-false _ _ q)

  empty : (i : ℕ) → (process_at m (i / 64)).opened ≢ 1 → (row_at m i).kind ≡ 0
  empty i u = go (ltb i 512) refl
    where
      go : (b : Bool) → ltb i 512 ≡ b → (row_at m i).kind ≡ 0
      go true q =
          let l = ltb-true i 512 q in
          let size = slots_size (i / 64) (omega arith) in
          ap (λ (r : Region). r.kind) (sym (row_in_part m i))
          ∙ ((sound.r6.processes (i / 64) (there (i / 64) (omega arith))).closed u).1 (i % 64) (omega arith)
      go false q =
          let l = ltb-false i 512 q in
          let k = regions_size in
          ap (λ (r : Region). r.kind) (get_or-eq_default m.regions no_region {n = i} (omega arith))

  arenas : (p : ℕ) → p < 8 → Arena (process_at m p)
  arenas p h =
      let q = sound.r6.processes p (there p h) in
      record {
        aligned_start = q.aligned_start;
        aligned_size = q.aligned_size;
        user_start = q.user_start;
        user_last = q.user_last;
        attached = q.attached;
        mapped = q.mapped;
      }

  listed : (p t : ℕ) → p < 8 → In t (order_of m p) → (t < 64) × Used (region_at m p t)
  listed p t h k = rows_in 0 (order_of m p) (λ x. (x < 64) × Used (region_at m p x)) (sound.r6.ordered p (there p h)).listed t k

  pinned : (i : ℕ) → Used (row_at m i) → In (i % 64) (order_of m (i / 64)) ⊎ (1 ≤ (row_at m i).pins)
  pinned i u =
      let l = used_row i u in
      let size = slots_size (i / 64) (omega arith) in
      go ((sound.r6.ordered (i / 64) (there (i / 64) (omega arith))).detached (i % 64) (omega arith)
      (subst (λ (r : Region). Used r) (sym (row_in_part m i)) u))
    where
      go : (among (i % 64) (order_of m (i / 64)) ≡ true) ⊎ (1 ≤ (get_or (regions_of m (i / 64)) (i % 64) no_region).pins)
          → In (i % 64) (order_of m (i / 64)) ⊎ (1 ≤ (row_at m i).pins)
      go (inl e) = inl (among_in _ _ e)
      go (inr e) = inr (subst (λ (r : Region). 1 ≤ r.pins) (row_in_part m i) e)

  mapped : (p : ℕ) → p < 8 → (x : Mapping) → In x (mapped_of m p) → Placed m p x
  mapped p h x k = rows_in no_mapping (mapped_of m p) (Placed m p) placed x k
    where
      placed : (i : ℕ) → i < length (mapped_of m p) → Placed m p (get_or (mapped_of m p) i no_mapping)
      placed i l =
          let r4 = sound.r4 p (there p h) i l in
          let home = home_listed m p _ r4.slot r4.home in
          let source = source_of m p r4.slot _ _ r4.frame in
          record {
            slot = r4.slot;
            listed = home.0;
            inside = home.1;
            base = source.base;
            backed = source.backs;
            flagged = subst (λ (n : ℕ). Flagged (region_at m p r4.slot) (get_or (mapped_of m p) i no_mapping).flags.0 n) source.holders
                (sound.r5 p (there p h) i l r4.slot r4.home);
          }

  pub sound_owing : Owing nothing m
  sound_owing =
      let z = sound.r6.sized in
      record {
        sizes = record {
          processes = z.processes;
          regions = z.regions;
          order = z.order;
          mapped = z.mapped;
          entries = z.entries;
          backings = z.backings;
          files = z.files;
          frame_count = z.frame_count;
          file_count = z.file_count;
        };
        pool = sound.r2;
        counted = counted;
        held = λ f u. (held f u).1;
        unheld = unheld;
        apart = apart;
        regions = regions;
        entries = entries;
        once_a_page = once_a_page;
        one_page = one_page;
        closed = closed;
        empty = empty;
        arenas = arenas;
        listed = listed;
        once = λ p h. pairs_once (order_of m p) (sound.r6.ordered p (there p h)).once;
        pinned = pinned;
        order_rest = λ p h. (sound.r6.ordered p (there p h)).free;
        paged = λ p h. sound.r6.paged p (there p h);
        mapped = mapped;
      }

  pub sound_lent_is : Lent s
  sound_lent_is = record { frames = sound.r6.sized.frames; files = sound.r6.files }
