-- A region's clone that shares its backings: the source's mappings without WRITABLE, the range held, the region added, its entries held.
use Rattle.std.specs.Prelude.{◌≡◌, ◌⊎◌, ◌≢◌, Bool, ◌&&◌, not, cond, get_or, set}
use Rattle.std.proofs.Math.Path.{refl, ap, subst}
use Rattle.std.proofs.Common.{sym, ◌∙◌, inl, inr, true≢false, get_or-set_same, get_or-set_other, eqb-true, ne_eqb}
use Rattle.std.proofs.Math.Bool.{true, false}
use mathlib.Core.List.{List, [], ◌∷◌}
use Prim.Native.Nat.{ℕ, zero, suc, ◌+◌, ◌-◌, ◌*◌, ◌/◌, ◌%◌, ◌≤◌, ◌<◌}
use native.Mathlib.Omega.{arith}
use Rattle.std.proofs.Math.ListN.{length, take}
use Rattle.std.proofs.Math.Dec.{eqb}
use Rattle.std.proofs.lemmas.Bool.{eqb-false}
use Rattle.address.specs.Bits.{bit}
use Rattle.address.specs.Flags.{read_only}
use Rattle.model.specs.declared.Backing.{Backing}
use Rattle.model.specs.declared.Region.{Region}
use Rattle.model.specs.declared.Mapping.{Mapping}
use Rattle.model.specs.declared.Process.{Process}
use Rattle.laws.specs.Lists.{part, each, count}
use Rattle.model.specs.Machine.{Machine, with_mapped, with_order, process_at, region_at, row_of, order_of, mapped_of, attached_of, no_process, no_region, no_backing, no_entry}
use Rattle.model.specs.Lookup.{contains, is_shared, is_ranged, segment_len, free_slot, free_entries, row_found, is_found}
use Rattle.model.specs.Paging.{maps_in, mapping, remap_where, page_start, is_writable}
use Rattle.model.specs.Backing.{backing_at, hold, with_backings}
use Rattle.model.specs.Segments.{reserved}
use Rattle.model.specs.Create.{add_region}
use Rattle.model.specs.Clone.{single_pages, shared_row, demote, share_entry, share_range}
use Rattle.model.specs.Sound.{Used, Apart, Flagged, Limits, Hold}
use Rattle.model.specs.MachineLaws.{mapped_put, order_mapped}
use Rattle.model.specs.MappedBelowLaws.{length_remap}
use Rattle.laws.specs.In.{In}
use Rattle.keeping.specs.Owing.{row_at, entry_at, Backs, Placed, Owing, Holds}
use Rattle.model.specs.Holders.{range_hold}
use Rattle.keeping.specs.OwingLaws.{open_low, listed_open, home_one, unowned}
use Rattle.keeping.specs.AlikeLaws.{limits_pins, limits_as, placed_with, alike_same}
use Rattle.keeping.specs.MappedKept.{opened_same}
use Rattle.keeping.specs.MapOrderLaws.{in_remap, remapped}
use Rattle.keeping.specs.PagesKept.{few_pages, remap_kept}
use Rattle.keeping.specs.BackingsKept.{more, hold_kept}
use Rattle.keeping.specs.SlotsKept.{owes, owes_range, owes_nothing}
use Rattle.keeping.specs.CoreKept.{Lends, lends_then}
use Rattle.keeping.specs.ProtectKept.{read_only_unwritable}
use Rattle.keeping.specs.AddedKept.{Added, free_slot_found, added_kept}
use Rattle.keeping.specs.SpotLaws.{unreserved, clear_apart}
use Rattle.keeping.specs.ClonePagesLaws.{single_of, once_single, EntryOf, single_fits}
use Rattle.keeping.specs.ShareKept.{Demoted, Bare, held_more, only_range, Sharing, shared_all, bare_new}
use Rattle.keeping.specs.Grows.{Grows, grows_lists, grows_same, grows_then, share_each, share_lends, added_grows}

read_twice : (f : ℕ) → read_only (read_only f) ≡ read_only f
unfolding read_only bit
read_twice f = let z : (f - f / 2 % 2 * 2) / 2 % 2 ≡ 1 → ⊥ = λ e. omega arith in let n : (f - f / 2 % 2 * 2) / 2 % 2 ≡ 0 = omega (arith, z) in omega arith

-- a process's count of mapped pages does not change with its list
pub count_kept : (l : List Process) (p q n : ℕ) → (get_or (set l p (attached_of (get_or l p no_process) n)) q no_process).mapped ≡ (get_or l q no_process).mapped
count_kept [] p q n = refl
count_kept (x ∷ l) zero zero n = refl
count_kept (x ∷ l) zero (suc q) n = refl
count_kept (x ∷ l) (suc p) zero n = refl
count_kept (x ∷ l) (suc p) (suc q) n = count_kept l p q n

module _ (d : ℕ → ℕ) (m : Machine) (o : Owing d m) (p t q : ℕ) (listed : In t (order_of m p)) (opened : (process_at m q).opened ≡ 1)
    (free : not (is_found (free_slot m q)) ≡ false) (clear : reserved m q (region_at m p t).start.0 (segment_len (region_at m p t)) ≡ false) where
  abbrev r : Region
  r = region_at m p t

  abbrev src : ℕ
  src = row_of p t

  p_opened : (process_at m p).opened ≡ 1
  p_opened = listed_open d m o p t listed

  low : p < 8
  low = open_low m o p p_opened

  q_low : q < 8
  q_low = open_low m o q opened

  is : (t < 64) × Used r
  is = o.listed p t low listed

  limits : Limits m r
  limits = (o.regions src).used is.1

  -- ---- the source's mappings

  -- the mappings that lose WRITABLE
  abbrev pub which : Mapping → Bool
  which x = not (is_shared r) && maps_in r x

  abbrev pub less : Mapping → ℕ
  less x = read_only x.flags.0

  -- the page table without it
  abbrev pub table : List Mapping
  table = remap_where which less (mapped_of m p)

  placed : (x : Mapping) → Placed m p x → Placed m p (remapped which less x)
  placed x k = go (eqb r.kind 3) refl (maps_in r x) refl
    where
      taken_off : r.kind ≢ 3 → k.slot ≡ t → Flagged (region_at m p k.slot) (less x) (backing_at m k.base).holders
      taken_off z e = record {
        private = λ u. side (k.flagged.private u);
        lone = λ u w. absurd (true≢false (sym w ∙ read_only_unwritable x.flags.0));
        shared = λ u. absurd (z (ap (λ (j : ℕ). (region_at m p j).kind) (sym e) ∙ u));
      }
        where
          side : (x.flags.0 ≡ (region_at m p k.slot).flags.0) ⊎ (x.flags.0 ≡ read_only (region_at m p k.slot).flags.0)
              → (less x ≡ (region_at m p k.slot).flags.0) ⊎ (less x ≡ read_only (region_at m p k.slot).flags.0)
          side (inl e) = inr (ap read_only e)
          side (inr e) = inr (ap read_only e ∙ read_twice _)

      go : (b : Bool) → eqb r.kind 3 ≡ b → (c : Bool) → maps_in r x ≡ c → Placed m p (cond (not b && c) (mapping x.page.0 x.frame.0 (less x)) x)
      go true e c f = k
      go false e false f = k
      go false e true f =
          let home = home_one m o p low (page_start x.page.0) k.slot t k.listed listed k.inside f in
          placed_with m m (less x) p x k k.listed (λ i. refl) (alike_same _) refl (taken_off (eqb-false r.kind 3 e) home)

  -- the machine with that table
  abbrev pub m1 : Machine
  m1 = with_mapped m p table

  table_few : length table ≤ 128
  table_few = let same = length_remap which less (mapped_of m p) in let few = few_pages d m o p low in omega arith

  pub m1_owing : Owing d m1
  m1_owing = remap_kept d m o p p_opened which less placed

  m1_reads : mapped_of m1 p ≡ table
  m1_reads = let l = low in let a = o.sizes.processes in let b = o.sizes.mapped in mapped_put m p (omega arith) table (omega arith) table_few

  demoted : r.kind ≢ 3 → Demoted m1 src
  unfolding with_mapped
  demoted z p' h x i s small e same =
      let u = is.0 in
      let here : p' ≡ p = omega arith in
      let slot : s ≡ t = omega arith in
      let k = in_remap which less x (mapped_of m p) (subst (λ l. In x l) m1_reads (subst (λ (j : ℕ). In x (mapped_of m1 j)) here i)) in
      off k.0 k.1.1 (subst (λ (j : ℕ). contains (row_at m j) (page_start x.page.0) ≡ true) same e)
    where
      off : (y : Mapping) → x ≡ remapped which less y → contains r (page_start x.page.0) ≡ true → is_writable x.flags.0 ≡ false
      off y q f = go (maps_in r y) refl
        where
          by : (c : Bool) → maps_in r y ≡ c → which y ≡ c
          by c v = rw (ne_eqb r.kind 3 z, v) refl

          go : (c : Bool) → maps_in r y ≡ c → is_writable x.flags.0 ≡ false
          go true v = ap (λ (w : Mapping). is_writable w.flags.0)
              (q ∙ ap (λ (b : Bool). cond b (mapping y.page.0 y.frame.0 (less y)) y) (by true v)) ∙ read_only_unwritable y.flags.0
          go false v =
              let same : x ≡ y = q ∙ ap (λ (b : Bool). cond b (mapping y.page.0 y.frame.0 (less y)) y) (by false v) in
              absurd (true≢false (sym f ∙ ap (λ (w : Mapping). contains r (page_start w.page.0)) same ∙ v))

  -- ---- its range

  module _ (ranged : r.ranged ≡ 1) where
    abbrev f : ℕ
    f = r.range.0

    f_used : (backing_at m1 f).len ≢ 0
    unfolding with_mapped
    f_used z = let a = limits.ranged ranged in let b = limits.some in omega arith

    -- a mapping that it backs, where it has one holder, is the source's
    of_source : (backing_at m1 f).holders ≡ 1 → (row pg base fr : ℕ) → Used (row_at m1 row) → Backs m1 row pg base fr → base ≡ f → row ≡ src
    unfolding with_mapped
    of_source one row pg base fr u b e = only_range d m1 m1_owing f one src is.1 ranged refl row pg base fr u b e

    private : (j : ℕ) → j ≡ src → (row_at m1 j).kind ≢ 3 → r.kind ≢ 3
    unfolding with_mapped
    private j e z y = z (ap (λ (i : ℕ). (row_at m i).kind) e ∙ y)

    range_held : Owing (more f d) (hold m1 f)
    range_held =
        hold_kept d m1 m1_owing f f_used (λ p' h x i k e. held_more _ _ _
        (subst (λ (j : ℕ). Flagged (region_at m1 p' k.slot) x.flags.0 (backing_at m1 j).holders) e k.flagged) (never p' h x i k e))
      where
        never : (p' : ℕ) → p' < 8 → (x : Mapping) → In x (mapped_of m1 p') → (k : Placed m1 p' x) → k.base ≡ f → (region_at m1 p' k.slot).kind ≢ 3
            → is_writable x.flags.0 ≡ true → (backing_at m1 f).holders ≡ 1 → ⊥
        never p' h x i k e z w one =
            let lst = m1_owing.listed p' k.slot h k.listed in
            let row = of_source one (row_of p' k.slot) x.page.0 k.base x.frame.0 lst.1 k.backed e in
            true≢false (sym w ∙ demoted (private (row_of p' k.slot) row z) p' h x i k.slot lst.0 k.inside row)

  -- ---- the region

  -- the range held too, if there is one
  abbrev pub ready : Bool → Machine
  ready b = cond b (hold m1 r.range.0) m1

  -- its new holder is the one that the clone's range will be
  pub ready_owing : (b : Bool) → is_ranged r ≡ b → Owing (owes (shared_row r) d) (ready b)
  ready_owing true e =
      subst (λ (k : ℕ → ℕ). Owing k (hold m1 r.range.0)) (sym (owes_range (shared_row r) d is.1 (eqb-true r.ranged 1 e)))
      (range_held (eqb-true r.ranged 1 e))
  ready_owing false e = subst (λ (k : ℕ → ℕ). Owing k m1) (λ i g. sym (owes_nothing (shared_row r) d (eqb-false r.ranged 1 e) g) i) m1_owing

  apart : (s : ℕ) → s < 64 → Used (region_at m q s) → Apart (shared_row r) (region_at m q s)
  apart s h u = clear_apart d m o q q_low r.start.0 r.size limits.some (unreserved d m o q opened r.size limits.some r.start.0 clear) s h u

  hold_len : (g : ℕ) → (backing_at (hold m1 g) g).len ≡ (backing_at m g).len
  unfolding hold with_backings with_mapped
  hold_len g = held_len m.backings g
    where
      held_len : (l : List Backing) (g : ℕ)
          → (get_or (set l g (record { len = (get_or l g no_backing).len; holders = (get_or l g no_backing).holders + 1 })) g no_backing).len ≡ (get_or l g no_backing).len
      held_len [] g = refl
      held_len (x ∷ l) zero = refl
      held_len (x ∷ l) (suc g) = held_len l g

  -- who else holds the source's range holds it at the same page
  agree : r.ranged ≡ 1 → (h : Hold) → Holds m h → h.frame ≡ r.range.0 → (h.page ≡ r.start.0 / 4096) × (h.shared ≡ (range_hold r).shared)
  agree z h k e = o.one_page h (range_hold r) k (inr (record { row = src; taken = is.1; ranged = z; is = refl })) e

  q_opened : (process_at m1 q).opened ≡ 1
  q_opened = opened_same d m o p p_opened table q ∙ opened

  -- the region can be added
  pub region_new : (b : Bool) → is_ranged r ≡ b → Added (ready b) q (shared_row r)
  unfolding hold with_backings with_mapped free_slot
  region_new true e = record {
    opened = q_opened;
    slot = free;
    unpinned = refl;
    used = is.1;
    apart = apart;
    agree = agree;
    fits = limits_pins _ r 0 (omega arith) (limits_as m (hold m1 r.range.0) r refl (λ z. hold_len r.range.0) limits);
  }
  region_new false e = record {
    opened = q_opened;
    slot = free;
    unpinned = refl;
    used = is.1;
    apart = apart;
    agree = agree;
    fits = limits_pins _ r 0 (omega arith) (limits_as m m1 r refl (λ z. refl) limits);
  }

  -- ---- its entries

  -- where the clone goes
  abbrev pub slot : ℕ
  slot = row_found (free_slot m q)

  abbrev pub row : ℕ
  row = row_of q slot

  pub q_free : (slot < 64) × ((region_at m q slot).kind ≡ 0)
  q_free = free_slot_found d m o q q_low free

  m1_regions : (j : ℕ) → row_at m1 j ≡ row_at m j
  unfolding with_mapped
  m1_regions j = refl

  m1_table : m1.regions ≡ m.regions
  unfolding with_mapped
  m1_table = refl

  m1_order : (p' : ℕ) → order_of m1 p' ≡ order_of m p'
  m1_order p' = order_mapped m p p' table

  module _ (n : Machine) (owing : Owing d n) (regions : n.regions ≡ set m.regions row (shared_row r)) (entries : n.entries ≡ m.entries)
      (mapped : (p' : ℕ) → mapped_of n p' ≡ mapped_of m1 p') (left : length (single_pages m.entries src) ≤ free_entries m) where
    new_row : row_at n row ≡ shared_row r
    new_row =
        ap (λ l. get_or l row no_region) regions ∙ get_or-set_same m.regions row (shared_row r) no_region
        (let a = o.sizes.regions in let b = q_free.0 in let c = q_low in omega arith)

    old_row : (j : ℕ) → j ≢ row → row_at n j ≡ row_at m j
    old_row j z = ap (λ l. get_or l j no_region) regions ∙ get_or-set_other m.regions row j (shared_row r) no_region z

    differ : src ≢ row
    differ e = is.1 (ap (λ (j : ℕ). (row_at m j).kind) e ∙ q_free.1)

    same_entry : (j : ℕ) → entry_at n j ≡ entry_at m j
    same_entry j = ap (λ l. get_or l j no_entry) entries

    bare : Bare n row
    unfolding with_mapped
    bare = bare_new d m1 m1_owing q slot q_low q_free.0 (shared_row r) apart n new_row mapped

    still_demoted : r.kind ≢ 3 → Demoted n src
    still_demoted z p' h x i s small e same =
        demoted z p' h x (subst (λ l. In x l) (mapped p') i) s small
        (subst (λ (y : Region). contains y (page_start x.page.0) ≡ true)
        (old_row (row_of p' s) (λ w. differ (sym same ∙ w)) ∙ sym (m1_regions (row_of p' s))) e) same

    sharing : Sharing d n src row (single_pages m.entries src)
    unfolding free_entries
    sharing = record {
      owing = owing;
      low = let b = q_free.0 in let c = q_low in omega arith;
      other = differ;
      used = subst (λ (y : Region). Used y) (sym new_row) is.1;
      unshared = λ h i. subst (λ (y : Region). y.kind ≢ 3) (sym new_row) (single_fits d m o src h i).0;
      contained = λ h i. subst (λ (y : Region). contains y (page_start h.page) ≡ true) (sym new_row) (single_fits d m o src h i).1.0;
      source = λ h i. subst (λ l. EntryOf l src h) (sym entries) (single_of m.entries src h i);
      fresh = λ h i j e z. unowned m o row q_free.1 j (ap (λ y. y.owner) (sym (same_entry j)) ∙ e);
      once = once_single m.entries src o.once_a_page;
      left = subst (λ l. length (single_pages m.entries src) ≤ count (λ x. eqb x.owner 0) l) (sym entries) left;
      demoted = λ h i. still_demoted (single_fits d m o src h i).0;
      bare = bare;
    }

  -- what adding it leaves of the other tables
  pub added_regions : (b : Bool) → (add_region (ready b) q (shared_row r)).regions ≡ set m.regions row (shared_row r)
  unfolding add_region with_order hold with_backings with_mapped free_slot
  added_regions true = refl
  added_regions false = refl

  pub added_entries : (b : Bool) → (add_region (ready b) q (shared_row r)).entries ≡ m.entries
  unfolding add_region with_order hold with_backings with_mapped
  added_entries true = refl
  added_entries false = refl

  added_mapped : (b : Bool) (p' : ℕ) → mapped_of (add_region (ready b) q (shared_row r)) p' ≡ mapped_of m1 p'
  unfolding add_region with_order mapped_of hold with_backings
  added_mapped true p' = ap (λ (k : ℕ). take k (part 128 p' m1.mapped)) (count_kept m1.processes q p' _)
  added_mapped false p' = ap (λ (k : ℕ). take k (part 128 p' m1.mapped)) (count_kept m1.processes q p' _)

  -- the whole clone
  pub share_kept : length (single_pages m.entries src) ≤ free_entries m
      → Owing d (each (share_entry row) (single_pages m.entries src) (add_region (share_range r (demote m p t)) q (shared_row r)))
  unfolding share_range demote
  share_kept left = go (is_ranged r) refl
    where
      go : (b : Bool) → is_ranged r ≡ b
          → Owing d (each (share_entry row) (single_pages m.entries src) (add_region (cond b (hold m1 r.range.0) m1) q (shared_row r)))
      go b e = shared_all d src row (single_pages m.entries src) (add_region (ready b) q (shared_row r))
          (sharing (add_region (ready b) q (shared_row r)) (added_kept d (ready b) q (shared_row r) (ready_owing b e) (region_new b e)) (added_regions b)
          (added_entries b) (added_mapped b) left)

  ready_grows : (b : Bool) → Grows m1 (ready b)
  unfolding hold with_backings
  ready_grows true = grows_same refl refl refl
  ready_grows false = grows_same refl refl refl

  ready_lends : (b : Bool) → Lends m (ready b)
  unfolding hold with_backings with_mapped
  ready_lends true = record { files = refl; file_count = refl; frame_count = refl }
  ready_lends false = record { files = refl; file_count = refl; frame_count = refl }

  -- lists and open processes grow
  pub share_grows : Grows m (each (share_entry row) (single_pages m.entries src) (add_region (share_range r (demote m p t)) q (shared_row r)))
  unfolding share_range demote
  share_grows = go (is_ranged r) refl
    where
      first : Grows m m1
      first = grows_lists m1_order m1_table (λ p' e. opened_same d m o p p_opened table p' ∙ e)

      go : (b : Bool) → is_ranged r ≡ b
          → Grows m (each (share_entry row) (single_pages m.entries src) (add_region (cond b (hold m1 r.range.0) m1) q (shared_row r)))
      go b e = grows_then first
          (grows_then (ready_grows b) (grows_then (added_grows d (ready b) q (shared_row r) (ready_owing b e) (region_new b e))
          (share_each row (single_pages m.entries src) (add_region (ready b) q (shared_row r)))))

  -- and what is lent stays
  pub share_lent : Lends m (each (share_entry row) (single_pages m.entries src) (add_region (share_range r (demote m p t)) q (shared_row r)))
  unfolding share_range demote add_region with_order
  share_lent = go (is_ranged r)
    where
      go : (b : Bool) → Lends m (each (share_entry row) (single_pages m.entries src) (add_region (cond b (hold m1 r.range.0) m1) q (shared_row r)))
      go b = lends_then (ready_lends b) (lends_then (record { files = refl; file_count = refl; frame_count = refl })
          (share_lends row (single_pages m.entries src) (add_region (ready b) q (shared_row r))))
