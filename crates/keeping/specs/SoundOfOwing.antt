-- A machine that keeps the rules in the form of Owing and owes nothing is sound.
use Rattle.std.specs.Prelude.{◌≡◌, ◌⊎◌, ◌≢◌, true, ℕ, ◌+◌, ◌*◌, ◌/◌, ◌≤◌, ◌<◌, length, get_or, Some}
use Rattle.std.proofs.Common.{ap, sym, subst, ◌∙◌, inl, inr, arith}
use Rattle.laws.specs.ResultLaws.{some_same}
use Rattle.model.specs.declared.Region.{Region}
use Rattle.model.specs.declared.Mapping.{Mapping}
use Rattle.laws.specs.Lists.{among}
use Rattle.model.specs.Machine.{Machine, State, process_at, region_at, row_of, order_of, mapped_of, no_region, no_mapping}
use Rattle.model.specs.Lookup.{regions_of}
use Rattle.model.specs.Paging.{page_start}
use Rattle.model.specs.Backing.{backing_at, backing}
use Rattle.model.specs.Protect.{holders_by}
use Rattle.model.specs.Sound.{Sound, Used, Apart, R1, no_hold, holds, ProcessFits, Ordered, home_of, Homed, Flagged, frame_by}
use Rattle.laws.specs.In.{In}
use Rattle.laws.specs.InLaws.{in_at}
use Rattle.laws.specs.InListsLaws.{in_rows, once_pairs, in_among, in_pairs}
use Rattle.laws.specs.ListsLaws.{part_at, part_length}
use Rattle.keeping.specs.Owing.{Placed, Agree, Owing, nothing, Lent}
use Rattle.keeping.specs.OwingLaws.{home_one, slot_pinned}
use Rattle.keeping.specs.BacksLaws.{backing_of}
use Rattle.keeping.specs.HomesLaws.{listed_home, holds_in}

module _ (m : Machine) (o : Owing nothing m) where
  slot_row : (p t : ℕ) → t < 64 → get_or (regions_of m p) t no_region ≡ region_at m p t
  slot_row p t h = part_at m.regions 64 p t no_region h

  slots_size : (p : ℕ) → p < 8 → length (regions_of m p) ≡ 64
  slots_size p h = let k = o.sizes.regions in part_length m.regions 64 p (omega arith)

  low : (p : ℕ) → p < length m.processes → p < 8
  low p h = let k = o.sizes.processes in omega arith

  r1 : R1 m
  r1 p h i j l k u v =
      let size = slots_size p (low p h) in
      let row_i = slot_row p i (omega arith) in
      let row_j = slot_row p j (omega arith) in
      let apart = o.apart (row_of p i) (row_of p j) (λ e. omega arith) (omega arith) (subst (λ (r : Region). Used r) row_i u) (subst (λ (r : Region). Used r) row_j v) in
      subst (λ (r : Region). Apart r (get_or (regions_of m p) j no_region)) (sym row_i) (subst (λ (r : Region). Apart (region_at m p i) r) (sym row_j) apart)

  processes : (p : ℕ) → p < length m.processes → ProcessFits m p (process_at m p)
  processes p h =
      let q = o.arenas p (low p h) in
      record {
        closed = λ u. (o.closed p u, empty u);
        aligned_start = q.aligned_start;
        aligned_size = q.aligned_size;
        user_start = q.user_start;
        user_last = q.user_last;
        attached = q.attached;
        mapped = q.mapped;
      }
    where
      empty : (process_at m p).opened ≢ 1 → (t : ℕ) → t < length (regions_of m p) → (get_or (regions_of m p) t no_region).kind ≡ 0
      empty u t l =
          let size = slots_size p (low p h) in
          let e : (p * 64 + t) / 64 ≡ p = omega arith in
          ap (λ (r : Region). r.kind) (slot_row p t (omega arith)) ∙ o.empty (row_of p t) (subst (λ (i : ℕ). (process_at m i).opened ≢ 1) (sym e) u)

  ordered : (p : ℕ) → p < length m.processes → Ordered m p (process_at m p)
  ordered p h = record {
    listed = in_rows 0 (order_of m p) (λ t. (t < 64) × Used (region_at m p t)) (λ t k. o.listed p t (low p h) k);
    free = o.order_rest p (low p h);
    once = once_pairs (order_of m p) (o.once p (low p h));
    detached = detached;
  }
    where
      detached : (t : ℕ) → t < length (regions_of m p) → Used (get_or (regions_of m p) t no_region)
          → (among t (order_of m p) ≡ true) ⊎ (1 ≤ (get_or (regions_of m p) t no_region).pins)
      detached t l u = go (slot_pinned m o p t small (subst (λ (r : Region). Used r) (slot_row p t small) u))
        where
          small : t < 64
          small = let size = slots_size p (low p h) in omega arith

          go : In t (order_of m p) ⊎ (1 ≤ (region_at m p t).pins) → (among t (order_of m p) ≡ true) ⊎ (1 ≤ (get_or (regions_of m p) t no_region).pins)
          go (inl k) = inl (in_among t (order_of m p) k)
          go (inr k) = inr (subst (λ (r : Region). 1 ≤ r.pins) (sym (slot_row p t small)) k)

  -- the home and the backing of a mapping
  module _ (p : ℕ) (h : p < 8) (x : Mapping) (k : Placed m p x) where
    home : home_of m p x ≡ Some k.slot
    home =
        listed_home m p (page_start x.page.0) k.slot (o.once p h) k.listed k.inside
        (λ t i e. home_one m o p h (page_start x.page.0) t k.slot i k.listed e k.inside)

    backs : (frame_by (backing m p k.slot x.page.0) ≡ Some x.frame.0) × (holders_by
        (backing m p k.slot x.page.0) ≡ (backing_at m k.base).holders)
    backs = backing_of m p k.slot x.page.0 o.once_a_page k.base x.frame.0 k.backed

    homed : Homed m p x
    homed = record { slot = k.slot; home = home; frame = backs.0 }

    flagged : (slot : ℕ) → home_of m p x ≡ Some slot → Flagged (region_at m p slot) x.flags.0 (holders_by (backing m p slot x.page.0))
    flagged slot e =
        subst (λ (t : ℕ). Flagged (region_at m p t) x.flags.0 (holders_by (backing m p t x.page.0))) (some_same (sym home ∙ e))
        (subst (λ (n : ℕ). Flagged (region_at m p k.slot) x.flags.0 n) (sym backs.1) k.flagged)

pub owing_sound : (s : State) → Owing nothing s.machine → Lent s → Sound s
owing_sound s o lent =
    let m : Machine = s.machine in
    let z = o.sizes in
    record {
      r1 = r1 m o;
      r2 = o.pool;
      r3 = λ f h u. let e = o.counted f in (omega arith, o.held f u);
      r4 = λ p h i l. homed m o p (low m o p h) _ (o.mapped p (low m o p h) _ (in_at no_mapping (mapped_of m p) i l));
      r5 = λ p h i l. flagged m o p (low m o p h) _ (o.mapped p (low m o p h) _ (in_at no_mapping (mapped_of m p) i l));
      r6 = record {
        sized = record {
          processes = z.processes;
          regions = z.regions;
          order = z.order;
          mapped = z.mapped;
          entries = z.entries;
          backings = z.backings;
          files = z.files;
          frame_count = z.frame_count;
          file_count = z.file_count;
          frames = lent.frames;
        };
        files = lent.files;
        processes = processes m o;
        ordered = ordered m o;
        paged = λ p h. o.paged p (low m o p h);
        regions = λ i h. o.regions i;
        entries = λ i h. o.entries i;
        once_a_page = λ i j l k u e. o.once_a_page i j (λ y. omega arith) u e;
        one_page = in_pairs no_hold (holds m) Agree (λ h k a b. o.one_page h k (holds_in m h a) (holds_in m k b));
        free_backings = λ f h e. o.unheld f e;
      };
    }
