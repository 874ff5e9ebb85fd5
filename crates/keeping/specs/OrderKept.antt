-- A process's list of attached regions put: slots in use, none twice, all that are not pinned and all that have mapped pages.
use Rattle.std.specs.Prelude.{◌≡◌, ◌⊎◌, ◌≢◌, List, ℕ, ◌+◌, ◌*◌, ◌/◌, ◌%◌, ◌≤◌, ◌<◌, length, drop}
use Rattle.std.proofs.Math.Path.{refl, ap, subst}
use Rattle.std.proofs.Common.{sym, ◌∙◌, arith, length-set}
use Rattle.std.proofs.Math.Decide.{ℕ_discrete}
use Rattle.std.proofs.Math.ListN.{take}
use Rattle.std.proofs.Math.Seq.{get_or-set_same, get_or-set_other}
use Rattle.model.specs.declared.Process.{Process}
use Rattle.model.specs.declared.Mapping.{Mapping}
use Rattle.laws.specs.Lists.{part, pad}
use Rattle.model.specs.Machine.{Machine, process_at, region_at, row_of, order_of, mapped_of, with_order, attached_of, no_process, no_mapping}
use Rattle.laws.specs.Tests.{Rows}
use Rattle.model.specs.Sound.{Used, holders_of, holds}
use Rattle.model.specs.MachineLaws.{order_put}
use Rattle.laws.specs.ListsLaws.{part_put, pad_length, put_part_length, pad_past}
use Rattle.laws.specs.SetLaws.{each_row}
use Rattle.laws.specs.In.{In, Once}
use Rattle.laws.specs.PartLaws.{part_put_other}
use Rattle.keeping.specs.Owing.{row_at, Arena, Placed, Owing}
use Rattle.keeping.specs.OwingLaws.{open_low}
use Rattle.keeping.specs.AlikeLaws.{alike_same, fits_as, entry_as, placed_as, pool_as, sizes_as}
use Rattle.keeping.specs.MappedKept.{Rising}

module _ (d : ℕ → ℕ) (m : Machine) (o : Owing d m) (p : ℕ) (opened : (process_at m p).opened ≡ 1) (l : List ℕ) where
  abbrev n : Machine
  n = with_order m p l

  low : p < 8
  low = open_low m o p opened

  there : p < length m.processes
  there = let k = o.sizes.processes in let h = low in omega arith

  room : p * 64 + 64 ≤ length m.order
  room = let k = o.sizes.order in let h = low in omega arith

  row_same : process_at n p ≡ attached_of (process_at m p) (length l)
  unfolding with_order
  row_same = get_or-set_same m.processes p (attached_of (process_at m p) (length l)) no_process there

  row_other : (q : ℕ) → q ≢ p → process_at n q ≡ process_at m q
  unfolding with_order
  row_other q z = get_or-set_other m.processes p q (attached_of (process_at m p) (length l)) no_process z

  part_same : part 64 p n.order ≡ pad 64 0 l
  unfolding with_order
  part_same = let r = room in part_put 64 p (pad 64 0 l) m.order (pad_length 64 0 l) (omega arith)

  part_other : (q : ℕ) → q ≢ p → part 64 q n.order ≡ part 64 q m.order
  unfolding with_order
  part_other q z = part_put_other 64 p q (pad 64 0 l) m.order (pad_length 64 0 l) room z

  -- other processes' lists
  pub order_other : (q : ℕ) → q ≢ p → order_of n q ≡ order_of m q
  unfolding order_of
  order_other q z = λ t. take (row_other q z t).attached (part_other q z t)

  -- each process's row: this one's with another count, the others' as they were
  each_process : (P : ℕ → Process → Type 0) → P p (attached_of (process_at m p) (length l)) → ((q : ℕ) → q ≢ p → P q (process_at m q)) → (q : ℕ)
      → P q (process_at n q)
  unfolding with_order
  each_process P here else = each_row m.processes p (attached_of (process_at m p) (length l)) no_process there P here else

  pub opened_same : (q : ℕ) → (process_at n q).opened ≡ (process_at m q).opened
  opened_same = each_process (λ q x. x.opened ≡ (process_at m q).opened) refl (λ q z. refl)

  count_same : (q : ℕ) → (process_at n q).mapped ≡ (process_at m q).mapped
  count_same = each_process (λ q x. x.mapped ≡ (process_at m q).mapped) refl (λ q z. refl)

  -- every page table stays
  pub mapped_order : (q : ℕ) → mapped_of n q ≡ mapped_of m q
  unfolding mapped_of with_order
  mapped_order q = ap (λ (k : ℕ). take k (part 128 q m.mapped)) (count_same q)

  module _ (few : length l ≤ 64) where
    -- the list reads back
    pub order_reads : order_of n p ≡ l
    order_reads = let r = room in order_put m p there l (omega arith) few

    module _ (once : Once l) (used : (t : ℕ) → In t l → (t < 64) × Used (region_at m p t))
        (pinned : (t : ℕ) → t < 64 → Used (region_at m p t) → In t l ⊎ (1 ≤ (region_at m p t).pins))
        (placed : (x : Mapping) → In x (mapped_of m p) → (k : Placed m p x) → In k.slot l) where
      -- a fact of each process's list
      each : (P : ℕ → List ℕ → Type 0) → P p l → ((q : ℕ) → q ≢ p → P q (order_of m q)) → (q : ℕ) → P q (order_of n q)
      each P here else q = go (ℕ_discrete q p)
        where
          go : Dec (q ≡ p) → P q (order_of n q)
          go (yes z) = subst (λ (r : ℕ). P r (order_of n r)) (sym z) (subst (P p) (sym order_reads) here)
          go (no z) = subst (P q) (sym (order_other q z)) (else q z)

      closed : (q : ℕ) → (process_at n q).opened ≢ 1 → process_at n q ≡ no_process
      closed = each_process (λ q x. x.opened ≢ 1 → x ≡ no_process) (λ u. absurd (u opened)) (λ q z. o.closed q)

      arenas : (q : ℕ) → q < 8 → Arena (process_at n q)
      arenas = each_process (λ q x. q < 8 → Arena x) (λ h. here) (λ q z. o.arenas q)
        where
          here : Arena (attached_of (process_at m p) (length l))
          here =
              let a = o.arenas p low in
              record {
                aligned_start = a.aligned_start;
                aligned_size = a.aligned_size;
                user_start = a.user_start;
                user_last = a.user_last;
                attached = few;
                mapped = a.mapped;
              }

      rest : (q : ℕ) → q < 8 → Rows 0 (drop (process_at n q).attached (part 64 q n.order)) (λ i s. s ≡ 0)
      rest q h = go (ℕ_discrete q p)
        where
          go : Dec (q ≡ p) → Rows 0 (drop (process_at n q).attached (part 64 q n.order)) (λ i s. s ≡ 0)
          go (yes z) = subst (λ (r : ℕ). Rows 0 (drop (process_at n r).attached (part 64 r n.order)) (λ i s. s ≡ 0)) (sym z)
              (subst (λ (r : Process). Rows 0 (drop r.attached (part 64 p n.order)) (λ i s. s ≡ 0)) (sym row_same)
              (subst (λ t. Rows 0 (drop (length l) t) (λ i s. s ≡ 0)) (sym part_same) (pad_past 0 64 l)))
          go (no z) = subst (λ (r : Process). Rows 0 (drop r.attached (part 64 q n.order)) (λ i s. s ≡ 0)) (sym (row_other q z))
              (subst (λ t. Rows 0 (drop (process_at m q).attached t) (λ i s. s ≡ 0)) (sym (part_other q z)) (o.order_rest q h))

      pins : (i : ℕ) → Used (row_at m i) → In (i % 64) (order_of n (i / 64)) ⊎ (1 ≤ (row_at m i).pins)
      pins i u =
          each (λ q s. i / 64 ≡ q → In (i % 64) s ⊎ (1 ≤ (row_at m i).pins)) here
          (λ q z e. subst (λ (r : ℕ). In (i % 64) (order_of m r) ⊎ (1 ≤ (row_at m i).pins)) e (o.pinned i u)) (i / 64) refl
        where
          here : i / 64 ≡ p → In (i % 64) l ⊎ (1 ≤ (row_at m i).pins)
          here e =
              let z : row_of p (i % 64) ≡ i = omega arith in
              subst (λ (j : ℕ). In (i % 64) l ⊎ (1 ≤ (row_at m j).pins)) z (pinned (i % 64) (omega arith) (subst (λ (j : ℕ). Used (row_at m j)) (sym z) u))

      mapped : (q : ℕ) → q < 8 → (x : Mapping) → In x (mapped_of n q) → Placed n q x
      unfolding with_order
      mapped q h x i =
          let j = subst (λ t. In x t) (mapped_order q) i in
          let k = o.mapped q h x j in
          placed_as m n q x k (each (λ r s. q ≡ r → In k.slot s)
          (λ e. subst (λ (r : ℕ). (x : Mapping) → In x (mapped_of m r) → (k : Placed m r x) → In k.slot l) (sym e) placed x j k)
          (λ r z e. subst (λ (v : ℕ). In k.slot (order_of m v)) e k.listed) q refl) (λ y. refl) (alike_same _) refl k.flagged

      -- the list put
      pub order_kept : Owing d n
      unfolding with_order holders_of holds
      order_kept = record {
        sizes = sizes_as m n (length-set m.processes p _) refl
            (put_part_length 64 p (pad 64 0 l) m.order (pad_length 64 0 l) room) refl refl refl refl refl refl o.sizes;
        pool = pool_as m n refl refl refl o.pool;
        counted = o.counted;
        held = o.held;
        unheld = o.unheld;
        apart = o.apart;
        regions = λ i. fits_as m n _ refl (λ u e. refl) (o.regions i);
        entries = λ i. entry_as m n _ (λ u. alike_same _) (λ u. refl) (o.entries i);
        once_a_page = o.once_a_page;
        one_page = o.one_page;
        closed = closed;
        empty = λ i u. o.empty i (λ e. u (opened_same (i / 64) ∙ e));
        arenas = arenas;
        listed = λ q t h k. each (λ r s. r < 8 → In t s → (t < 64) × Used (region_at m r t)) (λ z i. used t i) (λ r z y i. o.listed r t y i) q h k;
        once = λ q h. each (λ r s. r < 8 → Once s) (λ z. once) (λ r z y. o.once r y) q h;
        pinned = pins;
        order_rest = rest;
        paged = λ q h. let k = o.paged q h in record {
          rising = subst (λ t. Rising t) (sym (mapped_order q)) k.rising;
          free = subst (λ (c : ℕ). Rows no_mapping (drop c (part 128 q m.mapped)) (λ i x. x ≡ no_mapping)) (sym (count_same q)) k.free;
        };
        mapped = mapped;
      }
