-- A page table put: any list of mappings that have their places, in page order. Put twice, the last counts.
use Rattle.std.specs.Prelude.{◌≡◌, ◌⊎◌, ◌≢◌, List, ℕ, ◌+◌, ◌*◌, ◌/◌, ◌%◌, ◌≤◌, ◌<◌, length, drop}
use Rattle.std.proofs.Math.Path.{refl, subst}
use Rattle.std.proofs.Common.{sym, ◌∙◌, arith, length-set}
use Rattle.std.proofs.Math.Decide.{ℕ_discrete}
use Rattle.std.proofs.Math.ListN.{take}
use Rattle.std.proofs.Math.Seq.{get_or-set_same, get_or-set_other}
use Rattle.model.specs.declared.Process.{Process}
use Rattle.model.specs.declared.Mapping.{Mapping}
use Rattle.laws.specs.Lists.{part, pad}
use Rattle.model.specs.Machine.{Machine, process_at, mapped_of, with_mapped, mapped_count, no_process, no_mapping}
use Rattle.laws.specs.Tests.{Rows, Pairs}
use Rattle.model.specs.Sound.{Paged, holders_of, holds}
use Rattle.model.specs.MachineLaws.{mapped_put, order_mapped}
use Rattle.laws.specs.ListsLaws.{part_put, pad_length, put_part_length, put_part_again, pad_past}
use Rattle.laws.specs.SetLaws.{each_row, set_twice}
use Rattle.laws.specs.In.{In, Once}
use Rattle.laws.specs.PartLaws.{part_put_other}
use Rattle.keeping.specs.Owing.{row_at, Sizes, Arena, Placed, Owing}
use Rattle.keeping.specs.OwingLaws.{open_low}
use Rattle.keeping.specs.AlikeLaws.{alike_same, fits_as, entry_as, placed_as, pool_as, sizes_as}

-- in page order
abbrev pub Rising : List Mapping → Type 0
Rising l = Pairs no_mapping l (λ x. Unit {0}) (λ x y. x.page.0 < y.page.0)

module _ (d : ℕ → ℕ) (m : Machine) (o : Owing d m) (p : ℕ) (opened : (process_at m p).opened ≡ 1) (l : List Mapping) where
  abbrev n : Machine
  n = with_mapped m p l

  low : p < 8
  low = open_low m o p opened

  there : p < length m.processes
  there = let k = o.sizes.processes in let h = low in omega arith

  room : p * 128 + 128 ≤ length m.mapped
  room = let k = o.sizes.mapped in let h = low in omega arith

  row_same : process_at n p ≡ mapped_count (process_at m p) (length l)
  unfolding with_mapped
  row_same = get_or-set_same m.processes p (mapped_count (process_at m p) (length l)) no_process there

  row_other : (q : ℕ) → q ≢ p → process_at n q ≡ process_at m q
  unfolding with_mapped
  row_other q z = get_or-set_other m.processes p q (mapped_count (process_at m p) (length l)) no_process z

  part_same : part 128 p n.mapped ≡ pad 128 no_mapping l
  unfolding with_mapped
  part_same = let r = room in part_put 128 p (pad 128 no_mapping l) m.mapped (pad_length 128 no_mapping l) (omega arith)

  part_other : (q : ℕ) → q ≢ p → part 128 q n.mapped ≡ part 128 q m.mapped
  unfolding with_mapped
  part_other q z = part_put_other 128 p q (pad 128 no_mapping l) m.mapped (pad_length 128 no_mapping l) room z

  -- other processes' page tables
  pub mapped_other : (q : ℕ) → q ≢ p → mapped_of n q ≡ mapped_of m q
  unfolding mapped_of
  mapped_other q z = λ t. take (row_other q z t).mapped (part_other q z t)

  -- each process's row: this one's with another count, the others' as they were
  each_process : (P : ℕ → Process → Type 0) → P p (mapped_count (process_at m p) (length l)) → ((q : ℕ) → q ≢ p → P q (process_at m q)) → (q : ℕ)
      → P q (process_at n q)
  unfolding with_mapped
  each_process P here else = each_row m.processes p (mapped_count (process_at m p) (length l)) no_process there P here else

  pub opened_same : (q : ℕ) → (process_at n q).opened ≡ (process_at m q).opened
  opened_same = each_process (λ q x. x.opened ≡ (process_at m q).opened) refl (λ q z. refl)

  attached_same : (q : ℕ) → (process_at n q).attached ≡ (process_at m q).attached
  attached_same = each_process (λ q x. x.attached ≡ (process_at m q).attached) refl (λ q z. refl)

  module _ (rising : Rising l) (few : length l ≤ 128) (placed : (x : Mapping) → In x l → Placed m p x) where
    reads : mapped_of n p ≡ l
    reads = let r = room in mapped_put m p there l (omega arith) few

    sizes : Sizes n
    unfolding with_mapped
    sizes =
        sizes_as m n (length-set m.processes p _) refl refl
        (put_part_length 128 p (pad 128 no_mapping l) m.mapped (pad_length 128 no_mapping l) room) refl refl refl refl refl o.sizes

    closed : (q : ℕ) → (process_at n q).opened ≢ 1 → process_at n q ≡ no_process
    closed = each_process (λ q x. x.opened ≢ 1 → x ≡ no_process) (λ u. absurd (u opened)) (λ q z. o.closed q)

    arenas : (q : ℕ) → q < 8 → Arena (process_at n q)
    arenas = each_process (λ q x. q < 8 → Arena x) (λ h. here) (λ q z. o.arenas q)
      where
        here : Arena (mapped_count (process_at m p) (length l))
        here =
            let a = o.arenas p low in
            record {
              aligned_start = a.aligned_start;
              aligned_size = a.aligned_size;
              user_start = a.user_start;
              user_last = a.user_last;
              attached = a.attached;
              mapped = few;
            }

    paged : (q : ℕ) → q < 8 → Paged n q (process_at n q)
    paged q h = go (ℕ_discrete q p)
      where
        go : Dec (q ≡ p) → Paged n q (process_at n q)
        go (yes z) = subst (λ (r : ℕ). Paged n r (process_at n r)) (sym z) (record {
          rising = subst Rising (sym reads) rising;
          free = subst (λ (r : Process). Rows no_mapping (drop r.mapped (part 128 p n.mapped)) (λ i x. x ≡ no_mapping)) (sym row_same)
              (subst (λ t. Rows no_mapping (drop (length l) t) (λ i x. x ≡ no_mapping)) (sym part_same) (pad_past no_mapping 128 l));
        })
        go (no z) =
            let k = o.paged q h in
            record {
              rising = subst Rising (sym (mapped_other q z)) k.rising;
              free = subst (λ (r : Process). Rows no_mapping (drop r.mapped (part 128 q n.mapped)) (λ i x. x ≡ no_mapping)) (sym (row_other q z))
                  (subst (λ t. Rows no_mapping (drop (process_at m q).mapped t) (λ i x. x ≡ no_mapping)) (sym (part_other q z)) k.free);
            }

    stays : (q : ℕ) (x : Mapping) → Placed m q x → Placed n q x
    unfolding with_mapped
    stays q x k = placed_as m n q x k (subst (λ t. In k.slot t) (sym (order_mapped m p q l)) k.listed) (λ i. refl) (alike_same _) refl k.flagged

    mapped : (q : ℕ) → q < 8 → (x : Mapping) → In x (mapped_of n q) → Placed n q x
    mapped q h x k = go (ℕ_discrete q p)
      where
        go : Dec (q ≡ p) → Placed n q x
        go (yes z) = stays q x (subst (λ (r : ℕ). Placed m r x) (sym z) (placed x (subst (λ t. In x t) reads (subst (λ (r : ℕ). In x (mapped_of n r)) z k))))
        go (no z) = stays q x (o.mapped q h x (subst (λ t. In x t) (mapped_other q z) k))

    -- the page table put
    pub mapped_kept : Owing d n
    unfolding with_mapped holders_of holds
    mapped_kept = record {
      sizes = sizes;
      pool = pool_as m n refl refl refl o.pool;
      counted = o.counted;
      held = o.held;
      unheld = o.unheld;
      apart = o.apart;
      regions = λ i. fits_as m n _ refl (λ u e. refl) (o.regions i);
      entries = λ i. entry_as m n _ (λ u. alike_same _) (λ u. refl) (o.entries i);
      once_a_page = o.once_a_page;
      one_page = o.one_page;
      closed = closed;
      empty = λ i u. o.empty i (λ e. u (opened_same (i / 64) ∙ e));
      arenas = arenas;
      listed = λ q t h k. o.listed q t h (subst (λ s. In t s) (order_mapped m p q l) k);
      once = λ q h. subst Once (sym (order_mapped m p q l)) (o.once q h);
      pinned = λ i u. subst (λ s. In (i % 64) s ⊎ (1 ≤ (row_at m i).pins)) (sym (order_mapped m p (i / 64) l)) (o.pinned i u);
      order_rest = λ q h. subst (λ (k : ℕ). Rows 0 (drop k (part 64 q m.order)) (λ i s. s ≡ 0)) (sym (attached_same q)) (o.order_rest q h);
      paged = paged;
      mapped = mapped;
    }

-- put twice: the last page table counts
pub mapped_again : (m : Machine) (p : ℕ) (k l : List Mapping) → p * 128 + 128 ≤ length m.mapped → with_mapped (with_mapped m p k) p l ≡ with_mapped m p l
unfolding with_mapped
mapped_again m p k l room = λ t. record {
  processes = set_twice no_process (λ q. mapped_count q (length k)) (λ q. mapped_count q (length l)) (λ q. mapped_count q (length l)) (λ q. refl)
      m.processes p t;
  regions = m.regions;
  order = m.order;
  mapped = put_part_again 128 p (pad 128 no_mapping k) (pad 128 no_mapping l) m.mapped (pad_length 128 no_mapping k) room t;
  entries = m.entries;
  backings = m.backings;
  pool = m.pool;
  files = m.files;
  frame_count = m.frame_count;
  file_count = m.file_count;
}
