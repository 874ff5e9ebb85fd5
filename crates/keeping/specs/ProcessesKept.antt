-- A process's row put: with the same counts, open, or closed where it has no region.
use Rattle.std.specs.Prelude.{◌≡◌, ◌⊎◌, ◌≢◌, ℕ, ◌/◌, ◌%◌, ◌≤◌, ◌<◌, length, set, drop}
use Rattle.std.proofs.Math.Path.{refl, ap, subst}
use Rattle.std.proofs.Common.{sym, arith, length-set}
use Rattle.std.proofs.Math.ListN.{take}
use Rattle.model.specs.declared.Process.{Process}
use Rattle.laws.specs.Lists.{part}
use Rattle.model.specs.Machine.{Machine, with_processes, process_at, region_at, row_of, order_of, mapped_of, no_process, no_mapping}
use Rattle.laws.specs.Tests.{Rows}
use Rattle.model.specs.Sound.{holders_of, holds}
use Rattle.laws.specs.SetLaws.{each_row}
use Rattle.laws.specs.In.{In, Once}
use Rattle.keeping.specs.Owing.{row_at, Arena, Owing}
use Rattle.keeping.specs.AlikeLaws.{alike_same, fits_as, entry_as, placed_as, pool_as, sizes_as}
use Rattle.keeping.specs.MappedKept.{Rising}

module _ (d : ℕ → ℕ) (m : Machine) (o : Owing d m) (p : ℕ) (low : p < 8) (q : Process) (attached : q.attached ≡ (process_at m p).attached)
    (mapped : q.mapped ≡ (process_at m p).mapped) (arena : Arena q)
    (shut : q.opened ≢ 1 → (q ≡ no_process) × ((t : ℕ) → t < 64 → (region_at m p t).kind ≡ 0)) where
  abbrev n : Machine
  n = with_processes m (set m.processes p q)

  there : p < length m.processes
  there = let k = o.sizes.processes in omega arith

  each_process : (P : ℕ → Process → Type 0) → P p q → ((r : ℕ) → r ≢ p → P r (process_at m r)) → (r : ℕ) → P r (process_at n r)
  each_process P here else = each_row m.processes p q no_process there P here else

  attached_same : (r : ℕ) → (process_at n r).attached ≡ (process_at m r).attached
  attached_same = each_process (λ r x. x.attached ≡ (process_at m r).attached) attached (λ r z. refl)

  mapped_same : (r : ℕ) → (process_at n r).mapped ≡ (process_at m r).mapped
  mapped_same = each_process (λ r x. x.mapped ≡ (process_at m r).mapped) mapped (λ r z. refl)

  order_is : (r : ℕ) → order_of n r ≡ order_of m r
  unfolding order_of
  order_is r = ap (λ (k : ℕ). take k (part 64 r m.order)) (attached_same r)

  table_is : (r : ℕ) → mapped_of n r ≡ mapped_of m r
  unfolding mapped_of
  table_is r = ap (λ (k : ℕ). take k (part 128 r m.mapped)) (mapped_same r)

  empty : (i : ℕ) → (process_at n (i / 64)).opened ≢ 1 → (row_at m i).kind ≡ 0
  empty i =
      each_process (λ r x. i / 64 ≡ r → x.opened ≢ 1 → (row_at m i).kind ≡ 0)
      (λ e u. let z : row_of p (i % 64) ≡ i = omega arith in subst (λ (j : ℕ). (row_at m j).kind ≡ 0) z ((shut u).1 (i % 64) (omega arith)))
      (λ r z e u. o.empty i (subst (λ (j : ℕ). (process_at m j).opened ≢ 1) (sym e) u)) (i / 64) refl

  -- the row put
  pub process_kept : Owing d n
  unfolding holders_of holds
  process_kept = record {
    sizes = sizes_as m n (length-set m.processes p q) refl refl refl refl refl refl refl refl o.sizes;
    pool = pool_as m n refl refl refl o.pool;
    counted = o.counted;
    held = o.held;
    unheld = o.unheld;
    apart = o.apart;
    regions = λ i. fits_as m n _ refl (λ u e. refl) (o.regions i);
    entries = λ i. entry_as m n _ (λ u. alike_same _) (λ u. refl) (o.entries i);
    once_a_page = o.once_a_page;
    one_page = o.one_page;
    closed = each_process (λ r x. x.opened ≢ 1 → x ≡ no_process) (λ u. (shut u).0) (λ r z. o.closed r);
    empty = empty;
    arenas = each_process (λ r x. r < 8 → Arena x) (λ h. arena) (λ r z. o.arenas r);
    listed = λ r t h k. o.listed r t h (subst (λ l. In t l) (order_is r) k);
    once = λ r h. subst Once (sym (order_is r)) (o.once r h);
    pinned = λ i u. subst (λ l. In (i % 64) l ⊎ (1 ≤ (row_at m i).pins)) (sym (order_is (i / 64))) (o.pinned i u);
    order_rest = λ r h. subst (λ (k : ℕ). Rows 0 (drop k (part 64 r m.order)) (λ i s. s ≡ 0)) (sym (attached_same r)) (o.order_rest r h);
    paged = λ r h. let k = o.paged r h in record {
      rising = subst Rising (sym (table_is r)) k.rising;
      free = subst (λ (c : ℕ). Rows no_mapping (drop c (part 128 r m.mapped)) (λ i x. x ≡ no_mapping)) (sym (mapped_same r)) k.free;
    };
    mapped = λ r h x i. let k = o.mapped r h x (subst (λ l. In x l) (table_is r) i) in
        placed_as m n r x k (subst (λ l. In k.slot l) (sym (order_is r)) k.listed) (λ j. refl) (alike_same _) refl k.flagged;
  }
