-- A list in page order put as the page table keeps it well formed, and so does unmap_from.
use Rattle.std.specs.Prelude.{◌≡◌, cond, length, drop}
use Rattle.std.proofs.Common.{sym, subst, ◌∙◌, le_of_suc-le-suc, not-suc-le-zero, arith}
use Rattle.std.proofs.Math.Bool.{Bool, true, false, not}
use mathlib.Core.List.{List, [], ◌∷◌}
use Prim.Native.Nat.{ℕ, zero, suc, ◌+◌, ◌*◌, ◌≤◌, ◌<◌, zero-le, suc-le-suc}
use Rattle.std.proofs.Math.Seq.{get_or-set_same}
use Rattle.model.specs.declared.Process.{Process}
use Rattle.model.specs.declared.Region.{Region}
use Rattle.model.specs.declared.Mapping.{Mapping}
use Rattle.laws.specs.Lists.{part, pad, keep}
use Rattle.laws.specs.Tests.{Rows}
use Rattle.model.specs.Machine.{Machine, process_at, mapped_of, with_mapped, mapped_count, no_process, no_mapping}
use Rattle.laws.specs.ListsLaws.{keep_most, part_put, pad_length, pad_past, put_part_length}
use Rattle.model.specs.MachineLaws.{mapped_put}
use Rattle.model.specs.Paging.{maps_in, unmap_from}
use Rattle.paging.specs.ProcessRowsLaws.{mapped_most}
use Rattle.paging.specs.Order.{Rising}
use Rattle.paging.specs.OrderLaws.{From, rising_rest, rising_from, from_rest}
use Rattle.paging.specs.WellPaged.{WellPaged}

-- ---- page order

rising_cons : (x : Mapping) (l : List Mapping) → From (suc x.page.0) l → Rising l → Rising (x ∷ l)
rising_cons x l f r zero zero h k u = absurd (not-suc-le-zero h)
rising_cons x l f r zero (suc j) h k u = f j (le_of_suc-le-suc k)
rising_cons x l f r (suc i) zero h k u = absurd (not-suc-le-zero h)
rising_cons x l f r (suc i) (suc j) h k u = r i j (le_of_suc-le-suc h) (le_of_suc-le-suc k) u

from_cons : (n : ℕ) (x : Mapping) (l : List Mapping) → n ≤ x.page.0 → From n l → From n (x ∷ l)
from_cons n x l h f zero k = h
from_cons n x l h f (suc i) k = f i (le_of_suc-le-suc k)

module _ (f : Mapping → Bool) where
  from_keep : (n : ℕ) (l : List Mapping) → From n l → From n (keep f l)
  unfolding keep
  from_keep n [] r = r
  from_keep n (x ∷ l) r = go (f x) (from_keep n l (from_rest n x l r))
    where
      go : (b : Bool) → From n (keep f l) → From n (cond b (x ∷ keep f l) (keep f l))
      go true s = from_cons n x (keep f l) (r zero (suc-le-suc zero-le)) s
      go false s = s

  rising_keep : (l : List Mapping) → Rising l → Rising (keep f l)
  unfolding keep
  rising_keep [] r = r
  rising_keep (x ∷ l) r = go (f x) (rising_keep l (rising_rest x l r))
    where
      go : (b : Bool) → Rising (keep f l) → Rising (cond b (x ∷ keep f l) (keep f l))
      go true s = rising_cons x (keep f l) (from_keep (suc x.page.0) l (rising_from x l r)) s
      go false s = s

-- ---- the machine

module _ (m : Machine) (p : ℕ) (w : WellPaged m p) (there : p < length m.processes) where
  room : p * 128 + 128 ≤ length m.mapped
  room = let size = w.table in let h = w.process in omega arith

  module _ (l : List Mapping) where
    table_kept : length (with_mapped m p l).mapped ≡ 1024
    unfolding with_mapped
    table_kept = put_part_length 128 p (pad 128 no_mapping l) m.mapped (pad_length 128 no_mapping l) room ∙ w.table

    count_put : process_at (with_mapped m p l) p ≡ mapped_count (process_at m p) (length l)
    unfolding with_mapped
    count_put = get_or-set_same m.processes p (mapped_count (process_at m p) (length l)) no_process there

    rows_put : part 128 p (with_mapped m p l).mapped ≡ pad 128 no_mapping l
    unfolding with_mapped
    rows_put = let r = room in part_put 128 p (pad 128 no_mapping l) m.mapped (pad_length 128 no_mapping l) (omega arith)

    -- any list in page order, put as the page table
    pub put_keeps : Rising l → length l ≤ 128 → WellPaged (with_mapped m p l) p
    put_keeps r few =
        let size = room in
        record {
          process = w.process;
          table = table_kept;
          few = subst (λ (q : Process). q.mapped ≤ 128) (sym count_put) few;
          paged = record {
            rising = subst Rising (sym (mapped_put m p there l (omega arith) few)) r;
            free = subst (λ (q : Process). Rows no_mapping (drop q.mapped (part 128 p (with_mapped m p l).mapped)) (λ i x. x ≡ no_mapping)) (sym count_put) (subst (λ t. Rows no_mapping (drop (length l) t) (λ i x. x ≡ no_mapping)) (sym rows_put) (pad_past no_mapping 128 l));
          };
        }

  few : length (mapped_of m p) ≤ 128
  few = mapped_most m p w.process w.table

  pub unmap_from_keeps : (r : Region) → WellPaged (unmap_from m p r) p
  unfolding unmap_from
  unmap_from_keeps r = let f : Mapping → Bool = λ x. not (maps_in r x) in let less = keep_most f (mapped_of m p) in let most = few in put_keeps (keep f (mapped_of m p)) (rising_keep f (mapped_of m p) w.paged.rising) (omega arith)
