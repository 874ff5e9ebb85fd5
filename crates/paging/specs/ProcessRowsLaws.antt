-- Laws of a process's rows: their number, the mapped ones among them, and what is read after rows or the count were put.
use Rattle.std.specs.Prelude.{◌≡◌, List, ℕ, ◌+◌, ◌*◌, ◌≤◌, ◌<◌, get_or, take, min, set}
use Rattle.std.proofs.Math.Path.{ap, sym}
use Rattle.std.proofs.Common.{◌∙◌, arith, length-take}
use Rattle.std.proofs.Math.ListN.{length}
use Rattle.laws.specs.ListsLaws.{put_same, put_set, part_put, part_length, part_at, put_part_again}
use Rattle.laws.specs.FirstRowsLaws.{taken_at}
use Rattle.model.specs.declared.Process.{Process}
use Rattle.model.specs.declared.Mapping.{Mapping}
use Rattle.laws.specs.Lists.{part}
use Rattle.model.specs.Layout.{word_count, machine}
use Rattle.model.specs.Machine.{Machine, process_at, no_mapping, mapped_of}
use Rattle.rows.specs.With.{with_mapped_table}
use Rattle.lookup.specs.LookupsLaws.{mapped_length}
use Rattle.paging.specs.ProcessRows.{rows_of, with_rows}

pub rows_of_length : (m : Machine) (p : ℕ) → p < 8 → length m.mapped ≡ 1024 → length (rows_of m p) ≡ 128
unfolding rows_of
rows_of_length m p h k = part_length m.mapped 128 p (rw k (omega arith))

pub row_is : (m : Machine) (p i : ℕ) (x : Mapping) → i < 128 → x ≡ get_or m.mapped (p * 128 + i) no_mapping → x ≡ get_or (rows_of m p) i no_mapping
unfolding rows_of
row_is m p i x h e = e ∙ sym (part_at m.mapped 128 p i no_mapping h)

-- the mapped rows are the first ones, at most 128
module _ (m : Machine) (p : ℕ) (h : p < 8) (sized : length m.mapped ≡ 1024) (q : Process) (read : q ≡ process_at m p) where
  pub count_min : (r : ℕ) → r ≡ min q.mapped 128 → r ≡ length (mapped_of m p)
  unfolding mapped_of rows_of
  count_min r e =
      let long = rows_of_length m p h sized in
      e ∙ ap (λ n. min q.mapped n) (sym long) ∙ sym (length-take q.mapped (part 128 p m.mapped)) ∙ ap (λ (x : Process). length (take x.mapped (part 128 p m.mapped))) read

pub mapped_row : (m : Machine) (p i : ℕ) → i < length (mapped_of m p) → get_or (rows_of m p) i no_mapping ≡ get_or (mapped_of m p) i no_mapping
unfolding mapped_of rows_of
mapped_row m p i h = sym (taken_at (process_at m p).mapped (part 128 p m.mapped) i no_mapping h)

pub mapped_most : (m : Machine) (p : ℕ) → p < 8 → length m.mapped ≡ 1024 → length (mapped_of m p) ≤ 128
unfolding mapped_of rows_of
mapped_most m p h sized = let long = rows_of_length m p h sized in simp (length-take, long) (omega arith)

-- ---- rows put

pub rows_of_put : (m : Machine) (p : ℕ) (rows : List Mapping) → p < 8 → length m.mapped ≡ 1024 → length rows ≡ 128 → rows_of (with_rows m p rows) p ≡ rows
unfolding rows_of with_rows
rows_of_put m p rows h sized long = part_put 128 p rows m.mapped long (rw sized (omega arith))

pub rows_put_again : (m : Machine) (p : ℕ) (a b : List Mapping) → p < 8 → length m.mapped ≡ 1024 → length a ≡ 128 → with_rows (with_rows m p a) p b ≡ with_rows m p b
unfolding with_rows
rows_put_again m p a b h sized long = ap (λ t. with_mapped_table m t) (put_part_again 128 p a b m.mapped long (rw sized (omega arith)))

-- a process's own rows put change nothing
pub rows_put_same : (m : Machine) (p : ℕ) → with_rows m p (rows_of m p) ≡ m
unfolding with_rows rows_of
rows_put_same m p = ap (λ t. with_mapped_table m t) (put_same 128 p m.mapped)

-- one row of the table set is one of the process's
pub set_row : (m : Machine) (p i : ℕ) (x : Mapping) → p < 8 → i < 128 → length m.mapped ≡ 1024 → with_mapped_table m (set m.mapped (p * 128 + i) x) ≡ with_rows m p (set (rows_of m p) i x)
unfolding with_rows rows_of
set_row m p i x h k sized = ap (λ t. with_mapped_table m t) (sym (put_set 128 p m.mapped i x k))

-- ---- what is known between calls that put rows of one process: the words' length, and the rows

pub record Rowed (m : Machine) (p : ℕ) (w : List ℕ) (rows : List Mapping) : Type 0 where
  pub sized : length w ≡ word_count
  pub same : machine w ≡ with_rows m p rows
  pub long : length rows ≡ 128

module _ (w₀ : List ℕ) (p : ℕ) (h : p < 8) where
  pub rowed_first : length w₀ ≡ word_count → Rowed (machine w₀) p w₀ (rows_of (machine w₀) p)
  rowed_first s = record { sized = s; same = sym (rows_put_same (machine w₀) p); long = rows_of_length (machine w₀) p h (mapped_length w₀) }

  module _ (w : List ℕ) (rows : List Mapping) (k : Rowed (machine w₀) p w rows) where
    pub rowed_rows : rows_of (machine w) p ≡ rows
    rowed_rows = ap (λ m. rows_of m p) k.same ∙ rows_of_put (machine w₀) p rows h (mapped_length w₀) k.long

    -- other rows put in a call
    pub rowed_put : (v : List ℕ) (f : List Mapping → List Mapping) → length v ≡ length w → machine v ≡ with_rows (machine w) p (f (rows_of (machine w) p)) → length (f rows) ≡ 128 → Rowed (machine w₀) p v (f rows)
    rowed_put v f s e long =
        record {
          sized = s ∙ k.sized;
          same = e ∙ ap (λ t. with_rows (machine w) p (f t)) rowed_rows ∙ ap (λ m. with_rows m p (f rows)) k.same ∙ rows_put_again (machine w₀) p rows (f rows) h (mapped_length w₀) k.long;
          long = long;
        }
