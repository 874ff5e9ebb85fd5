-- Lent rows and the by-value manager hold one table: what a call leaves of the rows is what the manager's own definition leaves of its rows. That `find` answers the manager's place is `foundIn`'s definition.
use Rattle.std.specs.Prelude.{◌≡◌, ◌++◌, ℕ, suc, ◌+◌, ◌-◌, ◌≤◌, ◌<◌, length, drop}
use Rattle.std.proofs.Common.{ap, sym, ◌∙◌, add-one, arith, length-take-le, lt-ltb, le-leb}
use Rattle.segment.specs.declared.Segment.{Segment}
use Rattle.segments.specs.declared.table.VirtualMemoryManager.{VirtualMemoryManager}
use Rattle.segments.specs.Table.{held, stored, insert, removed_at}
use Rattle.segments.specs.InsertLaws.{length_insert}
use Rattle.segments.specs.ShiftLaws.{with_rows, removed_length}
use Rattle.segment_records.specs.Records.{inserted, removed}

module _ (m : VirtualMemoryManager) where
  pub same_insert : (s : Segment) → m.count < length m.segments → stored m (insert s (held m)) ≡ with_rows m (m.count + 1) (inserted m.count s m.segments)
  same_insert s h =
      rw (lt-ltb m.count (length m.segments) h)
      (ap (λ (k : ℕ). with_rows m k (insert s (held m) ++ drop k m.segments)) (length_insert s (held m) ∙ ap suc (length-take-le m.count m.segments (omega arith)))
      ∙ ap (λ (k : ℕ). with_rows m k (insert s (held m) ++ drop (suc m.count) m.segments)) (sym (add-one m.count)))

  pub same_remove : (k : ℕ) → k < m.count → m.count ≤ length m.segments → stored m (removed_at k (held m)) ≡ with_rows m (m.count - 1) (removed m.count k m.segments)
  same_remove k h l =
      rw (lt-ltb k m.count h, le-leb m.count (length m.segments) l) (ap (λ (n : ℕ). with_rows m n (removed_at k (held m) ++ drop n m.segments)) fewer)
    where
      size : length (held m) ≡ m.count
      size = length-take-le m.count m.segments l

      fewer : length (removed_at k (held m)) ≡ m.count - 1
      fewer = let e = size in let r = removed_length k (held m) (omega arith) in omega arith
