-- A slot put last in list order, where a place is free and the free places are 0.
use Rattle.std.specs.Prelude.{◌≡◌, [], ◌∷◌, ◌++◌, ℕ, ◌+◌, ◌*◌, ◌≤◌, length, set}
use Rattle.std.proofs.Common.{ap, ◌∙◌}
use Rattle.model.specs.declared.Process.{Process}
use Rattle.model.specs.Machine.{Machine, process_at, attached_of, order_of, row_of, with_processes, with_order, with_region, region_at}
use Rattle.model.specs.Carve.{push}
use Rattle.rows.specs.With.{with_order_table}
use Rattle.regions.specs.Added.{with_added}
use Rattle.regions.specs.AddedLaws.{added_order}
use Rattle.split.specs.ListRoom.{Room}

-- the same with no region put
alone : (m : Machine) (p s : ℕ) → with_added m p s (region_at m p s) ≡ with_order (with_region m p s (region_at m p s)) p (order_of m p ++ (s ∷ [])) → with_processes (with_order_table m (set m.order (row_of p (process_at m p).attached) s)) (set m.processes p (attached_of (process_at m p) ((process_at m p).attached + 1))) ≡ with_order m p (order_of m p ++ (s ∷ []))
unfolding with_added with_order
alone m p s e = λ k. record { processes = (e k).processes; regions = m.regions; order = (e k).order; mapped = m.mapped; entries = m.entries; backings = m.backings; pool = m.pool; files = m.files; frame_count = m.frame_count; file_count = m.file_count }

pub puts_last :
    (m a b : Machine) (p s : ℕ) (q : Process)
    → p * 64 + 64 ≤ length m.order
    → Room m p
    → q ≡ process_at m p
    → a ≡ with_order_table m (set m.order (row_of p q.attached) s)
    → b ≡ with_processes a (set a.processes p (attached_of (process_at a p) (q.attached + 1)))
    → b ≡ push m p s
puts_last m a b p s q inside room read x y =
    y
    ∙ ap (λ (n : Machine). with_processes n (set n.processes p (attached_of (process_at n p) (q.attached + 1)))) x
    ∙ ap (λ (t : Process). with_processes (with_order_table m (set m.order (row_of p t.attached) s)) (set m.processes p (attached_of (process_at m p) (t.attached + 1)))) read
    ∙ same
  where
    same : with_processes (with_order_table m (set m.order (row_of p (process_at m p).attached) s)) (set m.processes p (attached_of (process_at m p) ((process_at m p).attached + 1))) ≡ with_order m p (order_of m p ++ (s ∷ []))
    same = alone m p s (added_order m p s (region_at m p s) inside room.few room.free)
