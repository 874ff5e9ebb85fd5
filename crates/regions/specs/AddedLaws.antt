-- Laws of `Added`: a region more in a process's list: what is put, and that this is the model's add_region where the places past the last are 0.
use Rattle.std.specs.Prelude.{◌≡◌, List, [], ◌∷◌, ◌++◌, ℕ, ◌+◌, ◌*◌, ◌≤◌, ◌<◌, length, set, take, drop}
use Rattle.std.proofs.Common.{ap, sym, subst, ◌∙◌, arith, length-append, length-take-le}
use Rattle.model.specs.declared.Process.{Process}
use Rattle.model.specs.declared.Region.{Region}
use Rattle.laws.specs.Lists.{part, put_part, pad}
use Rattle.model.specs.Machine.{Machine, process_at, attached_of, order_of, row_of, with_regions, with_region, with_processes, with_order}
use Rattle.model.specs.Layout.{machine}
use Rattle.model.specs.Lookup.{free_slot, row_found}
use Rattle.model.specs.Create.{add_region}
use Rattle.laws.specs.Tests.{Rows}
use Rattle.rows.specs.With.{with_order_table}
use Rattle.laws.specs.ListsLaws.{part_length, pad_last, put_set}
use Rattle.lookup.specs.LookupsLaws.{order_length}
use Rattle.regions.specs.Added.{with_added}

-- ---- what the puts leave

pub count_below : (m : Machine) (p : ℕ) (q : Process) → q ≡ process_at m p → (process_at m p).attached < 64 → q.attached < 64
count_below m p q e h = subst (λ (x : Process). x.attached < 64) (sym e) h

pub puts_added :
    (m a b c : Machine) (p s : ℕ) (r : Region) (q : Process)
    → q ≡ process_at m p
    → a ≡ with_regions m (set m.regions (row_of p s) r)
    → b ≡ with_order_table a (set a.order (row_of p q.attached) s)
    → c ≡ with_processes b (set b.processes p (attached_of (process_at b p) (q.attached + 1)))
    → c ≡ with_added m p s r
unfolding with_added
puts_added m a b c p s r q read x y z =
    z
    ∙ ap (λ (n : Machine). with_processes n (set n.processes p (attached_of (process_at n p) (q.attached + 1)))) (y ∙ ap (λ (n : Machine). with_order_table n (set n.order (row_of p q.attached) s)) x)
    ∙ ap (λ (t : Process). with_processes (with_order_table (with_region m p s r) (set m.order (row_of p t.attached) s)) (set m.processes p (attached_of (process_at m p) (t.attached + 1)))) read

-- ---- the model's add_region

-- a process's places are among those of the table
pub places_inside : (w : List ℕ) (p : ℕ) → p < 8 → p * 64 + 64 ≤ length (machine w).order
places_inside w p h = let l = order_length w in omega arith

-- the slot goes last in list order
pub added_order :
    (m : Machine) (p s : ℕ) (r : Region)
    → p * 64 + 64 ≤ length m.order
    → (process_at m p).attached < 64
    → Rows 0 (drop (process_at m p).attached (part 64 p m.order)) (λ i t. t ≡ 0)
    → with_added m p s r ≡ with_order (with_region m p s r) p (order_of m p ++ (s ∷ []))
unfolding with_added with_order order_of
added_order m p s r inside room free =
    λ k. record { processes = set m.processes p (attached_of (process_at m p) (sym counted k)); regions = set m.regions (row_of p s) r; order = sym placed k; mapped = m.mapped; entries = m.entries; backings = m.backings; pool = m.pool; files = m.files; frame_count = m.frame_count; file_count = m.file_count }
  where
    n : ℕ
    n = (process_at m p).attached

    places : List ℕ
    places = part 64 p m.order

    sized : length places ≡ 64
    sized = part_length m.order 64 p inside

    counted : length (take n places ++ (s ∷ [])) ≡ n + 1
    counted = length-append (take n places) (s ∷ []) ∙ ap (λ (x : ℕ). x + 1) (length-take-le n places (rw sized (omega arith)))

    placed : put_part 64 p (pad 64 0 (take n places ++ (s ∷ []))) m.order ≡ set m.order (row_of p n) s
    placed =
        ap (λ (x : ℕ). put_part 64 p (pad x 0 (take n places ++ (s ∷ []))) m.order) (sym sized)
        ∙ ap (λ t. put_part 64 p t m.order) (pad_last places n s (rw sized room) free)
        ∙ put_set 64 p m.order n s room

-- in the lowest free slot: the model's add_region
pub added_free :
    (m : Machine) (p : ℕ) (r : Region)
    → p * 64 + 64 ≤ length m.order
    → (process_at m p).attached < 64
    → Rows 0 (drop (process_at m p).attached (part 64 p m.order)) (λ i t. t ≡ 0)
    → with_added m p (row_found (free_slot m p)) r ≡ add_region m p r
unfolding add_region
added_free m p r inside room free = added_order m p (row_found (free_slot m p)) r inside room free
