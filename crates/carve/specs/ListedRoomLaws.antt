-- A list put with with_order has room behind it, and slots pushed there are appended.
use Rattle.std.specs.Prelude.{◌≡◌, drop}
use Rattle.std.proofs.Math.Path.{ap, subst}
use Rattle.std.proofs.Common.{sym, ◌∙◌, arith}
use mathlib.Core.List.{List, [], ◌∷◌, ◌++◌, append_assoc, append-nil}
use Prim.Native.Nat.{ℕ, suc, ◌+◌, ◌*◌, ◌≤◌, ◌<◌}
use Rattle.std.proofs.Math.ListN.{length, length-append}
use Rattle.std.proofs.Math.Seq.{get_or-set_same}
use Rattle.model.specs.declared.Process.{Process}
use Rattle.laws.specs.Lists.{part, pad}
use Rattle.laws.specs.Tests.{Rows}
use Rattle.model.specs.Machine.{Machine, process_at, attached_of, order_of, with_order, no_process}
use Rattle.laws.specs.ListsLaws.{pad_length, part_put, pad_past}
use Rattle.model.specs.MachineLaws.{order_put}
use Rattle.keeping.specs.CarveKept.{order_again}
use Rattle.split.specs.ListRoom.{Room}
use Rattle.carve.specs.PutBack.{push_all, Rooms}

module _ (x : Machine) (p : ℕ) (inside : p < length x.processes) (room : p * 64 + 64 ≤ length x.order) where
  row : (l : List ℕ) → process_at (with_order x p l) p ≡ attached_of (process_at x p) (length l)
  unfolding with_order
  row l = get_or-set_same x.processes p (attached_of (process_at x p) (length l)) no_process inside

  places : (l : List ℕ) → part 64 p (with_order x p l).order ≡ pad 64 0 l
  unfolding with_order
  places l = part_put 64 p (pad 64 0 l) x.order (pad_length 64 0 l) (omega arith)

  pub room_behind : (l : List ℕ) → length l < 64 → Room (with_order x p l) p
  room_behind l h = record {
    few = subst (λ (q : Process). q.attached < 64) (sym (row l)) h;
    free = subst (λ (q : Process). Rows 0 (drop q.attached (part 64 p (with_order x p l).order)) (λ i t. t ≡ 0)) (sym (row l)) (subst (λ t. Rows 0 (drop (length l) t) (λ i t. t ≡ 0)) (sym (places l)) (pad_past 0 64 l));
  }

  pub reads : (l : List ℕ) → length l ≤ 64 → order_of (with_order x p l) p ≡ l
  reads l h = order_put x p inside l (omega arith) h

  pub appended : (l rest : List ℕ) → length l ≤ 64 → with_order (with_order x p l) p (order_of (with_order x p l) p ++ rest) ≡ with_order x p (l ++ rest)
  appended l rest h = ap (λ y. with_order (with_order x p l) p (y ++ rest)) (reads l h) ∙ order_again x p l (l ++ rest) room

  pub rooms_behind : (rest l : List ℕ) → length (l ++ rest) ≤ 64 → Rooms p rest (with_order x p l)
  unfolding Rooms
  rooms_behind [] l h = tt
  rooms_behind (s ∷ rest) l h =
      let e : length (l ++ (s ∷ rest)) ≡ length l + suc (length rest) = length-append l (s ∷ rest) in
      let more : length ((l ++ (s ∷ [])) ++ rest) ≡ length (l ++ (s ∷ rest)) = ap (λ t. length t) (append_assoc l (s ∷ []) rest) in
      (room_behind l (omega arith), subst (λ (m : Machine). Rooms p rest m) (sym (appended l (s ∷ []) (omega arith))) (rooms_behind rest (l ++ (s ∷ [])) (omega arith)))

  pub pushed_all : (rest l : List ℕ) → length (l ++ rest) ≤ 64 → push_all p rest (with_order x p l) ≡ with_order x p (l ++ rest)
  unfolding push_all
  pushed_all [] l h = ap (λ t. with_order x p t) (sym (append-nil l))
  pushed_all (s ∷ rest) l h =
      let e : length (l ++ (s ∷ rest)) ≡ length l + suc (length rest) = length-append l (s ∷ rest) in
      let more : length ((l ++ (s ∷ [])) ++ rest) ≡ length (l ++ (s ∷ rest)) = ap (λ t. length t) (append_assoc l (s ∷ []) rest) in
      ap (λ (m : Machine). push_all p rest m) (appended l (s ∷ []) (omega arith)) ∙ pushed_all rest (l ++ (s ∷ [])) (omega arith) ∙ ap (λ t. with_order x p t) (append_assoc l (s ∷ []) rest)
