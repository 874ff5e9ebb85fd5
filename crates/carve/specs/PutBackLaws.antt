-- Slots put back, one after the other.
use Rattle.std.specs.Prelude.{◌≡◌, refl, ℕ, suc, ◌+◌, ◌-◌, ◌≤◌, ◌<◌, length, get_or, take, drop}
use Rattle.std.proofs.Math.Path.{ap, sym, subst}
use Rattle.std.proofs.Common.{◌∙◌, add-one, drop-cons}
use mathlib.Core.List.{List, [], ◌∷◌}
use native.Mathlib.Omega.{arith}
use Rattle.model.specs.Machine.{Machine}
use Rattle.model.specs.Layout.{machine}
use Rattle.model.specs.Carve.{push}
use Rattle.split.specs.ListRoom.{Room}
use Rattle.carve.specs.PutBack.{slice, push_all, Rooms}

pub slice_cons : (out : List ℕ) (i k : ℕ) → i < k → k ≤ length out → slice out i k ≡ get_or out i 0 ∷ slice out (i + 1) k
slice_cons out i k h l =
    ap (λ (n : ℕ). take n (drop i out)) (let e : k - i ≡ suc (k - suc i) = omega arith in e)
    ∙ ap (λ t. take (suc (k - suc i)) t) (drop-cons out i 0 (omega arith))
    ∙ ap (λ (j : ℕ). get_or out i 0 ∷ take (k - j) (drop j out)) (sym (add-one i))

pub slice_none : (out : List ℕ) (i k : ℕ) → k ≤ i → slice out i k ≡ []
slice_none out i k h = ap (λ (n : ℕ). take n (drop i out)) (let e : k - i ≡ 0 = omega arith in e)

-- those up to i are back
abbrev pub PutBack : List ℕ → List ℕ → ℕ → ℕ → ℕ → List ℕ → ℕ → Type 0
PutBack w out from to p v i = ((from ≤ i) × (i ≤ to)) × ((length v ≡ length w) × (Rooms p (slice out i to) (machine v) × (push_all p (slice out i to) (machine v) ≡ push_all p (slice out from to) (machine w))))

module _ (w out : List ℕ) (from to p : ℕ) (most : to ≤ length out) where
  pub back_first : from ≤ to → Rooms p (slice out from to) (machine w) → PutBack w out from to p w from
  back_first h r = ((omega arith, h), (refl, (r, refl)))

  module _ (v : List ℕ) (i : ℕ) (s : PutBack w out from to p v i) where
    next : i < to → Room (machine v) p × Rooms p (slice out (i + 1) to) (push (machine v) p (get_or out i 0))
    unfolding Rooms
    next h = subst (λ (l : List ℕ). Rooms p l (machine v)) (slice_cons out i to h most) s.1.1.0

    pub back_room : i < to → Room (machine v) p
    back_room h = (next h).0

    pub back_more : i < to → (x : ℕ) → x ≡ get_or out i 0 → (u : List ℕ) → length u ≡ length v → machine u ≡ push (machine v) p x → PutBack w out from to p u (i + 1)
    unfolding push_all
    back_more h x e u long put =
        ((omega arith, omega arith), (long ∙ s.1.0, (subst (λ (m : Machine). Rooms p (slice out (i + 1) to) m) (sym same) (next h).1, ap (λ (m : Machine). push_all p (slice out (i + 1) to) m) same ∙ ap (λ l. push_all p l (machine v)) (sym (slice_cons out i to h most)) ∙ s.1.1.1)))
      where
        same : machine u ≡ push (machine v) p (get_or out i 0)
        same = put ∙ ap (λ (y : ℕ). push (machine v) p y) e

    pub back_all : to ≤ i → machine v ≡ push_all p (slice out from to) (machine w)
    unfolding push_all
    back_all h = sym (ap (λ l. push_all p l (machine v)) (slice_none out i to h)) ∙ s.1.1.1
