-- Frames in a backing, and the free frames from one on.
use Rattle.std.specs.Prelude.{◌≡◌, ◌⊎◌, List, [], ◌∷◌, get_or, take}
use Rattle.std.proofs.Common.{ap, sym, ◌∙◌, inl, inr, get_or-take}
use mathlib.Core.Bool.{Bool, true, false, not, cond}
use Prim.Native.Nat.{ℕ, zero, suc, ◌+◌, ◌-◌, ◌≤◌, ◌<◌}
use native.Mathlib.Omega.{arith}
use Rattle.laws.specs.Tells.{Tells}
use Rattle.laws.specs.TellsLaws.{told, not_told, tells_both}
use Rattle.model.specs.declared.Backing.{Backing}
use Rattle.laws.specs.Lists.{keep, up_from}
use Rattle.model.specs.Machine.{no_backing}
use Rattle.laws.specs.TestLaws.{tells_le, tells_lt, tells_or, tells_as}
use Rattle.model.specs.Backing.{in_some}

abbrev pub len_at : List Backing → ℕ → ℕ
len_at l g = (get_or l g no_backing).len

-- a backing that starts at or below a frame reaches past it
abbrev pub In : List Backing → ℕ → Type 0
In l f = (g : ℕ) × ((g ≤ f) × (f < g + len_at l g))

in_some_tells : (f k : ℕ) (l : List Backing) → Tells (in_some f k l) ((i : ℕ) × ((k + i ≤ f) × (f < k + i + len_at l i)))
unfolding in_some
in_some_tells f k [] = record { yes = λ e. absurd (mathlib.Core.Bool.false≢true e); no = λ e p. let a = p.1.0 in let b = p.1.1 in omega arith }
in_some_tells f k (b ∷ l) = tells_as join part (tells_or (tells_both (tells_le k f) (tells_lt f (k + b.len))) (in_some_tells f (k + 1) l))
  where
    join : ((k ≤ f) × (f < k + b.len)) ⊎ ((i : ℕ) × ((k + 1 + i ≤ f) × (f < k + 1 + i + len_at l i))) → (i : ℕ) × ((k + i ≤ f) × (f < k + i + len_at (b ∷ l) i))
    join (inl p) = let x = p.0 in let y = p.1 in (zero, (omega arith, omega arith))
    join (inr q) = let x = q.1.0 in let y = q.1.1 in (suc q.0, (omega arith, omega arith))

    part : (i : ℕ) × ((k + i ≤ f) × (f < k + i + len_at (b ∷ l) i)) → ((k ≤ f) × (f < k + b.len)) ⊎ ((i : ℕ) × ((k + 1 + i ≤ f) × (f < k + 1 + i + len_at l i)))
    part (zero, (x, y)) = inl (omega arith, omega arith)
    part (suc i, (x, y)) = inr (i, (omega arith, omega arith))

-- backings past the frames hold no frame
in_tells : (n : ℕ) (l : List Backing) (f : ℕ) → f < n → Tells (in_some f 0 (take n l)) (In l f)
in_tells n l f h = tells_as to from (in_some_tells f 0 (take n l))
  where
    same : (g : ℕ) → g ≤ f → len_at (take n l) g ≡ len_at l g
    same g p = ap (λ (b : Backing). b.len) (get_or-take n l g no_backing (omega arith))

    to : (i : ℕ) × ((0 + i ≤ f) × (f < 0 + i + len_at (take n l) i)) → In l f
    to (i, (x, y)) = let s = same i (omega arith) in (i, (omega arith, omega arith))

    from : In l f → (i : ℕ) × ((0 + i ≤ f) × (f < 0 + i + len_at (take n l) i))
    from (i, (x, y)) = let s = same i x in (i, (omega arith, omega arith))

-- ---- the free frames from f on

unfoldable pub free_from : ℕ → List Backing → ℕ → List ℕ
free_from n l f = keep (λ x. not (in_some x 0 (take n l))) (up_from f (n - f))

pub no_more : (n : ℕ) (l : List Backing) (f : ℕ) → n ≤ f → free_from n l f ≡ []
unfolding free_from keep up_from
no_more n l f h = let z : n - f ≡ 0 = omega arith in rw z

module _ (n : ℕ) (l : List Backing) (f : ℕ) where
  pub past_same : n ≤ f → free_from n l f ≡ free_from n l (f + 1)
  past_same h = no_more n l f h ∙ sym (no_more n l (f + 1) (omega arith))

  module _ (h : f < n) where
    from_here : free_from n l f ≡ cond (not (in_some f 0 (take n l))) (f ∷ free_from n l (f + 1)) (free_from n l (f + 1))
    unfolding free_from keep up_from
    from_here = let z : n - f ≡ suc (n - (f + 1)) = omega arith in rw z

    pub free_not : In l f → free_from n l f ≡ free_from n l (f + 1)
    free_not p = from_here ∙ ap (λ b. cond (not b) (f ∷ free_from n l (f + 1)) (free_from n l (f + 1))) (told (in_tells n l f h) p)

    pub free_here : (In l f → ⊥) → free_from n l f ≡ f ∷ free_from n l (f + 1)
    free_here p = from_here ∙ ap (λ b. cond (not b) (f ∷ free_from n l (f + 1)) (free_from n l (f + 1))) (not_told (in_tells n l f h) p)
