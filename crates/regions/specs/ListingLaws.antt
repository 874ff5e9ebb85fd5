-- The starts of a process's regions, filled in one after the other.
use Rattle.std.specs.Prelude.{◌≡◌, refl, List, ℕ, ◌+◌, ◌*◌, ◌≤◌, ◌<◌, length, get_or, set, take, Ok}
use Rattle.std.proofs.Math.Path.{ap, sym}
use Rattle.std.proofs.Common.{◌∙◌, arith, add-one, length-set, take_all}
use Rattle.std.proofs.lemmas.List.{length-map}
use Rattle.laws.specs.Lists.{pad}
use Rattle.model.specs.Layout.{machine}
use Rattle.model.specs.Machine.{region_at, order_of}
use Rattle.model.specs.Lookup.{starts_of}
use Rattle.model.specs.Answers.{listing}
use Rattle.lookup.specs.AttachedLaws.{order_slot}
use Rattle.laws.specs.ListsLaws.{map_at, pad_more}

-- the first i of a list stand in 64 words, and zeros after them
abbrev pub Filled : List ℕ → ℕ → List ℕ → ℕ → Type 0
Filled l n out i = (i ≤ n) × ((length out ≡ 64) × (out ≡ pad 64 0 (take i l)))

-- what is listed
abbrev pub listed : List ℕ → ℕ → List ℕ
listed w p = starts_of (machine w) p (order_of (machine w) p)

module _ (w : List ℕ) (p n : ℕ) (sized : n ≡ length (order_of (machine w) p)) (most : n ≤ 64) where
  listed_length : length (listed w p) ≡ n
  listed_length = length-map (order_of (machine w) p) _ ∙ sym sized

  module _ (out : List ℕ) (i : ℕ) (s : Filled (listed w p) n out i) where
    pub filled_more : i < n → (x : ℕ) → x ≡ (region_at (machine w) p (get_or (machine w).order (p * 64 + i) 0)).start.0 → Filled (listed w p) n (set out i x) (i + 1)
    filled_more h x e = (omega arith, (length-set out i x ∙ s.1.0, put))
      where
        here : x ≡ get_or (listed w p) i 0
        here = e ∙ ap (λ (t : ℕ). (region_at (machine w) p t).start.0) (order_slot w p n sized most i _ h refl) ∙ sym (map_at (λ (t : ℕ). (region_at (machine w) p t).start.0) (order_of (machine w) p) i 0 0 (rw sized at h))

        put : set out i x ≡ pad 64 0 (take (i + 1) (listed w p))
        put =
            ap (λ t. set t i x) s.1.1
            ∙ ap (λ (y : ℕ). set (pad 64 0 (take i (listed w p))) i y) here
            ∙ pad_more 64 0 (listed w p) i (rw listed_length h) (omega arith)
            ∙ ap (λ (j : ℕ). pad 64 0 (take j (listed w p))) (sym (add-one i))

    pub filled_all : n ≤ i → record { done = Ok tt; count = n; starts = out } ≡ listing (listed w p)
    unfolding listing
    filled_all h = λ k. record { done = Ok tt; count = sym listed_length k; starts = (s.1.1 ∙ ap (λ t. pad 64 0 t) (take_all i (listed w p) (rw listed_length h))) k }
