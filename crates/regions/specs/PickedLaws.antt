-- Laws of a loop that picks from a list: what F takes of its first i rows is put into an array, one after the other.
use Rattle.std.specs.Prelude.{◌≡◌, List, [], ◌∷◌, ◌++◌, ℕ, ◌+◌, ◌≤◌, ◌<◌, length, get_or, take}
use Rattle.std.proofs.Common.{ap, sym, ◌∙◌, arith, add-one, length-append, take-suc, take_all}
use Rattle.std.proofs.lemmas.List.Edits.{sets}
use Rattle.laws.specs.ListsLaws.{sets_append}

-- F takes at most as many rows as there are, and of two lists what it takes of each
pub record Picks {A B : Type 0} (F : List A → List B) : Type 0 where
  pub joins : (l k : List A) → F (l ++ k) ≡ F l ++ F k
  pub few : (l : List A) → length (F l) ≤ length l
  pub none : F [] ≡ []

-- of the first i of n rows k are picked, and stand in the array from place a on
abbrev pub Picked : {A B : Type 0} → (List A → List B) → List A → ℕ → List B → ℕ → List B → ℕ → ℕ → Type 0
Picked F l n out a new k i = ((i ≤ n) × (k ≤ i)) × ((k ≡ length (F (take i l))) × (new ≡ sets out a (F (take i l))))

module _ {A B : Type 0} (F : List A → List B) (picks : Picks F) (l : List A) (n : ℕ) (sized : n ≡ length l) (out : List B) (a : ℕ) where
  pub picked_first : Picked F l n out a out 0 0
  picked_first = ((omega arith, omega arith), (ap (λ t. length t) (sym picks.none), ap (λ t. sets out a t) (sym picks.none)))

  module _ (new : List B) (k i : ℕ) (s : Picked F l n out a new k i) where
    pub picked_more : i < n → (d x : A) → x ≡ get_or l i d → (next : List B) (r : ℕ) → r ≡ k + length (F (x ∷ [])) → next ≡ sets new (a + k) (F (x ∷ [])) → Picked F l n out a next r (i + 1)
    picked_more h d x e next r counted put = ((omega arith, let c = picks.few (x ∷ []) in omega arith), (counts, stands))
      where
        more : F (take (i + 1) l) ≡ F (take i l) ++ F (x ∷ [])
        more =
            ap (λ (j : ℕ). F (take j l)) (add-one i) ∙ ap F (take-suc l i d (rw sized at h)) ∙ picks.joins (take i l) (get_or l i d ∷ [])
            ∙ ap (λ (y : A). F (take i l) ++ F (y ∷ [])) (sym e)

        counts : r ≡ length (F (take (i + 1) l))
        counts = counted ∙ ap (λ (j : ℕ). j + length (F (x ∷ []))) s.1.0 ∙ sym (length-append (F (take i l)) (F (x ∷ []))) ∙ ap (λ t. length t) (sym more)

        stands : next ≡ sets out a (F (take (i + 1) l))
        stands =
            put
            ∙ (λ q. sets (s.1.1 q) (a + s.1.0 q) (F (x ∷ [])))
            ∙ sym (sets_append out a (F (take i l)) (F (x ∷ [])))
            ∙ ap (λ t. sets out a t) (sym more)

    pub picked_all : n ≤ i → (k ≡ length (F l)) × (new ≡ sets out a (F l))
    picked_all h = let whole = take_all i l (rw sized at h) in (s.1.0 ∙ ap (λ t. length (F t)) whole, s.1.1 ∙ ap (λ t. sets out a (F t)) whole)

-- an array that is filled from its first place on
pub front_more : {A B : Type 0} (F : List A → List B) (picks : Picks F) (l : List A) (n : ℕ) → n ≡ length l → (out new : List B) (k i : ℕ) → Picked F l n out 0 new k i → i < n
    → (d x : A) → x ≡ get_or l i d → (next : List B) (r : ℕ) → r ≡ k + length (F (x ∷ [])) → next ≡ sets new k (F (x ∷ [])) → Picked F l n out 0 next r (i + 1)
front_more F picks l n sized out new k i s h d x e next r counted put =
    picked_more F picks l n sized out 0 new k i s h d x e next r counted (put ∙ ap (λ (j : ℕ). sets new j (F (x ∷ []))) (let z : k ≡ 0 + k = omega arith in z))
