-- Laws of a table cut into parts of n rows, one for each process: a row of a part replaced, and parts beside one that is written.
use Rattle.std.specs.Prelude.{◌≡◌, refl, ◌⊎◌, ◌≢◌, Bool, true, false, List, ◌++◌, ℕ, suc, ◌+◌, ◌-◌, ◌*◌, ◌≤◌, ◌<◌, length, set, take, drop, ltb}
use Rattle.std.proofs.Common.{ap, sym, ◌∙◌, inl, inr, append_assoc, mul-le-mul_right, suc-mul, arith, length-append, length-drop, take-append-drop, length-take-le, drop-drop, ltb-true, ltb-false}
use Rattle.std.proofs.lemmas.List.{take-append-le, drop-append-le, drop-set-add}
use Rattle.std.proofs.Math.Seq.{drop-append-add, take-set-lt}
use Rattle.laws.specs.Lists.{part, put_part}

-- a row of the part replaced
pub part_set : {A : Type 0} (n p i : ℕ) (l : List A) (x : A) → i < n → part n p (set l (p * n + i) x) ≡ set (part n p l) i x
unfolding part
part_set n p i l x h = ap (take n) (drop-set-add (p * n) l i x) ∙ take-set-lt n (drop (p * n) l) i x h

part_front : {A : Type 0} (n q : ℕ) (a b : List A) → q * n + n ≤ length a → part n q (a ++ b) ≡ part n q a
unfolding part
part_front n q a b h = ap (take n) (drop-append-le (q * n) a b (omega arith)) ∙ take-append-le n (drop (q * n) a) b (simp length-drop (omega arith))

-- two parts have no common row
parts_apart : (n p q : ℕ) → q ≢ p → (q * n + n ≤ p * n) ⊎ (p * n + n ≤ q * n)
parts_apart n p q other = go (ltb q p) refl
  where
    go : (b : Bool) → ltb q p ≡ b → (q * n + n ≤ p * n) ⊎ (p * n + n ≤ q * n)
    go true e = let less = ltb-true q p e in let times = mul-le-mul_right n less in let rows = suc-mul q n in inl (omega arith)
    go false e =
        let not_less = ltb-false q p e in
        let less : suc p ≤ q = omega (arith, other) in
        let times = mul-le-mul_right n less in
        let rows = suc-mul p n in
        inr (omega arith)

-- the other parts stay
pub part_put_other : {A : Type 0} (n p q : ℕ) (new l : List A) → length new ≡ n → p * n + n ≤ length l → q ≢ p → part n q (put_part n p new l) ≡ part n q l
unfolding put_part part
part_put_other {A} n p q new l long h other = go (parts_apart n p q other)
  where
    before : length (take (p * n) l) ≡ p * n
    before = length-take-le (p * n) l (omega arith)

    front : List A
    front = take (p * n) l ++ new

    size : length front ≡ p * n + n
    size = let b = before in length-append (take (p * n) l) new ∙ omega arith

    past : (j : ℕ) → q * n ≡ p * n + n + j → drop (q * n) (take (p * n) l ++ (new ++ drop (p * n + n) l)) ≡ drop (q * n) l
    past j e =
        ap (drop (q * n)) (sym (append_assoc (take (p * n) l) new (drop (p * n + n) l)))
        ∙ ap (λ (i : ℕ). drop i (front ++ drop (p * n + n) l)) (e ∙ ap (λ (i : ℕ). i + j) (sym size))
        ∙ drop-append-add front (drop (p * n + n) l) j ∙ drop-drop j (p * n + n) l ∙ ap (λ (i : ℕ). drop i l) (sym e)

    go : (q * n + n ≤ p * n) ⊎ (p * n + n ≤ q * n) → part n q (take (p * n) l ++ (new ++ drop (p * n + n) l)) ≡ part n q l
    go (inl k) =
        let b = before in
        part_front n q (take (p * n) l) (new ++ drop (p * n + n) l) (omega arith)
        ∙ sym (ap (part n q) (sym (take-append-drop (p * n) l)) ∙ part_front n q (take (p * n) l) (drop (p * n) l) (omega arith))
    go (inr k) = ap (take n) (past (q * n - (p * n + n)) (omega arith))
