-- A row's words are all 0 exactly if their `|` is 0, and exactly if their sum is.
use Rattle.std.specs.Prelude.{◌≡◌, List, [], ◌∷◌, ℕ, ◌+◌, eqb}
use Rattle.std.proofs.Common.{arith, eq-eqb, eqb-true}
use Rattle.std.specs.Int.Bits.{bit_or, or_add_and}
use Rattle.std.proofs.lemmas.Nat.{and_le_l, and_le_r}
use Rattle.laws.specs.TestChainLaws.{instead}

-- a row's words put together from the left, as code and test write it: x stands for those before
unfoldable pub or_from : ℕ → List ℕ → ℕ
or_from x [] = x
or_from x (b ∷ l) = or_from (bit_or x b) l

unfoldable pub sum_from : ℕ → List ℕ → ℕ
sum_from x [] = x
sum_from x (b ∷ l) = sum_from (x + b) l

-- x is 0 exactly if y is
abbrev ZeroAs : ℕ → ℕ → Type 0
ZeroAs x y = (x ≡ 0 → y ≡ 0) × (y ≡ 0 → x ≡ 0)

-- one word more
zero_more : (x s b : ℕ) → ZeroAs x s → ZeroAs (bit_or x b) (s + b)
zero_more x s b z = (none, all)
  where
    none : bit_or x b ≡ 0 → s + b ≡ 0
    none e =
        let sum = or_add_and x b in
        let l = and_le_l x b in
        let r = and_le_r x b in
        let k : x ≡ 0 = omega arith in
        let n = z.0 k in
        omega arith

    all : s + b ≡ 0 → bit_or x b ≡ 0
    all e =
        let n : s ≡ 0 = omega arith in
        let k = z.1 n in
        let sum = or_add_and x b in
        omega arith

zero_row : (x s : ℕ) (l : List ℕ) → ZeroAs x s → ZeroAs (or_from x l) (sum_from s l)
unfolding or_from sum_from
zero_row x s [] z = z
zero_row x s (b ∷ l) z = zero_row (bit_or x b) (s + b) l (zero_more x s b z)

pub words_zero : (x : ℕ) (l : List ℕ) → eqb (or_from x l) 0 ≡ eqb (sum_from x l) 0
words_zero x l = let z = zero_row x x l (λ e. e, λ e. e) in instead (λ t. eq-eqb (sum_from x l) 0 (z.0 (eqb-true (or_from x l) 0 t))) (λ t. eq-eqb (or_from x l) 0 (z.1 (eqb-true (sum_from x l) 0 t)))
