-- Words with their first one apart: what stands behind it is lent, and comes back.
use Rattle.std.specs.Prelude.{◌≡◌, List, ◌∷◌, ◌++◌, ℕ, ◌-◌, length, set, take, drop}
use Rattle.std.proofs.Common.{ap, ◌∙◌, append-nil, arith, drop_of_length-le}
use Rattle.std.proofs.Math.Seq.{take-length}

abbrev pub behind : List ℕ → List ℕ
behind out = take (length out - 1) (drop 1 out)

abbrev pub with_behind : List ℕ → List ℕ → List ℕ
with_behind out l = take 1 out ++ (l ++ drop (length out - 1) (drop 1 out))

one_less : (x : ℕ) (l : List ℕ) → length (x ∷ l) - 1 ≡ length l
one_less x l = omega arith

pub behind_all : (x : ℕ) (l : List ℕ) → behind (x ∷ l) ≡ l
behind_all x l = ap (λ (n : ℕ). take n l) (one_less x l) ∙ take-length l

pub set_with_behind : (x : ℕ) (l l' : List ℕ) (v : ℕ) → set (with_behind (x ∷ l) l') 0 v ≡ v ∷ l'
set_with_behind x l l' v = ap (λ (t : List ℕ). v ∷ t) (ap (λ (n : ℕ). l' ++ drop n l) (one_less x l) ∙ ap (λ (t : List ℕ). l' ++ t) (drop_of_length-le l {i = length l} (omega arith)) ∙ append-nil l')
