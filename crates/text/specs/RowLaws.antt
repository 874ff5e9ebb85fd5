-- A row's numbers: those that are given, up to 16, and zeros behind them.
use Rattle.std.specs.Prelude.{◌≡◌, ℕ, ◌+◌, ◌-◌, ◌≤◌, List, ◌++◌, length, take, drop, replicate, min, Bool, true, false, leb, refl}
use Rattle.std.proofs.Common.{ap, sym, ◌∙◌, arith}
use borrow.Author.Tests.{leb-true, leb-false}
use Rattle.std.proofs.lemmas.List.{take_all, drop-replicate, take-replicate, take-append-le}
use Rattle.std.proofs.Math.Seq.{take-append-add}

few : (n : List ℕ) (k : ℕ) → k ≡ length n → length n ≤ 16 → take k n ++ drop k (replicate 16 0) ≡ take 16 (n ++ replicate 16 0)
few n k e h =
    ap (λ (l : List ℕ). l ++ drop k (replicate 16 0)) (take_all k n (omega (arith, e)))
    ∙ ap (λ (l : List ℕ). n ++ l) (drop-replicate k 16 0 ∙ ap (λ (j : ℕ). replicate (16 - j) 0) e ∙ sym (take-replicate (16 - length n) 16 0 (omega arith)))
    ∙ sym (take-append-add n (replicate 16 0) (16 - length n))
    ∙ ap (λ (j : ℕ). take j (n ++ replicate 16 0)) (let s : length n + (16 - length n) ≡ 16 = omega (arith, h) in s)

many : (n : List ℕ) (k : ℕ) → k ≡ 16 → 16 ≤ length n → take k n ++ drop k (replicate 16 0) ≡ take 16 (n ++ replicate 16 0)
many n k e h =
    ap (λ (j : ℕ). take j n ++ drop j (replicate 16 0)) e
    ∙ mathlib.Core.List.append-nil (take 16 n)
    ∙ sym (take-append-le 16 n (replicate 16 0) h)

pub numbers_filled : (n : List ℕ) (k : ℕ) → k ≡ min (length n) 16 → take k n ++ drop k (replicate 16 0) ≡ take 16 (n ++ replicate 16 0)
numbers_filled n k e = go (leb (length n) 16) refl
  where
    go : (b : Bool) → leb (length n) 16 ≡ b → take k n ++ drop k (replicate 16 0) ≡ take 16 (n ++ replicate 16 0)
    go true q = let h = leb-true (length n) 16 q in few n k (omega (arith, e, h)) h
    go false q = let h = leb-false (length n) 16 q in many n k (omega (arith, e, h)) (omega (arith, h))
