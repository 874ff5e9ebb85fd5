-- A row is some words in a row: what writing them leaves at every other word, and at each of them.
use Rattle.std.specs.Prelude.{◌≡◌, refl, Bool, true, false, List, [], ◌∷◌, ℕ, zero, suc, ◌+◌, ◌≤◌, ◌<◌, length, get_or, set, ltb}
use Rattle.std.proofs.Common.{ap, ◌∙◌, le_of_suc-le-suc, not-suc-le-zero, arith, length-set, get_or-set_same, get_or-set_other, ltb-true, ltb-false}

-- word k of a row that stands at b, as the code writes its number: `b`, `b + 1`, ..
abbrev pub place : ℕ → ℕ → ℕ
place b zero = b
place b (suc k) = b + suc k

pub place_is : (b k : ℕ) → place b k ≡ b + k
place_is b zero = omega arith
place_is b (suc k) = refl

-- the words of `row` from word k of a row at b on; with k a numeral this is what the code's stores leave
unfoldable pub write : List ℕ → ℕ → ℕ → List ℕ → List ℕ
write w b k [] = w
write w b k (x ∷ row) = write (set w (place b k) x) b (suc k) row

write_below : (w : List ℕ) (b k : ℕ) (row : List ℕ) (j : ℕ) → j < b + k → get_or (write w b k row) j 0 ≡ get_or w j 0
unfolding write
write_below w b k [] j h = refl
write_below w b k (x ∷ row) j h =
    let p = place_is b k in write_below (set w (place b k) x) b (suc k) row j (omega arith) ∙ get_or-set_other w (place b k) j x 0 (omega arith)

write_above : (w : List ℕ) (b k : ℕ) (row : List ℕ) (j : ℕ) → b + k + length row ≤ j → get_or (write w b k row) j 0 ≡ get_or w j 0
unfolding write
write_above w b k [] j h = refl
write_above w b k (x ∷ row) j h =
    let p = place_is b k in write_above (set w (place b k) x) b (suc k) row j (omega arith) ∙ get_or-set_other w (place b k) j x 0 (omega arith)

pub write_at : (w : List ℕ) (b k : ℕ) (row : List ℕ) (n : ℕ) → n < length row → b + k + length row ≤ length w → (j : ℕ) → j ≡ b + k + n → get_or (write w b k row) j 0 ≡ get_or row n 0
unfolding write
write_at w b k [] n h f j e = absurd (not-suc-le-zero h)
write_at w b k (x ∷ row) zero h f j e =
    let p = place_is b k in
    let same : j ≡ place b k = omega arith in
    write_below (set w (place b k) x) b (suc k) row j (omega arith) ∙ ap (λ (i : ℕ). get_or (set w (place b k) x) i 0) same ∙ get_or-set_same w (place b k) x 0 (omega arith)
write_at w b k (x ∷ row) (suc n) h f j e = write_at (set w (place b k) x) b (suc k) row n (le_of_suc-le-suc h) (rw length-set (omega arith)) j (omega arith)

-- the words of two lists are the same but for those from a up to e
abbrev pub SameBut : List ℕ → List ℕ → ℕ → ℕ → Type 0
SameBut v w a e = (x : ℕ) → (a ≤ x → x < e → ⊥) → get_or v x 0 ≡ get_or w x 0

pub write_else : (w : List ℕ) (b : ℕ) (row : List ℕ) → SameBut (write w b 0 row) w b (b + length row)
write_else w b row x out = go (ltb x b) refl (ltb x (b + length row)) refl
  where
    go : (p : Bool) → ltb x b ≡ p → (q : Bool) → ltb x (b + length row) ≡ q → get_or (write w b 0 row) x 0 ≡ get_or w x 0
    go true e q f = let l = ltb-true x b e in write_below w b 0 row x (omega arith)
    go false e true f = absurd (out (ltb-false x b e) (ltb-true x (b + length row) f))
    go false e false f = let l = ltb-false x (b + length row) f in write_above w b 0 row x (omega arith)
