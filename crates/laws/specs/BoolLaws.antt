-- Laws of tests put together: what the value of the whole says of the parts.
use Rattle.std.specs.Prelude.{◌≡◌, refl, ◌≢◌, ◌⊎◌, Bool, true, false, ◌||◌, not, ◌&&◌, ℕ, eqb}
use Rattle.std.proofs.Common.{inl, inr, true≢false, ne_eqb}
use Rattle.std.proofs.lemmas.Bool.{false≢true}

pub not_of : (n : ℕ) → n ≢ 0 → not (eqb n 0) ≡ true
not_of n h = rw (ne_eqb n 0 h) refl

-- a test is not true and false
pub clash : {A : Type 0} {b : Bool} → b ≡ true → b ≡ false → A
clash {b = true} p q = absurd (true≢false q)
clash {b = false} p q = absurd (false≢true p)

-- ---- both

pub both_true : (a b : Bool) → (a && b) ≡ true → (a ≡ true) × (b ≡ true)
both_true true b e = (refl, e)
both_true false b e = absurd (false≢true e)

pub and_both : {a b : Bool} → a ≡ true → b ≡ true → (a && b) ≡ true
and_both {a} {b} p q = rw (p, q)

-- ---- one of two

pub either : (a b : Bool) → (a || b) ≡ true → (a ≡ true) ⊎ (b ≡ true)
either true b e = inl refl
either false b e = inr e

pub or_left : (a b : Bool) → a ≡ true → (a || b) ≡ true
or_left true b e = refl
or_left false b e = absurd (false≢true e)

pub or_right : (a b : Bool) → b ≡ true → (a || b) ≡ true
or_right true b e = refl
or_right false b e = e

pub or_none : (a b : Bool) → (a || b) ≡ false → (a ≡ false) × (b ≡ false)
or_none true b e = absurd (true≢false e)
or_none false b e = (refl, e)

-- the code's `x || y`, as its two ways answer
pub or_first : (x y : Bool) → x ≡ true → x ≡ (x || y)
or_first true y e = refl
or_first false y e = absurd (false≢true e)

pub or_second : (x y : Bool) → x ≡ false → y ≡ (x || y)
or_second true y e = absurd (true≢false e)
or_second false y e = refl

pub or_swap : (a b c : Bool) → (a || (b || c)) ≡ (b || (a || c))
or_swap true true c = refl
or_swap true false c = refl
or_swap false b c = refl
