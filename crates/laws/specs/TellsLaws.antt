-- Laws of `Tells`: a test that tells a proposition: true exactly where it holds.
use Rattle.std.specs.Prelude.{◌≡◌, refl}
use Rattle.std.proofs.Common.{sym}
use mathlib.Core.Bool.{Bool, true, false, ◌&&◌}
use Rattle.laws.specs.Tells.{Tells}

-- a test that is true where P holds, and P where it is true
pub tells_of : (b : Bool) {P : Type 0} → (b ≡ true → P) → (P → b ≡ true) → Tells b P
tells_of b y t = record { yes = y; no = λ f p. clash b (t p) f }
  where
    clash : (x : Bool) → x ≡ true → x ≡ false → ⊥
    clash true p q = mathlib.Core.Bool.true≢false q
    clash false p q = mathlib.Core.Bool.false≢true p

-- what holds is told
pub told : {b : Bool} {P : Type 0} → Tells b P → P → b ≡ true
told {b = true} t p = refl
told {b = false} t p = absurd (t.no refl p)

pub not_told : {b : Bool} {P : Type 0} → Tells b P → (P → ⊥) → b ≡ false
not_told {b = true} t n = absurd (n (t.yes refl))
not_told {b = false} t n = refl

-- two tests that tell the same are equal
pub tells_same : {a b : Bool} {P : Type 0} → Tells a P → Tells b P → a ≡ b
tells_same {a = true} s t = sym (told t (s.yes refl))
tells_same {a = false} s t = sym (not_told t (s.no refl))

-- of two tests, both: told by their conjunction
pub tells_both : {a b : Bool} {P Q : Type 0} → Tells a P → Tells b Q → Tells (a && b) (P × Q)
tells_both {a = true} s t = record { yes = λ e. (s.yes refl, t.yes e); no = λ e p. t.no e p.1 }
tells_both {a = false} s t = record { yes = λ e. absurd (mathlib.Core.Bool.false≢true e); no = λ e p. s.no refl p.0 }
