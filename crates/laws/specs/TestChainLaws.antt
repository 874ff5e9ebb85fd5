-- The answers of a chain of tests: each return of the code is the steps that lead to it, and then the answer x.
use Rattle.std.specs.Prelude.{◌≡◌, refl, Bool, true, false, ◌&&◌, ◌||◌, not}
use Rattle.std.proofs.Common.{sym, ◌∙◌, true≢false}
use Rattle.std.proofs.lemmas.Bool.{false≢true, not-true, not-false}

-- both: the first fails, or passes and the second answers
pub fails : {a : Bool} (b : Bool) → a ≡ false → false ≡ (a && b)
fails {a = true} b e = absurd (true≢false e)
fails {a = false} b e = refl

pub passes : {a b x : Bool} → a ≡ true → x ≡ b → x ≡ (a && b)
passes {a = true} e h = h
passes {a = false} e h = absurd (false≢true e)

-- what a call told of a test, where the code goes on by `!`
pub refused : {a r : Bool} → r ≡ a → not r ≡ true → a ≡ false
refused {r = r} e n = sym e ∙ not-true r n

pub allowed : {a r : Bool} → r ≡ a → not r ≡ false → a ≡ true
allowed {r = r} e n = sym e ∙ not-false r n

-- of two tests one is asked: the first where t, and else the second
pub first_asked : {t a x : Bool} (b : Bool) → t ≡ true → x ≡ a → x ≡ ((not t || a) && (t || b))
first_asked {t = true} {a = true} b e h = h
first_asked {t = true} {a = false} b e h = h
first_asked {t = false} b e h = absurd (false≢true e)

pub second_asked : {t b x : Bool} (a : Bool) → t ≡ false → x ≡ b → x ≡ ((not t || a) && (t || b))
second_asked {t = true} a e h = absurd (true≢false e)
second_asked {t = false} a e h = h

-- .. the second where t, and else the first
pub second_unless : {t b x : Bool} (a : Bool) → t ≡ true → x ≡ b → x ≡ ((t || a) && (not t || b))
second_unless {t = true} a e h = h
second_unless {t = false} a e h = absurd (false≢true e)

pub first_unless : {t a x : Bool} (b : Bool) → t ≡ false → x ≡ a → x ≡ ((t || a) && (not t || b))
first_unless {t = true} b e h = absurd (true≢false e)
first_unless {t = false} {a = true} b e h = h
first_unless {t = false} {a = false} b e h = h

-- a test in other words
pub instead : {a b : Bool} → (a ≡ true → b ≡ true) → (b ≡ true → a ≡ true) → a ≡ b
instead {a = true} f g = sym (f refl)
instead {a = false} {b = true} f g = g refl
instead {a = false} {b = false} f g = refl
