-- Laws of Result and Option: a value is no refusal, something is not nothing.
use Rattle.std.specs.Prelude.{◌≡◌, refl, true, false, Option, Some, None, Result, Ok, Err, is_ok, is_err, is_some, ok_or}
use Rattle.std.specs.Option.{unwrap_or}
use Rattle.std.specs.Result.{result_unwrap_or}
use Rattle.std.proofs.Common.{ap, sym}

module _ {T E : Type 0} {x : T} {e : E} where
  pub err_not_ok : ◌≡◌ {A = Result T E} (Err e) (Ok x) → ⊥
  err_not_ok p = mathlib.Core.Bool.false≢true (ap is_ok p)

  pub ok_not_err : ◌≡◌ {A = Result T E} (Ok x) (Err e) → ⊥
  ok_not_err p = err_not_ok (sym p)

module _ {T : Type 0} {x : T} where
  pub none_not_some : ◌≡◌ {A = Option T} None (Some x) → ⊥
  none_not_some p = mathlib.Core.Bool.false≢true (ap is_some p)

  pub some_not_none : ◌≡◌ {A = Option T} (Some x) None → ⊥
  some_not_none p = none_not_some (sym p)

module _ {T : Type 0} {x y : T} where
  pub some_same : ◌≡◌ {A = Option T} (Some x) (Some y) → x ≡ y
  some_same p = ap (λ o. unwrap_or o x) p

  pub ok_same : {E : Type 0} → ◌≡◌ {A = Result T E} (Ok x) (Ok y) → x ≡ y
  ok_same p = ap (λ r. result_unwrap_or r x) p

module _ {T E : Type 0} {d e : E} where
  pub err_same : ◌≡◌ {A = Result T E} (Err d) (Err e) → d ≡ e
  err_same p = ap (λ r. fault r) p
    where
      fault : Result T E → E
      fault (Ok x) = d
      fault (Err f) = f

-- what a test of the variant tells
module _ {T E : Type 0} where
  pub err_told : (r : Result T E) → is_err r ≡ true → (e : E) × (r ≡ Err e)
  err_told (Ok x) p = absurd (mathlib.Core.Bool.false≢true p)
  err_told (Err e) p = (e, refl)

  pub ok_told : (r : Result T E) → is_err r ≡ false → (x : T) × (r ≡ Ok x)
  ok_told (Ok x) p = (x, refl)
  ok_told (Err e) p = absurd (mathlib.Core.Bool.true≢false p)

module _ {T : Type 0} where
  pub some_told : (o : Option T) → is_some o ≡ true → (x : T) × (o ≡ Some x)
  some_told (Some x) p = (x, refl)
  some_told None p = absurd (mathlib.Core.Bool.false≢true p)

  pub none_told : (o : Option T) → is_some o ≡ false → o ≡ None
  none_told (Some x) p = absurd (mathlib.Core.Bool.true≢false p)
  none_told None p = refl

-- what `ok_or` tells
module _ {T E : Type 0} where
  pub ok_or_some : (o : Option T) (e : E) {x : T} → ok_or o e ≡ Ok x → o ≡ Some x
  ok_or_some (Some y) e p = ap (λ x. Some x) (ok_same p)
  ok_or_some None e p = absurd (err_not_ok p)

  pub ok_or_none : (o : Option T) (e : E) {d : E} → ok_or o e ≡ Err d → (o ≡ None) × (d ≡ e)
  ok_or_none (Some y) e p = absurd (ok_not_err p)
  ok_or_none None e p = (refl, sym (err_same p))
