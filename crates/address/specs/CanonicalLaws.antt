-- The test by comparison tells Intel's canonical form.
use Rattle.std.specs.Prelude.{◌≡◌, ◌⊎◌, Bool, true, false, ℕ, ◌+◌, ◌-◌, ◌/◌, ◌^◌, ◌≤◌, ◌<◌, ltb, leb}
use Rattle.std.proofs.Common.{ap, sym, subst, ◌∙◌, inl, inr, arith, ltb-true, leb-true, lt-ltb, le-leb, le-ltb}
use Rattle.std.proofs.Math.Logic.{⊎_elim}
use Rattle.std.specs.Prelude.{Result, Ok, Err}
use Rattle.address.specs.declared.VirtAddr.{VirtAddr}
use Rattle.address.specs.declared.VirtAddrNotValid.{VirtAddrNotValid}
use Rattle.address.specs.Bits.{bit}
use Rattle.address.specs.BitsLaws.{bit_from, bit_zero, bit_ones, bits_same, bit_cases}
use Rattle.address.specs.Canonical.{Canonical, canonical, checked_addr}
use Rattle.laws.specs.Tells.{Tells}
use Rattle.laws.specs.TellsLaws.{tells_of}
use Rattle.laws.specs.BoolLaws.{either, or_left, or_right, or_first, or_second}

module _ (a : ℕ) (fits : a < 2 ^ 64) where
  -- bit 47 + j of a is bit j of what stands above the low 47 bits
  above : (i : ℕ) → 47 ≤ i → bit a i ≡ bit (a / 2 ^ 47) (i - 47)
  above i h = ap (λ (x : ℕ). bit a x) split ∙ bit_from 47 a (i - 47)
    where
      split : i ≡ 47 + (i - 47)
      split = omega arith

  lower : a < 2 ^ 47 → Canonical a
  lower h = record { equal = λ i l u. none i l ∙ sym (none 47 (omega arith)) }
    where
      none : (i : ℕ) → 47 ≤ i → bit a i ≡ 0
      none i l = above i l ∙ ap (λ (x : ℕ). bit x (i - 47)) (let q : a / 2 ^ 47 ≡ 0 = omega arith in q) ∙ bit_zero (i - 47)

  upper : 2 ^ 64 - 2 ^ 47 ≤ a → Canonical a
  upper h = record { equal = λ i l u. ones i l u ∙ sym (ones 47 (omega arith) (omega arith)) }
    where
      ones : (i : ℕ) → 47 ≤ i → i < 64 → bit a i ≡ 1
      ones i l u = above i l ∙ ap (λ (x : ℕ). bit x (i - 47)) (let q : a / 2 ^ 47 ≡ 2 ^ 17 - 1 = omega arith in q) ∙ bit_ones 17 (i - 47) (omega arith)

  halves : Canonical a → (a < 2 ^ 47) ⊎ (2 ^ 64 - 2 ^ 47 ≤ a)
  halves c = ⊎_elim (λ z. inl (low z)) (λ o. inr (high o)) (bit_cases a 47)
    where
      -- all 17 high bits are x, so the number above the low 47 bits is the number b whose 17 bits are x
      same : (x b : ℕ) → b < 2 ^ 17 → bit a 47 ≡ x → ((j : ℕ) → j < 17 → bit b j ≡ x) → a / 2 ^ 47 ≡ b
      same x b hb e all = bits_same 17 (a / 2 ^ 47) b (omega arith) hb (λ j k. sym (bit_from 47 a j) ∙ c.equal (47 + j) (omega arith) (omega arith) ∙ e ∙ sym (all j k))

      low : bit a 47 ≡ 0 → a < 2 ^ 47
      low z = let q = same 0 0 (omega arith) z (λ j _. bit_zero j) in omega arith

      high : bit a 47 ≡ 1 → 2 ^ 64 - 2 ^ 47 ≤ a
      high o = let q = same 1 (2 ^ 17 - 1) (omega arith) o (λ j k. bit_ones 17 j k) in omega arith

  -- Intel's form, said over bits, is what the comparison tells
  pub canonical_tells : Tells (canonical a) (Canonical a)
  unfolding canonical
  canonical_tells = tells_of (canonical a)
      (λ e. ⊎_elim (λ l. lower (ltb-true a (2 ^ 47) l)) (λ u. upper (leb-true (2 ^ 64 - 2 ^ 47) a u)) (either _ _ e))
      (λ c. ⊎_elim (λ l. or_left _ (leb (2 ^ 64 - 2 ^ 47) a) (lt-ltb a (2 ^ 47) l)) (λ u. or_right (ltb a (2 ^ 47)) _ (le-leb (2 ^ 64 - 2 ^ 47) a u)) (halves c))

  answered : (b : Bool) → b ≡ canonical a → Tells b (Canonical a) × (b ≡ canonical a)
  answered b e = (subst (λ (x : Bool). Tells x (Canonical a)) (sym e) canonical_tells, e)

  pub canonical_low : a < 2 ^ 47 → Tells (ltb a (2 ^ 47)) (Canonical a) × (ltb a (2 ^ 47) ≡ canonical a)
  unfolding canonical
  canonical_low h = answered _ (or_first _ (leb (2 ^ 64 - 2 ^ 47) a) (lt-ltb a (2 ^ 47) h))

  pub canonical_else : 2 ^ 47 ≤ a → Tells (leb (2 ^ 64 - 2 ^ 47) a) (Canonical a) × (leb (2 ^ 64 - 2 ^ 47) a ≡ canonical a)
  unfolding canonical
  canonical_else h = answered _ (or_second (ltb a (2 ^ 47)) _ (le-ltb a (2 ^ 47) h))

pub addr_good : (a : ℕ) (b : Bool) → b ≡ canonical a → b ≡ true → ◌≡◌ {A = Result VirtAddr VirtAddrNotValid} (Ok (record { 0 = a })) (checked_addr a)
unfolding checked_addr
addr_good a b e t = rw (sym e, t)

pub addr_bad : (a : ℕ) (b : Bool) → b ≡ canonical a → b ≡ false → ◌≡◌ {A = Result VirtAddr VirtAddrNotValid} (Err (record { 0 = a })) (checked_addr a)
unfolding checked_addr
addr_bad a b e t = rw (sym e, t)
