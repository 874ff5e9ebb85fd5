-- Laws of `Flags`: the flag bits of a page table entry.
use Rattle.std.specs.Prelude.{◌≡◌, ◌⊎◌, Bool, ◌&&◌, false, ℕ, ◌*◌, ◌-◌, ◌/◌, ◌%◌, ◌^◌, zero, suc, ◌+◌, ◌≤◌, ◌<◌, min, eqb, Some, None}
use Rattle.std.proofs.Math.Path.{refl, subst}
use Rattle.std.proofs.Common.{ap, sym, ◌∙◌, inl, inr, arith}
use Rattle.std.proofs.Math.Bool.{true}
use Rattle.address.specs.Bits.{bit, has}
use Rattle.address.specs.Flags.{Contains, Without, good_flags, checked_flags, read_only, GoodFlags}
use Rattle.std.specs.Int.Bits.{bit_and, bit_xor, differ}
use Rattle.std.proofs.lemmas.Nat.{and_le_r}
use borrow.Author.Tests.{eqb-true, eq-eqb}
use Rattle.address.specs.BitsLaws.{bit_from, bit_zero, bit_pow, bit_low, bit_of_and, bit_of_xor, bits_same, bit_cases, bit_small}
use Rattle.laws.specs.Tells.{Tells}
use Rattle.laws.specs.BoolLaws.{both_true}
use Rattle.laws.specs.TellsLaws.{tells_of, tells_both, tells_same}

-- the code's `a & b == b` tells that a contains b
pub contains_tells : (a b : ℕ) → b < 2 ^ 64 → Tells (eqb (bit_and a b) b) (Contains a b)
contains_tells a b h = tells_of _ (λ e. record { all = λ i o. both i o (eqb-true _ _ e) }) (λ c. eq-eqb _ _ (masked c))
  where
    both : (i : ℕ) → bit b i ≡ 1 → bit_and a b ≡ b → bit a i ≡ 1
    both i o e = let m : min (bit a i) (bit b i) ≡ bit b i = sym (bit_of_and i a b) ∙ ap (λ (x : ℕ). bit x i) e in omega (arith, bit_small a i)

    masked : Contains a b → bit_and a b ≡ b
    masked c = bits_same 64 (bit_and a b) b (omega (arith, and_le_r a b)) h (λ i _. bit_of_and i a b ∙ each i (bit_cases b i))
      where
        each : (i : ℕ) → (bit b i ≡ 0) ⊎ (bit b i ≡ 1) → min (bit a i) (bit b i) ≡ bit b i
        each i (inl z) = omega arith
        each i (inr o) = let p = c.all i o in omega arith

-- the code's `a ^ (a & b)` is a without b
pub without_each : (a b : ℕ) → Without a b (bit_xor a (bit_and a b))
without_each a b = record { each = λ i. bit_of_xor i a (bit_and a b) ∙ ap (differ (bit a i)) (bit_of_and i a b) ∙ off (bit a i) (bit b i) (bit_cases a i) (bit_cases b i) }
  where
    off : (x y : ℕ) → (x ≡ 0) ⊎ (x ≡ 1) → (y ≡ 0) ⊎ (y ≡ 1) → differ x (min x y) ≡ x * (1 - y)
    off x y (inl p) (inl q) = rw (p, q)
    off x y (inl p) (inr q) = rw (p, q)
    off x y (inr p) (inl q) = rw (p, q)
    off x y (inr p) (inr q) = rw (p, q)

-- one flag contained is its bit set
pub contains_one : (b : Bool) (a k : ℕ) → Tells b (Contains a (2 ^ k)) → bit (2 ^ k) k ≡ 1 → b ≡ has a k
contains_one b a k t one = tells_same t (tells_of (has a k) (λ e. record { all = λ i o. subst (λ (x : ℕ). bit a x ≡ 1) (sym (bit_pow k i o)) (eqb-true _ _ e) }) (λ c. eq-eqb _ _ (c.all k one)))

-- flags without WRITABLE, as the definitions say it
pub without_writable : (a r : ℕ) → a < 2 ^ 64 → r < 2 ^ 64 → Without a 2 r → r ≡ read_only a
unfolding read_only bit
without_writable a r ha hr w = bits_same 64 r (a - a / 2 % 2 * 2) hr (omega arith) (λ i _. w.each i ∙ sym (kept i))
  where
    kept : (i : ℕ) → bit (a - a / 2 % 2 * 2) i ≡ bit a i * (1 - bit 2 i)
    kept zero = omega arith
    kept (suc zero) = omega arith
    kept (suc (suc i)) = ap (λ (x : ℕ). bit x i) (let q : (a - a / 2 % 2 * 2) / 2 / 2 ≡ a / 2 / 2 = omega arith in q) ∙ sym (ap (λ (x : ℕ). bit (a / 2 / 2) i * (1 - x)) (bit_zero i) ∙ (let m : bit (a / 2 / 2) i * (1 - 0) ≡ bit (a / 2 / 2) i = omega arith in m))

module _ (n : ℕ) (fits : n < 2 ^ 64) where
  four : n / 2 ^ 3 % 2 ^ 60 ≡ 0 → (i : ℕ) → bit n i ≡ 1 → (i ≡ 0) ⊎ ((i ≡ 1) ⊎ ((i ≡ 2) ⊎ (i ≡ 63)))
  four z zero o = inl refl
  four z (suc zero) o = inr (inl refl)
  four z (suc (suc zero)) o = inr (inr (inl refl))
  four z (suc (suc (suc j))) o = inr (inr (inr (high (top (n / 2 ^ 3) z (omega arith)))))
    where
      here : bit (n / 2 ^ 3) j ≡ 1
      here = sym (bit_from 3 n j) ∙ ap (λ (x : ℕ). bit n x) (let p : 3 + j ≡ suc (suc (suc j)) = omega arith in p) ∙ o

      top : (m : ℕ) → m % 2 ^ 60 ≡ 0 → m < 2 ^ 61 → (m ≡ 0) ⊎ (m ≡ 2 ^ 60)
      top m e h = pick (m / 2 ^ 60) refl
        where
          pick : (c : ℕ) → m / 2 ^ 60 ≡ c → (m ≡ 0) ⊎ (m ≡ 2 ^ 60)
          pick zero p = inl (omega arith)
          pick (suc c) p = inr (omega arith)

      high : (n / 2 ^ 3 ≡ 0) ⊎ (n / 2 ^ 3 ≡ 2 ^ 60) → suc (suc (suc j)) ≡ 63
      high (inl p) = let q : ◌≡◌ {A = ℕ} 0 1 = sym (bit_zero j) ∙ ap (λ (x : ℕ). bit x j) (sym p) ∙ here in omega arith
      high (inr p) = let q : j ≡ 60 = bit_pow 60 j (ap (λ (x : ℕ). bit x j) (sym p) ∙ here) in omega arith

  inner : GoodFlags n → n / 2 ^ 3 % 2 ^ 60 ≡ 0
  inner g = bits_same 60 (n / 2 ^ 3 % 2 ^ 60) 0 (omega arith) (omega arith) (λ j h. bit_low 60 (n / 2 ^ 3) j h ∙ sym (bit_from 3 n j) ∙ clear j h (bit_cases n (3 + j)) ∙ sym (bit_zero j))
    where
      outside : (i : ℕ) → 3 ≤ i → i < 63 → (i ≡ 0) ⊎ ((i ≡ 1) ⊎ ((i ≡ 2) ⊎ (i ≡ 63))) → ⊥
      outside i l u (inl p) = omega arith
      outside i l u (inr (inl p)) = omega arith
      outside i l u (inr (inr (inl p))) = omega arith
      outside i l u (inr (inr (inr p))) = omega arith

      clear : (j : ℕ) → j < 60 → (bit n (3 + j) ≡ 0) ⊎ (bit n (3 + j) ≡ 1) → bit n (3 + j) ≡ 0
      clear j h (inl z) = z
      clear j h (inr o) = absurd (outside (3 + j) (omega arith) (omega arith) (g.of_four (3 + j) o))

  -- good flags (RULES E5), said over bits, are what the test tells
  pub good_flags_tells : Tells (good_flags n) (GoodFlags n)
  unfolding good_flags
  good_flags_tells = tells_of (good_flags n) made kept
    where
      made : good_flags n ≡ true → GoodFlags n
      made e = let s = both_true _ _ e in record { is_present = eqb-true _ _ s.0; of_four = four (eqb-true _ _ s.1) }

      kept : GoodFlags n → good_flags n ≡ true
      kept g = rw (eq-eqb (bit n 0) 1 g.is_present, eq-eqb (n / 2 ^ 3 % 2 ^ 60) 0 (inner g))

-- the four flags, as the code's mask has them
abbrev pub all_flags : ℕ
all_flags = 0x8000_0000_0000_0007

module _ (n : ℕ) (fits : n < 2 ^ 64) where
  -- PRESENT is contained, and the four contain all that is set
  from_both : Contains n 1 × Contains all_flags n → GoodFlags n
  unfolding good_flags bit
  from_both p = record { is_present = p.0.all 0 refl; of_four = λ i o. mask.of_four i (p.1.all i o) }
    where
      mask : GoodFlags all_flags
      mask = (good_flags_tells all_flags (omega arith)).yes refl

  to_both : GoodFlags n → Contains n 1 × Contains all_flags n
  unfolding bit
  to_both g = (record { all = λ i o. subst (λ (x : ℕ). bit n x ≡ 1) (sym (bit_pow 0 i o)) g.is_present }, record { all = λ i o. set i (g.of_four i o) })
    where
      set : (i : ℕ) → (i ≡ 0) ⊎ ((i ≡ 1) ⊎ ((i ≡ 2) ⊎ (i ≡ 63))) → bit all_flags i ≡ 1
      set i (inl p) = rw p
      set i (inr (inl p)) = rw p
      set i (inr (inr (inl p))) = rw p
      set i (inr (inr (inr p))) = rw p

  -- what the code's two tests tell together
  good_both : (a b : Bool) → Tells a (Contains n 1) → Tells b (Contains all_flags n) → (a && b) ≡ good_flags n
  good_both a b s t =
      tells_same {P = GoodFlags n} (record { yes = λ e. from_both ((tells_both s t).yes e); no = λ e g. (tells_both s t).no e (to_both g) }) (good_flags_tells n fits)

  pub flags_good : (a b : Bool) → Tells a (Contains n 1) → Tells b (Contains all_flags n) → a ≡ true → b ≡ true → Some (record { 0 = n }) ≡ checked_flags n
  unfolding checked_flags
  flags_good a b s t p q = rw (sym (good_both a b s t), p, q)

  pub flags_absent : (a : Bool) → Tells a (Contains n 1) → a ≡ false → None ≡ checked_flags n
  unfolding checked_flags
  flags_absent a s p = rw (sym (good_both a _ s (contains_tells all_flags n fits)), p)

  pub flags_outside : (a b : Bool) → Tells a (Contains n 1) → Tells b (Contains all_flags n) → a ≡ true → b ≡ false → None ≡ checked_flags n
  unfolding checked_flags
  flags_outside a b s t p q = rw (sym (good_both a b s t), p, q)
