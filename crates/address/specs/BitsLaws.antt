-- Laws of bits: a bit is 0 or 1, bits make the number, and the bits of `&` and `^`.
use Rattle.std.specs.Prelude.{◌≡◌, refl, ◌⊎◌}
use Rattle.std.proofs.Math.Path.{ap}
use Rattle.std.proofs.Common.{sym, subst, ◌∙◌, inl, inr, le_of_suc-le-suc, not-suc-le-zero, pow-suc, zero-add, suc-add, div-one, mul_comm, add-one, arith, pow_pos}
use Prim.Native.Nat.{ℕ, zero, suc, ◌+◌, ◌-◌, ◌*◌, ◌/◌, ◌%◌, ◌^◌, ◌<◌, min, zero-le, suc-le-suc}
use Rattle.std.proofs.Math.Nat.{div-div-eq-div-mul}
use Rattle.std.proofs.Math.Pow.{mod-mod-pow, field}
use Rattle.std.specs.Int.Bits.{bit_and, bit_xor, and_step, xor_step, differ}
use Rattle.address.specs.Bits.{bit}

pub bit_small : (n i : ℕ) → bit n i < 2
unfolding bit
bit_small n zero = omega arith
bit_small n (suc i) = bit_small (n / 2) i

pub bit_cases : (n i : ℕ) → (bit n i ≡ 0) ⊎ (bit n i ≡ 1)
bit_cases n i = two (bit n i) (bit_small n i)
  where
    two : (x : ℕ) → x < 2 → (x ≡ 0) ⊎ (x ≡ 1)
    two zero h = inl refl
    two (suc zero) h = inr refl
    two (suc (suc x)) h = absurd (not-suc-le-zero (le_of_suc-le-suc (le_of_suc-le-suc h)))

-- the bits from place k on are those of the number divided by 2^k
pub bit_from : (k n j : ℕ) → bit n (k + j) ≡ bit (n / 2 ^ k) j
unfolding bit
bit_from zero n j = rw (zero-add, div-one)
bit_from (suc k) n j =
    rw (suc-add k j) (bit_from k (n / 2) j ∙ ap (λ (x : ℕ). bit x j) (div-div-eq-div-mul n 2 (2 ^ k) ∙ ap (λ (x : ℕ). n / x) (mul_comm 2 (2 ^ k) ∙ sym (pow-suc 2 k))))

-- numbers below 2^k with the same k bits are equal
pub bits_same : (k a b : ℕ) → a < 2 ^ k → b < 2 ^ k → ((i : ℕ) → i < k → bit a i ≡ bit b i) → a ≡ b
unfolding bit
bits_same zero a b ha hb e = omega arith
bits_same (suc k) a b ha hb e =
    let h : a / 2 ≡ b / 2 = bits_same k (a / 2) (b / 2) (half a ha) (half b hb) (λ i l. e (suc i) (suc-le-suc l)) in
    let o : a % 2 ≡ b % 2 = e zero (suc-le-suc zero-le) in
    omega arith
  where
    half : (x : ℕ) → x < 2 ^ suc k → x / 2 < 2 ^ k
    half x h = omega (arith, pow-suc 2 k)

-- a number that is twice another and a bit: its lowest bit, and the rest
low : (q r : ℕ) → r < 2 → (q * 2 + r) % 2 ≡ r
low q r h = omega arith

rest : (q r : ℕ) → r < 2 → (q * 2 + r) / 2 ≡ q
rest q r h = omega arith

-- the digit by digit operations of the logic, bit by bit
module _ (op f : ℕ → ℕ → ℕ) (step : (a b : ℕ) → op a b ≡ op (a / 2) (b / 2) * 2 + f (a % 2) (b % 2)) (small : (x y : ℕ) → x < 2 → y < 2 → f x y < 2) where
  bit_op : (i a b : ℕ) → bit (op a b) i ≡ f (bit a i) (bit b i)
  unfolding bit
  bit_op zero a b = rw (step a b) (low _ _ (digit a b))
    where
      digit : (a b : ℕ) → f (a % 2) (b % 2) < 2
      digit a b = small _ _ (omega arith) (omega arith)
  bit_op (suc i) a b = ap (λ (x : ℕ). bit x i) (ap (λ (x : ℕ). x / 2) (step a b) ∙ rest _ _ (small _ _ (omega arith) (omega arith))) ∙ bit_op i (a / 2) (b / 2)

pub bit_of_and : (i a b : ℕ) → bit (bit_and a b) i ≡ min (bit a i) (bit b i)
bit_of_and i a b = bit_op bit_and min and_step min_small i a b
  where
    min_small : (x y : ℕ) → x < 2 → y < 2 → min x y < 2
    min_small x y h k = omega arith

pub bit_of_xor : (i a b : ℕ) → bit (bit_xor a b) i ≡ differ (bit a i) (bit b i)
bit_of_xor i a b = bit_op bit_xor differ xor_step differ_small i a b
  where
    differ_small : (x y : ℕ) → x < 2 → y < 2 → differ x y < 2
    differ_small zero y h k = k
    differ_small (suc zero) zero h k = h
    differ_small (suc zero) (suc zero) h k = suc-le-suc zero-le
    differ_small (suc zero) (suc (suc y)) h k = absurd (not-suc-le-zero (le_of_suc-le-suc (le_of_suc-le-suc k)))
    differ_small (suc (suc x)) y h k = absurd (not-suc-le-zero (le_of_suc-le-suc (le_of_suc-le-suc h)))

pub bit_zero : (i : ℕ) → bit 0 i ≡ 0
unfolding bit
bit_zero zero = refl
bit_zero (suc i) = bit_zero i

-- the number of k ones
pub bit_ones : (k i : ℕ) → i < k → bit (2 ^ k - 1) i ≡ 1
unfolding bit
bit_ones zero i h = absurd (not-suc-le-zero h)
bit_ones (suc k) zero h = omega (arith, pow-suc 2 k, pow_pos k)
bit_ones (suc k) (suc i) h = ap (λ (x : ℕ). bit x i) halved ∙ bit_ones k i (le_of_suc-le-suc h)
  where
    halved : (2 ^ suc k - 1) / 2 ≡ 2 ^ k - 1
    halved = omega (arith, pow-suc 2 k, pow_pos k)

-- a power of 2 has one bit
pub bit_pow : (k i : ℕ) → bit (2 ^ k) i ≡ 1 → i ≡ k
unfolding bit
bit_pow zero zero e = refl
bit_pow zero (suc i) e = absurd (zero_is_not_one (sym (bit_zero i) ∙ e))
  where
    zero_is_not_one : ◌≡◌ {A = ℕ} 0 1 → ⊥
    zero_is_not_one p = omega arith
bit_pow (suc k) zero e = absurd (omega (arith, pow-suc 2 k))
bit_pow (suc k) (suc i) e = ap suc (bit_pow k i (subst (λ (x : ℕ). bit x i ≡ 1) halved e))
  where
    halved : 2 ^ suc k / 2 ≡ 2 ^ k
    halved = omega (arith, pow-suc 2 k)

-- the low k bits
pub bit_low : (k n i : ℕ) → i < k → bit (n % 2 ^ k) i ≡ bit n i
unfolding bit
bit_low zero n i h = absurd (not-suc-le-zero h)
bit_low (suc k) n zero h = ap (λ (x : ℕ). n % 2 ^ x % 2) (sym (add-one k)) ∙ mod-mod-pow n k 1
bit_low (suc k) n (suc i) h = ap (λ (x : ℕ). bit x i) (ap (λ (x : ℕ). n % 2 ^ x / 2) (sym (add-one k)) ∙ field n k 1) ∙ bit_low k (n / 2) i (le_of_suc-le-suc h)
