-- Reading digit by digit gives the number that the digits are worth, and a number's digits read back as the number.
use Rattle.std.specs.Prelude.{◌≡◌, ℕ, zero, suc, ◌+◌, ◌*◌, ◌/◌, ◌%◌, ◌^◌, ◌<◌, ◌≤◌, Bool, true, false, cond, ◌&&◌, List, [], ◌∷◌, ◌++◌, length, take, drop, ◌==◌, nat_eq, nat_lt, slice_index, Result, Ok, Err}
use Rattle.std.proofs.Math.Path.{refl}
use Rattle.std.specs.Cmp.Lexicographic.{pointwise}
use Rattle.std.proofs.Common.{sym, ◌∙◌, arith, add-one, mul-le-mul_left, le_trans, le-add_right, div-add-mod', mod-lt, div-lt_iff_lt-mul, mul_comm, drop_of_length-le, drop-cons}
use Rattle.std.proofs.Math.Nat.{pow-zero, pow-succ'}
use borrow.Author.Tests.{lt-ltb, le-ltb, ltb-true, ltb-false, le-leb}
use Rattle.io.specs.Digits.{hex_digit_ascii, last_digits}
use Rattle.text.specs.declared.number.NumberError.{NumberError}
use Rattle.text.specs.declared.number.NumberError.TheVariants.{TooLarge, NoNumber}
use Rattle.text.specs.Numeral.{digit_of, digitsb, value_from, fitting, digits_in, number_in, prefixed}

-- what is read never falls as digits follow
grows : (base v d : ℕ) → 0 < base → v ≤ v * base + d
grows base v d h = le_trans (let q : v * 1 ≤ v * base = mul-le-mul_left v h in omega (arith, q)) (le-add_right (v * base) d)

at_least : (base : ℕ) → 0 < base → (v : ℕ) (s : List ℕ) → v ≤ value_from base v s
unfolding value_from
at_least base h v [] = omega arith
at_least base h v (b ∷ s) = le_trans (grows base v (digit_of b) h) (at_least base h (v * base + digit_of b) s)

-- ---- whether a number fits

pub fitting_ok : (x v : ℕ) → fitting x ≡ Ok v → (v ≡ x) × (x < 2 ^ 64)
unfolding fitting
fitting_ok x v e = go (nat_lt x (2 ^ 64)) refl e
  where
    go : (t : Bool) → nat_lt x (2 ^ 64) ≡ t → ◌≡◌ {A = Result ℕ NumberError} (cond t (Ok x) (Err TooLarge)) (Ok v) → (v ≡ x) × (x < 2 ^ 64)
    go true l q = (cc, ltb-true x (2 ^ 64) l)
    go false l q = absurd (cc)

pub fitting_err : (x : ℕ) (k : NumberError) → fitting x ≡ Err k → (k ≡ TooLarge) × (2 ^ 64 ≤ x)
unfolding fitting
fitting_err x k e = go (nat_lt x (2 ^ 64)) refl e
  where
    go : (t : Bool) → nat_lt x (2 ^ 64) ≡ t → ◌≡◌ {A = Result ℕ NumberError} (cond t (Ok x) (Err TooLarge)) (Err k) → (k ≡ TooLarge) × (2 ^ 64 ≤ x)
    go true l q = absurd (cc)
    go false l q = (cc, ltb-false x (2 ^ 64) l)

-- ---- the loop over the digits: what is left to read gives the same

pub none_read : (base : ℕ) (s : List ℕ) → (length s == 0) ≡ true → Err NoNumber ≡ digits_in base s
unfolding digits_in
none_read base s e = rw e

module _ (base : ℕ) (s : List ℕ) where
  pub no_digits : (length s == 0) ≡ false → digitsb base s ≡ false → Err NoNumber ≡ digits_in base s
  unfolding digits_in
  no_digits some e = rw (some, e)

  pub value_more : (v i : ℕ) → i < length s
      → value_from base v (drop i s) ≡ value_from base (v * base + digit_of (slice_index s i)) (drop (i + 1) s)
  unfolding value_from
  value_more v i h = rw (drop-cons s i 0 h, add-one i)

  -- what is left decides whether all are digits
  digits_more : (i : ℕ) → i < length s → digitsb base (drop i s) ≡ (nat_lt (digit_of (slice_index s i)) base && digitsb base (drop (i + 1) s))
  unfolding digitsb
  digits_more i h = rw (drop-cons s i 0 h, add-one i)

  pub digits_end : (i : ℕ) → length s ≤ i → digitsb base (drop i s) ≡ true
  unfolding digitsb
  digits_end i past = rw (drop_of_length-le s past)

  module _ (i d : ℕ) (inside : i < length s) (is : d ≡ digit_of (slice_index s i)) (left : digitsb base (drop i s) ≡ digitsb base s) where
    pub digits_left : d < base → digitsb base (drop (i + 1) s) ≡ digitsb base s
    digits_left h = sym (digits_more i inside ∙ rw (← is, lt-ltb d base h) refl) ∙ left

    pub spoiled : (length s == 0) ≡ false → base ≤ d → Err NoNumber ≡ digits_in base s
    spoiled some h = no_digits some (sym left ∙ digits_more i inside ∙ rw (← is, le-ltb d base h) refl)

  module _ (some : (length s == 0) ≡ false) (digits : digitsb base s ≡ true) (v i : ℕ) (same : value_from base v (drop i s) ≡ value_from base 0 s) where
    pub all_read : length s ≤ i → v < 2 ^ 64 → Ok v ≡ digits_in base s
    unfolding digits_in fitting value_from
    all_read past fits =
        let e = rw (drop_of_length-le s past) at same in
        rw (some, digits, ← e, lt-ltb v (2 ^ 64) fits)

    pub too_large : 0 < base → i < length s → 2 ^ 64 ≤ v * base + digit_of (slice_index s i) → Err TooLarge ≡ digits_in base s
    unfolding digits_in fitting
    too_large low inside large =
        let g = at_least base low (v * base + digit_of (slice_index s i)) (drop (i + 1) s) in
        let l : 2 ^ 64 ≤ value_from base 0 s = omega (arith, value_more v i inside) in
        rw (some, digits, le-ltb (value_from base 0 s) (2 ^ 64) l)

-- ---- which digits a word has

pub prefixed_is : (s : List ℕ) → pointwise nat_eq (take 2 s) (48 ∷ 120 ∷ []) ≡ prefixed s
prefixed_is [] = refl
prefixed_is (a ∷ []) = go (a == 48)
  where
    go : (t : Bool) → (t && false) ≡ false
    go true = refl
    go false = refl
prefixed_is (a ∷ b ∷ s) = rw (le-leb 2 (length (a ∷ b ∷ s)) (omega arith)) (go (a == 48) (b == 120))
  where
    go : (t u : Bool) → (t && (u && true)) ≡ (t && u)
    go true true = refl
    go true false = refl
    go false u = refl

module _ (r : Result ℕ NumberError) (s : List ℕ) where
  pub hexadecimal : pointwise nat_eq (take 2 s) (48 ∷ 120 ∷ []) ≡ true → (d : List ℕ) → d ≡ drop 2 s → r ≡ digits_in 16 d → r ≡ number_in s
  unfolding number_in
  hexadecimal p d is e = rw (sym (prefixed_is s) ∙ p, ← is) e

  pub decimal : pointwise nat_eq (take 2 s) (48 ∷ 120 ∷ []) ≡ false → r ≡ digits_in 10 s → r ≡ number_in s
  unfolding number_in
  decimal p e = rw (sym (prefixed_is s) ∙ p) e

-- ---- a number's digits

pub digit_glyph : (d : ℕ) → d < 16 → digit_of (hex_digit_ascii d) ≡ d
unfolding digit_of
digit_glyph d h = go (nat_lt d 10) refl
  where
    go : (t : Bool) → nat_lt d 10 ≡ t → digit_of (hex_digit_ascii d) ≡ d
    go true e = rw (e, le-ltb (48 + d) 48 (omega arith), lt-ltb (48 + d) 58 (omega (arith, ltb-true d 10 e))) (omega arith)
    go false e = let l = ltb-false d 10 e in
        rw (e, le-ltb (87 + d) 48 (omega arith), le-ltb (87 + d) 58 (omega arith), le-ltb (87 + d) 65 (omega arith), le-ltb (87 + d) 71 (omega arith), le-ltb (87 + d) 97 (omega arith), lt-ltb (87 + d) 103 (omega arith)) (omega arith)

-- one digit more at the end
value_snoc : (base v : ℕ) (s : List ℕ) (b : ℕ) → value_from base v (s ++ (b ∷ [])) ≡ value_from base v s * base + digit_of b
unfolding value_from
value_snoc base v [] b = refl
value_snoc base v (x ∷ s) b = value_snoc base (v * base + digit_of x) s b

digitsb_snoc : (base : ℕ) (s : List ℕ) (b : ℕ) → digitsb base s ≡ true → nat_lt (digit_of b) base ≡ true → digitsb base (s ++ (b ∷ [])) ≡ true
unfolding digitsb
digitsb_snoc base [] b p q = rw q
digitsb_snoc base (x ∷ s) b p q = go (nat_lt (digit_of x) base) p (λ h. digitsb_snoc base s b h q)
  where
    go : (t : Bool) → (t && digitsb base s) ≡ true → (digitsb base s ≡ true → digitsb base (s ++ (b ∷ [])) ≡ true) → (t && digitsb base (s ++ (b ∷ []))) ≡ true
    go true h rest = rest h
    go false h rest = h

module _ (base : ℕ) (low : 1 < base) (high : base ≤ 16) where
  last_digit : (n : ℕ) → digit_of (hex_digit_ascii (n % base)) ≡ n % base
  last_digit n = digit_glyph (n % base) (let q : n % base < base = mod-lt n (omega arith) in omega arith)

  pub digits_digits : (k n : ℕ) → digitsb base (last_digits base k n) ≡ true
  unfolding digitsb
  digits_digits zero n = refl
  digits_digits (suc k) n =
      digitsb_snoc base (last_digits base k (n / base)) (hex_digit_ascii (n % base)) (digits_digits k (n / base))
      (rw (last_digit n) (lt-ltb (n % base) base (mod-lt n (omega arith))))

  pub digits_value : (k n : ℕ) → n < base ^ k → value_from base 0 (last_digits base k n) ≡ n
  unfolding value_from
  digits_value zero n h = omega (arith, pow-zero base)
  digits_value (suc k) n h =
      value_snoc base 0 (last_digits base k (n / base)) (hex_digit_ascii (n % base))
      ∙ rw (digits_value k (n / base) (fewer k n h), last_digit n) (div-add-mod' n base)
    where
      fewer : (k n : ℕ) → n < base ^ suc k → n / base < base ^ k
      fewer k n h = (div-lt_iff_lt-mul {k = base} {x = n} {y = base ^ k} (omega arith)).1 (rw (mul_comm (base ^ k) base, ← pow-succ' base k) h)
