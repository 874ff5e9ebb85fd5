-- What is put into a buffer stands there, and a number's digits read back as the number.
use Rattle.std.specs.Prelude.{◌≡◌, ℕ, zero, suc, ◌+◌, ◌-◌, ◌/◌, ◌%◌, ◌^◌, ◌<◌, ◌≤◌, Bool, true, false, ◌&&◌, List, [], ◌∷◌, ◌++◌, length, take, drop, ◌==◌, ◌≢◌, nat_le, nat_lt, Ok, refl}
use Rattle.std.proofs.Common.{sym, ap, ◌∙◌, append_assoc, append-nil, arith, add-one, length-append, length-drop, drop_of_length-le, take_all, drop-drop, take_at, drop_at, length-take-le}
use Rattle.std.proofs.lemmas.Bool.{false≢true}
use Rattle.std.proofs.Math.Nat.{pow-le-pow_right}
use Rattle.std.proofs.Math.Seq.{take-length}
use borrow.Author.Tests.{lt-ltb, le-leb, leb-true, leb-false, eqb-true, ne_eqb}
use Rattle.io.specs.Digits.{hex_digit_ascii, last_digits, IsDigitCount}
use Rattle.text.specs.Numeral.{digit_of, digitsb, fitting, digits_in, number_in, prefixed}
use Rattle.text.specs.NumeralLaws.{digits_digits, digits_value}
use Rattle.text.specs.Write.{Put, Spelled}

-- ---- a text at a place

-- as the code puts it: a copy into the part from `at` on
pub copied : (old : List ℕ) (at : ℕ) (text ys : List ℕ) (n : ℕ) → n ≡ length text
    → ys ≡ take (length text) text ++ drop (length text) (take (length old - at) (drop at old))
    → Put old at text (take at old ++ (ys ++ drop (length old - at) (drop at old))) (at + n)
copied old at text ys n p e = record { next = ap (λ (x : ℕ). at + x) p; whole = ap (λ (x : List ℕ). take at old ++ x) rest }
  where
    all : length (drop at old) ≤ length old - at
    all = omega (arith, length-drop at old)

    rest : ys ++ drop (length old - at) (drop at old) ≡ text ++ drop (at + n) old
    rest =
        rw (drop_of_length-le (drop at old) {i = length old - at} all, append-nil ys, e, take_all (length old - at) (drop at old) all, drop-drop (length text) at old, p, take-length text)

module _ (old : List ℕ) (at : ℕ) (text : List ℕ) (fits : at + length text ≤ length old) (new : List ℕ) (r : ℕ) (put : Put old at text new r) where
  front : length (take at old) ≡ at
  front = length-take-le at old (omega arith)

  kept_before : take at new ≡ take at old
  kept_before = ap (take at) put.whole ∙ take_at (take at old) (text ++ drop r old) at front

  up_to : length (take at old ++ text) ≡ r
  up_to = length-append (take at old) text ∙ rw (front, put.next)

  regrouped : new ≡ (take at old ++ text) ++ drop r old
  regrouped = put.whole ∙ sym (append_assoc (take at old) text (drop r old))

  kept_behind : drop r new ≡ drop r old
  kept_behind = ap (drop r) regrouped ∙ drop_at (take at old ++ text) (drop r old) r up_to

  pub up_to_end : take r new ≡ take at old ++ text
  up_to_end = ap (take r) regrouped ∙ take_at (take at old ++ text) (drop r old) r up_to

  stands : take (r - at) (drop at new) ≡ text
  stands =
      ap (λ (x : List ℕ). take (r - at) (drop at x)) put.whole
      ∙ ap (take (r - at)) (drop_at (take at old) (text ++ drop r old) at front)
      ∙ take_at text (drop r old) (r - at) (omega (arith, put.next))

  -- a text that reads as a number spells it
  pub spells : (most n : ℕ) → length text ≤ most → number_in text ≡ Ok n → Spelled most old at n new r
  spells most n short reads = record {
    starts = omega (arith, put.next);
    ends = omega (arith, put.next);
    reads = ap number_in stands ∙ reads;
    before = kept_before;
    behind = kept_behind;
  }

-- one text behind another is the two together
pub and_then : (old : List ℕ) (at : ℕ) (a mid : List ℕ) (r : ℕ) (b new : List ℕ) (q : ℕ) → at + length a ≤ length old
    → Put old at a mid r → Put mid r b new q → Put old at (a ++ b) new q
and_then old at a mid r b new q fits first second = record { next = next; whole = whole }
  where
    next : q ≡ at + length (a ++ b)
    next = second.next ∙ rw (first.next, length-append a b) (omega arith)

    behind : drop q mid ≡ drop q old
    behind = rw (second.next, ← drop-drop (length b) r mid, ← drop-drop (length b) r old, kept_behind old at a fits mid r first)

    whole : new ≡ take at old ++ ((a ++ b) ++ drop q old)
    whole =
        second.whole ∙ rw (up_to_end old at a fits mid r first, behind) (append_assoc (take at old) a (b ++ drop q old) ∙ ap (λ (x : List ℕ). take at old ++ x) (sym (append_assoc a b (drop q old))))

-- ---- the digits of a number

length_digits : (b k n : ℕ) → length (last_digits b k n) ≡ k
length_digits b zero n = refl
length_digits b (suc k) n =
    length-append (last_digits b k (n / b)) (hex_digit_ascii (n % b) ∷ []) ∙ ap (λ (x : ℕ). x + 1) (length_digits b k (n / b)) ∙ add-one k

-- no number below b^most has more digits
pub at_most : (b n k most : ℕ) → 1 < b → 1 ≤ most → n < b ^ most → IsDigitCount b 1 n k → k ≤ most
at_most b n k most low some small few = go (nat_le k most) refl
  where
    go : (t : Bool) → nat_le k most ≡ t → k ≤ most
    go true e = leb-true k most e
    go false e =
        let l : most < k = leb-false k most e in
        let p : b ^ most ≤ b ^ (k - 1) = pow-le-pow_right {n = b} (omega arith) {i = most} {j = k - 1} (omega arith) in
        let q : b ^ (k - 1) ≤ n = few.2 (omega arith) in
        absurd (omega arith)

module _ (base : ℕ) (low : 1 < base) (high : base ≤ 16) where
  pub digits_read : (k n : ℕ) → n < 2 ^ 64 → IsDigitCount base 1 n k → digits_in base (last_digits base k n) ≡ Ok n
  unfolding digits_in fitting
  digits_read k n small few =
      rw (ne_eqb (length (last_digits base k n)) 0 (λ e. absurd (omega (arith, length_digits base k n, few.0))), digits_digits base low high k n, digits_value base low high k n few.1, lt-ltb n (2 ^ 64) small)

last_false : (x y : Bool) → (x && (y && false)) ≡ false
last_false true true = refl
last_false true false = refl
last_false false y = refl

mid_false : (x y : Bool) → (x && (false && y)) ≢ true
mid_false true y e = false≢true e
mid_false false y e = false≢true e

-- no decimal digit is an `x`
no_prefix : (s : List ℕ) → digitsb 10 s ≡ true → prefixed s ≡ false
unfolding digitsb digit_of
no_prefix [] e = refl
no_prefix (a ∷ []) e = refl
no_prefix (a ∷ b ∷ s) e = go (b == 120) refl
  where
    go : (t : Bool) → (b == 120) ≡ t → prefixed (a ∷ b ∷ s) ≡ false
    go true q = absurd (mid_false (nat_lt (digit_of a) 10) (digitsb 10 s) (rw (eqb-true b 120 q) at e))
    go false q = rw q (last_false (nat_le 2 (length (a ∷ b ∷ s))) (a == 48))

pub decimal_reads : (k n : ℕ) → n < 2 ^ 64 → IsDigitCount 10 1 n k → number_in (last_digits 10 k n) ≡ Ok n
unfolding number_in
decimal_reads k n small few = rw (no_prefix (last_digits 10 k n) (digits_digits 10 (omega arith) (omega arith) k n)) (digits_read 10 (omega arith) (omega arith) k n small few)

pub hex_reads : (k n : ℕ) → n < 2 ^ 64 → IsDigitCount 16 1 n k → number_in (48 ∷ 120 ∷ last_digits 16 k n) ≡ Ok n
unfolding number_in
hex_reads k n small few = rw (le-leb 2 (length (48 ∷ 120 ∷ last_digits 16 k n)) (omega arith)) (digits_read 16 (omega arith) (omega arith) k n small few)

-- ---- a number put as the code does it: its digits stand at the start of d

module _ (old : List ℕ) (at n : ℕ) (d : List ℕ) (k : ℕ) (small : n < 2 ^ 64) where
  pub decimal_put : (new : List ℕ) (r : ℕ) → at + 20 ≤ length old → IsDigitCount 10 1 n k → take k d ≡ last_digits 10 k n
      → Put old at (take k d) new r → Spelled 20 old at n new r
  decimal_put new r room few e put =
      spells old at (take k d) (omega (arith, short)) new r put 20 n short (ap number_in e ∙ decimal_reads k n small few)
    where
      short : length (take k d) ≤ 20
      short = omega (arith, at_most 10 n k 20 (omega arith) (omega arith) (omega arith) few, ap length e ∙ length_digits 10 k n)

  pub hex_put : (mid : List ℕ) (r : ℕ) (new : List ℕ) (q : ℕ) → at + 18 ≤ length old → IsDigitCount 16 1 n k → take k d ≡ last_digits 16 k n
      → Put old at (48 ∷ 120 ∷ []) mid r → Put mid r (take k d) new q → Spelled 18 old at n new q
  hex_put mid r new q room few e first second =
      spells old at (48 ∷ 120 ∷ take k d) (omega (arith, short)) new q (and_then old at (48 ∷ 120 ∷ []) mid r (take k d) new q (omega arith) first second) 18 n (omega (arith, short))
      (ap (λ (x : List ℕ). number_in (48 ∷ 120 ∷ x)) e ∙ hex_reads k n small few)
    where
      short : length (take k d) ≤ 16
      short = omega (arith, at_most 16 n k 16 (omega arith) (omega arith) (omega arith) few, ap length e ∙ length_digits 16 k n)
