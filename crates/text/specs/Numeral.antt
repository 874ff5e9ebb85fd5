-- What a word is as a number: decimal, or hexadecimal after `0x`, up to 2^64 - 1.
use Rattle.std.specs.Prelude.{ℕ, ◌+◌, ◌-◌, ◌*◌, ◌^◌, Bool, cond, ◌&&◌, List, [], ◌∷◌, length, drop, ◌==◌, nat_le, nat_lt, slice_index, Result, Ok, Err}
use Rattle.std.specs.List.{list_all}
use Rattle.text.specs.declared.number.NumberError.{NumberError}
use Rattle.text.specs.declared.number.NumberError.TheVariants.{TooLarge, NoNumber}

-- the value of a digit: `0` to `9`, `A` to `F`, `a` to `f`; 16 for any other byte
unfoldable pub digit_of : ℕ → ℕ
digit_of b =
    cond (nat_lt b 48) 16
    (cond (nat_lt b 58) (b - 48)
    (cond (nat_lt b 65) 16
    (cond (nat_lt b 71) (b - 55)
    (cond (nat_lt b 97) 16
    (cond (nat_lt b 103) (b - 87) 16)))))

-- every byte is a digit of the base
unfoldable pub digitsb : ℕ → List ℕ → Bool
digitsb base s = list_all (λ b. nat_lt (digit_of b) base) s

-- the value of digits behind others that are worth v: each place is worth the base times the next
unfoldable pub value_from : ℕ → ℕ → List ℕ → ℕ
value_from base v [] = v
value_from base v (b ∷ s) = value_from base (v * base + digit_of b) s

-- a number up to 2^64 - 1
unfoldable pub fitting : ℕ → Result ℕ NumberError
fitting v = cond (nat_lt v (2 ^ 64)) (Ok v) (Err TooLarge)

-- digits behind others that are worth v
abbrev pub after : ℕ → ℕ → List ℕ → Result ℕ NumberError
after base v s = cond (digitsb base s) (fitting (value_from base v s)) (Err NoNumber)

-- one digit or more, and nothing else
unfoldable pub digits_in : ℕ → List ℕ → Result ℕ NumberError
digits_in base s = cond (length s == 0) (Err NoNumber) (after base 0 s)

abbrev pub prefixed : List ℕ → Bool
prefixed s = nat_le 2 (length s) && (slice_index s 0 == 48 && slice_index s 1 == 120)

-- "Numbers are decimal or `0x` hexadecimal, up to 2^64 - 1"
unfoldable pub number_in : List ℕ → Result ℕ NumberError
number_in s = cond (prefixed s) (digits_in 16 (drop 2 s)) (digits_in 10 s)
