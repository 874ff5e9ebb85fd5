-- The bits of a number.
use Rattle.std.specs.Prelude.{Bool, ℕ, zero, suc, ◌/◌, ◌%◌, eqb}

-- bit i of n, 0 or 1: halve i times, then the remainder by 2
unfoldable pub bit : ℕ → ℕ → ℕ
bit n zero = n % 2
bit n (suc i) = bit (n / 2) i

-- whether bit i of n is set
abbrev pub has : ℕ → ℕ → Bool
has n i = eqb (bit n i) 1
