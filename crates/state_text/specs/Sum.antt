-- The sum over a frame's bytes that the state shows: 31 times the sum so far, the byte and 1, in 32 bits.
use Rattle.std.specs.Prelude.{ℕ, ◌+◌, ◌*◌, ◌%◌, ◌^◌, List, [], ◌∷◌}

-- the sum of bytes behind others whose sum is s
unfoldable pub sum_from : ℕ → List ℕ → ℕ
sum_from s [] = s
sum_from s (b ∷ l) = sum_from ((s * 31 + b + 1) % (2 ^ 32)) l
