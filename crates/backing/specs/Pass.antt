-- The free frames by one pass over the rows of backings: how many frames from a row on are in a backing.
use Rattle.std.specs.Prelude.{ℕ, ◌-◌, cond, nat_lt}

-- how many frames from a row on are in a backing: k from the row before on, n by the row's own backing
abbrev pub cover : ℕ → ℕ → ℕ
cover k n = cond (nat_lt (k - 1) n) n (k - 1)
