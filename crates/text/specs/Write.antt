-- What a buffer holds once something is put into it.
use Rattle.std.specs.Prelude.{◌≡◌, ℕ, ◌+◌, ◌-◌, ◌≤◌, List, ◌++◌, length, take, drop, Ok}
use Rattle.text.specs.Numeral.{number_in}

-- a text at a place, the place after it, and all else as it was
pub record Put (old : List ℕ) (at : ℕ) (text new : List ℕ) (r : ℕ) : Type 0 where
  pub next : r ≡ at + length text
  pub whole : new ≡ take at old ++ (text ++ drop r old)

-- a text of at most `most` bytes that reads back as a number, the place after it, and all else as it was
pub record Spelled (most : ℕ) (old : List ℕ) (at n : ℕ) (new : List ℕ) (r : ℕ) : Type 0 where
  pub starts : at ≤ r
  pub ends : r ≤ at + most
  pub reads : number_in (take (r - at) (drop at new)) ≡ Ok n
  pub before : take at new ≡ take at old
  pub behind : drop r new ≡ drop r old
