-- A test that tells a proposition: true exactly where it holds.
use Rattle.std.specs.Prelude.{◌≡◌, Bool, true, false}

pub record Tells (b : Bool) (P : Type 0) : Type 0 where
  pub yes : b ≡ true → P
  pub no : b ≡ false → P → ⊥
