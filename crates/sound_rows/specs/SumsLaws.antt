-- Whether a sum is at most a limit, asked without the sum: it could be too large for a word.
use Rattle.std.specs.Prelude.{◌≡◌, true, false, ℕ, ◌+◌, ◌-◌, ◌*◌, ◌%◌, ◌≤◌, ◌<◌, leb}
use Rattle.std.proofs.Common.{arith, le-leb}
use Rattle.std.proofs.lemmas.Bool.{lt-leb}
use Rattle.model.specs.Lookup.{pages_for}

module _ (a b e : ℕ) where
  pub sum_past : e < a → leb (a + b) e ≡ false
  sum_past h = lt-leb (a + b) e (omega arith)

  pub sum_over : e - a < b → leb (a + b) e ≡ false
  sum_over h = lt-leb (a + b) e (omega arith)

  pub sum_within : a ≤ e → b ≤ e - a → leb (a + b) e ≡ true
  sum_within h l = le-leb (a + b) e (omega arith)

-- .. and of a size rounded up to pages; between two page starts the rounding changes nothing
module _ (a n e : ℕ) where
  pub pages_over : e - a < n → leb (a + pages_for n * 4096) e ≡ false
  pages_over h = sum_over a (pages_for n * 4096) e (omega arith)

  pub pages_within : a % 4096 ≡ 0 → e % 4096 ≡ 0 → a ≤ e → n ≤ e - a → leb (a + pages_for n * 4096) e ≡ true
  pages_within s t h l = le-leb (a + pages_for n * 4096) e (omega arith)
