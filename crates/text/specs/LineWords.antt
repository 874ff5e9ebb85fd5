-- The words of a line: runs of bytes between blanks.
use Rattle.std.specs.Prelude.{ℕ, ◌+◌, ◌-◌, ◌≤◌, Bool, ◌||◌, List, length, drop, ◌==◌, not}
use Rattle.std.specs.List.{take_while}
use Rattle.text.specs.declared.words.Word.{Word}

-- a space or a tab
abbrev pub blank : ℕ → Bool
blank b = b == 32 || b == 9

-- how many blanks a text begins with
unfoldable pub blanks : List ℕ → ℕ
blanks s = length (take_while blank s)

-- how many bytes that are no blanks
unfoldable pub letters : List ℕ → ℕ
letters s = length (take_while (λ b. not (blank b)) s)

-- the word that ends with the letters from `from` on
abbrev pub word_from : List ℕ → ℕ → Word
word_from s from = record { from = from; to = from + letters (drop from s) }

-- the first word from `at` on
unfoldable pub word_at : List ℕ → ℕ → Word
word_at s at = word_from s (at + blanks (drop at s))

-- where a word lies in a line of so many bytes: no farther than the line goes
pub record Lies (n at : ℕ) (w : Word) : Type 0 where
  pub starts : w.from ≤ at + (n - at)
  pub ordered : w.from ≤ w.to
  pub ends : w.to ≤ w.from + (n - w.from)
