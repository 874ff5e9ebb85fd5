-- Lent words that are a machine's, and answers as numbers where they are not.
use Rattle.std.specs.Prelude.{◌≡◌, ℕ, Bool, true, false, cond, ◌&&◌, List, length, ◌==◌, nat_lt, Option, Some, None}
use Rattle.model.specs.declared.Mapping.{Mapping}
use Rattle.model.specs.Machine.{Machine}
use Rattle.model.specs.Layout.{word_count, machine}

-- the words are a machine's and the number is below n
unfoldable pub there_below : ℕ → List ℕ → ℕ → Bool
there_below n words i = length words == word_count && nat_lt i n

abbrev pub process_there : List ℕ → ℕ → Bool
process_there = there_below 8

abbrev pub row_there : List ℕ → ℕ → Bool
row_there = there_below 512

-- an answer where the words are a machine's, else d
unfoldable pub answer_if : Bool → ℕ → ℕ → ℕ
answer_if b x d = cond b x d

abbrev pub row_or : ℕ → Option ℕ → ℕ
row_or d (Some i) = i
row_or d None = d

abbrev pub frame_or : ℕ → Option Mapping → ℕ
frame_or d (Some x) = x.frame.0
frame_or d None = d

abbrev pub mapped_one : Option Mapping → ℕ
mapped_one (Some x) = 1
mapped_one None = 0

-- the machine that is left, or words left as they were
pub record Left (there : Bool) (words words' : List ℕ) (m : Machine) : Type 0 where
  pub changed : there ≡ true → machine words' ≡ m
  pub kept : there ≡ false → words' ≡ words
