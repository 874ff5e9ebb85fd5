-- Lists of words, and the words of a line: which word of a list a word is, and the word at a place.
use Rattle.std.specs.Prelude.{Bool, cond, List, [], ◌∷◌, ℕ, zero, suc, ◌-◌, ◌≤◌, eqb, take, drop, Option, Some, None}
use Rattle.std.specs.Option.{option_map}
use Rattle.std.specs.Str.{bytes_eq}
use Prim.Native.Char.{code}
use Prim.Native.String.{String, [], ◌∷◌}
use Rattle.text.specs.declared.words.Word.{Word}
use Rattle.text.specs.LineWords.{word_at}

-- the bytes of a text of plain characters
unfoldable pub codes : String → List ℕ
codes [] = []
codes (c ∷ s) = code c ∷ codes s

-- the bytes of a word
abbrev pub text_of : List ℕ → Word → List ℕ
text_of s w = take (w.to - w.from) (drop w.from s)

-- whether a word is there at all
abbrev pub none : Word → Bool
none w = eqb w.from w.to

-- the place of a word among the next `count` words of a list, from 0, if it is one of them
unfoldable pub place_from : ℕ → List ℕ → ℕ → List ℕ → Option ℕ
place_from zero list at word = None
place_from (suc count) list at word =
    cond (bytes_eq word (text_of list (word_at list at))) (Some 0) (option_map (λ (k : ℕ). suc k) (place_from count list (word_at list at).to word))

abbrev pub place_in : List ℕ → ℕ → List ℕ → Option ℕ
place_in list count word = place_from count list 0 word

-- the word at a place among the words of a list from `at` on
unfoldable pub nth_from : ℕ → List ℕ → ℕ → Word
nth_from zero list at = word_at list at
nth_from (suc place) list at = nth_from place list (word_at list at).to

abbrev pub nth_in : List ℕ → ℕ → Word
nth_in list place = nth_from place list 0

-- a word that lies in a list of so many bytes
pub record InList (n : ℕ) (w : Word) : Type 0 where
  pub ordered : w.from ≤ w.to
  pub ends : w.to ≤ n
