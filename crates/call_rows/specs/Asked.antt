-- Which call words name: its number, then exactly its arguments (RULES D1).
use Rattle.std.specs.Prelude.{Bool, false, cond, List, [], ◌∷◌, ℕ, eqb, length, Option, None}
use Rattle.model.specs.declared.Call.{Call}
use Rattle.laws.specs.Lists.{pad}
use Rattle.call_words.specs.CallOf.{call_of, count_of}

-- the call that words name
unfoldable pub call_in : List ℕ → Option Call
call_in [] = None
call_in (n ∷ args) = cond (eqb (length args) (count_of n)) (call_of n (pad 10 0 args)) None

-- words that begin with the number of start, which has the rows of files behind it
abbrev pub starts_with : List ℕ → Bool
starts_with [] = false
starts_with (n ∷ rows) = eqb n 0
