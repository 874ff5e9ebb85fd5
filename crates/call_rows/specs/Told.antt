-- What of an answer stands where, in words (RULES O1).
use Rattle.std.specs.Prelude.{[], ◌∷◌, ℕ, get_or, Result, Ok, Err}
use Rattle.answers.specs.declared.Refusal.{Refusal}
use Rattle.answers.specs.Number.{number_of}
use Rattle.model.specs.declared.Answer.{Answer}
use Rattle.model.specs.Answers.{Reply}
use Rattle.model.specs.Meant.{reply}

-- an answer with a value that one word tells
abbrev pub of_value : {A : Type 0} → (A → ℕ) → Result A Refusal → Reply
of_value word (Ok x) = record { number = 0; values = word x ∷ [] }
of_value word (Err r) = record { number = number_of r; values = 0 ∷ [] }

-- the first value of an answer, 0 where it has none
unfoldable pub first_value : Answer → ℕ
first_value x = get_or (reply x []).values 0 0
