-- The number and values for each answer of a manager's call: 0 and the values, or the refusal's number and zero elsewhere (RULES O1, X11).
use Rattle.std.specs.Prelude.{List, [], ◌∷◌, ℕ, Result, Ok, Err, Bool, ⊤, true, false}
use Rattle.segment.specs.declared.Segment.{Segment}
use Rattle.answers.specs.declared.Refusal.{Refusal}
use Rattle.answers.specs.Number.{number_of}
use Rattle.segment.specs.Form.{start_of}

-- a new manager, and marking: the number alone
abbrev pub answered_values : Result ⊤ Refusal → List ℕ
answered_values (Ok tt) = 0 ∷ []
answered_values (Err why) = number_of why ∷ []

-- reserving: the lowest free start, and how often the search started over
abbrev pub reserved_values : Result (Segment × ℕ) Refusal → List ℕ
reserved_values (Ok (s, restarts)) = 0 ∷ start_of s ∷ restarts ∷ []
reserved_values (Err why) = number_of why ∷ 0 ∷ 0 ∷ []

-- releasing: 1 for yes, 0 for no
abbrev pub released_values : Result Bool Refusal → List ℕ
released_values (Ok true) = 0 ∷ 1 ∷ []
released_values (Ok false) = 0 ∷ 0 ∷ []
released_values (Err why) = number_of why ∷ 0 ∷ []

-- splitting: start and length of the part below, and of the part above
abbrev pub split_values : Result (Segment × Segment) Refusal → List ℕ
split_values (Ok (low, high)) = 0 ∷ start_of low ∷ low.len ∷ start_of high ∷ high.len ∷ []
split_values (Err why) = number_of why ∷ 0 ∷ 0 ∷ 0 ∷ 0 ∷ []

-- the list: how many segments there are
abbrev pub listed_values : Result ℕ Refusal → List ℕ
listed_values (Ok n) = 0 ∷ n ∷ []
listed_values (Err why) = number_of why ∷ 0 ∷ []
