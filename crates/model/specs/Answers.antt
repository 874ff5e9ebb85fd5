-- Answers: number and values for each case, a refusal's number and zero elsewhere (RULES O1, X11); and how a call comes to refuse.
use Rattle.std.specs.Prelude.{Bool, cond, List, [], ◌∷◌, ℕ, length, replicate, Result, Ok, Err, ⊤, true, false}
use Rattle.address.specs.declared.VirtAddr.{VirtAddr}
use Rattle.answers.specs.declared.Refusal.{Refusal}
use Rattle.answers.specs.Number.{number_of}
use Rattle.model.specs.declared.Listed.{Listed}
use Rattle.laws.specs.Lists.{pad}
use Rattle.model.specs.Machine.{State}

-- what a call returns in numbers (RULES O1): the refusal's number (0: success) and the values
pub record Reply : Type 0 where
  pub number : ℕ
  pub values : List ℕ

abbrev pub of_done : Result ⊤ Refusal → Reply
of_done (Ok tt) = record { number = 0; values = [] }
of_done (Err r) = record { number = number_of r; values = [] }

abbrev pub of_opened : Result ℕ Refusal → Reply
of_opened (Ok p) = record { number = 0; values = p ∷ [] }
of_opened (Err r) = record { number = number_of r; values = 0 ∷ [] }

abbrev pub of_placed : Result VirtAddr Refusal → Reply
of_placed (Ok a) = record { number = 0; values = a.0 ∷ [] }
of_placed (Err r) = record { number = number_of r; values = 0 ∷ [] }

abbrev pub of_covering : Result Bool Refusal → Reply
of_covering (Ok true) = record { number = 0; values = 1 ∷ [] }
of_covering (Ok false) = record { number = 0; values = 0 ∷ [] }
of_covering (Err r) = record { number = number_of r; values = 0 ∷ [] }

abbrev pub of_loaded : Result ℕ Refusal → Reply
of_loaded (Ok b) = record { number = 0; values = b ∷ [] }
of_loaded (Err r) = record { number = number_of r; values = 0 ∷ [] }

-- a count and 64 starts
abbrev pub of_listed : Listed → Reply
of_listed l = record { number = (of_done l.done).number; values = l.count ∷ l.starts }

unfoldable pub listing : List ℕ → Listed
listing l = record { done = Ok tt; count = length l; starts = pad 64 0 l }

unfoldable pub not_listed : Refusal → Listed
not_listed r = record { done = Err r; count = 0; starts = replicate 64 0 }

-- what a call answers and leaves
pub record After (A : Type 0) : Type 0 where
  pub answer : A
  pub state : State

abbrev pub Try : Type 0
Try = After (Result ⊤ Refusal)

abbrev pub leaving : {A : Type 0} → A → State → After A
leaving a s = record { answer = a; state = s }

abbrev pub fine : State → Try
fine s = leaving (Ok tt) s

abbrev pub refuse : Refusal → State → Try
refuse r s = leaving (Err r) s

-- RULES O4, of several the lowest number: the tests of a call stand in the order of their numbers, and the first that is true gives its refusal
unfoldable pub first_of : List (Bool × Refusal) → Result ⊤ Refusal
first_of [] = Ok tt
first_of (t ∷ l) = let rest = first_of l in cond t.0 (Err t.1) rest

-- a refusal changes nothing (RULES O2); where none is given the call goes on
abbrev pub unless : Result ⊤ Refusal → State → Try → Try
unless (Ok tt) s t = t
unless (Err r) s t = refuse r s

-- one thing after another; a refusal ends it and keeps what was done
abbrev pub and_then : Try → (State → Try) → Try
and_then t f = go_on t.answer t.state f
  where
    go_on : Result ⊤ Refusal → State → (State → Try) → Try
    go_on (Ok tt) s f = f s
    go_on (Err r) s f = refuse r s
