-- A tour of a process's regions, region by region: what is left of it gives what the whole gives.
use Rattle.std.specs.Prelude.{◌≡◌, List, ℕ, ◌+◌, ◌-◌, ◌*◌, get_or, Result, Ok, Err, ⊤}
use Rattle.answers.specs.declared.Refusal.{Refusal}
use Rattle.model.specs.Layout.{machine}
use Rattle.model.specs.Answers.{leaving}
use Rattle.model.specs.Populate.{eagerly}
use Rattle.rows.specs.LentMemory.{state_of}

-- a tour: the place in the list, how many are left, and the answer so far; once it has ended none is left
pub record Tour : Type 0 where
  pub next : ℕ
  pub left : ℕ
  pub done : Result ⊤ Refusal

-- how a tour goes on from a region: a refusal ends it
abbrev pub tour_after : ℕ → ℕ → Result ⊤ Refusal → Tour
tour_after next left (Ok tt) = record { next = next + 1; left = left - 1; done = Ok tt }
tour_after next left (Err r) = record { next = 0; left = 0; done = Err r }

-- one region of the list in the tables
pub record Stepped (p : ℕ) (at : Tour) (w f b : List ℕ) (r : Tour) (w' f' : List ℕ) : Type 0 where
  pub slot : ℕ
  pub here : slot ≡ get_or (machine w).order (p * 64 + at.next) 0
  pub done : Result ⊤ Refusal
  pub does : eagerly (state_of w f b) p slot ≡ leaving done (state_of w' f' b)
  pub next : r ≡ tour_after at.next at.left done
