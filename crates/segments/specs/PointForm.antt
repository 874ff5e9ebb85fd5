-- A table of points over any kind of call: a row is a run of calls from a fresh start, with what each must answer and what must stand in the tables after it.
use Rattle.std.specs.Prelude.{Bool, true, false, ◌&&◌, List, [], ◌∷◌, ℕ, eqb}

-- a call, and the number and values (RULES E, O1) that it must answer
pub record Step (C : Type 0) : Type 0 where
  pub call : C
  pub answer : List ℕ

-- the calls in their order, and the tables after the last of them
pub record Row (C : Type 0) : Type 0 where
  pub steps : List (Step C)
  pub after : List ℕ

-- what a call does to a state: its number and values, and the state that it leaves
pub record Ran (S : Type 0) : Type 0 where
  pub answer : List ℕ
  pub state : S

abbrev pub same_numbers : List ℕ → List ℕ → Bool
same_numbers [] [] = true
same_numbers [] (b ∷ t) = false
same_numbers (a ∷ s) [] = false
same_numbers (a ∷ s) (b ∷ t) = eqb a b && same_numbers s t

module _ {S C : Type 0} (run : C → S → Ran S) (shown : S → List ℕ) where
  -- each call answers what it must, and then the tables are what they must be
  abbrev pub runs : S → List (Step C) → List ℕ → Bool
  runs state [] after = same_numbers (shown state) after
  runs state (s ∷ rest) after = same_numbers (run s.call state).answer s.answer && runs (run s.call state).state rest after

  abbrev pub holds : S → Row C → Bool
  holds fresh r = runs fresh r.steps r.after

  -- every row holds, each afresh
  abbrev pub all_hold : S → List (Row C) → Bool
  all_hold fresh [] = true
  all_hold fresh (r ∷ rest) = holds fresh r && all_hold fresh rest
