-- The manager's calls on lent words: what each answers, and what it leaves in the words and in `out`.
use Rattle.std.specs.Prelude.{◌&&◌, cond, List, [], ◌∷◌, ℕ, eqb, length, Result, Ok, Err, Bool, ⊤, true, false}
use Rattle.segment.specs.declared.Segment.{Segment}
use Rattle.answers.specs.declared.Refusal.{Refusal}
use Rattle.answers.specs.Number.{number_of}
use Rattle.segments.specs.declared.table.VirtualMemoryManager.{VirtualMemoryManager}
use Rattle.segment.specs.Form.{start_of}
use Rattle.segments.specs.Calls.{segment, new_call, reserve_call, mark_call, release_call, split_call}
use Rattle.segments_lent.specs.LentWords.{manager_of, words_of}

-- the number answered, and what is left in both slices
pub record Lent : Type 0 where
  pub number : ℕ
  pub words : List ℕ
  pub out : List ℕ

abbrev pub lent : ℕ → List ℕ → List ℕ → Lent
lent n w out = record { number = n; words = w; out = out }

abbrev pub zeros : List ℕ
zeros = 0 ∷ 0 ∷ 0 ∷ 0 ∷ []

-- slices of other lengths are answered by BadTable, and nothing is changed
abbrev pub of_length : List ℕ → Lent → Lent
of_length w r = cond (eqb (length w) 131) r (lent 1 w [])

abbrev pub of_lengths : List ℕ → List ℕ → Lent → Lent
of_lengths w out r = cond (eqb (length w) 131 && eqb (length out) 4) r (lent 1 w out)

-- by cases on the answer, with the words before and the manager after

abbrev pub answered_as : List ℕ → Result ⊤ Refusal → VirtualMemoryManager → Lent
answered_as w (Ok tt) m = lent 0 (words_of m) []
answered_as w (Err why) m = lent (number_of why) w []

abbrev pub reserved_as : List ℕ → Result (Segment × ℕ) Refusal → VirtualMemoryManager → Lent
reserved_as w (Ok (s, restarts)) m = lent 0 (words_of m) (start_of s ∷ restarts ∷ 0 ∷ 0 ∷ [])
reserved_as w (Err why) m = lent (number_of why) w zeros

abbrev pub released_as : List ℕ → Result Bool Refusal → VirtualMemoryManager → Lent
released_as w (Ok true) m = lent 0 (words_of m) (1 ∷ 0 ∷ 0 ∷ 0 ∷ [])
released_as w (Ok false) m = lent 0 w zeros
released_as w (Err why) m = lent (number_of why) w zeros

abbrev pub split_as : List ℕ → Result (Segment × Segment) Refusal → VirtualMemoryManager → Lent
split_as w (Ok (low, high)) m = lent 0 (words_of m) (start_of low ∷ low.len ∷ start_of high ∷ high.len ∷ [])
split_as w (Err why) m = lent (number_of why) w zeros

-- ---- the calls

unfoldable pub new_on : List ℕ → ℕ → ℕ → Lent
new_on w start size = of_length w (answered_as w (new_call (record { 0 = start }) size).answer (new_call (record { 0 = start }) size).manager)

unfoldable pub mark_on : List ℕ → ℕ → ℕ → Lent
mark_on w start len =
    of_length w (answered_as w (mark_call (manager_of w) (segment start len)).answer (mark_call (manager_of w) (segment start len)).manager)

unfoldable pub reserve_on : List ℕ → ℕ → List ℕ → Lent
reserve_on w len out = of_lengths w out (reserved_as w (reserve_call (manager_of w) len).answer (reserve_call (manager_of w) len).manager)

unfoldable pub release_on : List ℕ → ℕ → ℕ → List ℕ → Lent
release_on w start len out =
    of_lengths w out (released_as w (release_call (manager_of w) (segment start len)).answer (release_call (manager_of w) (segment start len)).manager)

unfoldable pub split_on : List ℕ → ℕ → ℕ → ℕ → List ℕ → Lent
split_on w start len at out =
    of_lengths w out
    (split_as w (split_call (manager_of w) (segment start len) (record { 0 = at })).answer (split_call (manager_of w) (segment start len) (record { 0 = at })).manager)
