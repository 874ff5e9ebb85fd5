-- The manager's calls on lent words: what each answers and what it leaves in the words. Words of another length are refused BadTable.
use Rattle.std.specs.Prelude.{cond, List, ℕ, eqb, length, Result, Ok, Err, Bool, ⊤}
use Rattle.answers.specs.declared.Refusal.{Refusal}
use Rattle.answers.specs.declared.Refusal.TheVariants.{BadTable, BadAddress}
use Rattle.address.specs.declared.VirtAddr.{VirtAddr}
use Rattle.address.specs.Canonical.{canonical}
use Rattle.segment.specs.declared.Segment.{Segment}
use Rattle.segment.specs.Form.{form_of}
use Rattle.segments.specs.declared.table.VirtualMemoryManager.{VirtualMemoryManager}
use Rattle.segments.specs.Calls.{new_call, reserve_call, mark_call, release_call, point_as, split_call}
use Rattle.segments_lent.specs.LentWords.{manager_of, words_of, lent_sound}

-- an answer, and what is left in the words
pub record Left (A : Type 0) : Type 0 where
  pub answer : A
  pub words : List ℕ

abbrev pub left : {A : Type 0} → A → List ℕ → Left A
left a w = record { answer = a; words = w }

-- words of another length: a refusal, and nothing is changed
abbrev pub of_length : {A : Type 0} → List ℕ → A → Left A → Left A
of_length w bad r = cond (eqb (length w) 131) r (left bad w)

-- a new manager; a refusal changes nothing (RULES S3)
abbrev pub new_left : List ℕ → Result ⊤ Refusal → VirtualMemoryManager → Left (Result ⊤ Refusal)
new_left w (Ok tt) m = left (Ok tt) (words_of m)
new_left w (Err why) m = left (Err why) w

unfoldable pub new_lent : List ℕ → VirtAddr → ℕ → Left (Result ⊤ Refusal)
new_lent w start size = of_length w (Err BadTable) (new_left w (new_call start size).answer (new_call start size).manager)

-- the others are those of the manager that the words are (RULES S4 to S12)

unfoldable pub reserve_lent : List ℕ → ℕ → Left (Result (Segment × ℕ) Refusal)
reserve_lent w len = of_length w (Err BadTable) (left (reserve_call (manager_of w) len).answer (words_of (reserve_call (manager_of w) len).manager))

unfoldable pub mark_lent : List ℕ → Segment → Left (Result ⊤ Refusal)
mark_lent w s = of_length w (Err BadTable) (left (mark_call (manager_of w) s).answer (words_of (mark_call (manager_of w) s).manager))

unfoldable pub release_lent : List ℕ → Segment → Left (Result Bool Refusal)
release_lent w s = of_length w (Err BadTable) (left (release_call (manager_of w) s).answer (words_of (release_call (manager_of w) s).manager))

unfoldable pub split_lent : List ℕ → Segment → VirtAddr → Left (Result (Segment × Segment) Refusal)
split_lent w s at = of_length w (Err BadTable) (left (split_call (manager_of w) s at).answer (words_of (split_call (manager_of w) s at).manager))

-- what is tested before a segment is looked up (RULES S11, S12), and before it is split (RULES E10)

unfoldable pub checked_lent : List ℕ → Segment → Result ⊤ Refusal
checked_lent w s = cond (lent_sound w) (form_of s) (Err BadTable)

unfoldable pub point_lent : List ℕ → Segment → VirtAddr → Result ⊤ Refusal
point_lent w s at = cond (lent_sound w) (cond (canonical at.0) (point_as (form_of s) s at) (Err BadAddress)) (Err BadTable)
