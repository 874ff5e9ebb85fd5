-- Many calls as words: each with its soundness test, one after the other, and what they answer and leave of the lent memory (RULES D1, D3, E1, O1).
use Rattle.std.specs.Prelude.{◌≡◌, Bool, false, cond, List, [], ◌∷◌, ◌++◌, ℕ, zero, suc, ◌+◌, ◌*◌, ◌/◌, ◌%◌, eqb, leb, length, take, drop, Option, Some, None}
use Rattle.model.specs.declared.Call.{Call}
use Rattle.answers.specs.declared.Refusal.TheVariants.{BadTable}
use Rattle.answers.specs.Number.{number_of}
use Rattle.laws.specs.Lists.{pad}
use Rattle.model.specs.Answers.{After, Reply, leaving, of_done}
use Rattle.model.specs.Calls as calls
use Rattle.model.specs.Layout.{word_count}
use Rattle.model.specs.Machine.{State}
use Rattle.model.specs.Meant.{meant}
use Rattle.model.specs.Run.{call, replying}
use Rattle.rows.specs.LentMemory.{state_of}
use Rattle.process.specs.Start.{files_of}
use Rattle.call_rows.specs.Asked.{call_in, starts_with}

-- ---- the calls: of each how many words it has, then its words

-- those that stand there whole; the first that does not ends them
unfoldable pub calls_from : (steps : ℕ) → List ℕ → List (List ℕ)
calls_from zero l = []
calls_from (suc k) [] = []
calls_from (suc k) (n ∷ l) = let rest = calls_from k (drop n l) in cond (leb n (length l)) (take n l ∷ rest) []

-- a step passes one word at least
unfoldable pub calls_in : List ℕ → List (List ℕ)
calls_in l = calls_from (length l) l

-- where the call at a place ends, 0 where no whole one stands there
abbrev pub end_from : ℕ → List ℕ → ℕ
end_from at [] = 0
end_from at (n ∷ l) = cond (leb n (length l)) (at + 1 + n) 0

unfoldable pub end_of : List ℕ → ℕ → ℕ
end_of calls at = end_from at (drop at calls)

-- ---- one of them

abbrev pub bad_table : Reply
bad_table = record { number = number_of BadTable; values = [] }

-- by its number; words that are no call are BadTable, and change nothing
abbrev pub named : Option Call → State → After Reply
named (Some c) s = call (meant c) s
named None s = leaving bad_table s

-- start, with the rows of files, three words each
unfoldable pub started : List ℕ → State → After Reply
started rows s = cond (eqb (length rows % 3) 0) (replying of_done (calls.start s (files_of rows))) (leaving bad_table s)

-- whether words are as many as the tables take; others are no machine, and every call is BadTable
abbrev pub fits : List ℕ → Bool
fits words = eqb (length words) word_count

unfoldable pub one_call : Bool → List ℕ → State → After Reply
one_call fit l s = cond fit (cond (starts_with l) (started (drop 1 l) s) (named (call_in l) s)) (leaving bad_table s)

-- ---- all of them

unfoldable pub run_all : Bool → List (List ℕ) → State → After (List Reply)
run_all fit [] s = leaving [] s
run_all fit (l ∷ more) s = let one = one_call fit l s in let rest = run_all fit more one.state in leaving (one.answer ∷ rest.answer) rest.state

-- the row of an answer, 66 words: number, values, zeros
unfoldable pub row_of : Reply → List ℕ
row_of y = y.number ∷ pad 65 0 y.values

unfoldable pub rows_of : List Reply → List ℕ
rows_of [] = []
rows_of (y ∷ l) = row_of y ++ rows_of l

-- the calls that run: as many as there are rows for
unfoldable pub running : (calls answers : List ℕ) → List (List ℕ)
running calls answers = take (length answers / 66) (calls_in calls)

-- ---- on lent memory

pub record RanOne (asked words frames files words' frames' row' : List ℕ) : Type 0 where
  pub told : row' ≡ row_of (one_call (fits words) asked (state_of words frames files)).answer
  pub leaves : state_of words' frames' files ≡ (one_call (fits words) asked (state_of words frames files)).state
  pub other : fits words ≡ false → (words' ≡ words) × (frames' ≡ frames)

pub record RanAll (calls words frames files answers words' frames' answers' : List ℕ) (n : ℕ) : Type 0 where
  -- no call runs whose answer has no room
  pub count : n ≡ length (running calls answers)
  -- a row an answer; what stands behind them stays
  pub told : answers' ≡ rows_of (run_all (fits words) (running calls answers) (state_of words frames files)).answer ++ drop (n * 66) answers
  -- the tables and frames of the definition's state, which settle every word (model's Settled); of words of another length, everything as it was
  pub leaves : state_of words' frames' files ≡ (run_all (fits words) (running calls answers) (state_of words frames files)).state
  pub other : fits words ≡ false → (words' ≡ words) × (frames' ≡ frames)
