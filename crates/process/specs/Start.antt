-- The public call start: files lent as words, and the lengths that do not fit.
use Rattle.std.specs.Prelude.{◌≡◌, Bool, not, ◌&&◌, ◌||◌, cond, List, ℕ, ◌+◌, ◌*◌, ◌/◌, ◌%◌, length, get_or, eqb, ltb, Result, Err, ⊤}
use Rattle.answers.specs.declared.Refusal.{Refusal}
use Rattle.answers.specs.declared.Refusal.TheVariants.{BadTable}
use Rattle.model.specs.declared.File.{File}
use Rattle.laws.specs.Lists.{all}
use Rattle.laws.specs.Rows.{rows}
use Rattle.model.specs.Layout.{word_count}
use Rattle.model.specs.Answers.{Try, leaving, refuse}
use Rattle.model.specs.Calls as calls
use Rattle.rows.specs.LentMemory.{state_of}
use Rattle.rows.specs.FileRow.{is_lent}

-- a file is three words: readable, offset, length
unfoldable pub file_in : List ℕ → ℕ → File
file_in l i = record { readable = get_or l (i * 3) 0; offset = get_or l (i * 3 + 1) 0; len = get_or l (i * 3 + 2) 0 }

unfoldable pub files_of : List ℕ → List File
files_of l = rows (file_in l) (length l / 3)

-- a frame length that does not fit is BadTable (RULES W5): so are words of another number than the tables take, and a list of files that is no multiple of three words
abbrev pub lengths_fit : List ℕ → List ℕ → Bool
lengths_fit words files = eqb (length words) word_count && eqb (length files % 3) 0

unfoldable pub start_call : (words frames bytes files : List ℕ) → Try
start_call words frames bytes files = cond (lengths_fit words files) (calls.start (state_of words frames bytes) (files_of files)) (refuse BadTable (state_of words frames bytes))

-- what start answers and leaves; where it refuses every word stays, of words of another number too
abbrev pub Starts : (words frames bytes files words' : List ℕ) → Result ⊤ Refusal → Type 0
Starts words frames bytes files words' r = (start_call words frames bytes files ≡ leaving r (state_of words' frames bytes)) × ((q : Refusal) → r ≡ Err q → words' ≡ words)

-- ---- the tests, over the lengths alone

abbrev pub unfit : List ℕ → ℕ → ℕ → Bool
unfit files frames n = not (eqb (frames % 4096) 0) || (ltb 256 (frames / 4096) || (ltb 8 (length files / 3) || not (all (is_lent n) (files_of files))))

abbrev pub bad_sizes : List ℕ → ℕ → ℕ → Bool
bad_sizes files frames n = not (eqb (length files % 3) 0) || unfit files frames n

-- ---- words all 0

abbrev pub Zeros : List ℕ → Type 0
Zeros w = (i : ℕ) → get_or w i 0 ≡ 0
