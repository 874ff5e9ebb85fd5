-- A line of the machine in a script: what it answers, as the script writes it, and what it leaves.
use Rattle.std.specs.Prelude.{◌≡◌, true, false, cond, List, ℕ, ◌*◌, ◌/◌, ◌≤◌, ◌<◌, length, take, drop, Result, Ok, Err, ⊤}
use Rattle.answers.specs.declared.Refusal.{Refusal}
use Rattle.answers.specs.declared.Refusal.TheVariants.{BadTable}
use Rattle.model.specs.declared.Answer.{Answer}
use Rattle.model.specs.declared.Call.{Call}
use Rattle.process.specs.Start.{Starts}
use Rattle.calls.specs.Ran.{Ran}
use Rattle.call_text.specs.declared.asked.Asked.{Asked}
use Rattle.call_text.specs.declared.asked.Asked.TheVariants as asked
use Rattle.call_text.specs.declared.asked.Why.TheVariants as why
use Rattle.call_text.specs.Faults.{whole_fault}
use Rattle.answer_text.specs.declared.answer.Answer.TheVariants as text
use Rattle.answer_text.specs.Written.{written_as}
use Rattle.script_step.specs.declared.said.Said.{Said}
use Rattle.script_step.specs.declared.said.Said.TheVariants as said
use Rattle.script_step.specs.declared.machine.Machine.{Machine}
use Rattle.script_step.specs.declared.said.Stepped.{Stepped}
use Rattle.script_step.specs.FileStep.{says, filed, spelled}

-- what is in use lies in the memory, of so many bytes of frames and of files
pub record Lends (m : Machine) (frames files : ℕ) : Type 0 where
  pub in_frames : m.frames ≤ frames
  pub few : m.files ≤ 8
  pub in_files : m.bytes ≤ files

-- ---- start

-- the files stay lent; a refused start leaves what was
abbrev pub started_as : Machine → ℕ → Result ⊤ Refusal → Stepped Machine
started_as m count (Ok tt) =
    record { said = said.Answer text.Done; after = record { started = true; frames = count * 4096; files = m.files; bytes = m.bytes; rows = m.rows } }
started_as m count (Err why) = says m (said.Answer (text.Refused why))

-- a frame length that does not fit is BadTable (RULES W5): so are more frames than there is memory for, which change nothing
pub record Began (m : Machine) (count : ℕ) (words frames files words' : List ℕ) (r : Stepped Machine) : Type 0 where
  pub outcome : Result ⊤ Refusal
  pub is : r ≡ started_as m count outcome
  pub large : length frames / 4096 < count → (outcome ≡ Err BadTable) × (words' ≡ words)
  pub starts : count ≤ length frames / 4096 → Starts words (take (count * 4096) frames) (take m.bytes files) (take (m.files * 3) m.rows) words' outcome

-- ---- any other call

-- the answer of crate `calls` on the first frames and file bytes, as it is written; the frames behind them stay
pub record Called (m : Machine) (call : Call) (words frames files starts words' frames' starts' : List ℕ) (r : Said) : Type 0 where
  pub answer : Answer
  pub is : r ≡ said.Answer (written_as answer)
  pub ran : Ran call words (take m.frames frames) (take m.bytes files) starts words' (take m.frames frames') starts' answer
  pub behind : drop m.frames frames' ≡ drop m.frames frames

-- before there is a machine, a fault that changes nothing
pub record Answers (m : Machine) (call : Call) (words frames files starts words' frames' starts' : List ℕ) (r : Said) : Type 0 where
  pub none : m.started ≡ false → (r ≡ said.Fault (whole_fault why.NoMachine)) × ((words' ≡ words) × (frames' ≡ frames) × (starts' ≡ starts))
  pub some : m.started ≡ true → Called m call words frames files starts words' frames' starts' r

-- what only a machine that is there has
unfoldable pub wanted_as : Machine → Said → Said
wanted_as m s = cond m.started s (said.Fault (whole_fault why.NoMachine))

-- ---- a line

-- the answer of a call, and what it leaves
pub record Answered (m : Machine) (call : Call) (words frames files starts words' frames' starts' : List ℕ) (r : Stepped Machine) : Type 0 where
  pub answer : Said
  pub is : r ≡ says m answer
  pub answers : Answers m call words frames files starts words' frames' starts' answer

-- the memory before and after a line
abbrev pub Same : (words frames files starts words' frames' files' starts' : List ℕ) → Type 0
Same words frames files starts words' frames' files' starts' = (words' ≡ words) × (frames' ≡ frames) × (files' ≡ files) × (starts' ≡ starts)

-- what a line says and leaves: what is no call of the machine's leaves all of it as it was
unfoldable pub Stepping : Machine → Asked → (line words frames files starts words' frames' files' starts' : List ℕ) → Stepped Machine → Type 0
Stepping m asked.Nothing l w f b k w' f' b' k' r = (r ≡ says m said.Nothing) × Same w f b k w' f' b' k'
Stepping m (asked.Bad fault) l w f b k w' f' b' k' r = (r ≡ says m (said.Fault fault)) × Same w f b k w' f' b' k'
Stepping m (asked.Lone call) l w f b k w' f' b' k' r = (r ≡ says m said.Nothing) × Same w f b k w' f' b' k'
Stepping m (asked.File readable digits) l w f b k w' f' b' k' r = ((r, b') ≡ filed m readable (spelled l digits) b) × ((w' ≡ w) × (f' ≡ f) × (k' ≡ k))
Stepping m (asked.Start count) l w f b k w' f' b' k' r = Began m count w f b w' r × ((f' ≡ f) × (b' ≡ b) × (k' ≡ k))
Stepping m (asked.Machine call) l w f b k w' f' b' k' r = Answered m call w f b k w' f' k' r × (b' ≡ b)
Stepping m asked.State l w f b k w' f' b' k' r = (r ≡ says m (wanted_as m said.State)) × Same w f b k w' f' b' k'
