-- The machine's answers as the script writes them: addresses in hexadecimal, numbers of processes and bytes in decimal.
use Rattle.std.specs.Prelude.{ℕ, Result, Ok, Err, ⊤, true, false}
use Rattle.answers.specs.declared.Refusal.{Refusal}
use Rattle.model.specs.declared.Answer.{Answer}
use Rattle.model.specs.declared.Answer.TheVariants as says
use Rattle.answer_text.specs.declared.answer.Answer as text
use Rattle.answer_text.specs.declared.answer.Answer.TheVariants as answer

-- a list's own answer is how many there are; its starts follow
abbrev pub counted_as : Result ⊤ Refusal → ℕ → text.Answer
counted_as (Ok tt) count = answer.List count
counted_as (Err why) count = answer.Refused why

unfoldable pub written_as : Answer → text.Answer
written_as (says.Done (Ok tt)) = answer.Done
written_as (says.Done (Err why)) = answer.Refused why
written_as (says.Opened (Ok number)) = answer.Count number
written_as (says.Opened (Err why)) = answer.Refused why
written_as (says.Placed (Ok start)) = answer.Hex start.0
written_as (says.Placed (Err why)) = answer.Refused why
written_as (says.Covering (Ok true)) = answer.Yes
written_as (says.Covering (Ok false)) = answer.No
written_as (says.Covering (Err why)) = answer.Refused why
written_as (says.Loaded (Ok byte)) = answer.Count byte
written_as (says.Loaded (Err why)) = answer.Refused why
written_as (says.Counted r) = counted_as r.done r.count
