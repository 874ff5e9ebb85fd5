-- What the script answers to a call, and the manager after it.
use Rattle.std.specs.Prelude.{true, ℕ, Some, None, Result, Ok, Err, Bool, ⊤, false}
use Rattle.segment.specs.declared.Segment.{Segment}
use Rattle.answers.specs.declared.Refusal.{Refusal}
use Rattle.answer_text.specs.declared.answer.Answer.{Answer}
use Rattle.answer_text.specs.declared.answer.Answer.TheVariants as answer
use Rattle.call_text.specs.declared.asked.Why.TheVariants.{NoManager}
use Rattle.call_text.specs.Faults.{whole_fault}
use Rattle.segments.specs.declared.table.VirtualMemoryManager.{VirtualMemoryManager}
use Rattle.segment.specs.Form.{start_of}
use Rattle.segments.specs.Calls.{segment, new_call, reserve_call, mark_call, release_call, split_call}
use Rattle.call_text.specs.declared.asked.LoneCall.{LoneCall}
use Rattle.call_text.specs.declared.asked.LoneCall.TheVariants as call
use Rattle.script_step.specs.declared.lone.Lone.{Lone}
use Rattle.script_step.specs.declared.said.Said.{Said}
use Rattle.script_step.specs.declared.said.Said.TheVariants as said
use Rattle.script_step.specs.declared.said.Stepped.{Stepped}

abbrev pub says : Lone → Said → Stepped Lone
says l s = record { said = s; after = l }

-- with the manager that is there now
abbrev pub answers : VirtualMemoryManager → Answer → Stepped Lone
answers m a = says (record { manager = Some m }) (said.Answer a)

-- what a manager answers that is there; before there is any, a call of one is answered `no manager yet`
abbrev pub wanting : Lone → (VirtualMemoryManager → Stepped Lone) → Stepped Lone
wanting l step = elim l.manager [ Some m ↦ step m | None ↦ says l (said.Fault (whole_fault NoManager)) ]

-- ---- by cases on the manager's answer

-- a refused `manager` keeps the manager that was before
abbrev pub new_as : Lone → Result ⊤ Refusal → VirtualMemoryManager → Stepped Lone
new_as l (Ok tt) m = answers m answer.Done
new_as l (Err why) m = says l (said.Answer (answer.Refused why))

abbrev pub reserved_as : Result (Segment × ℕ) Refusal → VirtualMemoryManager → Stepped Lone
reserved_as (Ok (s, restarts)) m = answers m (answer.Start (start_of s) restarts)
reserved_as (Err why) m = answers m (answer.Refused why)

abbrev pub marked_as : Result ⊤ Refusal → VirtualMemoryManager → Stepped Lone
marked_as (Ok tt) m = answers m answer.Done
marked_as (Err why) m = answers m (answer.Refused why)

abbrev pub released_as : Result Bool Refusal → VirtualMemoryManager → Stepped Lone
released_as (Ok true) m = answers m answer.Yes
released_as (Ok false) m = answers m answer.No
released_as (Err why) m = answers m (answer.Refused why)

abbrev pub split_as : Result (Segment × Segment) Refusal → VirtualMemoryManager → Stepped Lone
split_as (Ok (low, high)) m = answers m (answer.Parts (start_of low) low.len (start_of high) high.len)
split_as (Err why) m = answers m (answer.Refused why)

-- ---- the calls, as the manager's own definitions have them

unfoldable pub new_step : Lone → ℕ → ℕ → Stepped Lone
new_step l start size = new_as l (new_call (record { 0 = start }) size).answer (new_call (record { 0 = start }) size).manager

unfoldable pub reserve_step : Lone → ℕ → Stepped Lone
reserve_step l len = wanting l (λ m. reserved_as (reserve_call m len).answer (reserve_call m len).manager)

unfoldable pub mark_step : Lone → ℕ → ℕ → Stepped Lone
mark_step l start len = wanting l (λ m. marked_as (mark_call m (segment start len)).answer (mark_call m (segment start len)).manager)

unfoldable pub release_step : Lone → ℕ → ℕ → Stepped Lone
release_step l start len = wanting l (λ m. released_as (release_call m (segment start len)).answer (release_call m (segment start len)).manager)

unfoldable pub split_step : Lone → ℕ → ℕ → ℕ → Stepped Lone
split_step l start len at =
    wanting l
    (λ m. split_as (split_call m (segment start len) (record { 0 = at })).answer (split_call m (segment start len) (record { 0 = at })).manager)

unfoldable pub list_step : Lone → Stepped Lone
list_step l = wanting l (λ m. says l (said.List m))

unfoldable pub step_of : Lone → LoneCall → Stepped Lone
step_of l (call.Manager start size) = new_step l start size
step_of l (call.Reserve len) = reserve_step l len
step_of l (call.Mark start len) = mark_step l start len
step_of l (call.Release start len) = release_step l start len
step_of l (call.Split start len at) = split_step l start len at
step_of l call.Segments = list_step l
