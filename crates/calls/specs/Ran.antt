-- Any call, by one function: what it answers and leaves of the lent memory, the memory for starts among it (RULES D1, E1, O1, O2).
use Rattle.std.specs.Prelude.{◌≡◌, ℕ, Bool, false, cond, List, length, replicate, ◌≢◌, Err}
use Rattle.answers.specs.declared.Refusal.{Refusal}
use Rattle.answers.specs.declared.Refusal.TheVariants.{BadTable}
use Rattle.model.specs.declared.Answer.{Answer}
use Rattle.model.specs.declared.Call.{Call}
use Rattle.model.specs.declared.Counted.{Counted}
use Rattle.model.specs.Answers.{Reply}
use Rattle.model.specs.Meant.{meant, reply, refused, counts}
use Rattle.model.specs.Run.{call}
use Rattle.step.specs.Kind.{kind_of, kind_for}
use Rattle.calls.specs.Answered.{answer_on, Leaves}

-- where starts are listed and there are none: zeros
abbrev pub no_starts : List ℕ
no_starts = replicate 64 0

-- a refusal of a call that lists them
abbrev pub none_for : Refusal → Counted
none_for why = record { done = Err why; count = 0 }

-- what a refusal leaves of the memory for starts
abbrev pub starts_refused : Bool → List ℕ → List ℕ
starts_refused b starts = cond b no_starts starts

-- the definition's answer as number and values; words of another length are no machine, and BadTable
unfoldable pub reply_on : Call → (words frames files : List ℕ) → Reply
reply_on c words frames files = answer_on (λ why. reply (refused c why) no_starts) (λ s. call (meant c) s) words frames files

pub record Ran (c : Call) (words frames files starts words' frames' starts' : List ℕ) (r : Answer) : Type 0 where
  -- answer and memory are the definition's
  pub answer : length starts ≡ 64 → reply r starts' ≡ reply_on c words frames files
  pub leaves : length starts ≡ 64 → Leaves (λ s. call (meant c) s) words frames files words' frames'
  -- told by the variant of the call's answers
  pub kind : kind_of r ≡ kind_for c
  -- only a call that lists starts writes them
  pub others : counts r ≡ false → starts' ≡ starts
  -- memory for another number of starts: BadTable, and everything as it was
  pub short : (length starts ≢ 64) → (r ≡ refused c BadTable) × ((words' ≡ words) × ((frames' ≡ frames) × (starts' ≡ starts)))
