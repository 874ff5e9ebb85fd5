-- Which variant of `model::Answer` a call is answered by: the one that its refusals have (RULES H2).
use Rattle.answers.specs.declared.Refusal.TheVariants.{BadTable}
use Rattle.model.specs.declared.Answer.{Answer}
use Rattle.model.specs.declared.Answer.TheVariants as says
use Rattle.model.specs.declared.Call.{Call}
use Rattle.model.specs.Meant.{refused}

pub data Kind : Type 0 where
  done : Kind
  opened : Kind
  placed : Kind
  covering : Kind
  loaded : Kind
  counted : Kind

-- the kind of an answer: its variant
unfoldable pub kind_of : Answer → Kind
kind_of (says.Done r) = done
kind_of (says.Opened r) = opened
kind_of (says.Placed r) = placed
kind_of (says.Covering r) = covering
kind_of (says.Loaded r) = loaded
kind_of (says.Counted r) = counted

-- the kind of a call's answers
unfoldable pub kind_for : Call → Kind
kind_for c = kind_of (refused c BadTable)
