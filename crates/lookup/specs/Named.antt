-- The refusals of calls that name a process or a region, way by way.
use Rattle.std.specs.Prelude.{ℕ, Result, Ok, Err, ⊤}
use Rattle.answers.specs.declared.Refusal.{Refusal}

-- a region that is named by an address: the slot there where no test refuses
abbrev pub named_by : Result ⊤ Refusal → ℕ → Result ℕ Refusal
named_by (Ok tt) i = Ok i
named_by (Err r) i = Err r
