-- A walk over pages, and the next region past a gap.
use Rattle.std.specs.Prelude.{cond, ℕ, ◌+◌, ◌-◌, Option, Some, None, Result, Ok, Err, ⊤}
use Rattle.answers.specs.declared.Refusal.{Refusal}
use Rattle.address.specs.Canonical.{user}
use Rattle.model.specs.Populate.{nothing_to_do, last_address}
use Rattle.populate_visit.specs.declared.Visit.{Visit}
use Rattle.populate_visit.specs.declared.Span.{Span}
use Rattle.populate_visit.specs.declared.Span.TheVariants as span

-- the range of an address and a length (RULES U2, U3)
abbrev pub span_of : ℕ → ℕ → Span
span_of a len = cond (nothing_to_do a len) span.Nothing (cond (user (last_address a len)) (span.To (record { 0 = last_address a len })) span.Upper)

-- a walk that has ended, and how one goes on: past a gap, past a page
abbrev pub ended : Result ⊤ Refusal → Visit
ended d = record { page = record { 0 = 0 }; left = 0; done = d }

abbrev pub gap_visit : ℕ → Option ℕ → Visit
gap_visit left (Some next) = record { page = record { 0 = next }; left = left - 1; done = Ok tt }
gap_visit left None = ended (Ok tt)

abbrev pub page_visit : ℕ → ℕ → Result ⊤ Refusal → Visit
page_visit page left (Ok tt) = record { page = record { 0 = page + 1 }; left = left - 1; done = Ok tt }
page_visit page left (Err r) = ended (Err r)
