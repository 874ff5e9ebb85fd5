-- A list of starts whose head is answered and which itself stands in lent memory (RULES O1).
use Rattle.std.specs.Prelude.{List, ℕ}
use Rattle.model.specs.declared.Counted.{Counted}
use Rattle.model.specs.declared.Listed.{Listed}

-- the definition's answer that both are together
abbrev pub with_starts : Counted → List ℕ → Listed
with_starts r starts = record { done = r.done; count = r.count; starts = starts }
