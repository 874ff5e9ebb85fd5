-- The region that protect names, or its refusal (RULES M1).
use Rattle.std.specs.Prelude.{List, ℕ, Result}
use Rattle.answers.specs.declared.Refusal.{Refusal}
use Rattle.model.specs.Answers.{first_of}
use Rattle.model.specs.Refusals.{protect_refusals, slot_at}
use Rattle.rows.specs.LentMemory.{words_alone}
use Rattle.lookup.specs.Named.{named_by}

abbrev pub protect_by : List ℕ → ℕ → ℕ → ℕ → Result ℕ Refusal
protect_by w p a flags = named_by (first_of (protect_refusals (words_alone w) p a flags)) (slot_at (words_alone w) p a)
