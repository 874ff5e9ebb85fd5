-- The region that a call clones, or its refusal (RULES K1 to K3).
use Rattle.std.specs.Prelude.{List, ℕ, Result}
use Rattle.answers.specs.declared.Refusal.{Refusal}
use Rattle.model.specs.Answers.{first_of}
use Rattle.model.specs.Refusals.{clone_region_refusals, slot_at}
use Rattle.rows.specs.LentMemory.{words_alone}
use Rattle.lookup.specs.Named.{named_by}

abbrev pub clone_by : List ℕ → ℕ → ℕ → ℕ → Result ℕ Refusal
clone_by w p a q = named_by (first_of (clone_region_refusals (words_alone w) p a q)) (slot_at (words_alone w) p a)
