-- The refusals of cloning a region, or the free slot that the clone goes into (RULES O5).
use Rattle.std.specs.Prelude.{ℕ, Result}
use Rattle.answers.specs.declared.Refusal.{Refusal}
use Rattle.model.specs.Machine.{Machine}
use Rattle.model.specs.Lookup.{free_slot, row_found}
use Rattle.model.specs.Answers.{first_of}
use Rattle.lookup.specs.Named.{named_by}
use Rattle.model.specs.Clone.{clone_refusals}

abbrev pub clone_way : Machine → ℕ → ℕ → ℕ → Result ℕ Refusal
clone_way m p s q = named_by (first_of (clone_refusals m p s q)) (row_found (free_slot m q))
