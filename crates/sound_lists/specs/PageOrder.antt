-- Page order: where each page is above the one before it, every two rise; and free rows past the last.
use Rattle.std.specs.Prelude.{Bool, true, ◌||◌, List, ℕ, ◌-◌, get_or, eqb, ltb}
use Rattle.model.specs.declared.Mapping.{Mapping}
use Rattle.model.specs.Machine.{no_mapping}
use Rattle.laws.specs.Tests.{all_pairs}

abbrev pub below : Mapping → Mapping → Bool
below x y = ltb x.page.0 y.page.0

-- every two rows rise
abbrev pub rising : List Mapping → Bool
rising l = all_pairs (λ x. true) below l

-- row i is above the one before it
abbrev pub follows : List Mapping → ℕ → Mapping → Bool
follows l i x = eqb i 0 || below (get_or l (i - 1) no_mapping) x
