-- The soundness test on lent memory: words of another length are no machine.
use Rattle.std.specs.Prelude.{Bool, ◌&&◌, List, ℕ, length, eqb}
use Rattle.model.specs.Layout.{word_count}
use Rattle.model.specs.SoundTest.{soundb}
use Rattle.rows.specs.LentMemory.{state_of}

unfoldable pub sound_lent : List ℕ → List ℕ → List ℕ → Bool
sound_lent words frames files = eqb (length words) word_count && soundb (state_of words frames files)
