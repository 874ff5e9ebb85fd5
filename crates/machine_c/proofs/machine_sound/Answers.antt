-- `machine_sound` answers the test's number.
use mathlib.Core.Path.{ap, sym, ◌∙◌}
use Rattle.machine_c.specs.Numbers.{sound_number}
use Rattle.machine_c.proofs.machine_sound.Goals as goal

pub returns-then-is_sound : goal.returns-then-is_sound
returns-then-is_sound c = ap sound_number (sym c.if-is_sound.true ∙ c.is_sound.ensures)

pub returns : goal.returns
returns c = ap sound_number (sym c.if-is_sound.false ∙ c.is_sound.ensures)
