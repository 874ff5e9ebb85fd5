-- `region_in` reads the slot's row, or none.
use mathlib.Core.Path.{sym, ◌∙◌}
use native.Mathlib.Omega.{arith}
use Rattle.regions.specs.SlotPastLaws.{no_row}
use Rattle.regions.proofs.slot.region_in.Goals as goal

pub returns : goal.returns
returns c = c.no_region.ensures ∙ sym (no_row c.args.words.now c.args.process c.args.slot (omega arith))
