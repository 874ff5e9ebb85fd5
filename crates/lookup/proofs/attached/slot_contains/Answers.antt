-- `slot_contains` is contains, of the region in a slot.
use mathlib.Core.Path.{ap, ◌∙◌}
use native.Mathlib.Omega.{arith}
use Rattle.model.specs.declared.Region.{Region}
use Rattle.model.specs.Lookup.{contains}
use Rattle.lookup.specs.AttachedLaws.{contains_no_row}
use Rattle.lookup.proofs.attached.slot_contains.Goals as goal

pub returns-then-slot-process : goal.returns-then-slot-process
returns-then-slot-process c = c.region_contains.ensures ∙ ap (λ (r : Region). contains r c.args.addr.0) c.region_at-region.ensures

pub returns : goal.returns
returns c = contains_no_row c.args.words.now c.args.process c.args.slot c.args.addr.0 (omega arith)
