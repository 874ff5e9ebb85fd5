-- `map_anew`: unmapped, then mapped.
use mathlib.Core.Path.{ap, ◌∙◌}
use Rattle.model.specs.Machine.{Machine}
use Rattle.paging.specs.Mapper.{map_by}
use Rattle.fault_own.proofs.map_anew.Goals as goal

pub returns : goal.returns
returns c = c.map.ensures.words_after ∙ ap (λ (m : Machine). map_by m c.args.process c.args.row) c.unmap.ensures.words_after
