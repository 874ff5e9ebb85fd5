-- `no_room`: the count of mapped pages is 128.
use mathlib.Core.Path.{ap}
use lib.Dec.{leb}
use Rattle.model.specs.declared.Process.{Process}
use Rattle.fault_needs.proofs.no_room.Goals as goal

pub returns : goal.returns
returns c = ap (λ (q : Process). leb 128 q.mapped) c.process_at-row.ensures
