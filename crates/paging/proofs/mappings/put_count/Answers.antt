-- `put_count` puts the process's row with another count.
use mathlib.Core.Path.{ap, ◌∙◌}
use lib.ListN.{set}
use Rattle.model.specs.declared.Process.{Process}
use Rattle.model.specs.Layout.{machine}
use Rattle.model.specs.Machine.{with_processes, mapped_count}
use Rattle.paging.specs.ProcessRows.{with_count}
use Rattle.paging.proofs.mappings.put_count.Goals as goal

pub returns : goal.returns
unfolding with_count
returns c =
    let given = c.args in
    let m = machine given.words.now in
    let p = given.process in
    c.put_process.ensures ∙ ap (λ (q : Process). with_processes m (set m.processes p (mapped_count q given.count))) c.process_at-p.ensures
