-- `put_attached` puts the row that it read, with another count.
use mathlib.Core.Path.{ap, ◌∙◌}
use lib.ListN.{set}
use Rattle.model.specs.declared.Process.{Process}
use Rattle.model.specs.Layout.{machine}
use Rattle.model.specs.Machine.{attached_of, with_processes}
use Rattle.regions.proofs.counts.put_attached.Goals as goal

pub returns : goal.returns
returns c = c.put_process.ensures ∙ ap (λ (q : Process). with_processes (machine c.args.words.now) (set (machine c.args.words.now).processes c.args.process (attached_of q c.args.count))) c.process_at-p.ensures
