-- `attached_count` is the length of list order.
use Rattle.lookup.specs.AttachedLaws.{attached_min}
use Rattle.lookup.proofs.attached.attached_count.Goals as goal

pub returns-clause-value : goal.returns-clause-value
returns-clause-value c = attached_min c.args.words.now c.args.process c.requires.process_bound _ c.process_at-p.ensures _ c.min.ensures
