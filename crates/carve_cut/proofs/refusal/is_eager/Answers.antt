-- `is_eager`: a range, and not Shared.
use Rattle.carve_cut.specs.CutRefusalLaws.{eager_not, eager_by}
use Rattle.carve_cut.proofs.refusal.is_eager.Goals as goal

pub returns-then-region-ne1 : goal.returns-then-region-ne1
returns-then-region-ne1 c = eager_not c.args.region c.if-region-ne1.true

pub returns : goal.returns
returns c = eager_by c.args.region c.if-region-ne1.false
