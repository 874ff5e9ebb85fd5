-- `is_eager`: Private, the fork policy, and user access.
use Rattle.populate_eager.specs.TourLaws.{eager_kind, eager_fork, eager_user}
use Rattle.populate_eager.proofs.is_eager.Goals as goal

pub returns-then-region-ne-PRIVATE : goal.returns-then-region-ne-PRIVATE
returns-then-region-ne-PRIVATE c = eager_kind c.args.region c.if-region-ne-PRIVATE.true

pub returns-then-region-ne-COPY_EAGER : goal.returns-then-region-ne-COPY_EAGER
returns-then-region-ne-COPY_EAGER c = eager_fork c.args.region c.if-region-ne-PRIVATE.false c.if-region-ne-COPY_EAGER.true

pub returns : goal.returns
returns c = eager_user c.args.region c.if-region-ne-PRIVATE.false c.if-region-ne-COPY_EAGER.false _ c.is_user_accessible.ensures
