-- `is_bad_start`: no start is given, or one that is a user address or not.
use Rattle.create.specs.RequestRefusedLaws.{start_given}
use Rattle.create.proofs.refusals.is_bad_start.Goals as goal

pub returns : goal.returns
returns c = start_given c.args.place _ _ c.in-At.is c.is_user.ensures
