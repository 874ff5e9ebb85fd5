-- `private_row` is the row that is asked for, its marks as numbers.
use mathlib.Core.Path.{ap, ◌∙◌}
use Rattle.model.specs.Create.{one, wanted}
use Rattle.create.proofs.wanted.private_row.Goals as goal

pub returns : goal.returns
returns c =
    let fork = c.mark-fork.ensures ∙ ap one c.is_copy.ensures in
    λ k. wanted 1 c.args.size c.args.flags (fork k) (c.mark-per_thread.ensures k) 0 0 0
