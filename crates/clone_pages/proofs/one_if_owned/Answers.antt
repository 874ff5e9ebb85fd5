-- `one_if_owned`: 1 of an owner's entry, else 0.
use native.Mathlib.Omega.{arith}
use Rattle.clone_pages.specs.BackedPagesLaws.{counts_owned, counts_other}
use Rattle.clone_pages.proofs.one_if_owned.Goals as goal

pub returns-then-e-owner : goal.returns-then-e-owner
returns-then-e-owner c =
    let from = c.args in record { value = counts_owned from.e from.owner c.if-e-owner.true; upper_bound = omega arith }

pub returns : goal.returns
returns c =
    let from = c.args in record { value = counts_other from.e from.owner c.if-e-owner.false; upper_bound = omega arith }
