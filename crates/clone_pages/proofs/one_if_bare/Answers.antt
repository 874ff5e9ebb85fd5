-- `one_if_bare`: 0 of a page with an entry, else 1.
use native.Mathlib.Omega.{arith}
use Rattle.model.specs.Layout.{machine}
use Rattle.clone_pages.specs.BackedPagesLaws.{bare_shadowed, bare_alone}
use Rattle.clone_pages.proofs.one_if_bare.Goals as goal

pub returns-then-is_shadowed : goal.returns-then-is_shadowed
returns-then-is_shadowed c =
    let from = c.args in record { value = bare_shadowed (machine from.words.now) from.row from.page.0 _ c.is_shadowed.ensures c.if-is_shadowed.true; upper_bound = omega arith }

pub returns : goal.returns
returns c =
    let from = c.args in record { value = bare_alone (machine from.words.now) from.row from.page.0 _ c.is_shadowed.ensures c.if-is_shadowed.false; upper_bound = omega arith }
