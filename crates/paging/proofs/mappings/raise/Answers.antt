-- The answers for `raise`.
use Rattle.std.specs.Prelude.{◌≡◌, ◌+◌, ◌-◌, get_or, set}
use mathlib.Core.Path.{ap, ◌∙◌}
use native.Mathlib.Omega.{arith}
use Rattle.model.specs.Layout.{machine}
use Rattle.model.specs.Machine.{no_mapping}
use Rattle.paging.specs.ProcessRows.{rows_of, with_rows}
use Rattle.paging.specs.MoveLaws.{raised_first, raised_more, raised_all}
use Rattle.paging.proofs.mappings.raise.Goals as goal

pub loop-i-init : goal.loop-i-init
loop-i-init c =
    let given = c.args in
    raised_first given.words.now given.process (omega arith) given.from given.to (omega arith) (omega arith)

pub loop-i-preserved : goal.loop-i-preserved
loop-i-preserved c =
    let given = c.args in
    let turn = c.loop-i in
    raised_more given.words.now given.process (omega arith) given.from given.to (omega arith) turn.i turn.words _ turn.invariant c.loop-i-test.true c.copy_row.auto.words
    (c.copy_row.ensures ∙ ap (λ k. with_rows (machine turn.words) given.process (set (rows_of (machine turn.words) given.process) k (get_or (rows_of (machine turn.words) given.process) (turn.i - 1) no_mapping))) (let next : turn.i - 1 + 1 ≡ turn.i = omega arith in next))

pub returns : goal.returns
returns c =
    let given = c.args in
    let turn = c.loop-i in
    raised_all given.words.now given.process (omega arith) given.from given.to turn.i turn.words turn.invariant c.loop-i-test.false
