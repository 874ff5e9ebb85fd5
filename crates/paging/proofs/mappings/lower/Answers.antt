-- The answers for `lower`.
use mathlib.Core.Path.{sym, ◌∙◌}
use Prim.Native.Nat.{◌-◌}
use native.Mathlib.Omega.{arith}
use lib.Seq.{slice}
use Rattle.model.specs.Layout.{machine}
use Rattle.paging.specs.ProcessRows.{rows_of}
use Rattle.paging.specs.PutRowsLaws.{slice_row}
use Rattle.paging.specs.MoveLaws.{slice_sized, putting_first, putting_more, putting_all, putting_row}
use Rattle.paging.proofs.mappings.lower.Goals as goal

pub loop-i-init : goal.loop-i-init
loop-i-init c =
    let given = c.args in
    let w = given.words.now in
    let p = given.process in
    putting_first w p (omega arith) given.at (slice given.from given.to (rows_of (machine w) p)) (given.to - given.from) (slice_sized w p (omega arith) given.from given.to (omega arith)) (omega arith) (omega arith)

pub loop-i-preserved : goal.loop-i-preserved
loop-i-preserved c =
    let given = c.args in
    let turn = c.loop-i in
    let w = given.words.now in
    let p = given.process in
    let moved = slice given.from given.to (rows_of (machine w) p) in
    let n = given.to - given.from in
    let sized = slice_sized w p (omega arith) given.from given.to (omega arith) in
    putting_more w p (omega arith) given.at moved n sized (omega arith) turn.i turn.words _ _ turn.invariant c.loop-i-test.true (putting_row w p (omega arith) given.at moved n sized (omega arith) turn.i given.from turn.words turn.invariant (omega arith) ∙ sym (slice_row (rows_of (machine w) p) given.from given.to turn.i (omega arith))) c.copy_row.auto.words c.copy_row.ensures

pub returns : goal.returns
returns c =
    let given = c.args in
    let turn = c.loop-i in
    let w = given.words.now in
    let p = given.process in
    putting_all w p (omega arith) given.at (slice given.from given.to (rows_of (machine w) p)) (given.to - given.from) (slice_sized w p (omega arith) given.from given.to (omega arith)) (omega arith) turn.i turn.words turn.invariant c.loop-i-test.false
