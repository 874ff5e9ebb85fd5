-- The answers for `clear`.
use mathlib.Core.Path.{sym}
use Prim.Native.Nat.{◌-◌}
use native.Mathlib.Omega.{arith}
use lib.ListN.{replicate, length-replicate, get_or-replicate}
use Rattle.model.specs.Machine.{no_mapping}
use Rattle.paging.specs.MoveLaws.{putting_first, putting_more, putting_all}
use Rattle.paging.proofs.mappings.clear.Goals as goal

pub loop-i-init : goal.loop-i-init
loop-i-init c =
    let given = c.args in
    let n = given.to - given.from in
    putting_first given.words.now given.process (omega arith) given.from (replicate n no_mapping) n (length-replicate n no_mapping) (omega arith) (omega arith)

pub loop-i-preserved : goal.loop-i-preserved
loop-i-preserved c =
    let given = c.args in
    let turn = c.loop-i in
    let n = given.to - given.from in
    putting_more given.words.now given.process (omega arith) given.from (replicate n no_mapping) n (length-replicate n no_mapping) (omega arith) turn.i turn.words _ no_mapping turn.invariant c.loop-i-test.true (sym (get_or-replicate n turn.i no_mapping no_mapping c.loop-i-test.true)) c.clear_row.auto.words c.clear_row.ensures

pub returns : goal.returns
returns c =
    let given = c.args in
    let turn = c.loop-i in
    let n = given.to - given.from in
    putting_all given.words.now given.process (omega arith) given.from (replicate n no_mapping) n (length-replicate n no_mapping) (omega arith) turn.i turn.words turn.invariant c.loop-i-test.false
