-- The answers for `place`.
use Prim.Native.Nat.{◌<◌}
use Rattle.std.proofs.lemmas.Map.Keys.{ge_from_not_lt}
use Rattle.std.proofs.lemmas.Grind.{common_steps}
use mathlib.Core.Path.{sym, ◌∙◌}
use native.Mathlib.Omega.{arith}
use Rattle.model.specs.Layout.{machine}
use Rattle.model.specs.Machine.{mapped_of}
use Rattle.paging.specs.ProcessRowsLaws.{mapped_row}
use Rattle.paging.specs.PlaceLaws.{search_first, search_up, search_down, search_done}
use Rattle.paging.proofs.search.place.Goals as goal

pub loop-lo-init : goal.loop-lo-init
loop-lo-init c =
    let given = c.args in
    search_first (mapped_of (machine given.words.now) given.process) given.page.0 _ c.mapped_count-hi.ensures.value

pub loop-lo-preserved-then-lt : goal.loop-lo-preserved-then-lt
loop-lo-preserved-then-lt c =
    let given = c.args in
    let turn = c.loop-lo in
    let m = machine given.words.now in
    let p = given.process in
    let low : c.row_at-row.result.page.0 < given.page.0 = grind (arith, common_steps) in
    search_up (mapped_of m p) given.page.0 turn.lo turn.hi turn.invariant c.loop-lo-test.true _ (c.row_at-row.ensures ∙ mapped_row m p _ (omega arith)) low

pub loop-lo-preserved : goal.loop-lo-preserved
loop-lo-preserved c =
    let given = c.args in
    let turn = c.loop-lo in
    let m = machine given.words.now in
    let p = given.process in
    search_down (mapped_of m p) given.page.0 turn.lo turn.hi turn.invariant c.loop-lo-test.true _ (c.row_at-row.ensures ∙ mapped_row m p _ (omega arith)) (ge_from_not_lt _ _ (sym c.lt.ensures ∙ c.if-lt.false))

pub returns : goal.returns
returns c =
    let given = c.args in
    let turn = c.loop-lo in record { value = search_done (mapped_of (machine given.words.now) given.process) given.page.0 turn.lo turn.hi turn.invariant c.loop-lo-test.false; upper_bound = omega arith }
