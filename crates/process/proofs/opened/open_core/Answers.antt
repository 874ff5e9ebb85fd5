-- `open_core`: one law for each test that decides; the row of the lowest closed process is put.
use Rattle.std.proofs.lemmas.Result.{err_from_is_err_and}
use Rattle.answers.specs.declared.Refusal.TheVariants.{TableFull}
use native.Mathlib.Omega.{arith}
use mathlib.Core.Path.{◌≡◌, sym, ◌∙◌}
use Rattle.std.specs.Prelude.{Some, None}
use Rattle.process.specs.OpeningLaws.{closed_small, open_address, open_arena, open_full, open_done}
use borrow.Author.Rules.{rules}
use Rattle.process.proofs.opened.open_core.Goals as goal

pub returns-then-not-is_user : goal.returns-then-not-is_user
returns-then-not-is_user c = open_address _ _ c.args.size (sym c.is_user.ensures ∙ c.if-not-is_user.true)

pub returns-then-is_bad_arena : goal.returns-then-is_bad_arena
returns-then-is_bad_arena c = open_arena _ _ c.args.size (sym c.is_user.ensures ∙ c.if-not-is_user.false) (sym c.is_bad_arena.ensures ∙ c.if-is_bad_arena.true)

pub returns-in_err-process : goal.returns-in_err-process
returns-in_err-process c =
    let p = err_from_is_err_and c.from_residual.result c.from_residual.ensures.1 in
    let same : c.in_err-process.field-0.0 ≡ TableFull = grind arith in
    rw (p.1, p.2, same) (open_full _ _ c.args.size (sym c.is_user.ensures ∙ c.if-not-is_user.false) (sym c.is_bad_arena.ensures ∙ c.if-is_bad_arena.false) (let none : c.closed_process.result ≡ None = grind arith in sym none ∙ c.closed_process.ensures))

pub open_row-requires : goal.open_row-requires
open_row-requires c = let small = closed_small _ _ (let some : c.closed_process.result ≡ Some c.in_ok-process.process = grind arith in sym some ∙ c.closed_process.ensures) in record { words_len = search rules; process_bound = search rules }

pub returns : goal.returns
returns c = open_done _ _ c.args.size (sym c.is_user.ensures ∙ c.if-not-is_user.false) (sym c.is_bad_arena.ensures ∙ c.if-is_bad_arena.false) _ (let some : c.closed_process.result ≡ Some c.in_ok-process.process = grind arith in sym some ∙ c.closed_process.ensures) _ c.open_row.ensures
