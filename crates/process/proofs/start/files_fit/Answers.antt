-- The answers for `files_fit`.
use mathlib.Core.Path.{sym, ◌∙◌}
use native.Mathlib.Omega.{arith}
use Rattle.model.specs.Machine.{no_file}
use Rattle.rows.specs.FileRow.{is_lent}
use Rattle.laws.specs.TestLaws.{all_as_rows}
use Rattle.laws.specs.LoopLaws.{every_first, every_fails, every_more, every_all}
use Rattle.process.specs.Start.{files_of}
use Rattle.process.specs.StartLaws.{files_number, file_row_is}
use Rattle.process.proofs.start.files_fit.Goals as goal

pub loop-i-init : goal.loop-i-init
loop-i-init c = every_first (λ j f. is_lent c.args.bytes f) (files_of c.args.rows.now) _ (files_number c.args.rows.now)

pub file_in-file-requires : goal.file_in-file-requires
file_in-file-requires c = let more = c.loop-i-test.true in omega arith

pub returns-then-not-is_lent : goal.returns-then-not-is_lent
returns-then-not-is_lent c = every_fails (λ j f. is_lent c.args.bytes f) (files_of c.args.rows.now) _ (files_number c.args.rows.now) c.loop-i.i c.loop-i.invariant c.loop-i-test.true no_file _ (file_row_is c.args.rows.now c.loop-i.i _ c.loop-i-test.true c.file_in-file.ensures) (sym c.is_lent.ensures ∙ c.if-not-is_lent.true) ∙ sym (all_as_rows (is_lent c.args.bytes) 0 (files_of c.args.rows.now))

pub loop-i-preserved : goal.loop-i-preserved
loop-i-preserved c = every_more (λ j f. is_lent c.args.bytes f) (files_of c.args.rows.now) _ (files_number c.args.rows.now) c.loop-i.i c.loop-i.invariant c.loop-i-test.true no_file _ (file_row_is c.args.rows.now c.loop-i.i _ c.loop-i-test.true c.file_in-file.ensures) (sym c.is_lent.ensures ∙ c.if-not-is_lent.false)

pub returns : goal.returns
returns c = every_all (λ j f. is_lent c.args.bytes f) (files_of c.args.rows.now) _ (files_number c.args.rows.now) c.loop-i.i c.loop-i.invariant c.loop-i-test.false ∙ sym (all_as_rows (is_lent c.args.bytes) 0 (files_of c.args.rows.now))
