-- The answers for `new`.
use Rattle.std.proofs.lemmas.Result.{err_from_is_err_and}
use mathlib.Core.Path.{ap, sym, ◌∙◌}
use native.Mathlib.Omega.{arith}
use lib.ListN.{set, length-set}
use Rattle.segment.specs.Form.{form_of}
use Rattle.segments_lent.specs.LentLoopsLaws.{clear_first, clear_more, clear_done}
use Rattle.segments_lent.specs.LentCallsLaws.{new_other, new_refused, new_done}
use Rattle.segments_lent.proofs.manager.new.Goals as goal

pub returns-then-words-ne131 : goal.returns-then-words-ne131
returns-then-words-ne131 c = new_other c.args.words.now c.args.mem_start c.args.mem_size c.if-words-ne131.true

pub returns-in_err-form : goal.returns-in_err-form
returns-in_err-form c = let p = err_from_is_err_and c.from_residual.result c.from_residual.ensures.1 in rw (p.1, p.2) (new_refused c.args.words.now c.args.mem_start c.args.mem_size c.if-words-ne131.false _ (c.form.ensures ∙ ap form_of c.new.ensures) _ c.in_err-form.was)

pub bounds-words-1 : goal.bounds-words-1
bounds-words-1 c = rw length-set (omega arith)

pub loop-i-init : goal.loop-i-init
loop-i-init c = clear_first c.args.words.now c.args.mem_start.0 c.args.mem_size c.if-words-ne131.false

pub bounds-words-i : goal.bounds-words-i
bounds-words-i c = rw c.loop-i.invariant.1.0 (omega arith)

pub loop-i-preserved : goal.loop-i-preserved
loop-i-preserved c = clear_more (set (set c.args.words.now 0 c.args.mem_start.0) 1 c.args.mem_size) c.loop-i.words c.loop-i.i c.loop-i.invariant c.loop-i-test.true

pub shape_of-words : goal.shape_of-words
shape_of-words c = c.loop-i.invariant.1.0 ∙ sym c.if-words-ne131.false

pub returns : goal.returns
returns c = new_done c.args.words.now c.args.mem_start c.args.mem_size c.if-words-ne131.false _ (c.form.ensures ∙ ap form_of c.new.ensures) c.in_ok-form.was c.loop-i.words (clear_done c.args.words.now c.args.mem_start c.args.mem_size c.loop-i.words c.loop-i.i c.if-words-ne131.false c.loop-i.invariant c.loop-i-test.false)
