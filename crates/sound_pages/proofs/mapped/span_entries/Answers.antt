-- The answers for `span_entries`.
use native.Mathlib.Omega.{arith}
use Rattle.model.specs.Layout.{machine}
use Rattle.sound_pages.specs.MappedSpansLaws.{spans_none, spans_skip, spans_again, spans_more, spans_first, first_begun, spans_all}
use Rattle.sound_pages.proofs.mapped.span_entries.Goals as goal

pub loop-i-init : goal.loop-i-init
loop-i-init c = (spans_none (machine c.args.words.now) _ _ c.requires.unspanned, λ l. absurd (omega arith))

pub loop-i-preserved-then-process-eq-PROCESSES : goal.loop-i-preserved-then-process-eq-PROCESSES
loop-i-preserved-then-process-eq-PROCESSES c = (spans_skip (machine c.args.words.now) _ _ c.loop-i.i c.loop-i.invariant.0 c.loop-i-test.true c.entry_at-entry.result c.entry_at-entry.ensures c.process_of-process.result c.process_of-process.ensures c.if-process-eq-PROCESSES.true, c.loop-i.invariant.1)

pub offset_bounds-pasts-process : goal.offset_bounds-pasts-process
offset_bounds-pasts-process c = let l = c.process_of-process.ensures.most in omega arith

pub bounds-pasts-process : goal.bounds-pasts-process
bounds-pasts-process c = let l = c.process_of-process.ensures.most in let n = c.if-process-eq-PROCESSES.false in let s = c.loop-i.invariant.0.many in omega arith

pub loop-i-preserved-then-process-last : goal.loop-i-preserved-then-process-last
loop-i-preserved-then-process-last c = let l = c.process_of-process.ensures.most in let n = c.if-process-eq-PROCESSES.false in (spans_again (machine c.args.words.now) _ _ c.loop-i.i c.loop-i.invariant.0 c.loop-i-test.true c.entry_at-entry.result c.entry_at-entry.ensures c.process_of-process.result c.process_of-process.ensures (omega arith) c.loop-i.last c.loop-i.invariant.1 c.if-process-last.true, c.loop-i.invariant.1)

pub offset_bounds-firsts-process : goal.offset_bounds-firsts-process
offset_bounds-firsts-process c = let l = c.process_of-process.ensures.most in omega arith

pub bounds-firsts-process : goal.bounds-firsts-process
bounds-firsts-process c = let l = c.process_of-process.ensures.most in let n = c.if-process-eq-PROCESSES.false in let s = c.loop-i.invariant.0.few in omega arith

pub loop-i-preserved-then-firsts-process-ne-ENTRIES : goal.loop-i-preserved-then-firsts-process-ne-ENTRIES
loop-i-preserved-then-firsts-process-ne-ENTRIES c = let l = c.process_of-process.ensures.most in let n = c.if-process-eq-PROCESSES.false in (spans_more (machine c.args.words.now) _ _ c.loop-i.i c.loop-i.invariant.0 c.loop-i-test.true c.entry_at-entry.result c.entry_at-entry.ensures c.process_of-process.result c.process_of-process.ensures (omega arith) c.if-firsts-process-ne-ENTRIES.true, λ k. c.if-firsts-process-ne-ENTRIES.true)

pub offset_bounds-firsts-process-in-loop-i : goal.offset_bounds-firsts-process-in-loop-i
offset_bounds-firsts-process-in-loop-i c = let l = c.process_of-process.ensures.most in omega arith

pub bounds-firsts-process-in-loop-i : goal.bounds-firsts-process-in-loop-i
bounds-firsts-process-in-loop-i c = let l = c.process_of-process.ensures.most in let n = c.if-process-eq-PROCESSES.false in let s = c.loop-i.invariant.0.few in omega arith

pub loop-i-preserved : goal.loop-i-preserved
loop-i-preserved c = let l = c.process_of-process.ensures.most in let n = c.if-process-eq-PROCESSES.false in (spans_first (machine c.args.words.now) _ _ c.loop-i.i c.loop-i.invariant.0 c.loop-i-test.true c.entry_at-entry.result c.entry_at-entry.ensures c.process_of-process.result c.process_of-process.ensures (omega arith) c.if-firsts-process-ne-ENTRIES.false, first_begun (machine c.args.words.now) _ _ c.loop-i.i c.loop-i.invariant.0 c.loop-i-test.true c.entry_at-entry.result c.entry_at-entry.ensures c.process_of-process.result c.process_of-process.ensures (omega arith))

pub shape_of-firsts : goal.shape_of-firsts
shape_of-firsts c = let a = c.loop-i.invariant.0.few in let b = c.requires.unspanned.few in omega arith

pub shape_of-pasts : goal.shape_of-pasts
shape_of-pasts c = let a = c.loop-i.invariant.0.many in let b = c.requires.unspanned.many in omega arith

pub returns : goal.returns
returns c = spans_all (machine c.args.words.now) _ _ c.loop-i.i c.loop-i.invariant.0 c.loop-i-test.false
