-- The answers for `run_fits`.
use mathlib.Core.Path.{sym, ◌∙◌}
use native.Mathlib.Omega.{arith}
use Rattle.sound_pages.specs.MappedRowsLaws.{run_low, run_holds, run_ends, run_stops, run_fails, run_more}
use Rattle.sound_pages.proofs.mapped.run_fits.Goals as goal

pub returns-then-slot-ge-SLOTS : goal.returns-then-slot-ge-SLOTS
returns-then-slot-ge-SLOTS c = λ laid seen attached fit. absurd (let low = run_low c.args.words.now laid c.args.process c.requires.process_bound c.args.slot attached in omega arith)

pub loop-i-init : goal.loop-i-init
loop-i-init c = λ laid seen attached fit. fit

pub returns-then-not-is_among : goal.returns-then-not-is_among
returns-then-not-is_among c = λ laid seen attached fit. let w = c.args.words.now in let p = c.args.process in let s = c.args.slot in run_stops w laid p c.requires.process_bound s attached _ c.region_at-region.ensures c.args.from c.loop-i.i (c.loop-i.invariant laid seen attached fit) _ c.mapped_count-n.ensures.value c.loop-i-test.true _ c.row_at-mapping.ensures c.loop-i.auto.i (sym (run_holds w laid p c.requires.process_bound s attached _ c.region_at-region.ensures _ _ _ c.containing_address-first.ensures c.pages_for-pages.ensures _ c.is_among.ensures) ∙ c.if-not-is_among.true)

pub returns-then-not-is_backed : goal.returns-then-not-is_backed
returns-then-not-is_backed c = λ laid seen attached fit. let w = c.args.words.now in let p = c.args.process in let s = c.args.slot in run_fails w laid p c.requires.process_bound s attached _ c.region_at-region.ensures c.args.from c.loop-i.i (c.loop-i.invariant laid seen attached fit) _ c.mapped_count-n.ensures.value c.loop-i-test.true _ c.row_at-mapping.ensures c.args.marks.now seen (sym (run_holds w laid p c.requires.process_bound s attached _ c.region_at-region.ensures _ _ _ c.containing_address-first.ensures c.pages_for-pages.ensures _ c.is_among.ensures) ∙ c.if-not-is_among.false) _ c.is_backed.ensures c.if-not-is_backed.true

pub loop-i-preserved : goal.loop-i-preserved
loop-i-preserved c = λ laid seen attached fit. let w = c.args.words.now in let p = c.args.process in let s = c.args.slot in run_more w laid p c.requires.process_bound s attached _ c.region_at-region.ensures c.args.from c.loop-i.i (c.loop-i.invariant laid seen attached fit) _ c.mapped_count-n.ensures.value c.loop-i-test.true _ c.row_at-mapping.ensures c.args.marks.now seen (sym (run_holds w laid p c.requires.process_bound s attached _ c.region_at-region.ensures _ _ _ c.containing_address-first.ensures c.pages_for-pages.ensures _ c.is_among.ensures) ∙ c.if-not-is_among.false) _ c.is_backed.ensures c.if-not-is_backed.false

pub returns : goal.returns
returns c = λ laid seen attached fit. run_ends c.args.words.now laid c.args.process c.requires.process_bound c.args.slot attached _ c.region_at-region.ensures c.args.from c.loop-i.i (c.loop-i.invariant laid seen attached fit) _ c.mapped_count-n.ensures.value c.loop-i-test.false
