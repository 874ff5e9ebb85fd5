-- The answers for `rows_fit`.
use Rattle.std.specs.Prelude.{Option, ℕ}
use mathlib.Core.Path.{subst}
use Prim.Native.Nat.{◌<◌}
use native.Mathlib.Omega.{arith}
use Rattle.model.specs.Layout.{machine}
use Rattle.model.specs.Lookup.{row_found}
use Rattle.sound_pages.specs.MappedRowsLaws.{rows_first, rows_end, rows_lost, rows_attached, rows_fail, rows_more, rows_stuck}
use Rattle.sound_pages.proofs.mapped.rows_fit.Goals as goal

pub loop-i-init : goal.loop-i-init
loop-i-init c = (omega arith, λ laid seen. rows_first (machine c.args.words.now) c.args.process)

pub home_place-requires : goal.home_place-requires
home_place-requires c = record { words_len = c.requires.words_len; process_bound = c.requires.process_bound; near_bound = c.loop-i.invariant.0 }

pub returns-in_default : goal.returns-in_default
returns-in_default c = λ laid seen. rows_lost c.args.words.now laid c.args.process c.requires.process_bound c.loop-i.i _ c.mapped_count-n.ensures.value (c.loop-i.invariant.1 laid seen) c.loop-i-test.true _ c.row_at-mapping.ensures _ (c.home_place.ensures.result_value laid) c.in_default.is

pub overflow_add-process : goal.overflow_add-process
overflow_add-process c = let low = subst (λ (f : Option ℕ). row_found f < 64) c.in-Some.is c.home_place.ensures.result_bound in omega arith

pub order_at-slot-requires : goal.order_at-slot-requires
order_at-slot-requires c = let low = subst (λ (f : Option ℕ). row_found f < 64) c.in-Some.is c.home_place.ensures.result_bound in record { words_len = c.requires.words_len; i_bound = omega (arith, c.requires.process_bound) }

pub run_fits-requires : goal.run_fits-requires
run_fits-requires c = record { words_len = c.requires.words_len; process_bound = c.requires.process_bound; marks_len = c.requires.marks_len }

pub returns-in_default-run_fits : goal.returns-in_default-run_fits
returns-in_default-run_fits c = λ laid seen. rows_fail c.args.words.now laid c.args.process c.requires.process_bound c.loop-i.i _ c.mapped_count-n.ensures.value (c.loop-i.invariant.1 laid seen) c.loop-i-test.true _ c.row_at-mapping.ensures _ (c.home_place.ensures.result_value laid) _ c.in-Some.is _ c.order_at-slot.ensures _ (c.run_fits.ensures laid seen (rows_attached c.args.words.now laid c.args.process c.requires.process_bound c.loop-i.i _ c.mapped_count-n.ensures.value (c.loop-i.invariant.1 laid seen) c.loop-i-test.true _ c.row_at-mapping.ensures _ (c.home_place.ensures.result_value laid) _ c.in-Some.is _ c.order_at-slot.ensures) (c.loop-i.invariant.1 laid seen)) c.in_default-run_fits.is

pub returns-then-next-i : goal.returns-then-next-i
returns-then-next-i c = λ laid seen. absurd (rows_stuck c.args.words.now laid c.args.process c.requires.process_bound c.loop-i.i _ c.mapped_count-n.ensures.value (c.loop-i.invariant.1 laid seen) c.loop-i-test.true _ c.row_at-mapping.ensures _ (c.home_place.ensures.result_value laid) _ c.in-Some.is _ c.order_at-slot.ensures _ (c.run_fits.ensures laid seen (rows_attached c.args.words.now laid c.args.process c.requires.process_bound c.loop-i.i _ c.mapped_count-n.ensures.value (c.loop-i.invariant.1 laid seen) c.loop-i-test.true _ c.row_at-mapping.ensures _ (c.home_place.ensures.result_value laid) _ c.in-Some.is _ c.order_at-slot.ensures) (c.loop-i.invariant.1 laid seen)) _ c.in-Some-run_fits.is c.if-next-i.true)

pub loop-i-preserved : goal.loop-i-preserved
loop-i-preserved c = (subst (λ (f : Option ℕ). row_found f < 64) c.in-Some.is c.home_place.ensures.result_bound, λ laid seen. rows_more c.args.words.now laid c.args.process c.requires.process_bound c.loop-i.i _ c.mapped_count-n.ensures.value (c.loop-i.invariant.1 laid seen) c.loop-i-test.true _ c.row_at-mapping.ensures _ (c.home_place.ensures.result_value laid) _ c.in-Some.is _ c.order_at-slot.ensures _ (c.run_fits.ensures laid seen (rows_attached c.args.words.now laid c.args.process c.requires.process_bound c.loop-i.i _ c.mapped_count-n.ensures.value (c.loop-i.invariant.1 laid seen) c.loop-i-test.true _ c.row_at-mapping.ensures _ (c.home_place.ensures.result_value laid) _ c.in-Some.is _ c.order_at-slot.ensures) (c.loop-i.invariant.1 laid seen)) _ c.in-Some-run_fits.is)

pub returns : goal.returns
returns c = λ laid seen. rows_end c.args.words.now laid c.args.process c.requires.process_bound c.loop-i.i _ c.mapped_count-n.ensures.value (c.loop-i.invariant.1 laid seen) c.loop-i-test.false
