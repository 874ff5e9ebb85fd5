-- The answers for `lowest_from`.
use mathlib.Core.Path.{refl, ◌∙◌}
use native.Mathlib.Omega.{arith}
use Rattle.reserve.specs.SlotSearchLaws.{slots_late, slots_free, slots_low, slots_begin, slots_blocked, slots_falls, slots_again}
use Rattle.reserve.proofs.lowest.lowest_from.Goals as goal

pub loop-start-init : goal.loop-start-init
loop-start-init c = refl

pub returns-then-last-start : goal.returns-then-last-start
returns-then-last-start c = slots_late c.args.words.now c.args.process c.args.last c.args.len c.loop-start.start (omega arith) ∙ c.loop-start.invariant

pub first_over-requires : goal.first_over-requires
first_over-requires c = record { words_len = c.requires.words_len; process_bound = c.requires.process_bound; len_nonzero = c.requires.len_nonzero }

pub returns-in_default : goal.returns-in_default
returns-in_default c = slots_free c.args.words.now c.args.process c.args.last c.args.len c.loop-start.start (omega (arith, c.requires.len_nonzero)) _ c.first_over.ensures c.in_default.is ∙ c.loop-start.invariant

pub overflow_add-process : goal.overflow_add-process
overflow_add-process c = let low = slots_low c.args.words.now c.args.process c.args.last c.args.len c.loop-start.start (omega (arith, c.requires.len_nonzero)) _ c.first_over.ensures c.requires.process_bound _ c.in-Some.is in omega arith

pub region_at-region-requires : goal.region_at-region-requires
region_at-region-requires c = let low = slots_low c.args.words.now c.args.process c.args.last c.args.len c.loop-start.start (omega (arith, c.requires.len_nonzero)) _ c.first_over.ensures c.requires.process_bound _ c.in-Some.is in record { words_len = c.requires.words_len; i_bound = omega (arith, c.requires.process_bound) }

pub overflow_sub-last-in-loop-start : goal.overflow_sub-last-in-loop-start
overflow_sub-last-in-loop-start c = slots_begin c.args.words.now c.args.process c.args.last c.args.len c.loop-start.start (omega (arith, c.requires.len_nonzero)) _ c.first_over.ensures c.requires.process_bound _ c.in-Some.is _ c.region_at-region.ensures

pub returns-then-last-region : goal.returns-then-last-region
returns-then-last-region c = slots_blocked c.args.words.now c.args.process c.args.last c.args.len c.loop-start.start (omega (arith, c.requires.len_nonzero)) _ c.first_over.ensures c.requires.process_bound _ c.in-Some.is _ c.region_at-region.ensures _ c.pages_for-pages.ensures c.if-last-region.true ∙ c.loop-start.invariant

pub overflow_add-start : goal.overflow_add-start
overflow_add-start c = let b = slots_begin c.args.words.now c.args.process c.args.last c.args.len c.loop-start.start (omega (arith, c.requires.len_nonzero)) _ c.first_over.ensures c.requires.process_bound _ c.in-Some.is _ c.region_at-region.ensures in omega (arith, c.ranges.last)

pub loop-start-smaller : goal.loop-start-smaller
loop-start-smaller c = slots_falls c.args.words.now c.args.process c.args.last c.args.len c.loop-start.start (omega (arith, c.requires.len_nonzero)) _ c.first_over.ensures c.requires.process_bound _ c.in-Some.is _ c.region_at-region.ensures _ c.pages_for-pages.ensures

pub loop-start-preserved : goal.loop-start-preserved
loop-start-preserved c = slots_again c.args.words.now c.args.process c.args.last c.args.len c.loop-start.start (omega (arith, c.requires.len_nonzero)) _ c.first_over.ensures c.requires.process_bound _ c.in-Some.is _ c.region_at-region.ensures _ c.pages_for-pages.ensures ∙ c.loop-start.invariant

pub returns : goal.returns
returns c = slots_late c.args.words.now c.args.process c.args.last c.args.len c.loop-start.start (omega arith) ∙ c.loop-start.invariant
