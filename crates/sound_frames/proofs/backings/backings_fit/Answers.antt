-- The answers for `backings_fit`.
use mathlib.Core.Path.{sym, ◌∙◌}
use native.Mathlib.Omega.{arith}
use Rattle.model.specs.Layout.{machine}
use Rattle.sound_frames.specs.MetLaws.{may_bounded}
use Rattle.lookup.specs.LookupsLaws.{backings_length}
use Rattle.sound_frames.specs.MeetsLaws.{meets_first, meets_more, fit_fails, fit_all}
use Rattle.sound_frames.proofs.backings.backings_fit.Goals as goal

pub loop-f-init : goal.loop-f-init
loop-f-init c = meets_first _ _

pub returns-then-not-may_start : goal.returns-then-not-may_start
returns-then-not-may_start c = let m = machine c.args.words.now in fit_fails m (backings_length _) _ c.frame_count-count.ensures _ _ c.loop-f.invariant c.loop-f-test.true _ c.backing_at-b.ensures (sym c.may_start.ensures ∙ c.if-not-may_start.true)

pub with_row-met-requires : goal.with_row-met-requires
with_row-met-requires c = let few = c.loop-f.invariant.few in let is = c.frame_count-count.ensures in let bound = c.requires.words_bound in record { f_bound = c.loop-f-test.true; len_bound = may_bounded c.loop-f.met.end c.loop-f.f c.backing_at-b.result.len c.frame_count-count.result (sym c.may_start.ensures ∙ c.if-not-may_start.false) (omega arith); free_le_f = few }

pub loop-f-preserved : goal.loop-f-preserved
loop-f-preserved c = meets_more (machine c.args.words.now).backings _ _ _ c.loop-f.invariant c.loop-f-test.true _ c.backing_at-b.ensures (sym c.may_start.ensures ∙ c.if-not-may_start.false) _ c.with_row-met.ensures

pub returns : goal.returns
returns c = let m = machine c.args.words.now in let is = c.frame_count-count.ensures in let bound = c.requires.words_bound in fit_all m (backings_length _) c.frame_count-count.result is _ _ c.loop-f.invariant (omega arith) c.loop-f-test.false _ c.is_pool.ensures
