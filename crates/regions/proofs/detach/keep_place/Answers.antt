-- `keep_place` puts what stands at a place, if it is kept, and counts it.
use mathlib.Core.Path.{ap}
use mathlib.Core.Bool.{not}
use borrow.Author.Tests.{eq-eqb, ne_eqb}
use Rattle.model.specs.Layout.{machine}
use Rattle.regions.specs.Detached.{other}
use Rattle.regions.specs.DetachedLaws.{place_leaves, place_stays}
use Rattle.regions.proofs.detach.keep_place.Goals as goal

pub returns-then-here-slot : goal.returns-then-here-slot
returns-then-here-slot c = let the = place_leaves (machine c.args.words.now) _ (other c.args.slot) _ c.args.kept _ c.order_at-here.ensures (ap not (eq-eqb _ _ c.if-here-slot.true)) in record { value = the.0; words_after = the.1 }

pub returns : goal.returns
returns c = let the = place_stays (machine c.args.words.now) _ (other c.args.slot) _ c.args.kept _ c.order_at-here.ensures _ (ap not (ne_eqb _ _ c.if-here-slot.false)) c.put_order.ensures in record { value = the.0; words_after = the.1 }
