-- The answers for `put_starts`.
use mathlib.Core.Path.{ap, sym, ◌∙◌}
use lib.ListN.{length}
use native.Mathlib.Omega.{arith}
use Rattle.laws.specs.Lists.{pad}
use Rattle.regions.specs.ListingLaws.{filled_more, filled_all}
use Rattle.regions.proofs.list.put_starts.Goals as goal

pub loop-i-init : goal.loop-i-init
unfolding pad
loop-i-init c = (omega arith, (ap (λ l. length l) c.requires.starts_value, c.requires.starts_value))

pub loop-i-preserved : goal.loop-i-preserved
loop-i-preserved c = filled_more c.args.words.now c.args.process _ c.attached_count-n.ensures.value c.attached_count-n.ensures.upper_bound _ _ c.loop-i.invariant (omega arith) _ c.start_at.ensures

pub shape_of-starts : goal.shape_of-starts
shape_of-starts c = c.loop-i.invariant.1.0 ∙ sym (ap (λ l. length l) c.requires.starts_value)

pub returns : goal.returns
returns c = filled_all c.args.words.now c.args.process _ c.attached_count-n.ensures.value c.attached_count-n.ensures.upper_bound _ _ c.loop-i.invariant (omega arith)
