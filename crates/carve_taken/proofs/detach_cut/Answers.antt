-- `detach_cut` puts the list without the cut regions, zeros after it, and the count.
use Rattle.laws.specs.Lists.{keep}
use Rattle.model.specs.Layout.{machine}
use Rattle.model.specs.Machine.{order_of}
use Rattle.regions.specs.AddedLaws.{places_inside}
use Rattle.regions.specs.DetachedLaws.{puts_list}
use Rattle.carve_taken.specs.TakenOut.{whole}
use Rattle.carve_taken.proofs.detach_cut.Goals as goal

pub returns : goal.returns
returns c = puts_list (machine c.args.words.now) _ _ _ c.args.process (keep (whole (machine c.args.words.now) c.args.process c.args.start c.args.end) (order_of (machine c.args.words.now) c.args.process)) _ (places_inside c.args.words.now c.args.process c.requires.process_bound) c.retain_whole-kept.ensures.value c.retain_whole-kept.ensures.upper_bound c.retain_whole-kept.ensures.words_after c.clear_places.ensures c.put_attached.ensures
