-- `cut` puts both parts and gives the entries.
use Rattle.split.specs.SplitBoundLaws.{cuts, sum_read}
use Rattle.model.specs.Layout.{machine}
use Rattle.split.proofs.bounds.cut.Goals as goal

pub high_part-requires : goal.high_part-requires
high_part-requires c = sum_read (machine c.args.words.now) c.args.process c.args.slot c.args.at _ c.region_at-region.ensures c.requires.slot_bound_2

pub returns : goal.returns
returns c = cuts (machine c.args.words.now) _ _ _ c.args.process c.args.slot c.args.new c.args.at _ _ _ c.region_at-region.ensures c.low_part.ensures c.high_part.ensures c.put_region.ensures c.put_region-2.ensures c.give_entries.ensures
