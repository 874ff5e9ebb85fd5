-- `restore`: the region's flags are read, and the page remapped.
use mathlib.Core.Path.{ap, ◌∙◌}
use Rattle.model.specs.declared.Region.{Region}
use Rattle.model.specs.Layout.{machine}
use Rattle.paging.specs.Mapper.{remap_by}
use Rattle.fault.proofs.restore.Goals as goal

pub returns : goal.returns
returns c = c.remap.ensures.words_after ∙ ap (λ (r : Region). remap_by (machine c.args.words.now) c.args.process c.args.page.0 r.flags.0) c.region_in-region.ensures
