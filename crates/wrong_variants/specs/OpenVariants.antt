-- Opens every definition of crate `model` and of this crate: a proof by computing says `unfolding variants`.
use Rattle.model.specs.Posix.{view, view_by}
use Rattle.model.specs.Open.{everything}
use Rattle.model.specs.PointRows.{unstarted}
use Rattle.wrong_variants.specs.OneLine.{share_by, demote_by, copy_by, own_by, way_by, region_by, fault_by, protect_by, split_by, bound_by, bounds_by, carve_by, remove_by, unpin_by, close_by}
use Rattle.wrong_variants.specs.Means.{after, broken, words, put, get}
use Rattle.wrong_variants.specs.MeansLaws.{refusedb, seenb}

unfoldable pub variants : Unit {0}
unfolding everything view view_by unstarted share_by demote_by copy_by own_by way_by region_by fault_by protect_by split_by bound_by bounds_by carve_by remove_by unpin_by close_by after broken words put get refusedb seenb
variants = tt
