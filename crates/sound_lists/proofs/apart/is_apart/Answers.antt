-- `is_apart` is apartb.
use mathlib.Core.Path.{sym, ◌∙◌}
use Rattle.sound_lists.specs.ApartLaws.{apart_free, apart_below, apart_above}
use Rattle.sound_lists.proofs.apart.is_apart.Goals as goal

pub returns-then-other-eq-FREE : goal.returns-then-other-eq-FREE
returns-then-other-eq-FREE c = apart_free c.args.region c.args.other c.if-other-eq-FREE.true

pub returns-then-ends_by : goal.returns-then-ends_by
returns-then-ends_by c = apart_below c.args.region c.args.other c.if-other-eq-FREE.false (sym c.ends_by.ensures ∙ c.if-ends_by.true)

pub returns : goal.returns
returns c = c.ends_by-2.ensures ∙ apart_above c.args.region c.args.other c.if-other-eq-FREE.false (sym c.ends_by.ensures ∙ c.if-ends_by.false)
