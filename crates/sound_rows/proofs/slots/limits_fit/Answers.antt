-- `limits_fit` is limitsb: its four parts.
use mathlib.Core.Path.{sym, ◌∙◌}
use Rattle.model.specs.Layout.{machine}
use Rattle.laws.specs.TestChainLaws.{fails, passes}
use Rattle.sound_rows.specs.SlotRowLaws.{limits_by}
use Rattle.sound_rows.proofs.slots.limits_fit.Goals as goal

pub returns-then-not-place_fits : goal.returns-then-not-place_fits
returns-then-not-place_fits c = limits_by (machine c.args.words.now) c.args.region _ (fails _ (sym c.place_fits.ensures ∙ c.if-not-place_fits.true))

pub returns-then-not-rights_fit : goal.returns-then-not-rights_fit
returns-then-not-rights_fit c = limits_by (machine c.args.words.now) c.args.region _ (passes (sym c.place_fits.ensures ∙ c.if-not-place_fits.false) (fails _ (sym c.rights_fit.ensures ∙ c.if-not-rights_fit.true)))

pub returns-then-not-content_fits : goal.returns-then-not-content_fits
returns-then-not-content_fits c = limits_by (machine c.args.words.now) c.args.region _ (passes (sym c.place_fits.ensures ∙ c.if-not-place_fits.false) (passes (sym c.rights_fit.ensures ∙ c.if-not-rights_fit.false) (fails _ (sym c.content_fits.ensures ∙ c.if-not-content_fits.true))))

pub returns : goal.returns
returns c = limits_by (machine c.args.words.now) c.args.region _ (passes (sym c.place_fits.ensures ∙ c.if-not-place_fits.false) (passes (sym c.rights_fit.ensures ∙ c.if-not-rights_fit.false) (passes (sym c.content_fits.ensures ∙ c.if-not-content_fits.false) c.range_fits.ensures)))
