-- `slot_is_apart` tests a slot with all later ones.
use mathlib.Core.Path.{ap, ◌∙◌}
use Rattle.model.specs.declared.Region.{Region}
use Rattle.model.specs.Layout.{machine}
use Rattle.model.specs.Lookup.{regions_of, is_used}
use Rattle.model.specs.SoundTest.{apartb}
use Rattle.lookup.specs.LookupsLaws.{slot_at}
use Rattle.laws.specs.Tests.{later}
use Rattle.sound_lists.specs.ApartLaws.{later_free, later_used}
use Rattle.sound_lists.proofs.apart.slot_is_apart.Goals as goal

pub returns-then-region-eq-FREE : goal.returns-then-region-eq-FREE
returns-then-region-eq-FREE c = let a = c.args in let w = a.words.now in let l = regions_of (machine w) a.process in later_free l a.slot _ c.if-region-eq-FREE.true ∙ ap (λ (x : Region). later is_used apartb l a.slot x) (slot_at w a.process a.slot _ c.requires.slot_bound c.region_at-region.ensures)

pub returns : goal.returns
returns c = let a = c.args in let w = a.words.now in let l = regions_of (machine w) a.process in c.is_apart_from_later.ensures ∙ later_used l a.slot _ c.if-region-eq-FREE.false ∙ ap (λ (x : Region). later is_used apartb l a.slot x) (slot_at w a.process a.slot _ c.requires.slot_bound c.region_at-region.ensures)
