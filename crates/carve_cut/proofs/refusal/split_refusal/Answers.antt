-- `split_refusal`: one law for each test that decides.
use mathlib.Core.Path.{sym, ◌∙◌}
use Rattle.model.specs.Layout.{machine}
use Rattle.carve_cut.specs.CutRefusalLaws.{refused_eager, refused_shared, refused_pinned, refused_full, not_refused}
use Rattle.carve_cut.proofs.refusal.split_refusal.Goals as goal

pub returns-then-is_eager : goal.returns-then-is_eager
returns-then-is_eager c = refused_eager (machine c.args.words.now) c.args.process c.args.slot c.args.start c.args.end _ c.region_at-region.ensures (sym c.if-is_eager.true ∙ c.is_eager.ensures)

pub returns-then-region-eq-SHARED : goal.returns-then-region-eq-SHARED
returns-then-region-eq-SHARED c = refused_shared (machine c.args.words.now) c.args.process c.args.slot c.args.start c.args.end _ c.region_at-region.ensures (sym c.if-is_eager.false ∙ c.is_eager.ensures) c.if-region-eq-SHARED.true

pub returns-then-region-gt0 : goal.returns-then-region-gt0
returns-then-region-gt0 c = refused_pinned (machine c.args.words.now) c.args.process c.args.slot c.args.start c.args.end _ c.region_at-region.ensures (sym c.if-is_eager.false ∙ c.is_eager.ensures) c.if-region-eq-SHARED.false c.if-region-gt0.true

pub returns-then-free_slots-slots_needed : goal.returns-then-free_slots-slots_needed
returns-then-free_slots-slots_needed c = refused_full (machine c.args.words.now) c.args.process c.args.slot c.args.start c.args.end _ c.region_at-region.ensures (sym c.if-is_eager.false ∙ c.is_eager.ensures) c.if-region-eq-SHARED.false c.if-region-gt0.false _ _ c.free_slots.ensures c.slots_needed.ensures c.if-free_slots-slots_needed.true

pub returns : goal.returns
returns c = not_refused (machine c.args.words.now) c.args.process c.args.slot c.args.start c.args.end _ c.region_at-region.ensures (sym c.if-is_eager.false ∙ c.is_eager.ensures) c.if-region-eq-SHARED.false c.if-region-gt0.false _ _ c.free_slots.ensures c.slots_needed.ensures c.if-free_slots-slots_needed.false
