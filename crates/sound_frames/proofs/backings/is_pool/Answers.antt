-- `is_pool` compares the pool's row.
use mathlib.Core.Path.{ap, ◌∙◌}
use Rattle.model.specs.declared.Pool.{Pool}
use mathlib.Core.Bool.{◌&&◌}
use lib.Dec.{eqb}
use Rattle.sound_frames.specs.MetLaws.{same_free, other_free}
use Rattle.sound_frames.proofs.backings.is_pool.Goals as goal

pub returns-then-p-free : goal.returns-then-p-free
returns-then-p-free c = let free = c.args.free in let next = c.args.next in same_free free next _ c.if-p-free.true ∙ ap (λ (q : Pool). eqb q.free free && eqb q.next.0 next) c.pool-p.ensures

pub returns : goal.returns
returns c = let free = c.args.free in let next = c.args.next in other_free free next _ c.if-p-free.false ∙ ap (λ (q : Pool). eqb q.free free && eqb q.next.0 next) c.pool-p.ensures
