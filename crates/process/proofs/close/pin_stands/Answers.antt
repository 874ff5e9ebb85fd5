-- The answers for `pin_stands`.
use mathlib.Core.Path.{refl}
use Rattle.process.specs.PinnedLaws.{pin_found, pin_later, pin_none}
use native.Mathlib.Omega.{arith}
use Rattle.process.proofs.close.pin_stands.Goals as goal

pub loop-i-init : goal.loop-i-init
loop-i-init c = (omega arith, refl)

pub returns-then-region-gt0 : goal.returns-then-region-gt0
returns-then-region-gt0 c = pin_found c.args.words.now c.args.process c.requires.process_bound _ c.loop-i.invariant c.loop-i-test.true _ c.region_at-region.ensures c.if-region-gt0.true

pub loop-i-preserved : goal.loop-i-preserved
loop-i-preserved c = pin_later c.args.words.now c.args.process c.requires.process_bound _ c.loop-i.invariant c.loop-i-test.true _ c.region_at-region.ensures c.if-region-gt0.false

pub returns : goal.returns
returns c = pin_none c.args.words.now c.args.process c.requires.process_bound _ c.loop-i.invariant c.loop-i-test.false
