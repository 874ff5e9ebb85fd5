-- `spot` is the given start if it is free, or the lowest free one.
use Rattle.model.specs.Layout.{machine}
use Rattle.reserve.specs.LowestSpotLaws.{spot_lowest, spot_taken, spot_given}
use Rattle.reserve.proofs.lowest.spot.Goals as goal

pub returns-in_default : goal.returns-in_default
returns-in_default c = λ fit. spot_lowest (machine c.args.words.now) c.args.process _ c.args.len c.in_default.is _ (c.lowest_start.ensures fit)

pub returns-then-reserved : goal.returns-then-reserved
returns-then-reserved c = λ fit. spot_taken (machine c.args.words.now) c.args.process _ c.args.len _ c.in-At.is _ c.reserved.ensures c.if-reserved.true

pub returns : goal.returns
returns c = λ fit. spot_given (machine c.args.words.now) c.args.process _ c.args.len _ c.in-At.is _ c.reserved.ensures c.if-reserved.false
