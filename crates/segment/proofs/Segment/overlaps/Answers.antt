-- `Segment::overlaps` answers as overb says: one law a way.
use Rattle.segment.specs.FormLaws.{over_empty, over_after, over_inside, over_reaches}
use Rattle.segment.proofs.Segment.overlaps.Goals as goal

pub returns-then-len-eq0 : goal.returns-then-len-eq0
returns-then-len-eq0 c = over_empty c.args.self c.args.first c.args.last c.if-len-eq0.true

pub returns-then-last-self : goal.returns-then-last-self
returns-then-last-self c = over_after c.args.self c.args.first c.args.last c.if-last-self.true

pub returns-then-first-self : goal.returns-then-first-self
returns-then-first-self c = over_inside c.args.self c.args.first c.args.last c.if-len-eq0.false c.if-last-self.false c.if-first-self.true

pub returns : goal.returns
returns c = over_reaches c.args.self c.args.first c.args.last c.if-len-eq0.false c.if-last-self.false c.if-first-self.false
