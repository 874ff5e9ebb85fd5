-- `is_bad_bounds`: one law for each test that decides.
use native.Mathlib.Omega.{arith}
use Rattle.carve.specs.CarveCoreLaws.{bad_start, bad_end, bad_order, bad_past}
use Rattle.carve.proofs.cores.is_bad_bounds.Goals as goal

pub returns-then-start-ne0 : goal.returns-then-start-ne0
returns-then-start-ne0 c = bad_start c.args.start c.args.end c.if-start-ne0.true

pub returns-then-end-ne0 : goal.returns-then-end-ne0
returns-then-end-ne0 c = bad_end c.args.start c.args.end c.if-start-ne0.false c.if-end-ne0.true

pub returns-then-end-start : goal.returns-then-end-start
returns-then-end-start c = bad_order c.args.start c.args.end c.if-start-ne0.false c.if-end-ne0.false c.if-end-start.true

pub returns : goal.returns
returns c = bad_past c.args.start c.args.end c.if-start-ne0.false c.if-end-ne0.false (omega arith)
