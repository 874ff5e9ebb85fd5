-- `give_entry`: one law for each way.
use native.Mathlib.Omega.{arith}
use Rattle.split.specs.GivenEntriesLaws.{give_other, give_below, give_one}
use Rattle.model.specs.Layout.{machine}
use Rattle.split.proofs.give.give_entry.Goals as goal

pub returns-then-e-owner : goal.returns-then-e-owner
returns-then-e-owner c = give_other (machine c.args.words.now) c.args.i c.args.owner c.args.page.0 c.args.new _ c.entry_at-e.ensures c.if-e-owner.true

pub returns-then-e-page : goal.returns-then-e-page
returns-then-e-page c = give_below (machine c.args.words.now) c.args.i c.args.owner c.args.page.0 c.args.new _ c.entry_at-e.ensures c.if-e-owner.false c.if-e-page.true

pub returns : goal.returns
returns c = give_one (machine c.args.words.now) c.args.i c.args.owner c.args.page.0 c.args.new _ c.entry_at-e.ensures c.if-e-owner.false (omega arith) _ c.put_entry.ensures
