-- `carve_answer`: a split that was refused, a pinned region inside, else the list.
use mathlib.Core.Path.{sym, ◌∙◌}
use Rattle.model.specs.Layout.{machine}
use Rattle.carve_inside.specs.CarveAnswerLaws.{answer_refused, answer_pinned, answer_listed}
use Rattle.carve_inside.proofs.answer.carve_answer.Goals as goal

pub returns-in-Err : goal.returns-in-Err
returns-in-Err c = answer_refused (machine c.args.words.now) c.args.process c.args.start c.args.end c.args.splits c.args.out.now _ c.in-Err.is c.requires.out_value

pub returns-then-pinned_inside : goal.returns-then-pinned_inside
returns-then-pinned_inside c = answer_pinned (machine c.args.words.now) c.args.process c.args.start c.args.end c.args.splits c.args.out.now c.in_default.is (sym c.if-pinned_inside.true ∙ c.pinned_inside.ensures) c.requires.out_value

pub returns : goal.returns
returns c = answer_listed (machine c.args.words.now) c.args.process c.args.start c.args.end c.args.splits c.args.out.now c.in_default.is (sym c.if-pinned_inside.false ∙ c.pinned_inside.ensures) _ c.starts_inside.ensures
