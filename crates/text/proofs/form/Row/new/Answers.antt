-- `Row::new`: the numbers are copied over zeros.
use Rattle.std.proofs.Common.{rules, ◌++◌, replicate, drop, ap, ◌∙◌}
use Rattle.text.specs.RowLaws.{numbers_filled}
use Rattle.text.proofs.form.Row.new.Goals as goal

pub returns-clause-numbers : goal.returns-clause-numbers
returns-clause-numbers c = ap (λ l. l ++ drop c.min-count.result (replicate 16 0)) c.copy_from_slice.ensures.after ∙ numbers_filled c.args.numbers.now c.min-count.result (search rules)
