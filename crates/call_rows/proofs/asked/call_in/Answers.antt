-- `call_in`: the call by its number, if there are as many arguments.
use mathlib.Core.Path.{sym, ◌∙◌}
use Rattle.call_rows.specs.AskedLaws.{in_none, in_other, in_call, few}
use Rattle.call_rows.proofs.asked.call_in.Goals as goal

pub returns-then-call-eq0 : goal.returns-then-call-eq0
returns-then-call-eq0 c = in_none c.args.call.now c.if-call-eq0.true

pub returns-then-call-argument_count : goal.returns-then-call-argument_count
returns-then-call-argument_count c = in_other c.args.call.now c.if-call-eq0.false (λ e. c.if-call-argument_count.true (e ∙ sym c.argument_count.ensures))

pub arguments-requires : goal.arguments-requires
arguments-requires c = few c.args.call.now _ c.if-call-eq0.false (c.if-call-argument_count.false ∙ c.argument_count.ensures)

pub returns : goal.returns
returns c = in_call c.args.call.now c.if-call-eq0.false (c.if-call-argument_count.false ∙ c.argument_count.ensures) _ _ c.arguments.ensures c.call_of.ensures
