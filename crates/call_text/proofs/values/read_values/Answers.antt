-- The answers for `read_values`.
use Rattle.std.proofs.Common.{◌≡◌, Err, sym, ◌∙◌, rules}
use Rattle.call_text.specs.ValuesLaws.{values_more, values_fail, values_end}
use Rattle.call_text.proofs.values.read_values.Goals as goal

pub returns-in_err-so_far : goal.returns-in_err-so_far
returns-in_err-so_far c =
    let a = c.args in
    let l = c.loop-letter in
    let k = c.in_err-so_far.field-0.0 in
    let e : c.from_residual.result ≡ Err k = search rules in
    e ∙ values_fail a.line.now a.form.now l.letter-index l.so_far c.loop-letter-test.true k (sym c.with.ensures ∙ c.in_err-so_far.was) ∙ l.invariant

pub loop-letter-preserved : goal.loop-letter-preserved
loop-letter-preserved c =
    let a = c.args in
    let l = c.loop-letter in
    values_more a.line.now a.form.now l.letter-index l.so_far c.loop-letter-test.true _ (sym c.with.ensures ∙ c.in_ok-so_far.was) ∙ l.invariant

pub returns : goal.returns
returns c =
    let l = c.loop-letter in
    values_end c.args.line.now c.args.form.now l.letter-index l.so_far c.loop-letter-test.false ∙ l.invariant
