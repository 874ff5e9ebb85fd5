-- `parse::held_call` meets its contract: both parts lie in the line, and one law for each way through it.
use Rattle.std.proofs.Common.{sym, ap, ◌∙◌, arith, length-take-le}
use Rattle.call_text.specs.declared.asked.Asked.TheVariants as asked
use Rattle.call_text.specs.declared.asked.Fault.{Fault}
use Rattle.call_text.specs.Parse.{told}
use Rattle.call_text.specs.ParseLaws.{too_long, held_whole}
use Rattle.call_text.proofs.parse.held_call.Goals as goal

pub returns-then-held : goal.returns-then-held
returns-then-held c = ap (λ (f : Fault). asked.Bad f) c.whole_fault.ensures ∙ too_long c.args.line.now c.args.held c.if-held.true

pub returns-in-Ok : goal.returns-in-Ok
returns-in-Ok c =
    let r = c.without_return.ensures in
    ap told (sym c.in-Ok.is) ∙ held_whole c.args.line.now c.args.held c.if-held.false c.without_return.result.now r.value (omega (arith, r.length, r.upper_bound, length-take-le c.args.held.len c.args.line.now c.requires)) c.parse.result c.parse.ensures

pub returns-in-Err : goal.returns-in-Err
returns-in-Err c =
    let r = c.without_return.ensures in
    ap told (sym c.in-Err.is) ∙ held_whole c.args.line.now c.args.held c.if-held.false c.without_return.result.now r.value (omega (arith, r.length, r.upper_bound, length-take-le c.args.held.len c.args.line.now c.requires)) c.parse.result c.parse.ensures
