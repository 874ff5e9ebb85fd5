-- `write::put_decimal` meets its contract: the digits read back.
use Rattle.std.proofs.Common.{arith}
use Rattle.text.specs.WriteLaws.{decimal_put}
use Rattle.text.proofs.write.put_decimal.Goals as goal

pub returns : goal.returns
returns c =
    let p = c.put in
    let d = c.decimal-k in
    decimal_put c.args.out.now c.args.at c.args.n d.new.out d.result (omega arith) p.new.out p.result c.requires d.ensures.len d.ensures.digits p.ensures
