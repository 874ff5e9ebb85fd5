-- `write::put_hex` meets its contract: behind `0x` the digits read back.
use Rattle.std.proofs.Common.{arith}
use Rattle.text.specs.WriteLaws.{hex_put}
use Rattle.text.proofs.write.put_hex.Goals as goal

pub returns : goal.returns
returns c =
    let h = c.hex-k in
    let p = c.put-next in
    let q = c.put in
    hex_put c.args.out.now c.args.at c.args.n h.new.out h.result (omega arith) p.new.out p.result q.new.out q.result c.requires h.ensures.len h.ensures.digits p.ensures q.ensures
