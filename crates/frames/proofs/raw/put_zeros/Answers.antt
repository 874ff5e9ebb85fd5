-- The answers for `put_zeros`.
use Prim.Native.Nat.{ℕ}
use lib.ListN.{replicate, length-replicate, get_or-replicate}
use mathlib.Core.Path.{sym}
use Rattle.frames.specs.PutBytesLaws.{puts_first, puts_more, puts_all}
use Rattle.frames.proofs.raw.put_zeros.Goals as goal

pub loop-i-init : goal.loop-i-init
loop-i-init c = puts_first c.args.to.now c.args.at (replicate c.args.count 0) c.args.count

pub loop-i-preserved : goal.loop-i-preserved
loop-i-preserved c =
    let n = c.args.count in
    let more = c.loop-i-test.true in
    puts_more c.args.to.now c.args.at (replicate n 0) n (length-replicate {A = ℕ} n 0) c.loop-i.i c.loop-i.to 0
    c.requires more (sym (get_or-replicate {A = ℕ} n c.loop-i.i 0 0 more)) c.loop-i.invariant

pub returns : goal.returns
returns c =
    let n = c.args.count in
    puts_all c.args.to.now c.args.at (replicate n 0) n (length-replicate {A = ℕ} n 0) c.loop-i.i c.loop-i.to c.loop-i-test.false c.loop-i.invariant
