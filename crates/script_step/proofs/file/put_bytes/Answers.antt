-- The answers for `put_bytes`.
use mathlib.Core.Path.{◌∙◌}
use native.Mathlib.Omega.{arith}
use borrow.Author.Rules.{rules}
use Rattle.frames.specs.PutBytesLaws.{puts_first, puts_more, puts_all}
use Rattle.script_step.specs.FileStep.{bytes_of}
use Rattle.script_step.specs.FileStepLaws.{bytes_length, byte_at_is}
use Rattle.script_step.proofs.file.put_bytes.Goals as goal

pub loop-i-init : goal.loop-i-init
loop-i-init c = (search rules, puts_first c.args.files.now c.args.at (bytes_of c.args.digits.now) _)

pub loop-i-preserved : goal.loop-i-preserved
loop-i-preserved c = (c.loop-i.invariant.0, puts_more c.args.files.now c.args.at (bytes_of c.args.digits.now) _ (bytes_length c.args.digits.now) c.loop-i.i c.loop-i.files _ c.requires (omega (arith, c.loop-i.invariant.0, c.loop-i-test.true)) (c.byte_of.ensures ∙ byte_at_is c.args.digits.now c.loop-i.i (omega (arith, c.loop-i.invariant.0, c.loop-i-test.true))) c.loop-i.invariant.1)

pub returns : goal.returns
returns c = puts_all c.args.files.now c.args.at (bytes_of c.args.digits.now) _ (bytes_length c.args.digits.now) c.loop-i.i c.loop-i.files (omega (arith, c.loop-i.invariant.0, c.loop-i-test.false)) c.loop-i.invariant.1
