-- `file::in_line` meets its contract, one law for each way through it.
use native.Mathlib.Omega.{arith}
use Rattle.script_step.specs.FileStepLaws.{past_line, turned, lies_in}
use Rattle.script_step.proofs.file.in_line.Goals as goal

pub returns-then-len-word : goal.returns-then-len-word
returns-then-len-word c = record { value = past_line _ _ c.if-len-word.true; in_list = record { ordered = omega arith; ends = omega arith } }

pub returns-then-word : goal.returns-then-word
returns-then-word c = record { value = turned _ _ c.if-len-word.false c.if-word.true; in_list = record { ordered = omega arith; ends = omega arith } }

pub returns : goal.returns
returns c = record { value = lies_in _ _ c.if-len-word.false c.if-word.false; in_list = record { ordered = c.if-word.false; ends = c.if-len-word.false } }
