-- `Machine::file` meets its contract, one law for each way through it.
use Rattle.script_step.specs.FileStepLaws.{filed_late, filed_many, filed_long, filed_is}
use Rattle.script_step.proofs.machine.Machine.file.Goals as goal

pub returns-then-self : goal.returns-then-self
returns-then-self c = filed_late c.args.self _ c.args.line.now _ _ c.if-self.true _ c.fails.ensures

pub returns-then-self-ge-FILES : goal.returns-then-self-ge-FILES
returns-then-self-ge-FILES c = filed_many c.args.self _ c.args.line.now _ _ c.if-self.false c.if-self-ge-FILES.true _ c.fails-then-self-ge-FILES.ensures

pub returns-then-files-bytes : goal.returns-then-files-bytes
returns-then-files-bytes c = filed_long c.args.self _ c.args.line.now _ _ c.if-self.false c.if-self-ge-FILES.false _ c.in_line-word.ensures.value c.in_line-word.ensures.in_list c.if-files-bytes.true _ c.fails-then-files-bytes.ensures

pub returns : goal.returns
returns c = filed_is c.args.self _ c.args.line.now _ _ c.if-self.false c.if-self-ge-FILES.false _ c.in_line-word.ensures.value c.in_line-word.ensures.in_list c.if-files-bytes.false _ c.put_bytes.ensures _ c.with_file.ensures
