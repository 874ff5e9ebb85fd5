-- `is_bad_size`: one law for each test that decides.
use Rattle.process.specs.StartLaws.{bad_rows, bad_frames, many_frames, many_files, some_files}
use Rattle.process.proofs.start.is_bad_size.Goals as goal

pub returns-then-rows-ne0 : goal.returns-then-rows-ne0
returns-then-rows-ne0 c = bad_rows c.args.rows.now c.args.frames c.args.bytes c.if-rows-ne0.true

pub returns-then-frames-ne0 : goal.returns-then-frames-ne0
returns-then-frames-ne0 c = bad_frames c.args.rows.now c.args.frames c.args.bytes c.if-rows-ne0.false c.if-frames-ne0.true

pub returns-then-frames-gt-FRAMES : goal.returns-then-frames-gt-FRAMES
returns-then-frames-gt-FRAMES c = many_frames c.args.rows.now c.args.frames c.args.bytes c.if-rows-ne0.false c.if-frames-ne0.false c.if-frames-gt-FRAMES.true

pub returns-then-rows-gt-FILES : goal.returns-then-rows-gt-FILES
returns-then-rows-gt-FILES c = many_files c.args.rows.now c.args.frames c.args.bytes c.if-rows-ne0.false c.if-frames-ne0.false c.if-frames-gt-FRAMES.false c.if-rows-gt-FILES.true

pub returns : goal.returns
returns c = some_files c.args.rows.now c.args.frames c.args.bytes c.if-rows-ne0.false c.if-frames-ne0.false c.if-frames-gt-FRAMES.false c.if-rows-gt-FILES.false _ c.files_fit.ensures
