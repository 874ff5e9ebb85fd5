-- `sized` is sizes_fit.
use Rattle.model.specs.Layout.{machine}
use Rattle.sound_rows.specs.SizesLaws.{too_many_frames, too_many_files, frames_fit}
use Rattle.sound_rows.proofs.sizes.sized.Goals as goal

pub returns-then-count : goal.returns-then-count
returns-then-count c = too_many_frames (machine c.args.words.now) c.args.frames _ c.frame_count-count.ensures c.if-count.true

pub returns-then-files : goal.returns-then-files
returns-then-files c = too_many_files (machine c.args.words.now) c.args.frames _ c.frame_count-count.ensures _ c.file_count-files.ensures c.if-count.false c.if-files.true

pub returns : goal.returns
returns c = frames_fit (machine c.args.words.now) c.args.frames _ c.frame_count-count.ensures _ c.file_count-files.ensures c.if-count.false c.if-files.false
