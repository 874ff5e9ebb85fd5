-- `holds_as` is alike_held: one law a way.
use Rattle.sound_frames.specs.OnePageLaws.{other_page, same_page}
use Rattle.sound_frames.proofs.onepage.holds_as.Goals as goal

pub returns-then-h-x : goal.returns-then-h-x
returns-then-h-x c = other_page _ c.args.h c.held_by-x.result c.held_by-x.ensures.value c.if-h-x.true

pub returns : goal.returns
returns c = same_page _ c.args.h c.held_by-x.result c.held_by-x.ensures.value c.if-h-x.false
