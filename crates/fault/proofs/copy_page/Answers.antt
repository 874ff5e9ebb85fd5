-- `copy_page`: the bytes are copied to the next free frame, which becomes the page's own.
use mathlib.Core.Path.{ap, ◌∙◌}
use lib.ListN.{length}
use Rattle.model.specs.declared.Pool.{Pool}
use Rattle.model.specs.Layout.{machine}
use Rattle.model.specs.Backing.{frame_bytes, put_frame}
use Rattle.fault.specs.GoesLaws.{next_at}
use borrow.Author.Rules.{rules}
use Rattle.fault.proofs.copy_page.Goals as goal

pub copy-requires : goal.copy-requires
copy-requires c = let next = next_at (machine c.args.words.now) (length c.args.frames.now) _ c.pool-free.ensures c.requires.next_fits in record { from_in_bounds = search rules; to_in_bounds = search rules }

pub returns : goal.returns
returns c = record { words_after = c.own_frame.ensures; frames_after = c.copy.ensures ∙ ap (λ (q : Pool). put_frame c.args.frames.now q.next.0 (frame_bytes c.args.frames.now c.args.frame.0)) c.pool-free.ensures }
