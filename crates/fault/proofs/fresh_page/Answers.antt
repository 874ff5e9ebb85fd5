-- `fresh_page`: the next free frame is filled and becomes the page's own.
use mathlib.Core.Path.{◌∙◌}
use lib.ListN.{length}
use Rattle.model.specs.Layout.{machine}
use Rattle.model.specs.Backing.{put_frame}
use Rattle.model.specs.Fault.{fill_of}
use Rattle.rows.specs.LentMemory.{state_of}
use Rattle.fault_own.specs.OwnedLaws.{process_low}
use Rattle.fault.specs.GoesLaws.{next_at, fresh_reads}
use borrow.Author.Rules.{rules}
use Rattle.fault.proofs.fresh_page.Goals as goal

pub region_in-region-requires : goal.region_in-region-requires
region_in-region-requires c = let low = process_low _ _ _ _ c.requires.own_fits in record { words_len = search rules; process_bound = search rules }

pub fill_page-requires : goal.fill_page-requires
fill_page-requires c = record { words_len = search rules; in_bounds = next_at (machine c.args.words.now) (length c.args.frames.now) _ c.pool-free.ensures c.requires.next_fits; page_bound = c.requires.fresh_fits.0; file_reads = fresh_reads (machine c.args.words.now) (length c.args.files.now) c.args.process c.args.slot c.args.page.0 _ c.region_in-region.ensures c.requires.fresh_fits }

pub returns : goal.returns
returns c = record { words_after = c.own_frame.ensures; frames_after = c.fill_page.ensures ∙ (λ i. put_frame c.args.frames.now (c.pool-free.ensures i).next.0 (fill_of (state_of c.args.words.now c.args.frames.now c.args.files.now) (c.region_in-region.ensures i) c.args.page.0)) }
