-- `make`: the run is taken, and the row goes into the free slot, last in the list.
use Rattle.create.specs.MadeLaws.{plan_run, plan_slot, place_left, makes}
use borrow.Author.Rules.{rules}
use Rattle.create.proofs.make.make.Goals as goal

pub take_run-requires : goal.take_run-requires
take_run-requires c = let a = c.args in let run = plan_run a.words.now a.frames.now c.requires.sound_frames a.process c.requires.process_bound a.region a.plan c.requires.plan_fits _ c.pages_for.ensures in record { words_len = search rules; run_fits = search rules }

pub add_region-requires : goal.add_region-requires
add_region-requires c = let a = c.args in let slot = plan_slot a.words.now a.frames.now c.requires.sound_frames a.process c.requires.process_bound a.region a.plan c.requires.plan_fits in let room = place_left a.words.now a.frames.now c.requires.sound_frames a.process c.requires.process_bound a.region a.plan c.requires.plan_fits _ _ c.take_run.ensures.words_after in record { words_len = search rules; process_bound = search rules; slot_bound = search rules; process_bound_2 = search rules }

pub returns : goal.returns
returns c = let a = c.args in makes a.words.now a.frames.now c.requires.sound_frames a.process c.requires.process_bound a.region a.plan c.requires.plan_fits _ c.pages_for.ensures _ c.take_run.ensures.words_after _ c.placed_at-row.ensures _ _ c.add_region.ensures c.take_run.ensures.frames_after
