-- `take_run` zeroes and claims a run, where there is one.
use mathlib.Core.Path.{ap}
use lib.ListN.{length}
use Rattle.model.specs.Layout.{machine}
use Rattle.backing.specs.BackingSteps.{found_frame}
use Rattle.create.specs.MadeLaws.{run_fits, no_run_claimed, no_run_zeroed, run_claimed_is, run_zeroed_is}
use borrow.Author.Rules.{rules}
use Rattle.create.proofs.make.take_run.Goals as goal

pub zero_run-requires : goal.zero_run-requires
zero_run-requires c = let a = c.args in let bytes = (run_fits (found_frame a.run) a.count (length a.frames.now) _ (ap found_frame c.in-Some.is) c.requires.run_fits).1 in search rules

pub claim-requires : goal.claim-requires
claim-requires c = let a = c.args in let row = (run_fits (found_frame a.run) a.count (length a.frames.now) _ (ap found_frame c.in-Some.is) c.requires.run_fits).0 in record { words_len = search rules; frame_bound = search rules }

pub returns-in-Some : goal.returns-in-Some
returns-in-Some c = let a = c.args in let m = machine a.words.now in let l = a.frames.now in record { words_after = run_claimed_is m l (found_frame a.run) a.count _ (ap found_frame c.in-Some.is) _ c.claim.ensures; frames_after = run_zeroed_is m l (found_frame a.run) a.count _ (ap found_frame c.in-Some.is) _ c.zero_run.ensures }

pub returns : goal.returns
returns c = let a = c.args in let m = machine a.words.now in let l = a.frames.now in record { words_after = no_run_claimed m l (found_frame a.run) a.count (ap found_frame c.in_default.is); frames_after = no_run_zeroed m l (found_frame a.run) a.count (ap found_frame c.in_default.is) }
