-- `place_of` is place_of: one law a way.
use native.Mathlib.Omega.{arith}
use Rattle.sound_frames.specs.HeldLaws.{not_held, held_frame, held_outside}
use Rattle.sound_frames.proofs.held.place_of.Goals as goal

pub returns-then-not-is_held : goal.returns-then-not-is_held
returns-then-not-is_held c = record { value = not_held c.args.is_held c.args.frame c.if-not-is_held.true; upper_bound = omega arith }

pub returns-then-frame : goal.returns-then-frame
returns-then-frame c = let h = c.if-frame.true in record { value = held_frame c.args.is_held c.args.frame c.if-not-is_held.false h; upper_bound = omega arith }

pub returns : goal.returns
returns c = record { value = held_outside c.args.is_held c.args.frame c.if-not-is_held.false c.if-frame.false; upper_bound = omega arith }
