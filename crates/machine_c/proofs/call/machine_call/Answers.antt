-- `machine_call`: start, a call, or none.
use mathlib.Core.Path.{sym, ◌∙◌}
use Rattle.machine_c.specs.CalledLaws.{call_short, call_starts, call_none, call_runs}
use Rattle.machine_c.proofs.call.machine_call.Goals as goal

pub returns-then-out-ne65 : goal.returns-then-out-ne65
returns-then-out-ne65 c = call_short c.args.call.now c.args.words.now c.args.frames.now c.args.files.now c.args.out.now c.if-out-ne65.true

pub returns-then-is_start : goal.returns-then-is_start
returns-then-is_start c = call_starts c.args.call.now c.args.words.now c.args.frames.now c.args.files.now c.args.out.now c.if-out-ne65.false (sym c.is_start.ensures ∙ c.if-is_start.true) _ _ _ c.start_call.ensures.start_told c.start_call.ensures.out_after

pub returns-in-None : goal.returns-in-None
returns-in-None c = call_none c.args.call.now c.args.words.now c.args.frames.now c.args.files.now c.args.out.now c.if-out-ne65.false (sym c.is_start.ensures ∙ c.if-is_start.false) (sym c.in-None.is ∙ c.call_in.ensures)

pub returns-in-Some : goal.returns-in-Some
returns-in-Some c = call_runs c.args.call.now c.args.words.now c.args.frames.now c.args.files.now c.args.out.now c.if-out-ne65.false (sym c.is_start.ensures ∙ c.if-is_start.false) _ (sym c.in-Some.is ∙ c.call_in.ensures) _ _ _ _ (c.run_call.ensures.value, (c.run_call.ensures.out_after, c.run_call.ensures.leaves))
