-- `past` is past_row: one law a way.
use native.Mathlib.Omega.{arith}
use Rattle.segments_lent.specs.OnePassLaws.{past_clear, past_blocked, past_late, past_again}
use Rattle.segments_lent.proofs.lowest.past.Goals as goal

pub returns-then-not-overlaps : goal.returns-then-not-overlaps
returns-then-not-overlaps c = past_clear c.args.s c.args.probe c.args.len c.args.mem_last c.requires.len_bound c.requires.s_bound _ c.overlaps.ensures c.if-not-overlaps.true

pub returns-then-mem_last-s : goal.returns-then-mem_last-s
returns-then-mem_last-s c = past_blocked c.args.s c.args.probe c.args.len c.args.mem_last c.requires.len_bound c.requires.s_bound _ c.overlaps.ensures c.if-not-overlaps.false c.if-mem_last-s.true

pub returns-then-mem_last-start : goal.returns-then-mem_last-start
returns-then-mem_last-start c = past_late c.args.s c.args.probe c.args.len c.args.mem_last c.requires.len_bound c.requires.s_bound _ c.overlaps.ensures c.if-not-overlaps.false (omega arith)

pub returns : goal.returns
returns c = past_again c.args.s c.args.probe c.args.len c.args.mem_last c.requires.len_bound c.requires.s_bound _ c.overlaps.ensures c.if-not-overlaps.false (omega arith)
