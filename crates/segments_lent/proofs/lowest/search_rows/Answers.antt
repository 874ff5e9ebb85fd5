-- The answers for `search_rows`.
use native.Mathlib.Omega.{arith}
use Rattle.segments_lent.specs.LentWords.{manager_of}
use Rattle.segments_lent.specs.LentWordsLaws.{sized}
use Rattle.segments.specs.CallLaws.{sound_most}
use Rattle.segments_lent.specs.OnePassLaws.{search_first, search_stop, search_more, search_none, search_end}
use Rattle.segments_lent.proofs.lowest.search_rows.Goals as goal

pub loop-i-init : goal.loop-i-init
loop-i-init c = search_first (manager_of c.args.words.now) c.args.len c.args.mem_last _ c.requires.len_bound

pub row_at-s-requires : goal.row_at-s-requires
row_at-s-requires c = let m = sound_most _ c.requires.words_value in record { words_len = c.requires.words_len; i_bound = omega arith }

pub overflow_add-probe : goal.overflow_add-probe
overflow_add-probe c = let f = c.loop-i.invariant.1.0.1 in omega arith

pub returns-then-probe-len : goal.returns-then-probe-len
returns-then-probe-len c = search_stop (manager_of c.args.words.now) (sized c.args.words.now) c.requires.words_value c.args.len c.args.mem_last _ _ c.loop-i.probe c.loop-i.i c.loop-i.invariant c.loop-i-test.true _ c.row_at-s.ensures c.if-probe-len.true

pub past-requires : goal.past-requires
past-requires c = let m = sound_most _ c.requires.words_value in let k = c.loop-i.invariant.1.0.0 in record { len_nonzero = c.requires.len_nonzero; len_bound = c.loop-i.invariant.1.0.1; s_bound = c.if-probe-len.false; restarts_bound = omega arith }

pub returns-in_err-probe : goal.returns-in_err-probe
returns-in_err-probe c = rw c.from_residual.ensures (search_none (manager_of c.args.words.now) (sized c.args.words.now) c.requires.words_value c.args.len c.args.mem_last _ _ c.loop-i.probe c.loop-i.i c.loop-i.invariant c.loop-i-test.true _ c.row_at-s.ensures c.if-probe-len.false _ c.past.ensures c.in_err-probe.was)

pub loop-i-preserved : goal.loop-i-preserved
loop-i-preserved c = search_more (manager_of c.args.words.now) (sized c.args.words.now) c.requires.words_value c.args.len c.args.mem_last _ _ c.loop-i.probe c.loop-i.i c.loop-i.invariant c.loop-i-test.true _ c.row_at-s.ensures c.if-probe-len.false _ c.past.ensures _ c.in_ok-probe.was

pub returns : goal.returns
returns c = search_end (manager_of c.args.words.now) (sized c.args.words.now) c.requires.words_value c.args.len c.args.mem_last _ _ c.loop-i.probe c.loop-i.i c.loop-i.invariant c.loop-i-test.false
