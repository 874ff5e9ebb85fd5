-- `VirtualMemoryManager::lowest_free` is lowest: no bytes, too many, or the search over the held rows.
use native.Mathlib.Omega.{arith}
use Rattle.segments.specs.CallLaws.{lowest_zero, lowest_more, lowest_search, sound_most, sound_arena_last, ahead_most}
use Rattle.segments.proofs.table.VirtualMemoryManager.lowest_free.Goals as goal

pub returns-then-len-eq0 : goal.returns-then-len-eq0
returns-then-len-eq0 c = lowest_zero c.args.self c.args.len c.if-len-eq0.true

pub returns-then-self-len : goal.returns-then-self-len
returns-then-self-len c = lowest_more c.args.self c.args.len c.if-len-eq0.false c.if-self-len.true

pub overflow_add-last : goal.overflow_add-last
overflow_add-last c = let l = sound_arena_last c.args.self c.requires (omega arith) in omega arith

pub words-words-requires : goal.words-words-requires
words-words-requires c = sound_most _ c.requires

pub lowest_start-requires : goal.lowest_start-requires
lowest_start-requires c = let m = sound_most c.args.self c.requires in let w = c.words-words.ensures.0 in record { count_in_bounds = omega arith; len_nonzero = omega arith; start_bound = ahead_most _ _ _ }

pub returns : goal.returns
returns c = lowest_search c.args.self c.args.len c.if-len-eq0.false c.if-self-len.false _ c.words-words.ensures.1 _ c.lowest_start.ensures
