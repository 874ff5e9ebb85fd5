-- The answers for `lowest_start`: one law for each way that the search goes.
use Rattle.std.proofs.Common.{◌∙◌, arith}
use Rattle.segment_search.specs.SegmentWords.{table_of}
use Rattle.segment_search.specs.SearchLaws.{search_late, search_free, search_blocked, search_again, way_begins, way_falls}
use Rattle.segment_search.proofs.+lowest_start.Goals as goal

pub returns-then-mem_last-start : goal.returns-then-mem_last-start
returns-then-mem_last-start t c = search_late _ c.args.mem_last c.args.len c.args.start _ (omega arith)

pub returns-then-mem_last-start-2 : goal.returns-then-mem_last-start-2
returns-then-mem_last-start-2 t c = search_late _ c.args.mem_last c.args.len c.args.start _ (omega arith)

pub find_overlapping_at-requires : goal.find_overlapping_at-requires
find_overlapping_at-requires t c = c.requires.count_in_bounds

pub returns-in_default : goal.returns-in_default
returns-in_default t c = search_free _ c.args.mem_last c.args.len c.args.start _ (omega arith) _ c.find_overlapping_at.ensures c.in_default.is

pub overflow_sub-mem_last-2 : goal.overflow_sub-mem_last-2
overflow_sub-mem_last-2 t c = way_begins _ c.args.mem_last c.args.len c.args.start c.args.restarts (omega arith) _ c.find_overlapping_at.ensures _ c.in-Some.is

pub returns-then-mem_last-s : goal.returns-then-mem_last-s
returns-then-mem_last-s t c = search_blocked _ c.args.mem_last c.args.len c.args.start c.args.restarts (omega arith) _ c.find_overlapping_at.ensures _ c.in-Some.is c.if-mem_last-s.true

pub overflow_add-s : goal.overflow_add-s
overflow_add-s t c = let b = way_begins _ c.args.mem_last c.args.len c.args.start c.args.restarts (omega arith) _ c.find_overlapping_at.ensures _ c.in-Some.is in omega arith

pub overflow_add-restarts : goal.overflow_add-restarts
overflow_add-restarts t c = let f = way_falls (table_of c.args.words.now c.args.count) c.args.mem_last c.args.len c.args.start c.args.restarts (omega arith) _ c.find_overlapping_at.ensures _ c.in-Some.is in omega (arith, c.requires.start_bound)

pub lowest_start-requires : goal.lowest_start-requires
lowest_start-requires t c = let f = way_falls (table_of c.args.words.now c.args.count) c.args.mem_last c.args.len c.args.start c.args.restarts (omega arith) _ c.find_overlapping_at.ensures _ c.in-Some.is in (omega (arith, c.requires.count_in_bounds), (c.requires.count_in_bounds, (c.requires.len_nonzero, omega (arith, c.requires.start_bound))))

pub returns : goal.returns
returns t c = c.lowest_start.ensures ∙ search_again _ c.args.mem_last c.args.len c.args.start c.args.restarts (omega arith) _ c.find_overlapping_at.ensures _ c.in-Some.is
