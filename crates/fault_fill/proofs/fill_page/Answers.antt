-- `fill_page`: no file, none of its bytes, or some.
use Prim.Native.Nat.{◌+◌}
use native.Mathlib.Omega.{arith}
use lib.ListN.{length}
use Rattle.model.specs.Layout.{machine}
use Rattle.fault_fill.specs.FillLaws.{fill_fits, filled_zeros, filled_bytes, filled_none}
use borrow.Author.Rules.{rules}
use Rattle.fault_fill.proofs.fill_page.Goals as goal

pub returns-then-region-ne-FILE_BACKED : goal.returns-then-region-ne-FILE_BACKED
returns-then-region-ne-FILE_BACKED c = filled_zeros _ _ _ _ _ _ _ c.if-region-ne-FILE_BACKED.true c.zero.ensures

pub overflow_add-at : goal.overflow_add-at
overflow_add-at c = let h = (c.requires.file_reads c.if-region-ne-FILE_BACKED.false).0 in let e = c.past_start.ensures in omega arith

pub returns-then-count-eq0 : goal.returns-then-count-eq0
returns-then-count-eq0 c = filled_none _ _ _ _ _ _ _ c.if-region-ne-FILE_BACKED.false _ c.file_of-file.ensures _ c.past_start.ensures _ c.from_file.ensures _ c.in_file-count.ensures c.if-count-eq0.true c.zero-then-count-eq0.ensures

pub overflow_add-file : goal.overflow_add-file
overflow_add-file c =
    let few = fill_fits (machine c.args.words.now) (length c.args.files.now) c.args.region c.args.page.0 (c.args.region.offset + c.past_start.result) c.from_file.result c.in_file-count.result c.file_of-file.result c.requires.file_reads c.if-region-ne-FILE_BACKED.false c.file_of-file.ensures c.from_file.ensures c.in_file-count.ensures c.if-count-eq0.false in
    let a = few.0 in
    omega arith

pub fill-requires : goal.fill-requires
fill-requires c =
    let few = fill_fits (machine c.args.words.now) (length c.args.files.now) c.args.region c.args.page.0 (c.args.region.offset + c.past_start.result) c.from_file.result c.in_file-count.result c.file_of-file.result c.requires.file_reads c.if-region-ne-FILE_BACKED.false c.file_of-file.ensures c.from_file.ensures c.in_file-count.ensures c.if-count-eq0.false in
    let a = few.0 in
    let b = few.1.0 in
    let d = few.1.1 in record { f_in_bounds = search rules; count_bound = search rules; count_in_bounds = search rules }

pub returns : goal.returns
returns c = filled_bytes _ _ _ _ _ _ _ c.if-region-ne-FILE_BACKED.false _ c.file_of-file.ensures _ c.past_start.ensures _ c.from_file.ensures _ c.in_file-count.ensures c.fill.ensures
