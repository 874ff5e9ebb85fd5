-- `tell_answer`: the number, and the first value or zero.
use mathlib.Core.Path.{refl, sym}
use Rattle.model.specs.Meant.{reply}
use Rattle.call_rows.specs.Told.{first_value}
use Rattle.call_rows.specs.ToldLaws.{told_first, told_set, done_first, first_length}
use Rattle.call_rows.proofs.told.tell_answer.Goals as goal

pub returns-in-Done : goal.returns-in-Done
unfolding reply first_value
returns-in-Done c = let the = told_set _ _ c.in-Done.is _ c.tell_done.ensures c.args.out.now 0 _ refl (done_first c.in-Done.done) in record { value = the.0; out_after = the.1 }

pub slice_bounds-tell_opened-end-in-Opened : goal.slice_bounds-tell_opened-end-in-Opened
slice_bounds-tell_opened-end-in-Opened c = sym (first_length c.args.out.now c.requires)

pub tell_opened-requires : goal.tell_opened-requires
tell_opened-requires c = first_length c.args.out.now c.requires

pub returns-in-Opened : goal.returns-in-Opened
unfolding reply
returns-in-Opened c = let the = told_first _ _ c.in-Opened.is _ c.tell_opened.ensures.value c.args.out.now c.tell_opened.new.out c.requires c.tell_opened.auto.out c.tell_opened.ensures.out_after in record { value = the.0; out_after = the.1 }

pub slice_bounds-tell_placed-end-in-Placed : goal.slice_bounds-tell_placed-end-in-Placed
slice_bounds-tell_placed-end-in-Placed c = sym (first_length c.args.out.now c.requires)

pub tell_placed-requires : goal.tell_placed-requires
tell_placed-requires c = first_length c.args.out.now c.requires

pub returns-in-Placed : goal.returns-in-Placed
unfolding reply
returns-in-Placed c = let the = told_first _ _ c.in-Placed.is _ c.tell_placed.ensures.value c.args.out.now c.tell_placed.new.out c.requires c.tell_placed.auto.out c.tell_placed.ensures.out_after in record { value = the.0; out_after = the.1 }

pub slice_bounds-tell_covering-end-in-Covering : goal.slice_bounds-tell_covering-end-in-Covering
slice_bounds-tell_covering-end-in-Covering c = sym (first_length c.args.out.now c.requires)

pub tell_covering-requires : goal.tell_covering-requires
tell_covering-requires c = first_length c.args.out.now c.requires

pub returns-in-Covering : goal.returns-in-Covering
unfolding reply
returns-in-Covering c = let the = told_first _ _ c.in-Covering.is _ c.tell_covering.ensures.value c.args.out.now c.tell_covering.new.out c.requires c.tell_covering.auto.out c.tell_covering.ensures.out_after in record { value = the.0; out_after = the.1 }

pub slice_bounds-tell_loaded-end-in-Loaded : goal.slice_bounds-tell_loaded-end-in-Loaded
slice_bounds-tell_loaded-end-in-Loaded c = sym (first_length c.args.out.now c.requires)

pub tell_loaded-requires : goal.tell_loaded-requires
tell_loaded-requires c = first_length c.args.out.now c.requires

pub returns-in-Loaded : goal.returns-in-Loaded
unfolding reply
returns-in-Loaded c = let the = told_first _ _ c.in-Loaded.is _ c.tell_loaded.ensures.value c.args.out.now c.tell_loaded.new.out c.requires c.tell_loaded.auto.out c.tell_loaded.ensures.out_after in record { value = the.0; out_after = the.1 }

pub returns-in-Counted : goal.returns-in-Counted
unfolding reply first_value
returns-in-Counted c = let the = told_set _ _ c.in-Counted.is _ c.tell_counted.ensures.value c.args.out.now _ _ c.tell_counted.ensures.out_after refl in record { value = the.0; out_after = the.1 }
