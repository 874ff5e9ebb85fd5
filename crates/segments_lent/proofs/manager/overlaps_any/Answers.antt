-- `overlaps_any` is overlapsb: one law a way.
use mathlib.Core.Path.{refl, sym, ◌∙◌}
use native.Mathlib.Omega.{arith}
use lib.ListN.{length-drop, length-take}
use Rattle.segment.specs.FormLaws.{form_last}
use Rattle.segments.specs.CallLaws.{any_empty, any_some, checked_most, checked_formed}
use Rattle.segments_lent.specs.LentWords.{manager_of}
use Rattle.segments_lent.specs.LentWordsLaws.{rows_lent}
use Rattle.segments_lent.specs.LentCallsLaws.{checked_length, checked_by_is}
use Rattle.segments_lent.proofs.manager.overlaps_any.Goals as goal

pub returns-then-len-eq0 : goal.returns-then-len-eq0
returns-then-len-eq0 c = any_empty (manager_of c.args.words.now) c.args.segment c.if-len-eq0.true

pub bounds-words-2 : goal.bounds-words-2
bounds-words-2 c = let l = checked_length c.args.words.now c.args.segment _ refl c.requires in omega arith

pub slice_bounds-find_overlapping_at-count : goal.slice_bounds-find_overlapping_at-count
slice_bounds-find_overlapping_at-count c = let l = checked_length c.args.words.now c.args.segment _ refl c.requires in omega arith

pub slice_bounds-find_overlapping_at-start : goal.slice_bounds-find_overlapping_at-start
slice_bounds-find_overlapping_at-start c = let l = checked_length c.args.words.now c.args.segment _ refl c.requires in omega arith

pub overflow_add-segment : goal.overflow_add-segment
overflow_add-segment c = let l = form_last c.args.segment (omega arith) (checked_formed (manager_of c.args.words.now) c.args.segment (sym (checked_by_is c.args.words.now c.args.segment _ refl c.requires) ∙ c.requires)) in omega arith

pub find_overlapping_at-requires : goal.find_overlapping_at-requires
find_overlapping_at-requires c = let l = checked_length c.args.words.now c.args.segment _ refl c.requires in let m = checked_most (manager_of c.args.words.now) c.args.segment _ (checked_by_is c.args.words.now c.args.segment _ refl c.requires) c.requires in rw (length-take, length-drop) (omega arith)

pub returns : goal.returns
returns c = let l = checked_length c.args.words.now c.args.segment _ refl c.requires in let m = checked_most (manager_of c.args.words.now) c.args.segment _ (checked_by_is c.args.words.now c.args.segment _ refl c.requires) c.requires in c.is_some.ensures ∙ any_some (manager_of c.args.words.now) c.args.segment c.if-len-eq0.false _ (rows_lent c.args.words.now l m) _ c.find_overlapping_at.ensures
