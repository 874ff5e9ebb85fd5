-- `VirtualMemoryManager::overlaps_any` is overlapsb: one law a way.
use native.Mathlib.Omega.{arith}
use mathlib.Core.Path.{refl, ◌∙◌}
use Rattle.segment.specs.FormLaws.{form_last}
use Rattle.segments.specs.CallLaws.{any_empty, any_some, checked_most, checked_formed}
use Rattle.segments.proofs.table.VirtualMemoryManager.overlaps_any.Goals as goal

pub returns-then-len-eq0 : goal.returns-then-len-eq0
returns-then-len-eq0 c = any_empty c.args.self c.args.segment c.if-len-eq0.true

pub words-words-requires : goal.words-words-requires
words-words-requires c = checked_most _ c.args.segment _ refl c.requires

pub overflow_add-segment : goal.overflow_add-segment
overflow_add-segment c = let l = form_last c.args.segment (omega arith) (checked_formed c.args.self c.args.segment c.requires) in omega arith

pub find_overlapping_at-requires : goal.find_overlapping_at-requires
find_overlapping_at-requires c = let m = checked_most c.args.self c.args.segment _ refl c.requires in let w = c.words-words.ensures.0 in omega arith

pub returns : goal.returns
returns c = c.is_some.ensures ∙ any_some c.args.self c.args.segment c.if-len-eq0.false _ c.words-words.ensures.1 _ c.find_overlapping_at.ensures
