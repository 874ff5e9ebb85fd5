-- `VirtualMemoryManager::release` is release_call: one law a way.
use Rattle.segments.specs.CallLaws.{released_refused, release_no, release_inside, release_yes, checked_most}
use Rattle.segments.proofs.table.VirtualMemoryManager.release.Goals as goal

pub returns-in-Err : goal.returns-in-Err
returns-in-Err c = released_refused _ c.args.segment _ c.checked.ensures _ c.in-Err.is

pub place-requires : goal.place-requires
place-requires c = checked_most _ c.args.segment _ c.checked.ensures c.in_default.is

pub returns-in_default-place : goal.returns-in_default-place
returns-in_default-place c = release_no _ c.args.segment _ c.checked.ensures c.in_default.is _ c.place.ensures c.in_default-place.is

pub remove_at-requires : goal.remove_at-requires
remove_at-requires c = record { count_bound = checked_most _ c.args.segment _ c.checked.ensures c.in_default.is; at_lt_count = release_inside _ c.args.segment _ c.checked.ensures c.in_default.is _ c.place.ensures _ c.in-Some.is c.well_formed.0.1.1.1.1.1.0.1.0.1 }

pub returns : goal.returns
returns c = release_yes _ c.args.segment _ c.checked.ensures c.in_default.is _ c.place.ensures _ c.in-Some.is _ c.remove_at.ensures
