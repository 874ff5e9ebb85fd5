-- `VirtualMemoryManager::mark_as_reserved` is mark_call: one law a way.
use Rattle.laws.specs.ResultLaws.{some_told, none_told}
use mathlib.Core.Path.{sym, ◌∙◌, refl}
use Rattle.segments.specs.CallLaws.{marked_refused, mark_reserved, mark_again, mark_full, mark_done, checked_most}
use Rattle.segments.proofs.table.VirtualMemoryManager.mark_as_reserved.Goals as goal

pub returns-in-Err : goal.returns-in-Err
returns-in-Err c = marked_refused _ c.args.segment _ c.checked.ensures _ c.in-Err.is

pub overlaps_any-requires : goal.overlaps_any-requires
overlaps_any-requires c = sym c.checked.ensures ∙ c.in_default.is

pub returns-then-overlaps_any : goal.returns-then-overlaps_any
returns-then-overlaps_any c = mark_reserved _ c.args.segment _ c.checked.ensures c.in_default.is _ refl _ c.overlaps_any.ensures c.if-overlaps_any.true

pub place-requires : goal.place-requires
place-requires c = checked_most _ c.args.segment _ c.checked.ensures c.in_default.is

pub returns-then-is_some : goal.returns-then-is_some
returns-then-is_some c = mark_again _ c.args.segment _ c.checked.ensures c.in_default.is _ c.place.ensures _ c.overlaps_any.ensures c.if-overlaps_any.false _ (some_told _ (sym c.is_some.ensures ∙ c.if-is_some.true)).1

pub returns-then-self-ge64 : goal.returns-then-self-ge64
returns-then-self-ge64 c = mark_full _ c.args.segment _ c.checked.ensures c.in_default.is _ c.place.ensures _ c.overlaps_any.ensures c.if-overlaps_any.false (none_told _ (sym c.is_some.ensures ∙ c.if-is_some.false)) c.if-self-ge64.true

pub insert-requires : goal.insert-requires
insert-requires c = c.if-self-ge64.false

pub returns : goal.returns
returns c = mark_done _ c.args.segment _ c.checked.ensures c.in_default.is _ c.place.ensures _ c.overlaps_any.ensures c.if-overlaps_any.false (none_told _ (sym c.is_some.ensures ∙ c.if-is_some.false)) c.if-self-ge64.false _ c.insert.ensures
