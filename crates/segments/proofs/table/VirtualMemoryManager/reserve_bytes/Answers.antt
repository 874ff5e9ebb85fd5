-- `VirtualMemoryManager::reserve_bytes` is reserve_call: one law a way.
use mathlib.Core.Path.{sym, ◌∙◌}
use Rattle.segments.specs.CallLaws.{reserve_unsound, reserve_no_space, reserve_table_full, reserve_done}
use Rattle.segments.proofs.table.VirtualMemoryManager.reserve_bytes.Goals as goal

pub returns-then-not-is_sound : goal.returns-then-not-is_sound
returns-then-not-is_sound c = reserve_unsound _ c.args.len _ c.is_sound.ensures c.if-not-is_sound.true

pub lowest_free-requires : goal.lowest_free-requires
lowest_free-requires c = sym c.is_sound.ensures ∙ c.if-not-is_sound.false

pub returns-in_default : goal.returns-in_default
returns-in_default c = reserve_no_space _ _ _ c.is_sound.ensures c.if-not-is_sound.false _ c.lowest_free.ensures c.in_default.is

pub returns-then-self-ge64 : goal.returns-then-self-ge64
returns-then-self-ge64 c = reserve_table_full _ _ _ c.is_sound.ensures c.if-not-is_sound.false _ c.lowest_free.ensures _ _ c.in-Some.is c.if-self-ge64.true

pub insert-requires : goal.insert-requires
insert-requires c = c.if-self-ge64.false

pub returns : goal.returns
returns c = reserve_done _ _ _ c.is_sound.ensures c.if-not-is_sound.false _ c.lowest_free.ensures _ _ c.in-Some.is c.if-self-ge64.false _ c.insert.ensures
