-- `region_core`: the region that is named, or why there is none.
use Rattle.std.specs.Prelude.{◌≡◌, Err}
use native.Mathlib.Omega.{arith}
use Rattle.lookup.specs.NamedLaws.{named_slot, named_no}
use Rattle.lookup.specs.NamedSlotLaws.{named_small}
use Rattle.regions.specs.LookLaws.{region_refused, region_answered}
use borrow.Author.Rules.{rules}
use Rattle.regions.proofs.look.region_core.Goals as goal

pub overflow_mul-process : goal.overflow_mul-process
overflow_mul-process c = let small = named_small _ c.requires.sound_words _ _ _ _ c.region_named.ensures c.in_ok-slot.was in omega arith

pub overflow_add-process : goal.overflow_add-process
overflow_add-process c = let small = named_small _ c.requires.sound_words _ _ _ _ c.region_named.ensures c.in_ok-slot.was in omega arith

pub region_at-row-requires : goal.region_at-row-requires
region_at-row-requires c = let small = named_small _ c.requires.sound_words _ _ _ _ c.region_named.ensures c.in_ok-slot.was in record { words_len = search rules; i_bound = search rules }

pub returns-in_err-slot : goal.returns-in_err-slot
returns-in_err-slot c = let e : c.from_residual.result ≡ Err c.in_err-slot.field-0.0 = search rules in rw e (region_refused _ _ _ _ (named_no _ _ _ _ c.region_named.ensures c.in_err-slot.was))

pub returns : goal.returns
returns c = let named = named_slot _ _ _ _ c.region_named.ensures c.in_ok-slot.was in region_answered _ _ _ named.0 _ _ c.region_at-row.ensures named.1
