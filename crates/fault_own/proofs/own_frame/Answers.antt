-- `own_frame`: mapped, claimed, entered.
use native.Mathlib.Omega.{arith}
use Rattle.fault_own.specs.OwnedLaws.{process_low, frame_row, own_ready, own_done}
use borrow.Author.Rules.{rules}
use Rattle.fault_own.proofs.own_frame.Goals as goal

pub region_in-region-requires : goal.region_in-region-requires
region_in-region-requires c = let low = process_low _ _ _ _ c.requires.own_fits in record { words_len = search rules; process_bound = search rules }

pub map_anew-requires : goal.map_anew-requires
map_anew-requires c = let low = process_low _ _ _ _ c.requires.own_fits in record { words_len = search rules; process_bound = search rules }

pub claim-requires : goal.claim-requires
claim-requires c = let low = frame_row _ _ _ _ c.requires.own_fits _ c.pool-free.ensures _ c.region_in-region.ensures in record { words_len = search rules; frame_bound = search rules }

pub overflow_mul-process : goal.overflow_mul-process
overflow_mul-process c = let low = process_low _ _ _ _ c.requires.own_fits in omega arith

pub overflow_add-process : goal.overflow_add-process
overflow_add-process c = let low = process_low _ _ _ _ c.requires.own_fits in let slot = c.requires.own_fits.low in omega arith

pub re_entry-requires : goal.re_entry-requires
re_entry-requires c = let low = process_low _ _ _ _ c.requires.own_fits in let slot = c.requires.own_fits.low in record { words_len = search rules; row_bound = omega arith; entry_ready = own_ready _ _ _ _ c.requires.own_fits _ c.pool-free.ensures _ c.region_in-region.ensures _ c.map_anew.ensures _ c.claim.ensures }

pub returns : goal.returns
returns c = own_done _ _ _ _ c.requires.own_fits _ c.pool-free.ensures _ c.region_in-region.ensures _ c.map_anew.ensures _ c.claim.ensures _ c.re_entry.ensures
