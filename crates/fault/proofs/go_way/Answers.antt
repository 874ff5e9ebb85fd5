-- `go_way`: one law for each way.
use Rattle.fault.specs.GoesLaws.{fits_process, copy_asks, fill_asks, gone_refused, gone_already, gone_restored, gone_mapped, gone_copied, gone_filled}
use borrow.Author.Rules.{rules}
use Rattle.fault.proofs.go_way.Goals as goal

pub returns-in-Refuse : goal.returns-in-Refuse
returns-in-Refuse c = gone_refused _ _ _ _ _ _ c.requires.fault_fits c.args.way _ c.in-Refuse.is

pub returns-in-Already : goal.returns-in-Already
returns-in-Already c = gone_already _ _ _ _ _ _ c.requires.fault_fits c.args.way c.in-Already.is

pub restore-requires : goal.restore-requires
restore-requires c = let low = fits_process _ _ _ _ _ _ c.requires.fault_fits in record { words_len = search rules; process_bound = search rules }

pub returns-in-Restore : goal.returns-in-Restore
returns-in-Restore c = gone_restored _ _ _ _ _ _ c.requires.fault_fits c.args.way c.in-Restore.is _ c.restore.ensures

pub map-requires : goal.map-requires
map-requires c = let low = fits_process _ _ _ _ _ _ c.requires.fault_fits in record { words_len = search rules; process_bound = search rules }

pub returns-in-Map : goal.returns-in-Map
returns-in-Map c = gone_mapped _ _ _ _ _ _ c.requires.fault_fits c.args.way _ _ c.in-Map.is c.requires.goes _ c.map.ensures.words_after

pub copy_page-requires : goal.copy_page-requires
copy_page-requires c = let the = copy_asks _ _ _ _ _ _ c.requires.fault_fits c.args.way _ c.in-Copy.is c.requires.goes in record { words_len = search rules; own_fits = the.0; next_fits = the.1.0; frame_in_bounds = the.1.1 }

pub returns-in-Copy : goal.returns-in-Copy
returns-in-Copy c = gone_copied _ _ _ _ _ _ c.requires.fault_fits c.args.way _ c.in-Copy.is _ _ c.copy_page.ensures.words_after c.copy_page.ensures.frames_after

pub fresh_page-requires : goal.fresh_page-requires
fresh_page-requires c = let the = fill_asks _ _ _ _ _ _ c.requires.fault_fits c.args.way c.in-Fill.is c.requires.goes in record { words_len = search rules; own_fits = the.0; next_fits = the.1.0; fresh_fits = the.1.1 }

pub returns-in-Fill : goal.returns-in-Fill
returns-in-Fill c = gone_filled _ _ _ _ _ _ c.requires.fault_fits c.args.way c.in-Fill.is _ _ c.fresh_page.ensures.words_after c.fresh_page.ensures.frames_after
