-- `handle_fault`: the way is refused, or gone.
use Rattle.std.proofs.lemmas.Result.{err_from_is_err_and}
use Rattle.fault.specs.GoesLaws.{fits_words, fits_process, fits_slot, fits_page}
use Rattle.fault.specs.HandledLaws.{goes, handled_no, handled_yes}
use borrow.Author.Rules.{rules}
use Rattle.fault.proofs.handle_fault.Goals as goal

pub fault_way-way-requires : goal.fault_way-way-requires
fault_way-way-requires c = record { words_len = search rules; sound_words = fits_words _ _ _ _ _ _ c.requires.fault_fits; process_bound = fits_process _ _ _ _ _ _ c.requires.fault_fits; slot_bound = fits_slot _ _ _ _ _ _ c.requires.fault_fits }

pub way_refusal-requires : goal.way_refusal-requires
way_refusal-requires c = record { words_len = search rules; sound_words = fits_words _ _ _ _ _ _ c.requires.fault_fits; process_bound = fits_process _ _ _ _ _ _ c.requires.fault_fits; slot_bound = fits_slot _ _ _ _ _ _ c.requires.fault_fits; page_bound = fits_page _ _ _ _ _ _ c.requires.fault_fits }

pub returns-in_err-way_refusal : goal.returns-in_err-way_refusal
returns-in_err-way_refusal c =
    let p = err_from_is_err_and c.from_residual.result c.from_residual.ensures.1 in
    rw (p.1, p.2) (handled_no _ _ _ _ _ _ _ _ c.fault_way-way.ensures _ c.way_refusal.ensures _ c.in_err-way_refusal.was)

pub go_way-requires : goal.go_way-requires
go_way-requires c = record { words_len = search rules; fault_fits = c.requires.fault_fits; goes = goes c.args.words.now c.args.frames.now c.args.files.now _ _ _ _ _ c.fault_way-way.ensures _ c.way_refusal.ensures c.in_ok-way_refusal.was }

pub returns : goal.returns
returns c = handled_yes _ _ _ _ _ _ _ _ c.fault_way-way.ensures _ c.way_refusal.ensures c.in_ok-way_refusal.was _ _ c.go_way.ensures
