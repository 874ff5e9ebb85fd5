-- `populate_page`: mapped well enough, or a fault.
use Rattle.fault_way.specs.WayLaws.{words_translate}
use Rattle.fault.specs.GoesLaws.{fits_words, fits_process}
use Rattle.populate.specs.PopulateWalkLaws.{page_well, page_fault}
use borrow.Author.Rules.{rules}
use Rattle.populate.proofs.populate_page.Goals as goal

pub translate-mapped-requires : goal.translate-mapped-requires
translate-mapped-requires c = let low = fits_process _ _ _ _ _ _ c.requires.fault_fits in record { words_len = search rules; process_bound = search rules }

pub returns-then-well_mapped : goal.returns-then-well_mapped
returns-then-well_mapped c = page_well _ _ _ _ c.args.slot _ _ _ (words_translate _ (fits_words _ _ _ _ _ _ c.requires.fault_fits) _ (fits_process _ _ _ _ _ _ c.requires.fault_fits) _ _ c.translate-mapped.ensures) _ c.well_mapped.ensures c.if-well_mapped.true

pub returns : goal.returns
returns c = page_fault _ _ _ _ c.args.slot _ _ _ (words_translate _ (fits_words _ _ _ _ _ _ c.requires.fault_fits) _ (fits_process _ _ _ _ _ _ c.requires.fault_fits) _ _ c.translate-mapped.ensures) _ c.well_mapped.ensures c.if-well_mapped.false _ _ _ c.handle_fault.ensures
