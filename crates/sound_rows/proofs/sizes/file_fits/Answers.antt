-- `file_fits` is file_fits_in.
use Rattle.sound_rows.specs.SizesLaws.{lent_row, free_row}
use Rattle.sound_rows.proofs.sizes.file_fits.Goals as goal

pub returns-then-i-count : goal.returns-then-i-count
returns-then-i-count c = lent_row c.args.count c.args.bytes c.args.i c.args.row _ c.if-i-count.true c.is_lent.ensures

pub returns : goal.returns
returns c = free_row c.args.count c.args.bytes c.args.i c.args.row _ c.if-i-count.false c.is_free_file.ensures
