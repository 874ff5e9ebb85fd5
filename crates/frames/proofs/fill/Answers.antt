-- `frames::fill` meets its contract: the file's bytes and the zeros behind them are the padded part. Assumes nothing.
use Rattle.frames.specs.FrameLaws.{fill_is}
use Rattle.frames.proofs.fill.Goals as goal

pub returns : goal.returns
returns c =
    let here = c.first_byte-base.ensures in
    fill_is c.args.frames.now c.args.files.now _ _ c.args.f.0 _ c.args.at c.args.count here
    c.requires.f_in_bounds c.requires.count_bound c.requires.count_in_bounds c.put_bytes.ensures c.put_zeros.ensures
