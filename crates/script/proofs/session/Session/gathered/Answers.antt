-- `Session::gathered` meets its contract: a line ends in what was read.
use Rattle.std.proofs.Common.{sym, arith, length-take-le}
use Rattle.script.proofs.session.Session.gathered.Goals as goal

pub slice_bounds-line_end-end : goal.slice_bounds-line_end-end
slice_bounds-line_end-end c = sym (length-take-le _ _ c.requires.reads.1)

pub line_end-end-requires : goal.line_end-end-requires
line_end-end-requires c = let p = c.requires.reads.0 in omega (arith, length-take-le c.args.self.to c.args.input.now c.requires.reads.1)

pub slice_bounds-gather-end : goal.slice_bounds-gather-end
slice_bounds-gather-end c = let e = c.line_end-end.ensures.lower_bound.1 in let k = c.requires.reads.1 in omega (arith, length-take-le c.args.self.to c.args.input.now c.requires.reads.1)
