-- `start_call`: what start answers, as a number; zeros.
use Rattle.call_rows.specs.AskedLaws.{started}
use Rattle.machine_c.specs.CalledLaws.{start_told}
use Rattle.machine_c.proofs.call.start_call.Goals as goal

pub slice_bounds-start-count : goal.slice_bounds-start-count
slice_bounds-start-count c = started c.args.call.now c.requires.call_value

pub slice_bounds-start-start : goal.slice_bounds-start-start
slice_bounds-start-start c = started c.args.call.now c.requires.call_value

pub returns : goal.returns
returns c = record { start_told = start_told c.args.call.now _ _ _ _ _ _ c.requires.call_value c.start.ensures c.tell_done.ensures; out_after = c.put_nothing.ensures }
