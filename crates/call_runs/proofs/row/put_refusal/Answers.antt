-- `put_refusal`: zeros, then the number of BadTable.
use native.Mathlib.Omega.{arith}
use Rattle.call_runs.specs.RowLaws.{refusal_put, refusal_long}
use Rattle.call_runs.proofs.row.put_refusal.Goals as goal

pub bounds-row-0 : goal.bounds-row-0
bounds-row-0 c = let l = refusal_long c.args.row.now _ c.requires c.put_zeros.ensures in omega arith

pub returns : goal.returns
returns c = refusal_put c.args.row.now _ c.requires c.put_zeros.ensures
