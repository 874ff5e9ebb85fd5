-- `show::put_list` meets its contract: a list has 64 rows at most.
use Rattle.std.proofs.Common.{arith}
use Rattle.script.specs.FewLaws.{few}
use Rattle.script.proofs.show.put_list.Goals as goal

pub put_rows-next-requires : goal.put_rows-next-requires
put_rows-next-requires c =
    let l = c.segments-list in record { count_bound = few _ l.result _ l.ensures c.in-Ok.is; at_in_bounds = omega arith }
