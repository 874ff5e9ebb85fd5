-- `insert` makes room, puts the row and counts it.
use native.Mathlib.Omega.{arith}
use Rattle.paging.specs.MapperStepLaws.{insert_done}
use Rattle.paging.proofs.mapper.insert.Goals as goal

pub returns : goal.returns
returns c =
    let given = c.args in
    insert_done given.words.now given.process (omega arith) (omega arith) _ _ _ c.raise.auto.words c.put_row.auto.words given.at given.n given.row (omega arith) (omega arith) c.raise.ensures c.put_row.ensures c.put_count.ensures
