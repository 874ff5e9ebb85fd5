-- `take_out` closes the gap, clears the freed rows and counts what is left.
use mathlib.Core.Path.{refl}
use native.Mathlib.Omega.{arith}
use Rattle.paging.specs.MapperStepLaws.{take_out_done}
use Rattle.paging.proofs.mapper.take_out.Goals as goal

pub returns : goal.returns
returns c =
    let given = c.args in
    take_out_done given.words.now given.process (omega arith) (omega arith) _ _ _ c.lower.auto.words c.clear.auto.words given.from given.to given.n _ (omega arith) (omega arith) (omega arith) refl c.lower.ensures c.clear.ensures c.put_count.ensures
