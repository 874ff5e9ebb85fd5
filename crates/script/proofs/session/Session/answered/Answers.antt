-- `Session::answered` meets its contract: a line is run, then its answer put.
use Rattle.std.proofs.lemmas.Result.{IfOk-weaker}
use Rattle.script.proofs.session.Session.answered.Goals as goal

pub returns-clause-by_index : goal.returns-clause-by_index
returns-clause-by_index g c =
    IfOk-weaker c.put.result _ _ (λ s reads input x. reads input (c.ran-heard.ensures.by_index input (c.taken-taken.ensures.by_index input x))) c.put.ensures.by_index
