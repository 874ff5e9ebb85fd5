-- `Session::filled` meets its contract: what the session keeps is kept by each way out.
use Rattle.std.proofs.Common.{arith}
use Rattle.std.proofs.lemmas.Result.{IfOk-weaker}
use Rattle.script.proofs.session.Session.filled.Goals as goal

pub returns-clause-kept : goal.returns-clause-kept
returns-clause-kept g c =
    IfOk-weaker c.read.result _ _
    (λ s kept line frames files rows k. kept _ _ _ _ _ (record { held = k.held; at = let none = c.in_ok-output.ensures in omega arith; room = k.room; lends = k.lends; listed = k.listed }))
    c.read.ensures.kept
