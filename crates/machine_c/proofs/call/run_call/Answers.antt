-- `run_call`: the call on zeros.
use Rattle.machine_c.specs.CalledLaws.{run_out}
use Rattle.machine_c.proofs.call.run_call.Goals as goal

pub returns : goal.returns
returns c = let the = run_out _ _ _ _ _ _ _ _ _ _ _ c.put_nothing.ensures c.run-answer.ensures c.run-answer.auto.starts c.tell_answer.ensures.value c.tell_answer.ensures.out_after in record { value = the.0; out_after = the.1.0; leaves = the.1.1 }
