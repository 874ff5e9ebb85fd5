-- `close` clears the process and frees its row.
use Rattle.model.specs.Layout.{machine}
use Rattle.remove.specs.ClearedLaws.{process_closes}
use Rattle.process.proofs.close.close.Goals as goal

pub returns : goal.returns
returns c = process_closes (machine c.args.words.now) c.args.process _ c.clear.ensures _ _ c.no_process.ensures c.put_process.ensures
