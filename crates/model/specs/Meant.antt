-- The calls that code has, as the model's, and their answers as number and values (RULES O1).
use Rattle.std.specs.Prelude.{Bool, true, false, List, ◌∷◌, ℕ, Err}
use Rattle.model.specs.declared.Call as code
use Rattle.model.specs.declared.Call.TheVariants as asks
use Rattle.model.specs.declared.Answer as code_answer
use Rattle.model.specs.declared.Answer.TheVariants as says
use Rattle.answers.specs.declared.Refusal.{Refusal}
use Rattle.model.specs.Answers.{Reply, of_done, of_opened, of_placed, of_covering, of_loaded}
use Rattle.model.specs.Create.{is_copy, is_eager}
use Rattle.model.specs.Run.{Call}
use Rattle.model.specs.Run as run

-- the model's call that a call means
unfoldable pub meant : code.Call → Call
meant asks.Sound = run.sound
meant (asks.Open a size) = run.open_process a.0 size
meant (asks.Close p) = run.close p
meant (asks.CreatePrivate p place population size flags fork thread) = run.create_private p place (is_eager population) size flags (is_copy fork) thread
meant (asks.CreateFile p place size flags fork thread file offset len) = run.create_file p place size flags (is_copy fork) thread file offset len
meant (asks.CreateShared p place size) = run.create_shared p place size
meant (asks.Remove p a) = run.remove p a.0
meant (asks.Clear p) = run.clear p
meant (asks.Carve p a e) = run.carve p a e
meant (asks.Covers p a e) = run.covers p a e
meant (asks.Region p a) = run.region p a.0
meant (asks.Regions p) = run.regions p
meant (asks.Fault p a w) = run.fault p a.0 w
meant (asks.Populate p a len w) = run.populate p a.0 len w
meant (asks.Eager p) = run.eager p
meant (asks.CloneRegion p a q) = run.clone_region p a.0 q
meant (asks.Clone p q) = run.clone p q
meant (asks.Protect p a flags) = run.protect p a.0 flags
meant (asks.Pin p a) = run.pin p a.0
meant (asks.Unpin p a) = run.unpin p a.0
meant (asks.Load p a) = run.load p a.0
meant (asks.Store p a b) = run.store p a.0 b

-- an answer as number and values, with what stands in the memory lent for starts
unfoldable pub reply : code_answer.Answer → List ℕ → Reply
reply (says.Done r) starts = of_done r
reply (says.Opened r) starts = of_opened r
reply (says.Placed r) starts = of_placed r
reply (says.Covering r) starts = of_covering r
reply (says.Loaded r) starts = of_loaded r
reply (says.Counted r) starts = record { number = (of_done r.done).number; values = r.count ∷ starts }

-- a refusal in the shape of a call's answer
unfoldable pub refused : code.Call → Refusal → code_answer.Answer
refused asks.Sound why = says.Done (Err why)
refused (asks.Open a size) why = says.Opened (Err why)
refused (asks.Close p) why = says.Done (Err why)
refused (asks.CreatePrivate p place population size flags fork thread) why = says.Placed (Err why)
refused (asks.CreateFile p place size flags fork thread file offset len) why = says.Placed (Err why)
refused (asks.CreateShared p place size) why = says.Placed (Err why)
refused (asks.Remove p a) why = says.Done (Err why)
refused (asks.Clear p) why = says.Done (Err why)
refused (asks.Carve p a e) why = says.Counted (record { done = Err why; count = 0 })
refused (asks.Covers p a e) why = says.Covering (Err why)
refused (asks.Region p a) why = says.Placed (Err why)
refused (asks.Regions p) why = says.Counted (record { done = Err why; count = 0 })
refused (asks.Fault p a w) why = says.Done (Err why)
refused (asks.Populate p a len w) why = says.Done (Err why)
refused (asks.Eager p) why = says.Done (Err why)
refused (asks.CloneRegion p a q) why = says.Done (Err why)
refused (asks.Clone p q) why = says.Done (Err why)
refused (asks.Protect p a flags) why = says.Done (Err why)
refused (asks.Pin p a) why = says.Done (Err why)
refused (asks.Unpin p a) why = says.Done (Err why)
refused (asks.Load p a) why = says.Loaded (Err why)
refused (asks.Store p a b) why = says.Done (Err why)

-- whether an answer is one that lists starts
unfoldable pub counts : code_answer.Answer → Bool
counts (says.Done r) = false
counts (says.Opened r) = false
counts (says.Placed r) = false
counts (says.Covering r) = false
counts (says.Loaded r) = false
counts (says.Counted r) = true
