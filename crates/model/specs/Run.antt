-- The call alphabet: the machine's calls as data, one step, and a run of them.
use Rattle.std.specs.Prelude.{Bool, List, [], ◌∷◌, ℕ}
use Rattle.model.specs.declared.File.{File}
use Rattle.model.specs.declared.Place.{Place}
use Rattle.model.specs.Machine.{State}
use Rattle.model.specs.Answers.{After, Reply, of_done, of_opened, of_placed, of_covering, of_loaded, of_listed}
use Rattle.model.specs.Calls as calls

pub data Call : Type 0 where
  start : List File → Call
  sound : Call
  open_process : (a size : ℕ) → Call
  close : (p : ℕ) → Call
  create_private : (p : ℕ) → Place → (whole : Bool) → (size flags : ℕ) → (copy thread : Bool) → Call
  create_file : (p : ℕ) → Place → (size flags : ℕ) → (copy thread : Bool) → (file offset len : ℕ) → Call
  create_shared : (p : ℕ) → Place → (size : ℕ) → Call
  remove : (p a : ℕ) → Call
  clear : (p : ℕ) → Call
  carve : (p a e : ℕ) → Call
  covers : (p a e : ℕ) → Call
  region : (p a : ℕ) → Call
  regions : (p : ℕ) → Call
  fault : (p a : ℕ) → (w : Bool) → Call
  populate : (p a len : ℕ) → (w : Bool) → Call
  eager : (p : ℕ) → Call
  clone_region : (p a q : ℕ) → Call
  clone : (p q : ℕ) → Call
  protect : (p a flags : ℕ) → Call
  pin : (p a : ℕ) → Call
  unpin : (p a : ℕ) → Call
  load : (p a : ℕ) → Call
  store : (p a b : ℕ) → Call

-- an answer as number and values (RULES O1)
abbrev pub replying : {A : Type 0} → (A → Reply) → After A → After Reply
replying f t = record { answer = f t.answer; state = t.state }

-- what a call answers and leaves
unfoldable pub call : Call → State → After Reply
call (start files) s = replying of_done (calls.start s files)
call sound s = replying of_done (calls.sound s)
call (open_process a size) s = replying of_opened (calls.open_process s a size)
call (close p) s = replying of_done (calls.close s p)
call (create_private p place whole size flags copy thread) s = replying of_placed (calls.create_private s p place whole size flags copy thread)
call (create_file p place size flags copy thread file offset len) s = replying of_placed (calls.create_file s p place size flags copy thread file offset len)
call (create_shared p place size) s = replying of_placed (calls.create_shared s p place size)
call (remove p a) s = replying of_done (calls.remove s p a)
call (clear p) s = replying of_done (calls.clear s p)
call (carve p a e) s = replying of_listed (calls.carve s p a e)
call (covers p a e) s = replying of_covering (calls.covers s p a e)
call (region p a) s = replying of_placed (calls.region s p a)
call (regions p) s = replying of_listed (calls.regions s p)
call (fault p a w) s = replying of_done (calls.fault s p a w)
call (populate p a len w) s = replying of_done (calls.populate s p a len w)
call (eager p) s = replying of_done (calls.eager s p)
call (clone_region p a q) s = replying of_done (calls.clone_region s p a q)
call (clone p q) s = replying of_done (calls.clone s p q)
call (protect p a flags) s = replying of_done (calls.protect s p a flags)
call (pin p a) s = replying of_done (calls.pin s p a)
call (unpin p a) s = replying of_done (calls.unpin s p a)
call (load p a) s = replying of_loaded (calls.load s p a)
call (store p a b) s = replying of_done (calls.store s p a b)

unfoldable pub step : Call → State → State
step c s = (call c s).state

-- after any sequence of calls, refused ones included (RULES D3)
unfoldable pub run : List Call → State → State
run [] s = s
run (c ∷ l) s = run l (step c s)
