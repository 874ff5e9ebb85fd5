-- What is shown of a wrong line.
use Rattle.std.specs.Prelude.{◌≡◌, ◌≢◌, Bool, true, false, cond, List, [], ◌∷◌, ◌++◌, ℕ, ◌/◌, Some}
use Rattle.model.specs.Machine.{State}
use Rattle.model.specs.Lookup.{row_found, region_for}
use Rattle.model.specs.Fault.{handle_fault}
use Rattle.model.specs.Access.{granted, page_at, loaded, stored}
use Rattle.model.specs.Run.{Call, step, run}
use Rattle.model.specs.SoundTest.{soundb, r1b, r2b, r3b, r4b, r5b, r6b}
use Rattle.model.specs.Posix.{view}
use Rattle.model.specs.Layout.{process_words, region_words, mapping_words, entry_words, backing_words}
use Rattle.model.specs.PointRows.{unstarted, at, rw}

-- a machine of n frames, started, with two processes opened, after some calls
unfoldable pub after : ℕ → List Call → State
after n l = run (Call.start [] ∷ Call.open_process 0x1000 0x100000 ∷ Call.open_process 0x1000 0x100000 ∷ l) (unstarted n [] [])

-- a private region of process 0 at 0x1000: lazy, or with a range from the start; CopyOnWrite, or CopyEager
abbrev pub lazy : ℕ → Call
lazy size = Call.create_private 0 (at 0x1000) false size rw false false

abbrev pub whole : ℕ → Call
whole size = Call.create_private 0 (at 0x1000) true size rw false false

abbrev pub eager : ℕ → Call
eager size = Call.create_private 0 (at 0x1000) false size rw true false

-- the rules that a state breaks
abbrev pub unless : Bool → ℕ → List ℕ → List ℕ
unless b n l = cond b l (n ∷ l)

unfoldable pub broken : State → List ℕ
broken s = let m = s.machine in unless (r1b m) 1 (unless (r2b m) 2 (unless (r3b m) 3 (unless (r4b m) 4 (unless (r5b m) 5 (unless (r6b s) 6 [])))))

-- all words of a state: its tables' rows, the pool, the counts, the frames' bytes (the machines here have no files)
abbrev join : {A : Type 0} → (A → List ℕ) → List A → List ℕ → List ℕ
join f [] rest = rest
join f (x ∷ l) rest = f x ++ join f l rest

unfoldable pub words : State → List ℕ
words s =
    let m = s.machine in
    join process_words m.processes (join region_words m.regions (m.order ++ join mapping_words m.mapped (join entry_words m.entries (
    join backing_words m.backings (m.pool.free ∷ m.pool.next.0 ∷ m.frame_count ∷ m.file_count ∷ s.frames)))))

-- a call on a state; a definition with its right line, which does what the call does, and with a wrong one; the rules that the wrong one breaks
pub record Case : Type 0 where
  pub before : State
  pub call : Call
  pub right : State → State
  pub wrong : State → State
  pub rules : List ℕ

-- with the right line it is the call and leaves a sound machine; the soundness test refuses what the wrong line leaves
pub record Refused (x : Case) : Type 0 where
  pub call : words (x.right x.before) ≡ words (step x.call x.before)
  pub sound : soundb (x.right x.before) ≡ true
  pub refused : soundb (x.wrong x.before) ≡ false
  pub which : broken (x.wrong x.before) ≡ x.rules

-- a store and a load without the soundness test before them, which answers BadTable where a rule is broken: a store that is not granted changes
-- nothing, a load comes after a read fault
unfoldable pub put : ℕ → ℕ → ℕ → State → State
put p a b s = cond (granted (page_at s.machine p a) true) (stored s p a b) s

unfoldable pub get : ℕ → ℕ → State → ℕ
get q a s = loaded (handle_fault s q (row_found (region_for s.machine q a)) (a / 4096) false).state q a

-- what follows the call, and what is then seen: process `by` should see and load at an address the byte `good`, which process `of` saw there before
-- the call; with the wrong line it is `bad`
pub record Sight : Type 0 where
  pub follows : State → State
  pub of : ℕ
  pub by : ℕ
  pub address : ℕ
  pub good : ℕ
  pub bad : ℕ

-- .. so what crate `isolation` states of the call is false of the wrong line (`differs`). Where `rules` are none, the soundness test does not see the error, and isolation does
pub record Seen (x : Case) (y : Sight) : Type 0 where
  pub call : words (x.right x.before) ≡ words (step x.call x.before)
  pub was : view x.before y.of y.address ≡ Some y.good
  pub kept : view (y.follows (x.right x.before)) y.by y.address ≡ Some y.good
  pub changed : view (y.follows (x.wrong x.before)) y.by y.address ≡ Some y.bad
  pub differs : view (y.follows (x.wrong x.before)) y.by y.address ≢ view x.before y.of y.address
  pub loads_good : get y.by y.address (y.follows (x.right x.before)) ≡ y.good
  pub loads_bad : get y.by y.address (y.follows (x.wrong x.before)) ≡ y.bad
  pub which : broken (x.wrong x.before) ≡ x.rules
