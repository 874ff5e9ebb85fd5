-- The customer's story: intake writes a cut-off date, the worker is cloned, intake writes a new date, the worker still reads the old one; and with a wrong clone.
use Rattle.std.specs.Prelude.{◌≡◌, refl, Bool, true, false, ◌&&◌, List, [], ◌∷◌, ◌++◌, ℕ, Some, Ok}
use Rattle.std.proofs.Common.{ap, sym, ◌∙◌}
use Rattle.answers.specs.declared.Refusal.TheVariants.{BadTable, Denied}
use Rattle.model.specs.Machine.{State}
use Rattle.model.specs.Lookup.{row_found}
use Rattle.laws.specs.BoolLaws.{both_true}
use Rattle.model.specs.Access.{granted, page_at}
use Rattle.model.specs.Calls as calls
use Rattle.model.specs.Run.{Call, call, run}
use Rattle.model.specs.SoundTest.{same_found}
use Rattle.model.specs.Posix.{view, kind_at, StoredAlone}
use Rattle.model.specs.PointTable.{Event, says, Row, Holds, same_list, same_reply, holdsb}
use Rattle.model.specs.PointTableLaws.{list_told, reply_told, holds_told}
use Rattle.model.specs.Open.{everything}
use Rattle.model.specs.PointRows.{unstarted, fresh, begins_two, rw, lazy, done, refuses}
use Rattle.model.specs.RangeRows.{byte}
use Rattle.isolation.specs.Statements.{Guarantee}
use Rattle.isolation.specs.Guaranteed.{demand3}
use Rattle.wrong_variants.specs.Means.{put, get}
use Rattle.wrong_variants.specs.MeansLaws.{found_told, other}
use Rattle.wrong_variants.specs.OpenVariants.{variants}
use Rattle.wrong_variants.specs.SeenByOthers.{writable_on_both_sides, new_date, writable_on_both_sides_seen}

-- a date of four bytes, day, month, century, year, is written or read at 0x1000
abbrev pub writes : ℕ → (d m c y : ℕ) → List Event
writes p d m c y = done (Call.store p 0x1000 d) ∷ done (Call.store p 0x1001 m) ∷ done (Call.store p 0x1002 c) ∷ done (Call.store p 0x1003 y) ∷ []

abbrev pub reads : ℕ → (d m c y : ℕ) → List Event
reads p d m c y = byte p 0x1000 d ∷ byte p 0x1001 m ∷ byte p 0x1002 c ∷ byte p 0x1003 y ∷ []

-- process 0 is intake, process 1 the worker: 31.12.2026, then 15.01.2027. These are the 25 calls of examples/purge.calls, in the same order
unfoldable pub story : Row
story = record {
  from = fresh 2 [] [];
  events = begins_two (
      lazy 0 0x1000 0x1000 rw ∷ done (Call.fault 0 0x1000 true) ∷ writes 0 31 12 20 26
      ++ (done (Call.clone 0 1) ∷ refuses (Call.store 0 0x1000 15) Denied ∷ done (Call.fault 0 0x1000 true) ∷ writes 0 15 1 20 27
      ++ (done (Call.fault 1 0x1000 false) ∷ reads 1 31 12 20 26
      ++ reads 0 15 1 20 27)));
}

story_computes : holdsb story.events story.from ≡ true
unfolding everything story unstarted
story_computes = refl

-- each call of the story answers what it says there
pub story_holds : Holds story.events story.from
story_holds = holds_told _ _ story_computes

-- what demand 3 promises is promised of this machine: start accepts it, and whatever calls follow, those of the story or others, keep the guarantee
starts : (calls.start (unstarted 2 [] []) []).answer ≡ Ok tt
unfolding everything unstarted
starts = refl

pub story_guaranteed : (l : List Call) → Guarantee (run l (calls.start (unstarted 2 [] []) []).state)
story_guaranteed = demand3 (unstarted 2 [] []) [] starts

-- ---- the same with the clone of Seen's (11), which leaves intake's page writable

-- four bytes stored by intake, and the four that the worker loads
abbrev redates : (d m c y : ℕ) → State → State
redates d m c y s = put 0 0x1003 y (put 0 0x1002 c (put 0 0x1001 m (put 0 0x1000 d s)))

abbrev worker : State → List ℕ
worker s = get 1 0x1000 s ∷ get 1 0x1001 s ∷ get 1 0x1002 s ∷ get 1 0x1003 s ∷ []

abbrev redate : Call
redate = Call.store 0 0x1000 15

-- what the right clone and the wrong one leave
pub record Told (right wrong : State) : Type 0 where
  -- right: intake's store is Denied until its write fault. Wrong: the page table grants it, with no fault
  pub denied : (call redate right).answer ≡ says Denied []
  pub grants : granted (page_at wrong.machine 0 0x1000) true ≡ true
  -- the customer's fear: the worker's cut-off date changes under it
  pub old : worker wrong ≡ 31 ∷ 12 ∷ 20 ∷ 26 ∷ []
  pub new : worker (redates 15 1 20 27 wrong) ≡ 15 ∷ 1 ∷ 20 ∷ 27 ∷ []
  -- the calls of the model catch it: the clone has left a machine that breaks R5, and the store is BadTable
  pub caught : (call redate wrong).answer ≡ says BadTable []
  -- though the page is private on both sides
  pub private : (kind_at wrong 0 0x1000 ∷ kind_at wrong 1 0x1000 ∷ []) ≡ 1 ∷ 1 ∷ []
  pub sees : view wrong 1 0x1000 ≡ Some 31

unfoldable pub toldb : State → State → Bool
toldb right wrong =
    same_reply (call redate right).answer (says Denied []) && (granted (page_at wrong.machine 0 0x1000) true && (same_list (worker wrong) (31 ∷ 12 ∷ 20 ∷ 26 ∷ [])
    && (same_list (worker (redates 15 1 20 27 wrong)) (15 ∷ 1 ∷ 20 ∷ 27 ∷ []) && (same_reply (call redate wrong).answer (says BadTable [])
    && (same_list (kind_at wrong 0 0x1000 ∷ kind_at wrong 1 0x1000 ∷ []) (1 ∷ 1 ∷ []) && same_found (view wrong 1 0x1000) (Some 31))))))

told_by : (right wrong : State) → toldb right wrong ≡ true → Told right wrong
unfolding toldb
told_by right wrong e =
    let a = both_true (same_reply (call redate right).answer (says Denied [])) _ e in
    let b = both_true (granted (page_at wrong.machine 0 0x1000) true) _ a.1 in
    let c = both_true (same_list (worker wrong) (31 ∷ 12 ∷ 20 ∷ 26 ∷ [])) _ b.1 in
    let d = both_true (same_list (worker (redates 15 1 20 27 wrong)) (15 ∷ 1 ∷ 20 ∷ 27 ∷ [])) _ c.1 in
    let f = both_true (same_reply (call redate wrong).answer (says BadTable [])) _ d.1 in
    let g = both_true (same_list (kind_at wrong 0 0x1000 ∷ kind_at wrong 1 0x1000 ∷ []) (1 ∷ 1 ∷ [])) _ f.1 in
    record { denied = reply_told _ _ a.0; grants = b.0; old = list_told _ _ c.0; new = list_told _ _ d.0; caught = reply_told _ _ f.0; private = list_told _ _ g.0; sees = found_told _ 31 g.1 }

-- both clones of one state, which is computed once
unfoldable pub clonedb : State → Bool
clonedb s = toldb (writable_on_both_sides.right s) (writable_on_both_sides.wrong s)

told_computes : clonedb writable_on_both_sides.before ≡ true
unfolding variants writable_on_both_sides clonedb toldb
told_computes = refl

abbrev pub wrong : State
wrong = writable_on_both_sides.wrong writable_on_both_sides.before

pub told : Told (writable_on_both_sides.right writable_on_both_sides.before) wrong
unfolding clonedb
told = told_by _ _ told_computes

-- POSIX's sentence on private stores, which holds of every sound machine (isolation), is false of what the wrong clone leaves
pub store_not_alone : StoredAlone wrong (put 0 0x1000 15 wrong) 0 0x1000 15 → ⊥
unfolding new_date
store_not_alone x = other 15 31 refl (ap row_found (sym writable_on_both_sides_seen.changed ∙ x.others 1 0x1000 (other 1 0 refl) ∙ told.sees))
