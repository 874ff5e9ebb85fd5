-- What a row of the points' table says: calls of a lone manager and of a machine, what each answers, and what is seen between them.
use Rattle.std.specs.Prelude.{◌≡◌, Bool, true, false, ◌&&◌, List, [], ◌∷◌, ◌++◌, map, ℕ, length, replicate, eqb, Option, Some, None}
use Rattle.model.specs.declared.Mapping.{Mapping}
use Rattle.answers.specs.declared.Refusal.{Refusal}
use Rattle.answers.specs.Number.{number_of}
use Rattle.segments.specs.declared.table.VirtualMemoryManager.{VirtualMemoryManager}
use Rattle.segments.specs.Run as managers
use Rattle.segments.specs.PointForm as segment
use Rattle.laws.specs.Lists.{pad}
use Rattle.model.specs.Machine.{Machine, State, mapped_of, order_of, region_at}
use Rattle.model.specs.Answers.{Reply}
use Rattle.model.specs.Paging.{translate}
use Rattle.model.specs.Backing.{backing_at}
use Rattle.model.specs.Run.{Call, call}

-- what can be seen of a machine: the spans of a process's attached regions in list order (start, size); a page's frame and flags (none where it
-- is not mapped); a backing's length and holders; the pool's free count and next free frame
pub data Look : Type 0 where
  spans : ℕ → Look
  mapped : ℕ → ℕ → Look
  held : ℕ → Look
  pool : Look

unfoldable pub spans_of : Machine → ℕ → List ℕ → List ℕ
spans_of m p [] = []
spans_of m p (s ∷ l) = (region_at m p s).start.0 ∷ (region_at m p s).size ∷ spans_of m p l

abbrev pub mapping_of : Option Mapping → List ℕ
mapping_of None = []
mapping_of (Some x) = x.frame.0 ∷ x.flags.0 ∷ []

unfoldable pub look : Look → Machine → List ℕ
look (spans p) m = spans_of m p (order_of m p)
look (mapped p page) m = mapping_of (translate (mapped_of m p) page)
look (held f) m = (backing_at m f).len ∷ (backing_at m f).holders ∷ []
look pool m = m.pool.free ∷ m.pool.next.0 ∷ []

-- a machine's call with its answer, a look at the machine; a lone manager's call with its answer (number, then values), its segments (start, length)
pub data Event : Type 0 where
  does : Call → Reply → Event
  sees : Look → List ℕ → Event
  manages : managers.Call → List ℕ → Event
  holding : List ℕ → Event

-- where a row stands: a machine's state and a lone manager
pub record World : Type 0 where
  pub state : State
  pub manager : VirtualMemoryManager

-- answers: success with values, a refusal with zero elsewhere, lists of starts
abbrev pub ok : List ℕ → Reply
ok l = record { number = 0; values = l }

abbrev pub says : Refusal → List ℕ → Reply
says r zeros = record { number = number_of r; values = zeros }

unfoldable pub lists : List ℕ → Reply
lists l = ok (length l ∷ pad 64 0 l)

unfoldable pub lists_not : Refusal → Reply
lists_not r = says r (replicate 65 0)

-- a row of the table: where it starts, and what happens
pub record Row : Type 0 where
  pub from : World
  pub events : List Event

-- a row of crate `segments`' table as a row of this one
unfoldable pub manager_row : World → segment.Row managers.Call → Row
manager_row w r = record { from = w; events = map (λ s. manages s.call s.answer) r.steps ++ (holding r.after ∷ []) }

-- ---- a row holds: every call answers what the row says, and every look sees it

pub data Holds : List Event → World → Type 0 where
  ends : {w : World} → Holds [] w
  called : {c : Call} {r : Reply} {l : List Event} {w : World} → (call c w.state).answer ≡ r → Holds l (record { state = (call c w.state).state; manager = w.manager }) → Holds (does c r ∷ l) w
  seen : {k : Look} {v : List ℕ} {l : List Event} {w : World} → look k w.state.machine ≡ v → Holds l w → Holds (sees k v ∷ l) w
  managing : {c : managers.Call} {r : List ℕ} {l : List Event} {w : World} → (managers.run c w.manager).answer ≡ r → Holds l (record { state = w.state; manager = (managers.run c w.manager).state }) → Holds (manages c r ∷ l) w
  held : {v : List ℕ} {l : List Event} {w : World} → managers.table w.manager ≡ v → Holds l w → Holds (holding v ∷ l) w

-- ---- the same as a test that computes (TableLaws: holds-told)

unfoldable pub same_list : List ℕ → List ℕ → Bool
same_list [] [] = true
same_list [] (y ∷ m) = false
same_list (x ∷ l) [] = false
same_list (x ∷ l) (y ∷ m) = eqb x y && same_list l m

unfoldable pub same_reply : Reply → Reply → Bool
same_reply r q = eqb r.number q.number && same_list r.values q.values

unfoldable pub holdsb : List Event → World → Bool
holdsb [] w = true
holdsb (does c r ∷ l) w = let t = call c w.state in same_reply t.answer r && holdsb l (record { state = t.state; manager = w.manager })
holdsb (sees k v ∷ l) w = same_list (look k w.state.machine) v && holdsb l w
holdsb (manages c r ∷ l) w = let t = managers.run c w.manager in same_list t.answer r && holdsb l (record { state = w.state; manager = t.state })
holdsb (holding v ∷ l) w = same_list (managers.table w.manager) v && holdsb l w
