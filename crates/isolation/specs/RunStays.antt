-- Over runs of calls: what a process sees in a private page stays until it touches it, and a clone keeps the bytes it was given.
use Rattle.std.specs.Prelude.{◌≡◌, refl, Bool, true, false, ◌&&◌, not, List, [], ◌∷◌, ℕ, eqb, Some, Result, Ok, Err, ⊤}
use Rattle.std.proofs.Common.{sym, subst, ◌∙◌, true≢false}
use Rattle.std.proofs.lemmas.Bool.{false≢true}
use Rattle.answers.specs.declared.Refusal.{Refusal}
use Rattle.answers.specs.declared.Refusal.TheVariants.{BadTable}
use Rattle.model.specs.declared.File.{File}
use Rattle.model.specs.Machine.{State}
use Rattle.model.specs.Answers.{of_done, fine, first_of}
use Rattle.model.specs.Refusals.{start_refusals}
use Rattle.model.specs.Calls as calls
use Rattle.model.specs.Run.{Call, call, step, run}
use Rattle.model.specs.Run.Call.{start, sound, open_process, close, create_private, create_file, create_shared, remove, clear, carve, covers, region, regions, fault, populate, eager, clone_region, clone, protect, pin, unpin, load, store}
use Rattle.model.specs.Sound.{Sound}
use Rattle.model.specs.SoundTest.{soundb}
use Rattle.model.specs.Posix.{view, PrivateAt, Inherited}
use Rattle.keeping.specs.CloneKept.{clone_region_kept, clone_kept}
use Rattle.keeping.specs.CallsKept.{kept, run_kept}
use Rattle.isolation.specs.Statements.{touches, answered, Untouched, SeenAs, Stays, ViewStays, ViewStaysLong, CloneKeepsBytes, CloneLoads, ForkKeepsBytes, ForkLoads, ForkPartKeepsBytes}
use Rattle.isolation.specs.ViewLaws.{kind_private}
use Rattle.isolation.specs.Undisturbed.{CallStays}
use Rattle.isolation.specs.StoreStays.{store_stays}
use Rattle.isolation.specs.LoadShows.{load_is_view}
use Rattle.isolation.specs.OtherStays.{sound_stays, covers_stays, region_stays, regions_stays, load_stays, pin_stays, unpin_stays, protect_stays, open_stays, remove_stays, clear_stays, close_stays}
use Rattle.isolation.specs.FaultStays.{fault_stays}
use Rattle.isolation.specs.PopulateStays.{populate_stays, eager_stays}
use Rattle.isolation.specs.CreateStays.{create_private_stays, create_file_stays, create_shared_stays}
use Rattle.isolation.specs.CarveStays.{carve_stays}
use Rattle.isolation.specs.CloneStays.{clone_region_stays, clone_stays, clone_region_shown, clone_shown, clone_new}

start_stays : (files : List File) → CallStays (Call.start files)
unfolding touches
start_stays files s rules q c private free = absurd (true≢false free)

-- every call
call_stays : (x : Call) → CallStays x
call_stays (start files) = start_stays files
call_stays sound = sound_stays
call_stays (open_process a size) = open_stays a size
call_stays (close p) = close_stays p
call_stays (create_private p place whole size flags copy thread) = create_private_stays p place whole size flags copy thread
call_stays (create_file p place size flags copy thread file offset len) = create_file_stays p place size flags copy thread file offset len
call_stays (create_shared p place size) = create_shared_stays p place size
call_stays (remove p a) = remove_stays p a
call_stays (clear p) = clear_stays p
call_stays (carve p a e) = carve_stays p a e
call_stays (covers p a e) = covers_stays p a e
call_stays (region p a) = region_stays p a
call_stays (regions p) = regions_stays p
call_stays (fault p a w) = fault_stays p a w
call_stays (populate p a len w) = populate_stays p a len w
call_stays (eager p) = eager_stays p
call_stays (clone_region p a r) = clone_region_stays p a r
call_stays (clone p r) = clone_stays p r
call_stays (protect p a flags) = protect_stays p a flags
call_stays (pin p a) = pin_stays p a
call_stays (unpin p a) = unpin_stays p a
call_stays (load p a) = load_stays p a
call_stays (store p a b) = store_stays p a b

-- ---- a refused call changes nothing

decided_refused : (s u : State) (d : Result ⊤ Refusal) → eqb (of_done (calls.decided d Err s (fine u)).answer).number 0 ≡ false → (calls.decided d Err s (fine u)).state ≡ s
decided_refused s u (Ok tt) e = absurd (true≢false e)
decided_refused s u (Err r) e = refl

guarded_refused : (s u : State) (tests : List (Bool × Refusal)) → eqb (of_done (calls.guarded s Err tests (fine u)).answer).number 0 ≡ false → (calls.guarded s Err tests (fine u)).state ≡ s
unfolding calls.guarded
guarded_refused s u tests e = decided_refused s u (first_of ((not (soundb s), BadTable) ∷ tests)) e

-- of the calls that may touch a page
refused_same : (x : Call) (s : State) (q c : ℕ) → touches q c s x ≡ true → answered x s ≡ false → step x s ≡ s
unfolding step call touches answered calls.store calls.remove calls.clear calls.close calls.start
refused_same (start files) s q c t e = decided_refused s _ (first_of (start_refusals s files)) e
refused_same (store p a b) s q c t e = guarded_refused s _ _ e
refused_same (remove p a) s q c t e = guarded_refused s _ _ e
refused_same (clear p) s q c t e = guarded_refused s _ _ e
refused_same (close p) s q c t e = guarded_refused s _ _ e
refused_same sound s q c t e = absurd (false≢true t)
refused_same (open_process a size) s q c t e = absurd (false≢true t)
refused_same (create_private p place whole size flags copy thread) s q c t e = absurd (false≢true t)
refused_same (create_file p place size flags copy thread file offset len) s q c t e = absurd (false≢true t)
refused_same (create_shared p place size) s q c t e = absurd (false≢true t)
refused_same (carve p a b) s q c t e = absurd (false≢true t)
refused_same (covers p a b) s q c t e = absurd (false≢true t)
refused_same (region p a) s q c t e = absurd (false≢true t)
refused_same (regions p) s q c t e = absurd (false≢true t)
refused_same (fault p a w) s q c t e = absurd (false≢true t)
refused_same (populate p a len w) s q c t e = absurd (false≢true t)
refused_same (eager p) s q c t e = absurd (false≢true t)
refused_same (clone_region p a r) s q c t e = absurd (false≢true t)
refused_same (clone p r) s q c t e = absurd (false≢true t)
refused_same (protect p a flags) s q c t e = absurd (false≢true t)
refused_same (pin p a) s q c t e = absurd (false≢true t)
refused_same (unpin p a) s q c t e = absurd (false≢true t)
refused_same (load p a) s q c t e = absurd (false≢true t)

pub view_stays : (s : State) → Sound s → ViewStays s
view_stays s rules x q c private free = go (touches q c s x) refl (answered x s) refl free
  where
    go : (a : Bool) → touches q c s x ≡ a → (b : Bool) → answered x s ≡ b → (a && b) ≡ false → Stays s (step x s) q c
    go false e b f z = call_stays x s rules q c private e
    go true e true f z = absurd (true≢false z)
    go true e false f z = subst (λ (t : State). Stays s t q c) (sym (refused_same x s q c e f)) (record { seen = refl; private = private })

-- ---- over runs

over : (l : List Call) (s : State) → Sound s → (q c : ℕ) → PrivateAt s q c → Untouched q c l s → Stays s (run l s) q c
unfolding run
over [] s rules q c private free = record { seen = refl; private = private }
over (x ∷ l) s rules q c private free =
    let a = view_stays s rules x q c private free.0 in
    let b = over l (step x s) (kept x s rules) q c a.private free.1 in
    record { seen = b.seen ∙ a.seen; private = b.private }

pub view_stays_long : (s : State) → Sound s → ViewStaysLong s
view_stays_long s rules l = over l s rules

-- ---- the bytes of a clone

-- what is inherited stays inherited
inherits : (s after : State) → Sound after → (p q c : ℕ) → PrivateAt s p c → Inherited s after p q c → (l : List Call) → Untouched q c l after → SeenAs s (run l after) p q c
inherits s after rules p q c private k l free = let z = over l after rules q c (kind_private k.kind private) free in record { seen = z.seen ∙ k.seen; private = z.private }

clone_sound : (s : State) → Sound s → (p a q : ℕ) → Sound (calls.clone_region s p a q).state
unfolding step call
clone_sound s rules p a q = clone_region_kept s rules p a q

fork_sound : (s : State) → Sound s → (p q : ℕ) → Sound (calls.clone s p q).state
unfolding step call
fork_sound s rules p q = clone_kept s rules p q

pub clone_keeps_bytes : (s : State) → Sound s → CloneKeepsBytes s
clone_keeps_bytes s rules p a q c slot done here home private = inherits s (calls.clone_region s p a q).state (clone_sound s rules p a q) p q c private (clone_region_shown s rules p a q c slot done here home).inherited

-- what is loaded is what is seen
loads_seen : (s after : State) → Sound after → (p q c b : ℕ) → SeenAs s after p q c → (calls.load after q c).answer ≡ Ok b → view s p c ≡ Some b
loads_seen s after rules p q c b k loaded = sym k.seen ∙ load_is_view after q c b rules loaded

pub clone_loads : (s : State) → Sound s → CloneLoads s
clone_loads s rules p a q c slot b done here home private l free =
    let after : State = (calls.clone_region s p a q).state in
    loads_seen s (run l after) (run_kept l after (clone_sound s rules p a q)) p q c b (clone_keeps_bytes s rules p a q c slot done here home private l free)

pub fork_keeps_bytes : (s : State) → Sound s → ForkKeepsBytes s
fork_keeps_bytes s rules p q c slot done home thread private = inherits s (calls.clone s p q).state (fork_sound s rules p q) p q c private (clone_shown s rules p q c slot done home thread).inherited

pub fork_loads_stay : (s : State) → Sound s → ForkLoads s
fork_loads_stay s rules p q c slot b done home thread private l free =
    let after : State = (calls.clone s p q).state in
    loads_seen s (run l after) (run_kept l after (fork_sound s rules p q)) p q c b (fork_keeps_bytes s rules p q c slot done home thread private l free)

pub fork_part_keeps_bytes : (s : State) → Sound s → ForkPartKeepsBytes s
fork_part_keeps_bytes s rules p q c slot other none some private = inherits s (calls.clone s p q).state (fork_sound s rules p q) p q c private (clone_new s rules p q c slot other none some)
