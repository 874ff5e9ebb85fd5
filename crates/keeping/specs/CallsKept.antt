-- Every call keeps a sound machine sound, and so does every sequence of calls.
use Rattle.std.specs.Prelude.{◌≡◌, refl, List, [], ◌∷◌, ◌/◌, length, Result, Ok, Err, ⊤}
use Rattle.std.proofs.Common.{subst}
use Rattle.answers.specs.declared.Refusal.{Refusal}
use Rattle.model.specs.declared.File.{File}
use Rattle.model.specs.Run.Call.{start, sound, open_process, close, create_private, create_file, create_shared, remove, clear, carve, covers, region, regions, fault, populate, eager, clone_region, clone, protect, pin, unpin, load, store}
use Rattle.model.specs.Machine.{State, empty_machine, with_machine}
use Rattle.model.specs.Answers.{first_of, fine, Try}
use Rattle.model.specs.Refusals.{start_refusals}
use Rattle.model.specs.Calls as calls
use Rattle.model.specs.Run.{Call, call, step, run}
use Rattle.model.specs.Sound.{Sound}
use Rattle.model.specs.EmptyLaws.{start_sound}
use Rattle.keeping.specs.LookingKept.{sound_kept, covers_kept, region_kept, regions_kept, load_kept, store_kept}
use Rattle.keeping.specs.OpenKept.{open_kept}
use Rattle.keeping.specs.PinKept.{pin_kept}
use Rattle.keeping.specs.ProtectKept.{protect_kept}
use Rattle.keeping.specs.FaultKept.{fault_kept}
use Rattle.keeping.specs.PopulateKept.{populate_kept, eager_kept}
use Rattle.keeping.specs.RemovalKept.{remove_kept, clear_kept, unpin_kept}
use Rattle.keeping.specs.CloseKept.{close_kept}
use Rattle.keeping.specs.CreateKept.{create_private_kept, create_file_kept, create_shared_kept}
use Rattle.keeping.specs.CloneKept.{clone_region_kept, clone_kept}
use Rattle.keeping.specs.CarveKept.{carve_kept}

-- start leaves a sound machine, or all as it was
pub start_kept : (s : State) → Sound s → (files : List File) → Sound (step (Call.start files) s)
unfolding step call calls.start
start_kept s k files = go (first_of (start_refusals s files)) refl
  where
    left : Result ⊤ Refusal → Try
    left d = calls.decided d Err s (fine (with_machine s (empty_machine (length s.frames / 4096) files)))

    go : (d : Result ⊤ Refusal) → first_of (start_refusals s files) ≡ d → Sound (left d).state
    go (Ok tt) e = subst (λ (d : Result ⊤ Refusal). (left d).answer ≡ Ok tt → Sound (left d).state) e (start_sound s files) refl
    go (Err r) e = k

-- "after any call, refused ones included"
pub kept : (c : Call) (s : State) → Sound s → Sound (step c s)
kept (start files) s k = start_kept s k files
kept sound s k = sound_kept s k
kept (open_process a size) s k = open_kept s k a size
kept (close p) s k = close_kept s k p
kept (create_private p place whole size flags copy thread) s k = create_private_kept s k p place whole size flags copy thread
kept (create_file p place size flags copy thread file offset len) s k = create_file_kept s k p place size flags copy thread file offset len
kept (create_shared p place size) s k = create_shared_kept s k p place size
kept (remove p a) s k = remove_kept s k p a
kept (clear p) s k = clear_kept s k p
kept (carve p a e) s k = carve_kept s k p a e
kept (covers p a e) s k = covers_kept s k p a e
kept (region p a) s k = region_kept s k p a
kept (regions p) s k = regions_kept s k p
kept (fault p a w) s k = fault_kept s k p a w
kept (populate p a len w) s k = populate_kept s k p a len w
kept (eager p) s k = eager_kept s k p
kept (clone_region p a q) s k = clone_region_kept s k p a q
kept (clone p q) s k = clone_kept s k p q
kept (protect p a flags) s k = protect_kept s k p a flags
kept (pin p a) s k = pin_kept s k p a
kept (unpin p a) s k = unpin_kept s k p a
kept (load p a) s k = load_kept s k p a
kept (store p a b) s k = store_kept s k p a b

-- .. and after any sequence of them (demand 3)
pub run_kept : (l : List Call) (s : State) → Sound s → Sound (run l s)
unfolding run
run_kept [] s k = k
run_kept (c ∷ l) s k = run_kept l (step c s) (kept c s k)
