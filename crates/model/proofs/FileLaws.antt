-- RULES N7, up to 8 files, lent with their bytes and never changed: no call changes the files' bytes.
use Rattle.std.specs.Prelude.{◌≡◌, refl, Bool, true, false, not, cond, List, [], ◌∷◌, ℕ, zero, suc, ◌+◌, ◌/◌, ltb, Option, Some, None, Result, Ok, Err, ⊤}
use Rattle.std.proofs.Common.{◌∙◌}
use Rattle.answers.specs.declared.Refusal.{Refusal}
use Rattle.answers.specs.declared.Refusal.TheVariants.{BadTable}
use Rattle.model.specs.declared.Region.{Region}
use Rattle.model.specs.declared.Place.{Place}
use Rattle.model.specs.declared.Way.{Way}
use Rattle.model.specs.declared.Way.TheVariants.{Refuse, Already, Restore, Map, Copy, Fill}
use Rattle.laws.specs.Lists.{each}
use Rattle.model.specs.Machine.{State, region_at, mapped_of}
use Rattle.model.specs.Answers.{After, Try, fine, first_of, unless, and_then}
use Rattle.model.specs.Lookup.{region_for, pages_for}
use Rattle.model.specs.Paging.{page_start, translate, well_mapped}
use Rattle.model.specs.Create.{with_run, run_needed, core_create}
use Rattle.model.specs.Backing.{lowest_run}
use Rattle.model.specs.Fault.{fault_way, way_refusals, go_way, own_frame, handle_fault}
use Rattle.model.specs.Populate.{populate_page, next_start, visit, visits, nothing_to_do, last_address, core_populate, eager_region, eager_access, eagerly, eagerly_each, core_populate_eager_copies}
use Rattle.model.specs.Carve.{core_carve}
use Rattle.model.specs.Clone.{Held, is_copied, clone_refusals, share_into, copy_entry, copy_into, core_clone_region, clone_each, core_clone}
use Rattle.model.specs.Access.{stored}
use Rattle.model.specs.SoundTest.{soundb}
use Rattle.model.specs.Refusals.{bad_lengths, start_refusals}
use Rattle.model.specs.Calls as calls
use Rattle.model.specs.Run.{Call, call, step, run}

-- a state with the same files
abbrev Same : State → State → Type 0
Same s t = t.bytes ≡ s.bytes

module _ (s : State) where
  decided_same : {A : Type 0} (d : Result ⊤ Refusal) (no_answer : Refusal → A) (t : After A) → Same s t.state → Same s (calls.decided d no_answer s t).state
  decided_same (Ok tt) n t h = h
  decided_same (Err r) n t h = refl

  guarded_same : {A : Type 0} (n : Refusal → A) (tests : List (Bool × Refusal)) (t : After A) → Same s t.state → Same s (calls.guarded s n tests t).state
  unfolding calls.guarded
  guarded_same n tests t h = decided_same (first_of ((not (soundb s), BadTable) ∷ tests)) n t h

  unless_same : (d : Result ⊤ Refusal) (t : Try) → Same s t.state → Same s (unless d s t).state
  unless_same (Ok tt) t h = h
  unless_same (Err r) t h = refl

  then_same : (t : Try) (f : State → Try) → Same s t.state → ((u : State) → Same s u → Same s (f u).state) → Same s (and_then t f).state
  then_same t f h k = go t.answer
    where
      go : (d : Result ⊤ Refusal) → Same s (and_then (record { answer = d; state = t.state }) f).state
      go (Ok tt) = k t.state h
      go (Err r) = h

  cond_same : (b : Bool) (t u : Try) → Same s t.state → Same s u.state → Same s (cond b t u).state
  cond_same true t u h k = h
  cond_same false t u h k = k

-- ---- the cores

way_same : (s : State) (p slot page : ℕ) (v : Way) → Same s (go_way s p slot page v)
unfolding go_way own_frame
way_same s p slot page (Refuse r) = refl
way_same s p slot page Already = refl
way_same s p slot page Restore = refl
way_same s p slot page (Map f flags) = refl
way_same s p slot page (Copy f) = refl
way_same s p slot page Fill = refl

fault_same : (s : State) (p slot page : ℕ) (w : Bool) → Same s (handle_fault s p slot page w).state
unfolding handle_fault
fault_same s p slot page w =
    let way = fault_way s.machine p slot page w in
    unless_same s (first_of (way_refusals s.machine p slot page way)) (fine (go_way s p slot page way)) (way_same s p slot page way)

page_same : (s : State) (p slot page : ℕ) (w : Bool) → Same s (populate_page s p slot page w).state
unfolding populate_page
page_same s p slot page w = cond_same s (well_mapped (translate (mapped_of s.machine p) page) w) (fine s) (handle_fault s p slot page w) refl (fault_same s p slot page w)

visit_same : (n : ℕ) (s : State) (p page last : ℕ) (w : Bool) → Same s (visit n s p page last w).state
unfolding visit
visit_same zero s p page last w = refl
visit_same (suc n) s p page last w = go (ltb last page) (region_for s.machine p (page_start page)) (next_start s.machine p page) (λ t q. visit_same n t p q last w)
  where
    go : (b : Bool) (r x : Option ℕ) → ((t : State) (q : ℕ) → Same t (visit n t p q last w).state) → Same s (elim b as (λ z. Try) [ true ↦ fine s | false ↦ elim r as (λ z. Try) [ Some slot ↦ and_then (populate_page s p slot page w) (λ t. visit n t p (page + 1) last w) | None ↦ elim x as (λ z. Try) [ Some next ↦ visit n s p next last w | None ↦ fine s ] ] ]).state
    go true r x ih = refl
    go false (Some slot) x ih = then_same s (populate_page s p slot page w) (λ t. visit n t p (page + 1) last w) (page_same s p slot page w) (λ u h. ih u (page + 1) ∙ h)
    go false None (Some next) ih = ih s next
    go false None None ih = refl

populate_same : (s : State) (p a len : ℕ) (w : Bool) → Same s (core_populate s p a len w).state
unfolding core_populate
populate_same s p a len w = cond_same s (nothing_to_do a len) (fine s) (visit visits s p (a / 4096) (last_address a len / 4096) w) refl (visit_same visits s p (a / 4096) (last_address a len / 4096) w)

eagerly_same : (s : State) (p slot : ℕ) → Same s (eagerly s p slot).state
unfolding eagerly
eagerly_same s p slot =
    let r = region_at s.machine p slot in
    cond_same s (eager_region r) (core_populate s p r.start.0 r.size (eager_access r)) (fine s) (populate_same s p r.start.0 r.size (eager_access r)) refl

eager_each_same : (l : List ℕ) (s : State) (p : ℕ) → Same s (eagerly_each l s p).state
unfolding eagerly_each
eager_each_same [] s p = refl
eager_each_same (slot ∷ l) s p = go (λ t. eager_each_same l t p)
  where
    go : ((t : State) → Same t (eagerly_each l t p).state) → Same s (and_then (eagerly s p slot) (λ t. eagerly_each l t p)).state
    go ih = then_same s (eagerly s p slot) (λ t. eagerly_each l t p) (eagerly_same s p slot) (λ u h. ih u ∙ h)

copies_same : (row : ℕ) (l : List Held) (s : State) → Same s (each (copy_entry row) l s)
unfolding each copy_entry
copies_same row [] s = refl
copies_same row (h ∷ l) s = copies_same row l (copy_entry row h s)

clone_region_same : (s : State) (p slot q : ℕ) → Same s (core_clone_region s p slot q).state
unfolding core_clone_region copy_into share_into
clone_region_same s p slot q = unless_same s (first_of (clone_refusals s.machine p slot q)) _ (go (is_copied (region_at s.machine p slot)))
  where
    go : (b : Bool) → Same s (cond b (copy_into s p slot q) (share_into s p slot q))
    go true = copies_same _ _ _
    go false = refl

clone_each_same : (l : List ℕ) (s : State) (p q : ℕ) → Same s (clone_each l s p q).state
unfolding clone_each
clone_each_same [] s p q = refl
clone_each_same (slot ∷ l) s p q = go (λ t. clone_each_same l t p q)
  where
    go : ((t : State) → Same t (clone_each l t p q).state) → Same s (and_then (core_clone_region s p slot q) (λ t. clone_each l t p q)).state
    go ih = then_same s (core_clone_region s p slot q) (λ t. clone_each l t p q) (clone_region_same s p slot q) (λ u h. ih u ∙ h)

run_same : (s : State) (n : ℕ) (f : Option ℕ) → Same s (with_run s f n)
unfolding with_run
run_same s n None = refl
run_same s n (Some f) = refl

create_same : (s : State) (p : ℕ) (place : Place) (whole : Bool) (r : Region) → Same s (core_create s p place whole r)
unfolding core_create
create_same s p place whole r = go (cond (run_needed whole r) (lowest_run s.machine (pages_for r.size)) None)
  where
    go : (f : Option ℕ) → Same s (with_run s f (pages_for r.size))
    go = run_same s (pages_for r.size)

-- ---- every call

pub bytes_kept : (c : Call) (s : State) → (step c s).bytes ≡ s.bytes
unfolding step call calls.start start_refusals calls.sound calls.open_process calls.core_open calls.close calls.create calls.create_private calls.create_file calls.create_shared calls.remove calls.clear calls.carve core_carve calls.covers calls.region calls.regions calls.fault calls.populate calls.eager core_populate_eager_copies calls.clone_region calls.clone core_clone calls.protect calls.pin calls.unpin calls.load calls.store stored
bytes_kept (Call.start files) s = decided_same s (first_of ((bad_lengths s files, BadTable) ∷ [])) Err _ refl
bytes_kept Call.sound s = guarded_same s _ _ _ refl
bytes_kept (Call.open_process a size) s = guarded_same s _ _ _ refl
bytes_kept (Call.close p) s = guarded_same s _ _ _ refl
bytes_kept (Call.create_private p place whole size flags copy thread) s = guarded_same s _ _ _ (create_same s p place whole _)
bytes_kept (Call.create_file p place size flags copy thread file offset len) s = guarded_same s _ _ _ (create_same s p place false _)
bytes_kept (Call.create_shared p place size) s = guarded_same s _ _ _ (create_same s p place false _)
bytes_kept (Call.remove p a) s = guarded_same s _ _ _ refl
bytes_kept (Call.clear p) s = guarded_same s _ _ _ refl
bytes_kept (Call.carve p a e) s = guarded_same s _ _ _ refl
bytes_kept (Call.covers p a e) s = guarded_same s _ _ _ refl
bytes_kept (Call.region p a) s = guarded_same s _ _ _ refl
bytes_kept (Call.regions p) s = guarded_same s _ _ _ refl
bytes_kept (Call.fault p a w) s = guarded_same s _ _ _ (fault_same s p _ _ w)
bytes_kept (Call.populate p a len w) s = guarded_same s _ _ _ (populate_same s p a len w)
bytes_kept (Call.eager p) s = guarded_same s _ _ _ (eager_each_same _ s p)
bytes_kept (Call.clone_region p a q) s = guarded_same s _ _ _ (clone_region_same s p _ q)
bytes_kept (Call.clone p q) s = guarded_same s _ _ _ (clone_each_same _ s p q)
bytes_kept (Call.protect p a flags) s = guarded_same s _ _ _ refl
bytes_kept (Call.pin p a) s = guarded_same s _ _ _ refl
bytes_kept (Call.unpin p a) s = guarded_same s _ _ _ refl
bytes_kept (Call.load p a) s = guarded_same s _ _ _ refl
bytes_kept (Call.store p a b) s = guarded_same s _ _ _ refl

-- .. and so does any run of calls
pub run_keeps_bytes : (l : List Call) (s : State) → (run l s).bytes ≡ s.bytes
unfolding run
run_keeps_bytes [] s = refl
run_keeps_bytes (c ∷ l) s = run_keeps_bytes l (step c s) ∙ bytes_kept c s
