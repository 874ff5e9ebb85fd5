-- Populate and eager populate change what no one sees: faults one after the other.
use Rattle.std.specs.Prelude.{◌≡◌, Bool, cond, ltb, Option, Some, None, Result, Ok, Err, ⊤}
use Rattle.std.proofs.Math.Path.{refl}
use Rattle.std.proofs.Math.Bool.{true, false}
use mathlib.Core.List.{List, [], ◌∷◌}
use Prim.Native.Nat.{ℕ, zero, suc, ◌+◌, ◌/◌}
use Rattle.answers.specs.declared.Refusal.{Refusal}
use Rattle.model.specs.Machine.{State, region_at, order_of, mapped_of}
use Rattle.model.specs.Answers.{Try, fine, and_then}
use Rattle.model.specs.Lookup.{region_for}
use Rattle.model.specs.Paging.{page_start, translate, well_mapped}
use Rattle.model.specs.Fault.{handle_fault}
use Rattle.model.specs.Populate.{populate_page, next_start, visit, visits, last_address, nothing_to_do, core_populate, eager_region, eager_access, eagerly, eagerly_each, core_populate_eager_copies}
use Rattle.model.specs.Refusals.{populate_refusals, process_refusals}
use Rattle.model.specs.Calls as calls
use Rattle.model.specs.Run.{Call, call, step}
use Rattle.model.specs.Sound.{Sound}
use Rattle.keeping.specs.OwingOfSound.{sound_owing}
use Rattle.keeping.specs.FaultKept.{fault_core}
use Rattle.isolation.specs.ViewLaws.{Home, home_at}
use Rattle.isolation.specs.Undisturbed.{Same, same_refl, same_then, same_stays, guarded_same, CallStays}
use Rattle.isolation.specs.FaultStays.{fault_same}

-- sound, and as it was seen
abbrev Kept : State → ℕ → ℕ → State → Type 0
Kept s q c t = Sound t × Same s t q c

module _ (q c : ℕ) where
  kept_then : (s : State) (t : Try) (f : State → Try) → Kept s q c t.state → ((u : State) → Sound u → Kept u q c (f u).state) → Kept s q c (and_then t f).state
  kept_then s t f a next = go t.answer t.state a
    where
      go : (d : Result ⊤ Refusal) (u : State) → Kept s q c u → Kept s q c (and_then (record { answer = d; state = u }) f).state
      go (Ok tt) u b = let k = next u b.0 in (k.0, same_then b.1 k.1)
      go (Err r) u b = b

  page_same : (s : State) → Sound s → (p t pg : ℕ) (w : Bool) → Home s.machine p t pg → Kept s q c (populate_page s p t pg w).state
  unfolding populate_page
  page_same s sound p t pg w h = go (well_mapped (translate (mapped_of s.machine p) pg) w)
    where
      go : (b : Bool) → Kept s q c (cond b (fine s) (handle_fault s p t pg w)).state
      go true = (sound, same_refl s q c)
      go false = (fault_core s sound p t pg h.listed h.inside w, fault_same s sound p t pg h q c w)

  visit_same : (n : ℕ) (s : State) → Sound s → (p pg last : ℕ) (w : Bool) → Kept s q c (visit n s p pg last w).state
  unfolding visit
  visit_same zero s sound p pg last w = (sound, same_refl s q c)
  visit_same (suc n) s sound p pg last w = go (ltb last pg) (region_for s.machine p (page_start pg)) refl (next_start s.machine p pg) (visit_same n)
    where
      go : (b : Bool) (x : Option ℕ) → region_for s.machine p (page_start pg) ≡ x → (y : Option ℕ) → ((s : State) → Sound s → (p pg last : ℕ) (w : Bool) → Kept s q c (visit n s p pg last w).state)
          → Kept s q c (elim b as (λ z. Try) [ true ↦ fine s | false ↦ elim x as (λ z. Try) [ Some slot ↦ and_then (populate_page s p slot pg w) (λ t. visit n t p (pg + 1) last w) | None ↦ elim y as (λ z. Try) [ Some next ↦ visit n s p next last w | None ↦ fine s ] ] ]).state
      go true x e y more = (sound, same_refl s q c)
      go false (Some t) e y more = kept_then s (populate_page s p t pg w) (λ u. visit n u p (pg + 1) last w) (page_same s sound p t pg w (home_at s.machine (sound_owing s sound) p pg t e)) (λ u a. more u a p (pg + 1) last w)
      go false None e (Some next) more = more s sound p next last w
      go false None e None more = (sound, same_refl s q c)

  core_populate_keeps : (s : State) → Sound s → (p a len : ℕ) (w : Bool) → Kept s q c (core_populate s p a len w).state
  unfolding core_populate
  core_populate_keeps s sound p a len w = go (nothing_to_do a len)
    where
      go : (b : Bool) → Kept s q c (cond b (fine s) (visit visits s p (a / 4096) (last_address a len / 4096) w)).state
      go true = (sound, same_refl s q c)
      go false = visit_same visits s sound p (a / 4096) (last_address a len / 4096) w

  eagerly_same : (s : State) → Sound s → (p t : ℕ) → Kept s q c (eagerly s p t).state
  unfolding eagerly
  eagerly_same s sound p t = go (eager_region (region_at s.machine p t))
    where
      go : (b : Bool) → Kept s q c (cond b (core_populate s p (region_at s.machine p t).start.0 (region_at s.machine p t).size (eager_access (region_at s.machine p t))) (fine s)).state
      go true = core_populate_keeps s sound p _ _ _
      go false = (sound, same_refl s q c)

  each_same : (l : List ℕ) (s : State) → Sound s → (p : ℕ) → Kept s q c (eagerly_each l s p).state
  unfolding eagerly_each
  each_same [] s sound p = (sound, same_refl s q c)
  each_same (t ∷ l) s sound p = kept_then s (eagerly s p t) (λ u. eagerly_each l u p) (eagerly_same s sound p t) (λ u a. each_same l u a p)

  pub populate_same : (s : State) → Sound s → (p a len : ℕ) (w : Bool) → Same s (calls.populate s p a len w).state q c
  unfolding calls.populate
  populate_same s sound p a len w = guarded_same s _ (populate_refusals s p a len) _ (λ x. Same s x q c) (same_refl s q c) (λ k. (core_populate_keeps s sound p a len w).1)

  pub eager_same : (s : State) → Sound s → (p : ℕ) → Same s (calls.eager s p).state q c
  unfolding calls.eager core_populate_eager_copies
  eager_same s sound p = guarded_same s _ (process_refusals s p) _ (λ x. Same s x q c) (same_refl s q c) (λ k. (each_same (order_of s.machine p) s sound p).1)

pub populate_stays : (p a len : ℕ) (w : Bool) → CallStays (Call.populate p a len w)
unfolding step call
populate_stays p a len w s sound q c private free = same_stays private (populate_same q c s sound p a len w)

pub eager_stays : (p : ℕ) → CallStays (Call.eager p)
unfolding step call
eager_stays p s sound q c private free = same_stays private (eager_same q c s sound p)
