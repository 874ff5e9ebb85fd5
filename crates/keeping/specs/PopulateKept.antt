-- Populate and eager populate keep a machine sound: faults one after the other.
use Rattle.std.specs.Prelude.{◌≡◌, refl, Bool, true, false, cond, List, [], ◌∷◌, ℕ, zero, suc, ◌+◌, ◌/◌, ltb, Option, Some, None, Result, Ok, Err, ⊤}
use Rattle.answers.specs.declared.Refusal.{Refusal}
use Rattle.model.specs.Machine.{State, region_at, order_of, mapped_of}
use Rattle.model.specs.Answers.{Try, fine, and_then}
use Rattle.model.specs.Lookup.{region_for, contains}
use Rattle.model.specs.Paging.{page_start, translate, well_mapped}
use Rattle.model.specs.Fault.{handle_fault}
use Rattle.model.specs.Populate.{next_start, populate_page, visit, visits, nothing_to_do, last_address, core_populate, eager_region, eager_access, eagerly, eagerly_each, core_populate_eager_copies}
use Rattle.model.specs.Calls as calls
use Rattle.model.specs.Run.{Call, call, step}
use Rattle.model.specs.Sound.{Sound}
use Rattle.model.specs.LookupLaws.{first_found}
use Rattle.laws.specs.In.{In}
use Rattle.laws.specs.InListsLaws.{among_in}
use Rattle.keeping.specs.GuardedKept.{guarded_kept}
use Rattle.keeping.specs.FaultKept.{fault_core}

-- one thing after another
pub then_kept : (t : Try) (f : State → Try) → Sound t.state → ((s : State) → Sound s → Sound (f s).state) → Sound (and_then t f).state
then_kept t f a next = go t.answer t.state a
  where
    go : (d : Result ⊤ Refusal) (s : State) → Sound s → Sound (and_then (record { answer = d; state = s }) f).state
    go (Ok tt) s b = next s b
    go (Err r) s b = b

-- one page
pub page_kept : (s : State) → Sound s → (p t pg : ℕ) (w : Bool) → In t (order_of s.machine p) → contains (region_at s.machine p t) (page_start pg) ≡ true
    → Sound (populate_page s p t pg w).state
unfolding populate_page
page_kept s sound p t pg w i e = go (well_mapped (translate (mapped_of s.machine p) pg) w)
  where
    go : (b : Bool) → Sound (cond b (fine s) (handle_fault s p t pg w)).state
    go true = sound
    go false = fault_core s sound p t pg i e w

-- pages in rising order
pub visit_kept : (n : ℕ) (s : State) → Sound s → (p pg last : ℕ) (w : Bool) → Sound (visit n s p pg last w).state
unfolding visit region_for
visit_kept zero s sound p pg last w = sound
visit_kept (suc n) s sound p pg last w = go (ltb last pg) (region_for s.machine p (page_start pg)) refl (next_start s.machine p pg) (visit_kept n)
  where
    left : Bool → Option ℕ → Option ℕ → Try
    left b x y = elim b [
      | true ↦ fine s
      | false ↦ elim x [
        | Some slot ↦ and_then (populate_page s p slot pg w) (λ t. visit n t p (pg + 1) last w)
        | None ↦ elim y [
          | Some next ↦ visit n s p next last w
          | None ↦ fine s
        ]
      ]
    ]

    go : (b : Bool) (x : Option ℕ) → region_for s.machine p (page_start pg) ≡ x → (y : Option ℕ)
        → ((s : State) → Sound s → (p pg last : ℕ) (w : Bool) → Sound (visit n s p pg last w).state) → Sound (left b x y).state
    go true x e y more = sound
    go false (Some t) e y more =
        let k = first_found (λ s'. contains (region_at s.machine p s') (page_start pg)) (order_of s.machine p) t e in
        then_kept (populate_page s p t pg w) (λ u. visit n u p (pg + 1) last w) (page_kept s sound p t pg w (among_in t (order_of s.machine p) k.1) k.0)
        (λ u a. more u a p (pg + 1) last w)
    go false None e (Some next) more = more s sound p next last w
    go false None e None more = sound

-- a range of addresses
pub core_populate_keeps : (s : State) → Sound s → (p a len : ℕ) (w : Bool) → Sound (core_populate s p a len w).state
unfolding core_populate
core_populate_keeps s sound p a len w = go (nothing_to_do a len)
  where
    go : (b : Bool) → Sound (cond b (fine s) (visit visits s p (a / 4096) (last_address a len / 4096) w)).state
    go true = sound
    go false = visit_kept visits s sound p (a / 4096) (last_address a len / 4096) w

pub populate_kept : (s : State) → Sound s → (p a len : ℕ) (w : Bool) → Sound (step (Call.populate p a len w) s)
unfolding step call calls.populate
populate_kept s sound p a len w = guarded_kept s _ _ _ sound (λ k. core_populate_keeps s sound p a len w)

-- a region's pages, if eager populate visits it
pub eagerly_kept : (s : State) → Sound s → (p t : ℕ) → Sound (eagerly s p t).state
unfolding eagerly
eagerly_kept s sound p t = go (eager_region (region_at s.machine p t))
  where
    go : (b : Bool) → Sound (cond b (core_populate s p (region_at s.machine p t).start.0 (region_at s.machine p t).size (eager_access (region_at s.machine p t))) (fine s)).state
    go true = core_populate_keeps s sound p _ _ _
    go false = sound

each_kept : (l : List ℕ) (s : State) → Sound s → (p : ℕ) → Sound (eagerly_each l s p).state
unfolding eagerly_each
each_kept [] s sound p = sound
each_kept (t ∷ l) s sound p = then_kept (eagerly s p t) (λ u. eagerly_each l u p) (eagerly_kept s sound p t) (λ u a. each_kept l u a p)

pub eager_kept : (s : State) → Sound s → (p : ℕ) → Sound (step (Call.eager p) s)
unfolding step call calls.eager core_populate_eager_copies
eager_kept s sound p = guarded_kept s _ _ _ sound (λ k. each_kept (order_of s.machine p) s sound p)
