-- The calls that look, pins, protection, open, and the end of regions: what they leave alone stays as it was seen.
use Rattle.std.specs.Prelude.{◌≡◌, refl, ◌≢◌, Bool, true, false, ◌&&◌, not, cond, ℕ, ◌+◌, ◌-◌, ◌/◌, ◌%◌, ◌<◌, set, take, eqb, Some}
use Rattle.std.proofs.Common.{ap, sym, subst, ◌∙◌, inl, inr, true≢false, arith, get_or-set_other, eqb-true, eq-eqb}
use mathlib.Core.List.{List, [], ◌∷◌}
use Rattle.std.proofs.lemmas.Bool.{eqb-false}
use Rattle.answers.specs.declared.Refusal.{Refusal}
use Rattle.model.specs.declared.Process.{Process}
use Rattle.laws.specs.Lists.{part, each}
use Rattle.model.specs.Machine.{Machine, State, with_machine, with_processes, with_region, with_mapped, process_at, region_at, row_of, order_of, no_process}
use Rattle.model.specs.MachineLaws.{order_mapped}
use Rattle.model.specs.Answers.{leaving}
use Rattle.model.specs.Lookup.{is_found, row_found, region_for, any_region_for, is_attached, is_open}
use Rattle.model.specs.Protect.{with_flags, set_protection}
use Rattle.model.specs.Pins.{with_pins, pin_region, unpin_region}
use Rattle.model.specs.Remove.{drop_region, remove_region, clear_regions, close_process}
use Rattle.model.specs.Refusals.{slot_at, closed_row, open_refusals, close_refusals, process_refusals, region_refusals, protect_refusals, pin_refusals, unpin_slot, unpin_refusals}
use Rattle.model.specs.Calls as calls
use Rattle.model.specs.Run.{Call, call, step}
use Rattle.model.specs.Sound.{Sound}
use Rattle.model.specs.Posix.{home_slot, PrivateAt}
use Rattle.keeping.specs.GuardedKept.{Passed}
use Rattle.laws.specs.In.{In, Once}
use Rattle.laws.specs.InListsLaws.{in_among}
use Rattle.model.specs.FoundRowLaws.{first_found}
use Rattle.keeping.specs.Owing.{Owing, nothing}
use Rattle.keeping.specs.OwingOfSound.{sound_owing}
use Rattle.keeping.specs.OwingLaws.{open_low, listed_open}
use Rattle.keeping.specs.OpenKept.{open_kept}
use Rattle.keeping.specs.ArgumentLaws.{named_at, open_by_test}
use Rattle.model.specs.FoundRowLaws.{found_row}
use Rattle.keeping.specs.PinKept.{pin_kept}
use Rattle.keeping.specs.ProtectKept.{protect_kept}
use Rattle.keeping.specs.RemovalKept.{remove_core, still_listed, any_found, remove_kept, clear_kept, unpin_kept}
use Rattle.keeping.specs.CloseKept.{close_kept}
use Rattle.isolation.specs.Statements.{Stays, touches, same_slot}
use Rattle.isolation.specs.ViewLaws.{Home, at_home}
use Rattle.isolation.specs.Undisturbed.{stays_home, guarded_same, CallStays, or_none}
use Rattle.isolation.specs.StoreStays.{stay_same}
use Rattle.isolation.specs.Quiet.{row_is, row_put, Quiet, quiet_then, quiet_state, rows_apart, drop_quiet, remove_quiet}

-- a call that changes the machine alone
pub machine_stays : {A : Type 0} (s : State) → Sound s → (q c : ℕ) → PrivateAt s q c → (refusal : Refusal → A) (tests : List (Bool × Refusal)) (a : A) (n : Machine)
    → (Passed tests → (t : ℕ) → Home s.machine q t (c / 4096) → Quiet s.machine n q t (c / 4096)) → Sound (calls.guarded s refusal tests (leaving a (with_machine s n))).state → Stays s (calls.guarded s refusal tests (leaving a (with_machine s n))).state q c
machine_stays s sound q c private refusal tests a n quiet =
    guarded_same s refusal tests (leaving a (with_machine s n)) (λ x. Sound x → Stays s x q c) (λ z. stay_same s q c private)
    (λ k z. stays_home s (with_machine s n) sound (sound_owing (with_machine s n) z) q c private (λ t home kind. quiet_state s n q t (c / 4096) (c % 4096) (quiet k t home)))

-- ---- looking

pub sound_stays : CallStays Call.sound
unfolding step call calls.sound
sound_stays s sound q c private free = guarded_same s _ _ _ (λ x. Stays s x q c) (stay_same s q c private) (λ k. stay_same s q c private)

pub covers_stays : (p a e : ℕ) → CallStays (Call.covers p a e)
unfolding step call calls.covers
covers_stays p a e s sound q c private free = guarded_same s _ _ _ (λ x. Stays s x q c) (stay_same s q c private) (λ k. stay_same s q c private)

pub region_stays : (p a : ℕ) → CallStays (Call.region p a)
unfolding step call calls.region
region_stays p a s sound q c private free = guarded_same s _ _ _ (λ x. Stays s x q c) (stay_same s q c private) (λ k. stay_same s q c private)

pub regions_stays : (p : ℕ) → CallStays (Call.regions p)
unfolding step call calls.regions
regions_stays p s sound q c private free = guarded_same s _ _ _ (λ x. Stays s x q c) (stay_same s q c private) (λ k. stay_same s q c private)

pub load_stays : (p a : ℕ) → CallStays (Call.load p a)
unfolding step call calls.load
load_stays p a s sound q c private free = guarded_same s _ _ _ (λ x. Stays s x q c) (stay_same s q c private) (λ k. stay_same s q c private)

-- ---- pins and protection

pins_quiet : (m : Machine) (p u n q t pg : ℕ) → In t (order_of m q) → Quiet m (with_region m p u (with_pins (region_at m p u) n)) q t pg
unfolding order_of
pins_quiet m p u n q t pg i = record {
  files = refl;
  row = row_put m.regions (row_of p u) (row_of q t) (with_pins (region_at m p u) n) (record { look = refl; ranged = refl; range = refl });
  forth = λ i o y. refl;
  back = λ i o y. refl;
  listed = i;
}

pub pin_stays : (p a : ℕ) → CallStays (Call.pin p a)
unfolding step call calls.pin pin_region
pin_stays p a s sound q c private free =
    machine_stays s sound q c private _ (pin_refusals s p a) _ _
    (λ k t home. pins_quiet s.machine p (slot_at s p a) ((region_at s.machine p (slot_at s p a)).pins + 1) q t (c / 4096) home.listed) (pin_kept s sound p a)

order_set : (m : Machine) (p u flags q : ℕ) → order_of (set_protection m p u flags) q ≡ order_of m q
unfolding set_protection order_of
order_set m p u flags q = order_mapped (with_region m p u (with_flags (region_at m p u) flags)) p q _

protect_quiet : (m : Machine) (p u flags q t pg : ℕ) → In t (order_of m q) → Quiet m (set_protection m p u flags) q t pg
unfolding set_protection with_mapped
protect_quiet m p u flags q t pg i = record {
  files = refl;
  row = row_put m.regions (row_of p u) (row_of q t) (with_flags (region_at m p u) flags) (record { look = refl; ranged = refl; range = refl });
  forth = λ i o y. refl;
  back = λ i o y. refl;
  listed = subst (λ l. In t l) (sym (order_set m p u flags q)) i;
}

pub protect_stays : (p a flags : ℕ) → CallStays (Call.protect p a flags)
unfolding step call calls.protect set_protection
protect_stays p a flags s sound q c private free =
    machine_stays s sound q c private _ (protect_refusals s p a flags) _ _
    (λ k t home. protect_quiet s.machine p (slot_at s p a) flags q t (c / 4096) home.listed) (protect_kept s sound p a flags)

-- ---- unpin

unpin_quiet : (m : Machine) (o : Owing nothing m) (p u q t pg : ℕ) → u < 64 → Home m q t pg → Quiet m (unpin_region m p u) q t pg
unfolding unpin_region
unpin_quiet m o p u q t pg small home = go (eqb (region_at m p u).pins 1) (is_attached m p u) refl
  where
    go : (a b : Bool) → is_attached m p u ≡ b → Quiet m (cond (a && not b) (drop_region m p u) (with_region m p u (with_pins (region_at m p u) ((region_at m p u).pins - 1)))) q t pg
    go true true e = pins_quiet m p u _ q t pg home.listed
    go false true e = pins_quiet m p u _ q t pg home.listed
    go false false e = pins_quiet m p u _ q t pg home.listed
    go true false e = drop_quiet m p u q t pg (rows_apart p u q t small (o.listed q t home.low home.listed).0 (λ x y. true≢false (sym (in_among u (order_of m p) (attached x y)) ∙ e))) home.listed
      where
        -- the page's region is attached, and the one that ends is not
        attached : p ≡ q → u ≡ t → In u (order_of m p)
        attached x y = subst (λ (r : ℕ). In u (order_of m r)) (sym x) (subst (λ (r : ℕ). In r (order_of m q)) (sym y) home.listed)

pub unpin_stays : (p a : ℕ) → CallStays (Call.unpin p a)
unfolding step call calls.unpin unpin_refusals
unpin_stays p a s sound q c private free =
    machine_stays s sound q c private _ (unpin_refusals s p a) _ _
    (λ k t home. core (open_by_test s.machine p k.0) (or_none (not (is_found (any_region_for s.machine p a))) _ k.1.1.0).0 t home) (unpin_kept s sound p a)
  where
    core : (process_at s.machine p).opened ≡ 1 → not (is_found (any_region_for s.machine p a)) ≡ false → (t : ℕ) → Home s.machine q t (c / 4096) → Quiet s.machine (unpin_region s.machine p (unpin_slot s p a)) q t (c / 4096)
    core opened e t home = let o = sound_owing s sound in unpin_quiet s.machine o p (unpin_slot s p a) q t (c / 4096) (any_found nothing s.machine o p a (open_low s.machine o p opened) e).0 home

-- ---- open

process_quiet : (m : Machine) (p : ℕ) (x : Process) (q t pg : ℕ) → q ≢ p → In t (order_of m q) → Quiet m (with_processes m (set m.processes p x)) q t pg
unfolding order_of
process_quiet m p x q t pg z i = record {
  files = refl;
  row = row_is refl;
  forth = λ i o y. refl;
  back = λ i o y. refl;
  listed = subst (λ (k : Process). In t (take k.attached (part 64 q m.order))) (sym (get_or-set_other m.processes p q x no_process z)) i;
}

pub open_stays : (a size : ℕ) → CallStays (Call.open_process a size)
unfolding step call calls.open_process calls.core_open open_refusals
open_stays a size s sound q c private free =
    machine_stays s sound q c private _ (open_refusals s a size) _ _
    (λ k t home. process_quiet s.machine (row_found (closed_row s.machine)) (calls.opened_row a size) q t (c / 4096) (other k.1.1.0 t home) home.listed) (open_kept s sound a size)
  where
    other : not (is_found (closed_row s.machine)) ≡ false → (t : ℕ) → Home s.machine q t (c / 4096) → q ≢ row_found (closed_row s.machine)
    other f t home z =
        let found = first_found (λ q. eqb q.opened 0) s.machine.processes (row_found (closed_row s.machine)) no_process (found_row (closed_row s.machine) f) in
        let shut = eqb-true (process_at s.machine (row_found (closed_row s.machine))).opened 0 found.1 in
        let opened = subst (λ (r : ℕ). (process_at s.machine r).opened ≡ 1) z (listed_open nothing s.machine (sound_owing s sound) q t home.listed) in
        omega arith

-- ---- the end of regions

pub remove_stays : (p a : ℕ) → CallStays (Call.remove p a)
unfolding step call calls.remove region_refusals touches
remove_stays p a s sound q c private free = machine_stays s sound q c private _ (region_refusals s p a) _ _ (λ k t home. core k.0 k.1.1.0 t home) (remove_kept s sound p a)
  where
    o : Owing nothing s.machine
    o = sound_owing s sound

    core : not (is_open s.machine p) ≡ false → not (is_found (region_for s.machine p a)) ≡ false → (t : ℕ) → Home s.machine q t (c / 4096) → Quiet s.machine (remove_region s.machine p (slot_at s p a)) q t (c / 4096)
    core opn found t home =
        let n = named_at s.machine p a opn found in
        let low = open_low s.machine o p n.opened in
        let apart = rows_apart p (slot_at s p a) q t (o.listed p (slot_at s p a) low n.listed).0 (o.listed q t home.low home.listed).0 other in
        remove_quiet nothing s.machine o p (slot_at s p a) n.listed low q t (c / 4096) home.low home.listed apart
      where
        other : p ≡ q → slot_at s p a ≡ t → ⊥
        other x y =
            let here : region_for s.machine q a ≡ Some t = subst (λ (r : ℕ). region_for s.machine r a ≡ Some t) x (found_row (region_for s.machine p a) found ∙ ap (λ (r : ℕ). Some r) y) in
            let there = at_home s.machine o q (c / 4096) t home in
            true≢false (sym (ap (λ (b : Bool). b && same_slot (region_for s.machine q a) (home_slot s q c)) (eq-eqb p q x) ∙ ap (λ f. same_slot f (home_slot s q c)) here ∙ ap (same_slot (Some t)) there ∙ eq-eqb t t refl) ∙ free)

module _ (d : ℕ → ℕ) (p : ℕ) (low : p < 8) (q t pg : ℕ) (small : q < 8) (other : q ≢ p) where
  pub clear_quiet : (l : List ℕ) (m : Machine) → Owing d m → Once l → ((u : ℕ) → In u l → In u (order_of m p)) → In t (order_of m q) → Quiet m (each (λ s n. remove_region n p s) l m) q t pg
  unfolding each
  clear_quiet [] m o once listed i = record { files = refl; row = row_is refl; forth = λ i o y. refl; back = λ i o y. refl; listed = i }
  clear_quiet (u ∷ l) m o once listed i =
      let here = listed u (inl refl) in
      let first = remove_quiet d m o p u here low q t pg small i (rows_apart p u q t (o.listed p u low here).0 (o.listed q t small i).0 (λ x y. other (sym x))) in
      quiet_then first (clear_quiet l (remove_region m p u) (remove_core d m o p u here) once.1 (still_listed d m o p u here l once.0 (λ s i. listed s (inr i))) first.listed)

not_same : (p q : ℕ) → eqb p q ≡ false → q ≢ p
not_same p q e z = eqb-false p q e (sym z)

pub clear_stays : (p : ℕ) → CallStays (Call.clear p)
unfolding step call calls.clear process_refusals touches clear_regions
clear_stays p s sound q c private free =
    let o = sound_owing s sound in
    machine_stays s sound q c private _ (process_refusals s p) _ _
    (λ k t home.
    let low = open_low s.machine o p (open_by_test s.machine p k.0) in
    clear_quiet nothing p low q t (c / 4096) home.low (not_same p q free) (order_of s.machine p) s.machine o (o.once p low) (λ u i. i) home.listed) (clear_kept s sound p)

pub close_stays : (p : ℕ) → CallStays (Call.close p)
unfolding step call calls.close close_refusals touches close_process clear_regions
close_stays p s sound q c private free =
    let o = sound_owing s sound in
    machine_stays s sound q c private _ (close_refusals s p) _ _
    (λ k t home.
    let low = open_low s.machine o p (open_by_test s.machine p k.0) in
    let cleared = clear_quiet nothing p low q t (c / 4096) home.low (not_same p q free) (order_of s.machine p) s.machine o (o.once p low) (λ u i. i) home.listed in
    quiet_then cleared (process_quiet (clear_regions s.machine p) p no_process q t (c / 4096) (not_same p q free) cleared.listed)) (close_kept s sound p)
