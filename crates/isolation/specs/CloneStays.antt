-- Cloning a region and a process: everyone sees what he saw, and the clone what the source shows.
use Rattle.std.specs.Prelude.{◌≡◌, ◌⊎◌, ◌≢◌, Bool, true, false, ◌&&◌, not, List, [], ◌∷◌, ℕ, ◌/◌, ◌≤◌, length, eqb, ltb, Option, Some, None, Result, Ok, Err, ⊤}
use Rattle.std.proofs.Math.Path.{refl, ap}
use Rattle.std.proofs.Common.{sym, subst, ◌∙◌, inl, inr, arith, eqb-true, eq-eqb, ltb-false}
use Rattle.std.proofs.Math.Bool.{cond}
use Rattle.std.proofs.lemmas.Bool.{eqb-false}
use Rattle.laws.specs.ResultLaws.{err_not_ok, none_not_some}
use Rattle.answers.specs.declared.Refusal.{Refusal}
use Rattle.laws.specs.Lists.{keep}
use Rattle.model.specs.Machine.{Machine, State, process_at, region_at, row_of, order_of}
use Rattle.model.specs.Answers.{Try, first_of, unless, fine, and_then}
use Rattle.model.specs.Lookup.{region_for, free_slot, free_entries, is_found, row_found}
use Rattle.model.specs.Paging.{translate}
use Rattle.model.specs.Clone.{single_pages, backed_pages, is_copied, entries_needed, clone_refusals, share_into, copy_into, core_clone_region, clone_each, core_clone}
use Rattle.model.specs.Access.{page_at}
use Rattle.model.specs.Refusals.{slot_at, clone_region_refusals, clone_process_refusals}
use Rattle.model.specs.Calls as calls
use Rattle.model.specs.Run.{Call, call, step}
use Rattle.model.specs.Sound.{Sound}
use Rattle.model.specs.Posix.{view, home_slot, PrivateAt, Inherited, ForkInherits, ForkKeepsOthers, CloneInherits, CloneKeepsOthers}
use Rattle.keeping.specs.Grows.{grows_listed}
use Rattle.keeping.specs.GuardedKept.{Passed, passed}
use Rattle.laws.specs.In.{In}
use Rattle.laws.specs.InListsLaws.{in_keep, keep_in}
use Rattle.keeping.specs.OwingOfSound.{sound_owing}
use Rattle.keeping.specs.ArgumentLaws.{named_at, open_by_test}
use Rattle.keeping.specs.CloneKept.{clone_core}
use Rattle.isolation.specs.Statements.{Stays}
use Rattle.isolation.specs.ViewLaws.{home_at, private_home}
use Rattle.isolation.specs.Undisturbed.{same_stays, or_none, guarded_same, CallStays}
use Rattle.isolation.specs.LoadShows.{guarded_done}
use Rattle.isolation.specs.Cloned.{Facts, facts_none, facts_then, Shown, shown_then, left_inherited, LoneStays, RightsStay, Cloned}
use Rattle.isolation.specs.ShareStays.{share_cloned}
use Rattle.isolation.specs.CopyStays.{copy_cloned}

-- ---- one region

-- slot t of process p tried: cloned, or refused and nothing changed
pub record Tried (s after : State) (p t q : ℕ) (d : Result ⊤ Refusal) : Type 0 where
  pub facts : Facts s after q
  pub new : (c v : ℕ) → home_slot s q c ≡ None → home_slot after q c ≡ Some v → Shown s after p q c
  pub lone : LoneStays s after p t
  -- a CopyEager region's own pages, and those of the process's other regions, are mapped as they were
  pub rights : (c : ℕ) → home_slot s p c ≡ Some t → (region_at s.machine p t).fork ≡ 1 → page_at after.machine p c ≡ page_at s.machine p c
  pub outside : RightsStay s after p t
  pub done : d ≡ Ok tt → Cloned s after p t q

tried_none : (s : State) (p t q : ℕ) (r : Refusal) → Tried s s p t q (Err r)
tried_none s p t q r = record {
  facts = facts_none s q;
  new = λ c v none some. absurd (none_not_some (sym none ∙ some));
  lone = λ i f taken other frame single. refl;
  rights = λ c home fork. refl;
  outside = λ c v home other. refl;
  done = λ y. absurd (err_not_ok y);
}

module _ (s : State) (sound : Sound s) (p t q : ℕ) (listed : In t (order_of s.machine p)) (opened : (process_at s.machine q).opened ≡ 1) where
  abbrev m : Machine
  m = s.machine

  needed : (b : Bool) → is_copied (region_at m p t) ≡ b → entries_needed m p t ≡ cond b (length (backed_pages m p t)) (length (single_pages m.entries (row_of p t)))
  unfolding entries_needed
  needed b e = ap (λ (c : Bool). cond c (length (backed_pages m p t)) (length (single_pages m.entries (row_of p t)))) e

  went : Passed (clone_refusals m p t q) → Cloned s (cond (is_copied (region_at m p t)) (copy_into s p t q) (share_into s p t q)) p t q
  unfolding clone_refusals copy_into share_into
  went k = go (is_copied (region_at m p t)) refl
    where
      room : (not (is_found (free_slot m q)) ≡ false) × (ltb (free_entries m) (entries_needed m p t) ≡ false)
      room = or_none (not (is_found (free_slot m q))) (ltb (free_entries m) (entries_needed m p t)) k.1.0

      entries : entries_needed m p t ≤ free_entries m
      entries = ltb-false (free_entries m) (entries_needed m p t) room.1

      go : (b : Bool) → is_copied (region_at m p t) ≡ b → Cloned s (cond b (copy_into s p t q) (share_into s p t q)) p t q
      go true e =
          let n = needed true e in
          let a = entries in
          let frames = ltb-false m.pool.free (entries_needed m p t) (subst (λ (b : Bool). (b && ltb m.pool.free (entries_needed m p t)) ≡ false) e k.1.1.0) in
          copy_cloned s sound p t q listed opened room.0 k.0 (eqb-true (region_at m p t).fork 1 e) (omega arith) (omega arith)
      go false e =
          let n = needed false e in
          let a = entries in
          share_cloned s sound p t q listed opened room.0 k.0 (omega arith) (eqb-false (region_at m p t).fork 1 e)

  clone_tried : Tried s (core_clone_region s p t q).state p t q (core_clone_region s p t q).answer
  unfolding core_clone_region
  clone_tried = go (first_of (clone_refusals m p t q)) refl
    where
      all : State
      all = cond (is_copied (region_at m p t)) (copy_into s p t q) (share_into s p t q)

      go : (d : Result ⊤ Refusal) → first_of (clone_refusals m p t q) ≡ d → Tried s (unless d s (fine all)).state p t q (unless d s (fine all)).answer
      go (Ok tt) e =
          let k = went (passed _ e) in
          record { facts = k.facts; new = k.new; lone = k.lone; rights = λ c home fork. ap (λ l. translate l (c / 4096)) ((k.eager fork).mapped p); outside = k.rights; done = λ y. k }
      go (Err x) e = tried_none s p t q x

-- ---- a process: its regions one after the other

-- the regions that are still to come are listed, and the clone's process is open
pub record Coming (l : List ℕ) (s : State) (p q : ℕ) : Type 0 where
  pub sound : Sound s
  pub listed : (t : ℕ) → In t l → In t (order_of s.machine p)
  pub opened : (process_at s.machine q).opened ≡ 1

module _ (t : ℕ) (l : List ℕ) (s : State) (p q : ℕ) (k : Coming (t ∷ l) s p q) where
  abbrev pub first : Try
  first = core_clone_region s p t q

  pub first_tried : Tried s first.state p t q first.answer
  first_tried = clone_tried s k.sound p t q (k.listed t (inl refl)) k.opened

  pub coming_on : Coming l first.state p q
  coming_on =
      let kept = clone_core s k.sound p t q (k.listed t (inl refl)) k.opened in
      record { sound = kept.0; listed = λ j i. grows_listed kept.1 p j (k.listed j (inr i)); opened = kept.1.opened q k.opened }

-- a property of the whole from that of the first and that of the rest
abbrev pub Rest : (State → Type 0) → Result ⊤ Refusal → State → List ℕ → ℕ → ℕ → Type 0
Rest P d u l p q = P (and_then (record { answer = d; state = u }) (λ v. clone_each l v p q)).state

pub each_facts : (l : List ℕ) (s : State) (p q : ℕ) → Coming l s p q → Facts s (clone_each l s p q).state q
unfolding clone_each
each_facts [] s p q k = facts_none s q
each_facts (t ∷ l) s p q k = go (first t l s p q k).answer (first t l s p q k).state (first_tried t l s p q k).facts (each_facts l (first t l s p q k).state p q (coming_on t l s p q k))
  where
    go : (d : Result ⊤ Refusal) (u : State) → Facts s u q → Facts u (clone_each l u p q).state q → Rest (λ v. Facts s v q) d u l p q
    go (Ok tt) u f rest = facts_then f rest
    go (Err x) u f rest = f

each_shown : (l : List ℕ) (s : State) (p q : ℕ) → Coming l s p q → (clone_each l s p q).answer ≡ Ok tt → (t c : ℕ) → In t l → home_slot s p c ≡ Some t → Shown s (clone_each l s p q).state p q c
unfolding clone_each
each_shown [] s p q k done t c i home = absurd i
each_shown (v ∷ l) s p q k done t c i home =
    go (first v l s p q k).answer (first v l s p q k).state (first_tried v l s p q k) (each_facts l (first v l s p q k).state p q (coming_on v l s p q k)) (each_shown l (first v l s p q k).state p q (coming_on v l s p q k)) done i
  where
    go : (d : Result ⊤ Refusal) (u : State) → Tried s u p v q d → Facts u (clone_each l u p q).state q → ((clone_each l u p q).answer ≡ Ok tt → (t c : ℕ) → In t l → home_slot u p c ≡ Some t → Shown u (clone_each l u p q).state p q c)
        → (and_then (record { answer = d; state = u }) (λ w. clone_each l w p q)).answer ≡ Ok tt → In t (v ∷ l) → Rest (λ w. Shown s w p q c) d u l p q
    go (Err x) u f rest later y j = absurd (err_not_ok y)
    go (Ok tt) u f rest later y (inl e) = let a = (f.done refl).shown c (home ∙ ap (λ (j : ℕ). Some j) e) in shown_then a (rest.stay q c a.slot a.home)
    go (Ok tt) u f rest later y (inr j) = let a = f.facts.stay p c t home in let b = later y t c j a.home in record { inherited = left_inherited a.left b.inherited; slot = b.slot; home = b.home }

-- whatever the answer: a new home in q shows what p showed there
each_new : (l : List ℕ) (s : State) (p q : ℕ) → p ≢ q → Coming l s p q → (c v : ℕ) → home_slot s q c ≡ None → home_slot (clone_each l s p q).state q c ≡ Some v → Inherited s (clone_each l s p q).state p q c
unfolding clone_each
each_new [] s p q other k c v none some = absurd (none_not_some (sym none ∙ some))
each_new (t ∷ l) s p q other k c v none some =
    go (first t l s p q k).answer (first t l s p q k).state (first_tried t l s p q k) (each_facts l (first t l s p q k).state p q (coming_on t l s p q k)) (each_new l (first t l s p q k).state p q other (coming_on t l s p q k) c v) some
  where
    go : (d : Result ⊤ Refusal) (u : State) → Tried s u p t q d → Facts u (clone_each l u p q).state q → (home_slot u q c ≡ None → home_slot (clone_each l u p q).state q c ≡ Some v → Inherited u (clone_each l u p q).state p q c)
        → home_slot (and_then (record { answer = d; state = u }) (λ w. clone_each l w p q)).state q c ≡ Some v → Rest (λ w. Inherited s w p q c) d u l p q
    go (Err x) u f rest later y = (f.new c v none y).inherited
    go (Ok tt) u f rest later y = at (home_slot u q c) refl
      where
        at : (h : Option ℕ) → home_slot u q c ≡ h → Inherited s (clone_each l u p q).state p q c
        at (Some w) e = let a = f.new c w none e in (shown_then a (rest.stay q c a.slot a.home)).inherited
        at None e = left_inherited (f.facts.others p c other) (later e y)

-- ---- the calls

abbrev pub cloned : State → ℕ → List ℕ
cloned s p = keep (λ t. eqb (region_at s.machine p t).per_thread 0) (order_of s.machine p)

-- a region's clone that passes its tests
region_tried : (s : State) → Sound s → (p a q : ℕ) → Passed (clone_region_refusals s p a q) → Tried s (core_clone_region s p (slot_at s p a) q).state p (slot_at s p a) q (core_clone_region s p (slot_at s p a) q).answer
unfolding clone_region_refusals
region_tried s sound p a q k = clone_tried s sound p (slot_at s p a) q (named_at s.machine p a k.0 k.1.1.1.0).listed (open_by_test s.machine q k.1.0)

-- a process's
pub coming : (s : State) → Sound s → (p q : ℕ) → Passed (clone_process_refusals s p q) → Coming (cloned s p) s p q
unfolding clone_process_refusals
coming s sound p q k = record { sound = sound; listed = λ t i. (in_keep (λ t. eqb (region_at s.machine p t).per_thread 0) t (order_of s.machine p) i).0; opened = open_by_test s.machine q k.1.0 }

pub is_cloned : (s : State) → Sound s → (p c slot : ℕ) → home_slot s p c ≡ Some slot → (region_at s.machine p slot).per_thread ≡ 0 → In slot (cloned s p)
is_cloned s sound p c slot home thread = keep_in (λ t. eqb (region_at s.machine p t).per_thread 0) slot (order_of s.machine p) (home_at s.machine (sound_owing s sound) p (c / 4096) slot home).listed (eq-eqb _ 0 thread)

pub clone_region_call : (s : State) → Sound s → (p a q : ℕ) → Facts s (calls.clone_region s p a q).state q
unfolding calls.clone_region
clone_region_call s sound p a q = guarded_same s _ (clone_region_refusals s p a q) _ (λ x. Facts s x q) (facts_none s q) (λ k. (region_tried s sound p a q k).facts)

pub clone_region_done : (s : State) → Sound s → (p a q slot : ℕ) → (calls.clone_region s p a q).answer ≡ Ok tt → region_for s.machine p a ≡ Some slot → Cloned s (calls.clone_region s p a q).state p slot q
unfolding calls.clone_region
clone_region_done s sound p a q slot done here =
    guarded_done s sound (clone_region_refusals s p a q) (core_clone_region s p (slot_at s p a) q) done (λ x. Cloned s x p slot q)
    (λ k y. subst (λ (j : ℕ). Cloned s (core_clone_region s p (slot_at s p a) q).state p j q) (ap row_found here) ((region_tried s sound p a q k).done y))

pub clone_region_shown : (s : State) → Sound s → (p a q c slot : ℕ) → (calls.clone_region s p a q).answer ≡ Ok tt → region_for s.machine p a ≡ Some slot → home_slot s p c ≡ Some slot → Shown s (calls.clone_region s p a q).state p q c
clone_region_shown s sound p a q c slot done here home = (clone_region_done s sound p a q slot done here).shown c home

pub clone_call : (s : State) → Sound s → (p q : ℕ) → Facts s (calls.clone s p q).state q
unfolding calls.clone core_clone
clone_call s sound p q = guarded_same s _ (clone_process_refusals s p q) _ (λ x. Facts s x q) (facts_none s q) (λ k. each_facts (cloned s p) s p q (coming s sound p q k))

pub clone_shown : (s : State) → Sound s → (p q c slot : ℕ) → (calls.clone s p q).answer ≡ Ok tt → home_slot s p c ≡ Some slot → (region_at s.machine p slot).per_thread ≡ 0 → Shown s (calls.clone s p q).state p q c
unfolding calls.clone core_clone
clone_shown s sound p q c slot done home thread =
    guarded_done s sound (clone_process_refusals s p q) (clone_each (cloned s p) s p q) done (λ x. Shown s x p q c)
    (λ k y. each_shown (cloned s p) s p q (coming s sound p q k) y slot c (is_cloned s sound p c slot home thread) home)

pub clone_new : (s : State) → Sound s → (p q c slot : ℕ) → p ≢ q → home_slot s q c ≡ None → home_slot (calls.clone s p q).state q c ≡ Some slot → Inherited s (calls.clone s p q).state p q c
unfolding calls.clone core_clone
clone_new s sound p q c slot other none =
    guarded_same s _ (clone_process_refusals s p q) _ (λ x. home_slot x q c ≡ Some slot → Inherited s x p q c) (λ some. absurd (none_not_some (sym none ∙ some)))
    (λ k some. each_new (cloned s p) s p q other (coming s sound p q k) c slot none some)

-- ---- what is seen stays

facts_stays : (s after : State) (r q c : ℕ) → Facts s after r → PrivateAt s q c → Stays s after q c
facts_stays s after r q c f private = let h = private_home s q c private in same_stays private (f.stay q c h.0 h.1).left.same

pub clone_region_stays : (p a r : ℕ) → CallStays (Call.clone_region p a r)
unfolding step call
clone_region_stays p a r s sound q c private free = facts_stays s _ r q c (clone_region_call s sound p a r) private

pub clone_stays : (p r : ℕ) → CallStays (Call.clone p r)
unfolding step call
clone_stays p r s sound q c private free = facts_stays s _ r q c (clone_call s sound p r) private

-- ---- POSIX

pub fork_inherits : ForkInherits
fork_inherits s p q a slot sound done home thread = (clone_shown s sound p q a slot done home thread).inherited

-- what a clone leaves alone: another process's pages, and every page that had a home
facts_view : (s after : State) (q r c : ℕ) → Facts s after q → (r ≢ q) ⊎ (home_slot s r c ≢ None) → view after r c ≡ view s r c
facts_view s after q r c f (inl z) = (f.others r c z).same.seen
facts_view s after q r c f (inr z) = go (home_slot s r c) refl
  where
    go : (x : Option ℕ) → home_slot s r c ≡ x → view after r c ≡ view s r c
    go (Some v) e = (f.stay r c v e).left.same.seen
    go None e = absurd (z e)

pub fork_keeps_others : ForkKeepsOthers
fork_keeps_others s p q sound r c z = facts_view s (calls.clone s p q).state q r c (clone_call s sound p q) z

pub clone_keeps_others : CloneKeepsOthers
clone_keeps_others s p a q sound r c z = facts_view s (calls.clone_region s p a q).state q r c (clone_region_call s sound p a q) z

pub clone_inherits : CloneInherits
clone_inherits s p q a c slot sound done here home = (clone_region_shown s sound p a q c slot done here home).inherited
