-- Cloning a region and a process keeps a machine sound.
use Rattle.std.specs.Prelude.{◌≡◌, Bool, ◌&&◌, not, List, [], ◌∷◌, ℕ, ◌≤◌, length, eqb, Result, Ok, Err, ⊤}
use Rattle.std.proofs.Math.Path.{refl, ap}
use Rattle.std.proofs.Common.{subst, inl, inr, arith}
use Rattle.std.proofs.Math.Bool.{true, false, cond}
use Rattle.std.proofs.Math.Dec.{ltb}
use borrow.Author.Tests.{eqb-true, ltb-false}
use Rattle.answers.specs.declared.Refusal.{Refusal}
use Rattle.laws.specs.Lists.{keep}
use Rattle.model.specs.Machine.{Machine, State, process_at, region_at, row_of, order_of}
use Rattle.model.specs.Answers.{fine, first_of, unless, and_then}
use Rattle.model.specs.Lookup.{segment_len, free_slot, free_entries, is_found}
use Rattle.model.specs.Segments.{reserved}
use Rattle.model.specs.Clone.{single_pages, backed_pages, is_copied, entries_needed, clone_refusals, share_into, copy_into, core_clone_region, clone_each, core_clone}
use Rattle.model.specs.Refusals.{slot_at, clone_region_refusals, clone_process_refusals}
use Rattle.model.specs.Calls as calls
use Rattle.model.specs.Run.{Call, call, step}
use Rattle.model.specs.Sound.{Sound}
use Rattle.laws.specs.BoolLaws.{or_none}
use Rattle.laws.specs.In.{In}
use Rattle.laws.specs.InListsLaws.{in_keep}
use Rattle.keeping.specs.Owing.{Owing, nothing}
use Rattle.keeping.specs.OwingOfSound.{sound_owing, sound_lent_is}
use Rattle.keeping.specs.SoundOfOwing.{owing_sound}
use Rattle.keeping.specs.GuardedKept.{Passed, passed, guarded_kept}
use Rattle.keeping.specs.ArgumentLaws.{named_at, open_by_test}
use Rattle.keeping.specs.CoreKept.{lent_as}
use Rattle.keeping.specs.Grows.{Grows, grows_listed, grows_same}
use Rattle.keeping.specs.CloneShareKept as sharing
use Rattle.keeping.specs.CloneCopyKept as copying

module _ (s : State) (sound : Sound s) (p t q : ℕ) (listed : In t (order_of s.machine p)) (opened : (process_at s.machine q).opened ≡ 1) where
  abbrev m : Machine
  m = s.machine

  o : Owing nothing m
  o = sound_owing s sound

  -- what a clone leaves
  abbrev pub Cloned : State → Type 0
  Cloned u = Sound u × Grows m u.machine

  module _ (free : not (is_found (free_slot m q)) ≡ false) (clear : reserved m q (region_at m p t).start.0 (segment_len (region_at m p t)) ≡ false) where
    copied : is_copied (region_at m p t) ≡ true → length (backed_pages m p t) ≤ free_entries m → length (backed_pages m p t) ≤ m.pool.free
        → Cloned (copy_into s p t q)
    unfolding copy_into
    copied e left room =
        let fork = eqb-true (region_at m p t).fork 1 e in
        let k = copying.copy_kept s o (sound_lent_is s sound) p t q listed opened free clear fork left room in
        (owing_sound _ k.0 k.1, copying.copy_grows s o (sound_lent_is s sound) p t q listed opened free clear fork)

    shared : length (single_pages m.entries (row_of p t)) ≤ free_entries m → Cloned (share_into s p t q)
    unfolding share_into
    shared left = (
      owing_sound _ (sharing.share_kept nothing m o p t q listed opened free clear left)
          (lent_as s _ (sharing.share_lent nothing m o p t q listed opened free clear) (sound_lent_is s sound)),
      sharing.share_grows nothing m o p t q listed opened free clear,
    )

  needed : (b : Bool) → is_copied (region_at m p t) ≡ b
      → entries_needed m p t ≡ cond b (length (backed_pages m p t)) (length (single_pages m.entries (row_of p t)))
  unfolding entries_needed
  needed b e = ap (λ (c : Bool). cond c (length (backed_pages m p t)) (length (single_pages m.entries (row_of p t)))) e

  went : Passed (clone_refusals m p t q) → Cloned (cond (is_copied (region_at m p t)) (copy_into s p t q) (share_into s p t q))
  unfolding clone_refusals
  went k = go (is_copied (region_at m p t)) refl (or_none (not (is_found (free_slot m q))) (ltb (free_entries m) (entries_needed m p t)) k.1.0) k.1.1.0
    where
      go : (b : Bool) → is_copied (region_at m p t) ≡ b → (not (is_found (free_slot m q)) ≡ false) × (ltb (free_entries m) (entries_needed m p t) ≡ false)
          → (is_copied (region_at m p t) && ltb m.pool.free (entries_needed m p t)) ≡ false → Cloned (cond b (copy_into s p t q) (share_into s p t q))
      go true e f g =
          let n = needed true e in
          let a = ltb-false (free_entries m) (entries_needed m p t) f.1 in
          let c = ltb-false m.pool.free (entries_needed m p t) (subst (λ (b : Bool). (b && ltb m.pool.free (entries_needed m p t)) ≡ false) e g) in
          copied f.0 k.0 e (omega arith) (omega arith)
      go false e f g = let n = needed false e in let a = ltb-false (free_entries m) (entries_needed m p t) f.1 in shared f.0 k.0 (omega arith)

  -- a region cloned or refused: sound; lists only grow at their end, regions in use and open processes stay
  pub clone_core : Cloned (core_clone_region s p t q).state
  unfolding core_clone_region
  clone_core = go (first_of (clone_refusals m p t q)) refl
    where
      go : (d : Result ⊤ Refusal) → first_of (clone_refusals m p t q) ≡ d
          → Cloned (unless d s (fine (cond (is_copied (region_at m p t)) (copy_into s p t q) (share_into s p t q)))).state
      go (Ok tt) e = went (passed _ e)
      go (Err x) e = (sound, grows_same refl refl refl)

pub clone_region_kept : (s : State) → Sound s → (p a q : ℕ) → Sound (step (Call.clone_region p a q) s)
unfolding step call calls.clone_region clone_region_refusals
clone_region_kept s sound p a q =
    guarded_kept s _ _ _ sound (λ k. (clone_core s sound p (slot_at s p a) q (named_at s.machine p a k.0 k.1.1.1.0).listed
    (open_by_test s.machine q k.1.0)).0)

-- one thing after another, with what the next needs
each_cloned : (l : List ℕ) (s : State) (p q : ℕ) → Sound s → ((t : ℕ) → In t l → In t (order_of s.machine p)) → (process_at s.machine q).opened ≡ 1
    → Sound (clone_each l s p q).state
unfolding clone_each
each_cloned [] s p q sound listed opened = sound
each_cloned (t ∷ l) s p q sound listed opened =
    go (core_clone_region s p t q).answer (core_clone_region s p t q).state (clone_core s sound p t q (listed t (inl refl)) opened)
    (λ u k. each_cloned l u p q k.0 (λ j i. grows_listed k.1 p j (listed j (inr i))) (k.1.opened q opened))
  where
    go : (d : Result ⊤ Refusal) (u : State) → Sound u × Grows s.machine u.machine
        → ((u : State) → Sound u × Grows s.machine u.machine → Sound (clone_each l u p q).state)
        → Sound (and_then (record { answer = d; state = u }) (λ v. clone_each l v p q)).state
    go (Ok tt) u k more = more u k
    go (Err x) u k more = k.0

pub clone_kept : (s : State) → Sound s → (p q : ℕ) → Sound (step (Call.clone p q) s)
unfolding step call calls.clone clone_process_refusals core_clone
clone_kept s sound p q =
    guarded_kept s _ _ _ sound (λ k. each_cloned (keep (λ t. eqb (region_at s.machine p t).per_thread 0) (order_of s.machine p)) s p q sound
    (λ t i. (in_keep (λ t. eqb (region_at s.machine p t).per_thread 0) t (order_of s.machine p) i).0) (open_by_test s.machine q k.1.0))
