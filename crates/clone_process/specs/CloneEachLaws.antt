-- A process's regions cloned one after the other: what is left of it gives what the whole gives.
use Rattle.std.specs.Prelude.{◌≡◌, Bool, true, false, List, ◌∷◌, ℕ, ◌+◌, ◌*◌, ◌≤◌, ◌<◌, get_or, drop, Result, Ok, Err, ⊤}
use Rattle.std.proofs.Math.Path.{refl, ap, sym}
use Rattle.std.proofs.Common.{subst, ◌∙◌, add-one, drop_of_length-le, length-append, drop-cons}
use Rattle.std.proofs.Math.Bool.{cond}
use native.Mathlib.Omega.{arith}
use Rattle.std.proofs.Math.ListN.{length, get_or-append}
use borrow.Author.Tests.{eq-eqb, ne_eqb, eqb-true}
use Rattle.answers.specs.declared.Refusal.{Refusal}
use Rattle.answers.specs.declared.Refusal.TheVariants.{NoProcess}
use Rattle.laws.specs.In.{In}
use Rattle.laws.specs.InLaws.{in_at}
use Rattle.laws.specs.InListsLaws.{few_below}
use Rattle.laws.specs.Lists.{keep}
use Rattle.laws.specs.TellsLaws.{told}
use Rattle.model.specs.declared.Region.{Region}
use Rattle.model.specs.Layout.{machine}
use Rattle.model.specs.Machine.{State, process_at, region_at, order_of}
use Rattle.model.specs.Lookup.{is_open}
use Rattle.model.specs.Answers.{Try, leaving, fine, and_then}
use Rattle.model.specs.Clone.{core_clone_region, clone_each, core_clone}
use Rattle.model.specs.Refusals.{clone_process_refusals}
use Rattle.model.specs.Calls.{clone}
use Rattle.model.specs.Sound.{Sound, Used}
use Rattle.model.specs.SoundTest.{soundb}
use Rattle.model.specs.RecordLaws.{sound_tells}
use Rattle.rows.specs.LentMemory.{state_of, SoundFrames, Does}
use Rattle.rows.specs.GuardedLaws.{refused, granted}
use Rattle.lookup.specs.FirstOfLaws.{first_here, first_later, first_none, not_no, not_yes}
use Rattle.lookup.specs.AttachedLaws.{order_slot}
use Rattle.keeping.specs.Owing.{Owing, nothing}
use Rattle.keeping.specs.OwingOfSound.{sound_owing}
use Rattle.keeping.specs.Grows.{Grows, grows_listed, grows_same, grows_then}
use Rattle.keeping.specs.CloneKept.{clone_core}
use Rattle.clone_process.specs.CloneEach.{is_cloned, clone_slot}

-- ---- one region

module _ (w f : List ℕ) (p t q : ℕ) (r : Region) (read : r ≡ region_at (machine w) p t) where
  pub slot_passed : (r.per_thread ≡ 0 → ⊥) → Does (λ s. clone_slot s p t q) w f w f (Ok tt)
  unfolding clone_slot
  slot_passed n files sound =
      ap (λ (b : Bool). cond b (core_clone_region (state_of w f files) p t q) (fine (state_of w f files))) (ap (λ (x : Region). is_cloned x) (sym read) ∙ ne_eqb r.per_thread 0 n)

  pub slot_cloned : r.per_thread ≡ 0 → (w' f' : List ℕ) (d : Result ⊤ Refusal) → Does (λ s. core_clone_region s p t q) w f w' f' d → Does (λ s. clone_slot s p t q) w f w' f' d
  unfolding clone_slot
  slot_cloned e w' f' d does files sound =
      ap (λ (b : Bool). cond b (core_clone_region (state_of w f files) p t q) (fine (state_of w f files))) (ap (λ (x : Region). is_cloned x) (sym read) ∙ eq-eqb r.per_thread 0 e)
      ∙ does files sound

-- it leaves a sound machine, whose lists have more at their end at most
slot_kept : (s : State) → Sound s → (p t q : ℕ) → In t (order_of s.machine p) → (process_at s.machine q).opened ≡ 1
    → Sound (clone_slot s p t q).state × Grows s.machine (clone_slot s p t q).state.machine
unfolding clone_slot
slot_kept s sound p t q listed opened = go (is_cloned (region_at s.machine p t))
  where
    go : (b : Bool) → Sound (cond b (core_clone_region s p t q) (fine s)).state × Grows s.machine (cond b (core_clone_region s p t q) (fine s)).state.machine
    go true = clone_core s sound p t q listed opened
    go false = (sound, grows_same refl refl refl)

-- the first of a list, then the others
each_slot : (c : ℕ → Bool) (t : ℕ) (l : List ℕ) (s : State) (p q : ℕ) → c t ≡ is_cloned (region_at s.machine p t)
    → clone_each (keep c (t ∷ l)) s p q ≡ and_then (clone_slot s p t q) (λ u. clone_each (keep c l) u p q)
unfolding keep clone_each clone_slot
each_slot c t l s p q e = go (c t) ∙ ap (λ (b : Bool). and_then (cond b (core_clone_region s p t q) (fine s)) (λ u. clone_each (keep c l) u p q)) e
  where
    go : (b : Bool) → clone_each (cond b (t ∷ keep c l) (keep c l)) s p q ≡ and_then (cond b (core_clone_region s p t q) (fine s)) (λ u. clone_each (keep c l) u p q)
    go true = refl
    go false = refl

-- ---- the loop

-- the first i of the list are done: the rest, of the list as it was, gives what the whole gives
pub record Cloning (p q : ℕ) (w₀ f₀ w f : List ℕ) (i : ℕ) : Type 0 where
  pub words : length w ≡ length w₀
  pub frames : length f ≡ length f₀
  pub low : i ≤ length (order_of (machine w₀) p)
  pub rest : (files : List ℕ) → soundb (state_of w₀ f₀ files) ≡ true
      → clone_each (keep (λ t. is_cloned (region_at (machine w₀) p t)) (drop i (order_of (machine w₀) p))) (state_of w f files) p q ≡ core_clone (state_of w₀ f₀ files) p q
  pub sound : (files : List ℕ) → soundb (state_of w₀ f₀ files) ≡ true → soundb (state_of w f files) ≡ true
  pub grows : Grows (machine w₀) (machine w)

module _ (w₀ f₀ : List ℕ) (k : SoundFrames w₀ f₀) (p q : ℕ) (p_low : p < 8) (open_clone : is_open (machine w₀) q ≡ true) (n : ℕ) (counted : n ≡ length (order_of (machine w₀) p)) where
  abbrev l : List ℕ
  l = order_of (machine w₀) p

  abbrev c : ℕ → Bool
  c t = is_cloned (region_at (machine w₀) p t)

  pub cloning_first : Cloning p q w₀ f₀ w₀ f₀ 0
  unfolding core_clone
  cloning_first = record { words = refl; frames = refl; low = omega arith; rest = λ files s. refl; sound = λ files s. s; grows = grows_same refl refl refl }

  pub cloning_all : (w f : List ℕ) (i : ℕ) → Cloning p q w₀ f₀ w f i → n ≤ i → Does (λ s. core_clone s p q) w₀ f₀ w f (Ok tt)
  unfolding keep clone_each
  cloning_all w f i g h files s = sym (g.rest files s) ∙ ap (λ x. clone_each (keep c x) (state_of w f files) p q) (drop_of_length-le l past)
    where
      past : length l ≤ i
      past = let e = counted in omega arith

  module _ (w f : List ℕ) (i : ℕ) (g : Cloning p q w₀ f₀ w f i) (more : i < n) where
    inside : i < length l
    inside = let e = counted in omega arith

    pub cloning_sound : SoundFrames w f
    cloning_sound = record { files = k.files; sound = g.sound k.files k.sound }

    owing : Owing nothing (machine w)
    owing = sound_owing (state_of w f k.files) ((sound_tells _).yes (g.sound k.files k.sound))

    opened : (process_at (machine w) q).opened ≡ 1
    opened = g.grows.opened q (eqb-true (process_at (machine w₀) q).opened 1 open_clone)

    module _ (t : ℕ) (read : t ≡ get_or (machine w).order (p * 64 + i) 0) where
      -- the place still names the same slot
      slot_is : t ≡ get_or l i 0
      slot_is =
          let here = inside in
          let few = few_below 64 (order_of (machine w) p) (owing.once p p_low) (λ x j. (owing.listed p x p_low j).0) in
          let size = ap (λ x. length x) (g.grows.order p) ∙ length-append l (g.grows.more p) in
          order_slot w p (length (order_of (machine w) p)) refl few i t (omega arith) read
          ∙ ap (λ x. get_or x i 0) (g.grows.order p) ∙ get_or-append l (g.grows.more p) 0 i inside

      was_listed : In t l
      was_listed = subst (λ (x : ℕ). In x l) (sym slot_is) (in_at 0 l i inside)

      is_listed : In t (order_of (machine w) p)
      is_listed = grows_listed g.grows p t was_listed

      pub slot_there : (t < 64) × Used (region_at (machine w) p t)
      slot_there = owing.listed p t p_low is_listed

      -- and the slot has the same region
      same_test : c t ≡ is_cloned (region_at (machine w) p t)
      same_test =
          let used = ((sound_owing (state_of w₀ f₀ k.files) ((sound_tells _).yes k.sound)).listed p t p_low was_listed).1 in
          ap (λ (x : Region). is_cloned x) (sym (g.grows.rows p t used))

      list_is : drop i l ≡ t ∷ drop (i + 1) l
      list_is = drop-cons l i 0 inside ∙ (λ j. sym slot_is j ∷ drop (sym (add-one i) j) l)

      module _ (w' f' : List ℕ) (d : Result ⊤ Refusal) (does : Does (λ s. clone_slot s p t q) w f w' f' d) where
        went : (files : List ℕ) → soundb (state_of w₀ f₀ files) ≡ true → and_then (leaving d (state_of w' f' files)) (λ u. clone_each (keep c (drop (i + 1) l)) u p q) ≡ core_clone (state_of w₀ f₀ files) p q
        went files s =
            sym (ap (λ (y : Try). and_then y (λ u. clone_each (keep c (drop (i + 1) l)) u p q)) (does files (g.sound files s)))
            ∙ sym (each_slot c t (drop (i + 1) l) (state_of w f files) p q same_test)
            ∙ sym (ap (λ x. clone_each (keep c x) (state_of w f files) p q) list_is)
            ∙ g.rest files s

        pub cloning_stops : (r : Refusal) → d ≡ Err r → Does (λ s. core_clone s p q) w₀ f₀ w' f' (Err r)
        cloning_stops r e files s = sym (went files s) ∙ ap (λ (x : Result ⊤ Refusal). and_then (leaving x (state_of w' f' files)) (λ u. clone_each (keep c (drop (i + 1) l)) u p q)) e

        left : (files : List ℕ) → soundb (state_of w₀ f₀ files) ≡ true → Sound (state_of w' f' files) × Grows (machine w) (machine w')
        left files s =
            subst (λ (y : Try). Sound y.state × Grows (machine w) y.state.machine) (does files (g.sound files s))
            (slot_kept (state_of w f files) ((sound_tells _).yes (g.sound files s)) p t q is_listed opened)

        pub cloning_more : d ≡ Ok tt → length w' ≡ length w → length f' ≡ length f → Cloning p q w₀ f₀ w' f' (i + 1)
        cloning_more e a b = record {
          words = a ∙ g.words;
          frames = b ∙ g.frames;
          low = let here = inside in omega arith;
          rest = λ files s. ap (λ (x : Result ⊤ Refusal). and_then (leaving x (state_of w' f' files)) (λ u. clone_each (keep c (drop (i + 1) l)) u p q)) (sym e) ∙ went files s;
          sound = λ files s. told (sound_tells (state_of w' f' files)) (left files s).0;
          grows = grows_then g.grows (left k.files k.sound).1;
        }

-- ---- the call

module _ (w f : List ℕ) (p q : ℕ) where
  pub source_closed : is_open (machine w) p ≡ false → Does (λ s. clone s p q) w f w f (Err NoProcess)
  unfolding clone clone_process_refusals
  source_closed o files s = refused (state_of w f files) (λ (r : Refusal). Err r) _ _ s NoProcess (first_here _ NoProcess _ (not_no _ o))

  module _ (o : is_open (machine w) p ≡ true) where
    pub target_closed : is_open (machine w) q ≡ false → Does (λ s. clone s p q) w f w f (Err NoProcess)
    unfolding clone clone_process_refusals
    target_closed t files s = refused (state_of w f files) (λ (r : Refusal). Err r) _ _ s NoProcess (first_later _ NoProcess _ _ (not_yes _ o) (first_here _ NoProcess _ (not_no _ t)))

    pub clone_done : is_open (machine w) q ≡ true → (w' f' : List ℕ) (d : Result ⊤ Refusal) → Does (λ s. core_clone s p q) w f w' f' d → Does (λ s. clone s p q) w f w' f' d
    unfolding clone clone_process_refusals
    clone_done t w' f' d does files s =
        granted (state_of w f files) (λ (r : Refusal). Err r) _ _ s (first_later _ NoProcess _ _ (not_yes _ o) (first_later _ NoProcess _ _ (not_yes _ t) first_none)) ∙ does files s
