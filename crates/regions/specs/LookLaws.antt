-- The calls that look, way by way.
use Rattle.std.specs.Prelude.{◌≡◌, Bool, ℕ, ◌+◌, ◌*◌, replicate, Ok, Err, true, false, Result}
use Rattle.std.proofs.Math.Path.{refl, ap, sym}
use Rattle.std.proofs.Common.{◌∙◌}
use Rattle.std.proofs.Math.Bool.{cond}
use mathlib.Core.List.{List}
use Rattle.std.proofs.Math.ListN.{get_or}
use Rattle.answers.specs.declared.Refusal.{Refusal}
use Rattle.model.specs.declared.Region.{Region}
use Rattle.model.specs.declared.Listed.{Listed}
use Rattle.model.specs.Machine.{no_region, order_of}
use Rattle.model.specs.Layout.{machine}
use Rattle.model.specs.Lookup.{covered, starts_of}
use Rattle.model.specs.Answers.{first_of, listing, not_listed}
use Rattle.model.specs.Refusals.{process_refusals, region_refusals, slot_at}
use Rattle.model.specs.Calls.{region, covers, regions}
use Rattle.rows.specs.LentMemory.{SoundWords, state_of, words_alone, OnSound}
use Rattle.rows.specs.GuardedLaws.{refused, granted}

module _ (w : List ℕ) (p a : ℕ) where
  pub region_refused : (r : Refusal) → Err r ≡ first_of (region_refusals (words_alone w) p a) → OnSound (λ s. region s p a) w (Err r)
  unfolding region region_refusals
  region_refused r e f b s = sym (ap (λ x. x.answer) (refused (state_of w f b) Err _ _ s r e))

  pub region_answered : Ok tt ≡ first_of (region_refusals (words_alone w) p a) → (slot : ℕ) (row : Region) → row ≡ get_or (machine w).regions (p * 64 + slot) no_region → slot ≡ slot_at (words_alone w) p a → OnSound (λ s. region s p a) w (Ok row.start)
  unfolding region region_refusals
  region_answered e slot row q j f b s =
      ap (λ (x : Region). Ok x.start) (q ∙ ap (λ (k : ℕ). get_or (machine w).regions (p * 64 + k) no_region) j)
      ∙ sym (ap (λ x. x.answer) (granted (state_of w f b) Err _ _ s e))

module _ (w : List ℕ) (p : ℕ) where
  module _ (a e : ℕ) where
    pub covers_refused : (r : Refusal) → Err r ≡ first_of (process_refusals (words_alone w) p) → OnSound (λ s. covers s p a e) w (Err r)
    unfolding covers process_refusals
    covers_refused r q f b s = sym (ap (λ x. x.answer) (refused (state_of w f b) Err _ _ s r q))

    pub covers_answered : Ok tt ≡ first_of (process_refusals (words_alone w) p) → (c : Bool) → (SoundWords w → c ≡ covered (machine w) p a e) → OnSound (λ s. covers s p a e) w (Ok c)
    unfolding covers process_refusals
    covers_answered q c k f b s = told c ∙ ap (λ (x : Bool). cond x (Ok true) (Ok false)) (k (record { frames = f; files = b; sound = s })) ∙ sym (ap (λ x. x.answer) (granted (state_of w f b) Err _ _ s q))
      where
        told : (x : Bool) → ◌≡◌ {A = Result Bool Refusal} (Ok x) (cond x (Ok true) (Ok false))
        told true = refl
        told false = refl

  pub regions_refused : (r : Refusal) → Err r ≡ first_of (process_refusals (words_alone w) p) → (zeros : List ℕ) → zeros ≡ replicate 64 0 → OnSound (λ s. regions s p) w (record { done = Err r; count = 0; starts = zeros })
  unfolding regions process_refusals not_listed
  regions_refused r q zeros z f b s = ap (λ (l : List ℕ). record { done = Err r; count = 0; starts = l }) z ∙ sym (ap (λ x. x.answer) (refused (state_of w f b) not_listed _ _ s r q))

  pub regions_answered : Ok tt ≡ first_of (process_refusals (words_alone w) p) → (l : Listed) → l ≡ listing (starts_of (machine w) p (order_of (machine w) p)) → OnSound (λ s. regions s p) w l
  unfolding regions process_refusals
  regions_answered q l k f b s = k ∙ sym (ap (λ x. x.answer) (granted (state_of w f b) not_listed _ _ s q))
