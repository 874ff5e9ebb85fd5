-- Each way through the refusals of the call that clones a region, and the call.
use Rattle.std.specs.Prelude.{◌≡◌, ◌≢◌, true, false, List, ℕ, ◌<◌, Option, Some, None, Result, Ok, Err, ⊤}
use Rattle.std.specs.Option.{ok_or}
use Rattle.std.proofs.Math.Path.{ap, subst}
use Rattle.std.proofs.Common.{sym, ◌∙◌}
use Rattle.std.proofs.Math.Bool.{not}
use Rattle.std.proofs.lemmas.Bool.{not-false}
use Rattle.answers.specs.declared.Refusal.{Refusal}
use Rattle.answers.specs.declared.Refusal.TheVariants.{NoProcess, BadAddress, NoRegion}
use Rattle.address.specs.Canonical.{user}
use Rattle.model.specs.Layout.{machine}
use Rattle.model.specs.Machine.{region_at}
use Rattle.model.specs.Lookup.{is_open, is_found, row_found, region_for}
use Rattle.model.specs.Answers.{first_of}
use Rattle.model.specs.Clone.{core_clone_region}
use Rattle.model.specs.Refusals.{clone_region_refusals, slot_at}
use Rattle.model.specs.Calls.{clone_region}
use Rattle.model.specs.RecordLaws.{sound_tells}
use Rattle.rows.specs.LentMemory.{state_of, words_alone, SoundFrames, Does}
use Rattle.rows.specs.GuardedLaws.{refused, granted}
use Rattle.lookup.specs.FirstOfLaws.{first_here, first_later, first_none, first_passed, not_no, not_yes, open_small}
use Rattle.lookup.specs.Named.{named_by}
use Rattle.lookup.specs.NamedLaws.{named_slot, named_no}
use Rattle.keeping.specs.OwingOfSound.{sound_owing}
use Rattle.keeping.specs.ArgumentLaws.{named_at}
use Rattle.clone_region.specs.CloneCall.{clone_by}

module _ (w : List ℕ) (p a q : ℕ) where
  no_slot : (r : Refusal) → Err r ≡ first_of (clone_region_refusals (words_alone w) p a q) → Err r ≡ clone_by w p a q
  no_slot r e = ap (λ (d : Result ⊤ Refusal). named_by d (slot_at (words_alone w) p a)) e

  pub source_closed : is_open (machine w) p ≡ false → Err NoProcess ≡ clone_by w p a q
  unfolding clone_region_refusals
  source_closed o = no_slot NoProcess (first_here _ NoProcess _ (not_no _ o))

  module _ (o : is_open (machine w) p ≡ true) where
    pub target_closed : is_open (machine w) q ≡ false → Err NoProcess ≡ clone_by w p a q
    unfolding clone_region_refusals
    target_closed t = no_slot NoProcess (first_later _ NoProcess _ _ (not_yes _ o) (first_here _ NoProcess _ (not_no _ t)))

    module _ (t : is_open (machine w) q ≡ true) where
      pub clone_address : user a ≡ false → Err BadAddress ≡ clone_by w p a q
      unfolding clone_region_refusals
      clone_address u = no_slot BadAddress (first_later _ NoProcess _ _ (not_yes _ o) (first_later _ NoProcess _ _ (not_yes _ t) (first_here _ BadAddress _ (not_no _ u))))

      module _ (u : user a ≡ true) where
        pub clone_none : None ≡ region_for (machine w) p a → Err NoRegion ≡ clone_by w p a q
        unfolding clone_region_refusals
        clone_none f = no_slot NoRegion (first_later _ NoProcess _ _ (not_yes _ o) (first_later _ NoProcess _ _ (not_yes _ t) (first_later _ BadAddress _ _ (not_yes _ u) (first_here _ NoRegion _ (ap (λ x. not (is_found x)) (sym f))))))

        pub clone_some : (i : ℕ) → Some i ≡ region_for (machine w) p a → Ok i ≡ clone_by w p a q
        unfolding clone_region_refusals
        clone_some i f = λ k. named_by (pass k) (row_found (f k))
          where
            pass : Ok tt ≡ first_of (clone_region_refusals (words_alone w) p a q)
            pass = first_later _ NoProcess _ _ (not_yes _ o) (first_later _ NoProcess _ _ (not_yes _ t) (first_later _ BadAddress _ _ (not_yes _ u) (first_later _ NoRegion _ _ (ap (λ x. not (is_found x)) (sym f)) first_none)))

        pub clone_found : (x : Option ℕ) → x ≡ region_for (machine w) p a → ok_or x NoRegion ≡ clone_by w p a q
        clone_found None f = clone_none f
        clone_found (Some i) f = clone_some i f

  module _ (f : List ℕ) (k : SoundFrames w f) (n : Result ℕ Refusal) (told : n ≡ clone_by w p a q) where
    pub clone_named : (j : ℕ) → n ≡ Ok j → (p < 8) × ((q < 8) × ((j < 64) × ((region_at (machine w) p j).kind ≢ 0)))
    unfolding clone_region_refusals
    clone_named j e =
        let named = named_slot _ _ j n told e in
        let one = first_passed _ NoProcess _ named.0 in
        let two = first_passed _ NoProcess _ one.1 in
        let three = first_passed _ BadAddress _ two.1 in
        let four = first_passed _ NoRegion _ three.1 in
        let p_low = open_small w p (not-false _ one.0) in
        let owing = sound_owing (state_of w f k.files) ((sound_tells _).yes k.sound) in
        let there = named_at (machine w) p a one.0 four.0 in
        let is = owing.listed p (slot_at (words_alone w) p a) p_low there.listed in
        let same = named.1 in
        (p_low, (open_small w q (not-false _ two.0), (subst (λ (i : ℕ). i < 64) (sym same) is.0, subst (λ (i : ℕ). (region_at (machine w) p i).kind ≢ 0) (sym same) is.1)))

    pub call_refused : (r : Refusal) → n ≡ Err r → Does (λ s. clone_region s p a q) w f w f (Err r)
    unfolding clone_region clone_region_refusals
    call_refused r e b s = refused (state_of w f b) (λ (x : Refusal). Err x) _ _ s r (named_no _ _ r n told e)

    pub call_cloned : (j : ℕ) → n ≡ Ok j → (w' f' : List ℕ) (d : Result ⊤ Refusal) → Does (λ s. core_clone_region s p j q) w f w' f' d → Does (λ s. clone_region s p a q) w f w' f' d
    unfolding clone_region clone_region_refusals
    call_cloned j e w' f' d does b s =
        let named = named_slot _ _ j n told e in
        granted (state_of w f b) (λ (x : Refusal). Err x) _ (core_clone_region (state_of w f b) p (slot_at (words_alone w) p a) q) s named.0 ∙ ap (λ (i : ℕ). core_clone_region (state_of w f b) p i q) (sym named.1) ∙ does b s
