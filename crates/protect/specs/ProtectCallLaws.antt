-- Each way through the refusals of protect, and the call.
use Rattle.std.specs.Prelude.{◌≡◌, refl, Bool, true, false, cond, List, ℕ, ◌<◌, Option, Some, None, Result, Ok, Err, ⊤, is_some}
use Rattle.laws.specs.ResultLaws.{none_not_some, some_not_none}
use Rattle.std.proofs.lemmas.Bool.{false≢true}
use Rattle.std.proofs.Math.Path.{ap, sym}
use Rattle.std.proofs.Common.{◌∙◌}
use Rattle.std.proofs.Math.Bool.{not}
use borrow.Author.Tests.{eq-eqb, ne_eqb, not-false}
use Rattle.answers.specs.declared.Refusal.{Refusal}
use Rattle.answers.specs.declared.Refusal.TheVariants.{NoProcess, BadAddress, BadFlags, NoRegion, UnsupportedRegion}
use Rattle.address.specs.Canonical.{user}
use Rattle.address.specs.Flags.{good_flags, checked_flags}
use Rattle.address.specs.declared.flags.PageTableFlags.{PageTableFlags}
use Rattle.model.specs.declared.Region.{Region}
use Rattle.model.specs.Machine.{Machine, with_machine, region_at}
use Rattle.model.specs.Layout.{machine}
use Rattle.model.specs.Lookup.{is_open, is_found, row_found, is_shared, region_for}
use Rattle.model.specs.Answers.{first_of, fine}
use Rattle.model.specs.Protect.{set_protection}
use Rattle.model.specs.Refusals.{protect_refusals, slot_at}
use Rattle.model.specs.Calls.{protect}
use Rattle.model.specs.FoundRowLaws.{found_row}
use Rattle.model.specs.RecordLaws.{sound_tells}
use Rattle.rows.specs.LentMemory.{DoesWords, state_of, words_alone, SoundWords}
use Rattle.rows.specs.GuardedLaws.{refused, granted}
use Rattle.lookup.specs.FirstOfLaws.{first_here, first_later, first_none, first_passed, not_no, not_yes, open_small}
use Rattle.lookup.specs.Named.{named_by}
use Rattle.lookup.specs.NamedLaws.{named_slot}
use Rattle.lookup.specs.NamedSlotLaws.{slot_small}
use Rattle.paging.specs.MapperLaws.{well_paged}
use Rattle.protect.specs.Protects.{Protected}
use Rattle.protect.specs.ProtectCall.{protect_by}

-- the checked construction tells which flags are good
pub good_told : (n : ℕ) (f : PageTableFlags) → Some f ≡ checked_flags n → good_flags n ≡ true
unfolding checked_flags
good_told n f e = go (good_flags n) e
  where
    go : (b : Bool) → ◌≡◌ {A = Option PageTableFlags} (Some f) (cond b (Some (record { 0 = n })) None) → b ≡ true
    go true p = refl
    go false p = absurd (some_not_none p)

pub bad_told : (n : ℕ) → None ≡ checked_flags n → good_flags n ≡ false
unfolding checked_flags
bad_told n e = go (good_flags n) e
  where
    go : (b : Bool) → ◌≡◌ {A = Option PageTableFlags} None (cond b (Some (record { 0 = n })) None) → b ≡ false
    go true p = absurd (none_not_some p)
    go false p = refl

module _ (n : ℕ) where
  pub good_by_test : (o : Option PageTableFlags) → o ≡ checked_flags n → is_some o ≡ true → good_flags n ≡ true
  good_by_test (Some f) e t = good_told n f e
  good_by_test None e t = absurd (false≢true t)

  pub bad_by_test : (o : Option PageTableFlags) → o ≡ checked_flags n → is_some o ≡ false → good_flags n ≡ false
  bad_by_test (Some f) e t = absurd (false≢true (sym t))
  bad_by_test None e t = bad_told n e

module _ (w : List ℕ) (p a flags : ℕ) where
  no_slot : (r : Refusal) → Err r ≡ first_of (protect_refusals (words_alone w) p a flags) → Err r ≡ protect_by w p a flags
  no_slot r e = ap (λ (d : Result ⊤ Refusal). named_by d (slot_at (words_alone w) p a)) e

  pub protect_closed : is_open (machine w) p ≡ false → Err NoProcess ≡ protect_by w p a flags
  unfolding protect_refusals
  protect_closed o = no_slot NoProcess (first_here _ NoProcess _ (not_no _ o))

  module _ (o : is_open (machine w) p ≡ true) where
    pub protect_address : user a ≡ false → Err BadAddress ≡ protect_by w p a flags
    unfolding protect_refusals
    protect_address u = no_slot BadAddress (first_later _ NoProcess _ _ (not_yes _ o) (first_here _ BadAddress _ (not_no _ u)))

    module _ (u : user a ≡ true) where
      pub protect_flags : good_flags flags ≡ false → Err BadFlags ≡ protect_by w p a flags
      unfolding protect_refusals
      protect_flags g = no_slot BadFlags (first_later _ NoProcess _ _ (not_yes _ o) (first_later _ BadAddress _ _ (not_yes _ u) (first_here _ BadFlags _ (not_no _ g))))

      module _ (g : good_flags flags ≡ true) where
        pub protect_none : None ≡ region_for (machine w) p a → Err NoRegion ≡ protect_by w p a flags
        unfolding protect_refusals
        protect_none f = no_slot NoRegion (first_later _ NoProcess _ _ (not_yes _ o) (first_later _ BadAddress _ _ (not_yes _ u) (first_later _ BadFlags _ _ (not_yes _ g) (first_here _ NoRegion _ (ap (λ x. not (is_found x)) (sym f))))))

        module _ (i : ℕ) (f : Some i ≡ region_for (machine w) p a) (r : Region) (read : r ≡ region_at (machine w) p i) where
          here : r ≡ region_at (machine w) p (slot_at (words_alone w) p a)
          here = read ∙ ap (λ (x : Option ℕ). region_at (machine w) p (row_found x)) f

          pub protect_shared : r.kind ≡ 3 → Err UnsupportedRegion ≡ protect_by w p a flags
          unfolding protect_refusals
          protect_shared k = no_slot UnsupportedRegion (first_later _ NoProcess _ _ (not_yes _ o) (first_later _ BadAddress _ _ (not_yes _ u) (first_later _ BadFlags _ _ (not_yes _ g) (first_later _ NoRegion _ _ (ap (λ x. not (is_found x)) (sym f)) (first_here _ UnsupportedRegion _ (ap (λ (x : Region). is_shared x) (sym here) ∙ eq-eqb r.kind 3 k))))))

          pub protect_some : (r.kind ≡ 3 → ⊥) → Ok i ≡ protect_by w p a flags
          unfolding protect_refusals
          protect_some k = λ t. named_by (pass t) (row_found (f t))
            where
              pass : Ok tt ≡ first_of (protect_refusals (words_alone w) p a flags)
              pass = first_later _ NoProcess _ _ (not_yes _ o) (first_later _ BadAddress _ _ (not_yes _ u) (first_later _ BadFlags _ _ (not_yes _ g) (first_later _ NoRegion _ _ (ap (λ x. not (is_found x)) (sym f)) (first_later _ UnsupportedRegion _ _ (ap (λ (x : Region). is_shared x) (sym here) ∙ ne_eqb r.kind 3 k) first_none))))

  -- the slot of a sound machine, and its range
  pub protect_small : SoundWords w → (j : ℕ) (n : Result ℕ Refusal) → n ≡ protect_by w p a flags → n ≡ Ok j → (p < 8) × (j < 64)
  unfolding protect_refusals
  protect_small k j n e f =
      let named = named_slot _ _ j n e f in
      let one = first_passed _ NoProcess _ named.0 in
      let two = first_passed _ BadAddress _ one.1 in
      let three = first_passed _ BadFlags _ two.1 in
      let four = first_passed _ NoRegion _ three.1 in
      let small = open_small w p (not-false _ one.0) in
      (small, slot_small w k p a j small (ap (λ (i : ℕ). Some i) named.1 ∙ sym (found_row (region_for (machine w) p a) four.0)))

  pub protect_refused : (r : Refusal) → Err r ≡ first_of (protect_refusals (words_alone w) p a flags) → DoesWords (λ s. protect s p a flags) w w (Err r)
  unfolding protect protect_refusals
  protect_refused r e f b s = refused (state_of w f b) Err _ _ s r e

  pub protect_done : Ok tt ≡ first_of (protect_refusals (words_alone w) p a flags) → p < 8 → (slot : ℕ) → slot ≡ slot_at (words_alone w) p a → (v : List ℕ) → Protected (machine w) p slot flags (machine v) → DoesWords (λ s. protect s p a flags) w v (Ok tt)
  unfolding protect protect_refusals
  protect_done e h slot j v new f b s =
      granted (state_of w f b) Err _ (fine (with_machine (state_of w f b) (set_protection (machine w) p (slot_at (words_alone w) p a) flags))) s e
      ∙ ap (λ (x : Machine). fine (with_machine (state_of w f b) x)) (sym (new (well_paged (state_of w f b) p ((sound_tells _).yes s) h) ∙ ap (λ (k : ℕ). set_protection (machine w) p k flags) j))
