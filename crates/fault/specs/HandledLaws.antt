-- Laws: a fault, its way refused or gone, and the call at an address.
use Rattle.std.specs.Prelude.{◌≡◌, Bool, true, List, ℕ, ◌/◌, Some, Result, Ok, Err, ⊤}
use Rattle.std.proofs.Math.Path.{ap, sym}
use Rattle.std.proofs.Common.{subst, ◌∙◌, eqb-true}
use Rattle.answers.specs.declared.Refusal.{Refusal}
use Rattle.model.specs.declared.Way.{Way}
use Rattle.model.specs.Layout.{machine}
use Rattle.model.specs.Machine.{Machine, State, process_at, region_at, order_of}
use Rattle.model.specs.Lookup.{contains, region_for}
use Rattle.model.specs.LookupLaws.{first_found}
use Rattle.model.specs.Answers.{leaving, fine, first_of, unless}
use Rattle.model.specs.Fault.{fault_way, way_refusals, go_way, handle_fault}
use Rattle.model.specs.Refusals.{region_refusals, slot_at}
use Rattle.model.specs.SoundTest.{soundb}
use Rattle.model.specs.RecordLaws.{sound_tells}
use Rattle.model.specs.Calls.{fault}
use Rattle.rows.specs.LentMemory.{state_of, words_alone, DoesWith}
use Rattle.rows.specs.GuardedLaws.{refused, granted}
use Rattle.lookup.specs.NamedLaws.{region_yes}
use Rattle.laws.specs.InListsLaws.{among_in}
use Rattle.keeping.specs.OwingOfSound.{sound_owing}
use Rattle.keeping.specs.OwingLaws.{open_low}
use Rattle.keeping.specs.FaultKept.{page_inside}
use Rattle.fault.specs.Goes.{FaultFits, Goes}

module _ (w f b : List ℕ) (p slot page : ℕ) (write : Bool) (way : Way) (is : way ≡ fault_way (machine w) p slot page write) (d : Result ⊤ Refusal) (told : d ≡ first_of (way_refusals (machine w) p slot page way)) where
  abbrev m : Machine
  m = machine w

  decides : d ≡ first_of (way_refusals m p slot page (fault_way m p slot page write))
  decides = told ∙ ap (λ (x : Way). first_of (way_refusals m p slot page x)) is

  pub goes : d ≡ Ok tt → Goes m p slot page way
  goes e = record { write = write; picked = is; passes = sym told ∙ e }

  pub handled_no : (r : Refusal) → d ≡ Err r → DoesWith (λ s. handle_fault s p slot page write) w f b w f (Err r)
  unfolding handle_fault
  handled_no r e = ap (λ (x : Result ⊤ Refusal). unless x (state_of w f b) (fine (go_way (state_of w f b) p slot page (fault_way m p slot page write)))) (sym decides ∙ e)

  pub handled_yes : d ≡ Ok tt → (w' f' : List ℕ) → state_of w' f' b ≡ go_way (state_of w f b) p slot page way → DoesWith (λ s. handle_fault s p slot page write) w f b w' f' (Ok tt)
  unfolding handle_fault
  handled_yes e w' f' k =
      ap (λ (x : Result ⊤ Refusal). unless x (state_of w f b) (fine (go_way (state_of w f b) p slot page (fault_way m p slot page write)))) (sym decides ∙ e)
      ∙ ap (λ (x : State). leaving (Ok tt) x) (sym (k ∙ ap (λ (x : Way). go_way (state_of w f b) p slot page x) is))

-- ---- a region that was found

module _ (w f b : List ℕ) (sound : soundb (state_of w f b) ≡ true) (p slot : ℕ) where
  -- the page of an address of the region that was found there
  pub found_address : (a : ℕ) → (process_at (machine w) p).opened ≡ 1 → Some slot ≡ region_for (machine w) p a → FaultFits w f b p slot (a / 4096)
  unfolding region_for
  found_address a opened e =
      let k = first_found (λ (t : ℕ). contains (region_at (machine w) p t) a) (order_of (machine w) p) slot (sym e) in
      let o = sound_owing (state_of w f b) ((sound_tells (state_of w f b)).yes sound) in
      let listed = among_in slot (order_of (machine w) p) k.1 in
      record { sound = sound; opened = opened; listed = listed; inside = page_inside (machine w) o p (open_low (machine w) o p opened) slot a listed k.0 }

-- ---- the call

module _ (w f b : List ℕ) (sound : soundb (state_of w f b) ≡ true) (p a : ℕ) (write : Bool) where
  pub fault_refused : (r : Refusal) → Err r ≡ first_of (region_refusals (words_alone w) p a) → DoesWith (λ s. fault s p a write) w f b w f (Err r)
  unfolding fault region_refusals
  fault_refused r e = refused (state_of w f b) (λ (q : Refusal). Err q) _ _ sound r e

  module _ (named : Ok tt ≡ first_of (region_refusals (words_alone w) p a)) (slot : ℕ) (here : slot ≡ slot_at (words_alone w) p a) (page : ℕ) (paged : page ≡ a / 4096) where
    pub fault_fits : FaultFits w f b p slot page
    fault_fits =
        let k = region_yes w p a named in
        subst (λ (i : ℕ). FaultFits w f b p slot i) (sym paged) (found_address w f b sound p slot a (eqb-true _ 1 k.0) (ap (λ (i : ℕ). Some i) here ∙ k.1))

    pub fault_done : (w' f' : List ℕ) (d : Result ⊤ Refusal) → DoesWith (λ s. handle_fault s p slot page write) w f b w' f' d → DoesWith (λ s. fault s p a write) w f b w' f' d
    unfolding fault region_refusals
    fault_done w' f' d k =
        granted (state_of w f b) (λ (q : Refusal). Err q) _ _ sound named
        ∙ sym (λ i. handle_fault (state_of w f b) p (here i) (paged i) write)
        ∙ k
