-- Pin and unpin, way by way.
use Rattle.std.specs.Prelude.{◌≡◌, ℕ, ◌+◌, ◌*◌, ◌<◌, ◌≤◌, Bool, true, false, not, ◌&&◌, ◌||◌, List, [], ◌≢◌, nat_le, nat_lt, slice_set, Option, Some, None, Ok, Err}
use Rattle.std.proofs.Math.Path.{refl, ap}
use Rattle.std.proofs.Common.{sym, ◌∙◌, arith}
use borrow.Author.Tests.{le-leb, lt-leb, lt-ltb, le-ltb, ltb-true, ltb-false}
use Rattle.answers.specs.declared.Refusal.{Refusal}
use Rattle.answers.specs.declared.Refusal.TheVariants.{NoProcess, BadAddress, NoRegion, TableFull}
use Rattle.address.specs.Canonical.{user}
use Rattle.model.specs.declared.Region.{Region}
use Rattle.model.specs.Machine.{Machine, with_machine, with_regions, region_at, no_region, most_pins}
use Rattle.model.specs.Layout.{machine}
use Rattle.model.specs.Lookup.{is_open, is_found, is_pinned, row_found, any_region_for, is_used, contains, regions_of}
use Rattle.model.specs.Answers.{first_of, fine}
use Rattle.model.specs.Pins.{with_pins, pin_region, unpin_region}
use Rattle.model.specs.Refusals.{region_refusals, pin_refusals, unpin_refusals, slot_at, unpin_slot}
use Rattle.model.specs.Calls.{pin, unpin}
use Rattle.model.specs.RecordLaws.{sound_tells}
use Rattle.rows.specs.LentMemory.{DoesWords, state_of, words_alone}
use Rattle.rows.specs.GuardedLaws.{refused, granted}
use Rattle.lookup.specs.FirstOfLaws.{first_here, first_later, first_none, first_before, first_after, not_no, not_yes}
use Rattle.laws.specs.ListsLaws.{part_length}
use Rattle.lookup.specs.LookupsLaws.{regions_length}
use Rattle.model.specs.FoundRowLaws.{first_found}
use Rattle.remove.specs.AccountedLaws.{sound_accounted}
use Rattle.pins.specs.Unpins.{Unpinned}

-- ---- pin

module _ (w : List ℕ) (p a : ℕ) where
  pub pin_refused : (r : Refusal) → Err r ≡ first_of (region_refusals (words_alone w) p a) → DoesWords (λ s. pin s p a) w w (Err r)
  unfolding pin pin_refusals region_refusals
  pin_refused r e f b s = refused (state_of w f b) Err _ _ s r (first_before _ _ r e)

  module _ (e : Ok tt ≡ first_of (region_refusals (words_alone w) p a)) (slot : ℕ) (j : slot ≡ slot_at (words_alone w) p a) (r : Region) (read : r ≡ region_at (machine w) p slot) where
    here : r ≡ region_at (machine w) p (slot_at (words_alone w) p a)
    here = read ∙ ap (λ (k : ℕ). region_at (machine w) p k) j

    pub pin_full : most_pins ≤ r.pins → DoesWords (λ s. pin s p a) w w (Err TableFull)
    unfolding pin pin_refusals region_refusals
    pin_full h f b s = refused (state_of w f b) Err _ _ s TableFull (first_here _ TableFull [] (ap (λ (x : Region). nat_le most_pins x.pins) (sym here) ∙ le-leb most_pins r.pins h) ∙ first_after _ _ e)

    pub pin_done : r.pins < most_pins → (x : Region) → x ≡ with_pins r (r.pins + 1) → (v : List ℕ) → machine v ≡ with_regions (machine w) (slice_set (machine w).regions (p * 64 + slot) x) → DoesWords (λ s. pin s p a) w v (Ok tt)
    unfolding pin pin_refusals region_refusals pin_region
    pin_done h x row v put f b s =
        granted (state_of w f b) Err _ (fine (with_machine (state_of w f b) (pin_region (machine w) p (slot_at (words_alone w) p a)))) s (first_later _ TableFull [] _ (ap (λ (y : Region). nat_le most_pins y.pins) (sym here) ∙ lt-leb most_pins r.pins h) first_none ∙ first_after _ _ e)
        ∙ ap (λ (y : Machine). fine (with_machine (state_of w f b) y)) (sym (put ∙ (λ t. with_regions (machine w) (slice_set (machine w).regions (p * 64 + j t) (again t)))))
      where
        again : x ≡ with_pins (region_at (machine w) p (slot_at (words_alone w) p a)) ((region_at (machine w) p (slot_at (words_alone w) p a)).pins + 1)
        again = row ∙ ap (λ (y : Region). with_pins y (y.pins + 1)) here

-- ---- unpin

pub any_small : (w : List ℕ) (p a i : ℕ) → p < 8 → Some i ≡ any_region_for (machine w) p a → i < 64
unfolding any_region_for
any_small w p a i h e =
    let found = (first_found (λ r. is_used r && contains r a) (regions_of (machine w) p) i no_region (sym e)).0 in
    let sized = part_length (machine w).regions 64 p (rw regions_length (omega arith)) in
    omega arith

module _ (w : List ℕ) (p a : ℕ) where
  pub unpin_closed : is_open (machine w) p ≡ false → DoesWords (λ s. unpin s p a) w w (Err NoProcess)
  unfolding unpin unpin_refusals
  unpin_closed o f b s = refused (state_of w f b) Err _ _ s NoProcess (first_here _ NoProcess _ (not_no _ o))

  module _ (o : is_open (machine w) p ≡ true) where
    pub unpin_address : user a ≡ false → DoesWords (λ s. unpin s p a) w w (Err BadAddress)
    unfolding unpin unpin_refusals
    unpin_address u f b s = refused (state_of w f b) Err _ _ s BadAddress (first_later _ NoProcess _ _ (not_yes _ o) (first_here _ BadAddress _ (not_no _ u)))

    module _ (u : user a ≡ true) where
      abbrev missing : Bool
      missing = not (is_found (any_region_for (machine w) p a)) || not (is_pinned (region_at (machine w) p (unpin_slot (words_alone w) p a)))

      no_pin : missing ≡ true → DoesWords (λ s. unpin s p a) w w (Err NoRegion)
      unfolding unpin unpin_refusals
      no_pin q f b s = refused (state_of w f b) Err _ _ s NoRegion (first_later _ NoProcess _ _ (not_yes _ o) (first_later _ BadAddress _ _ (not_yes _ u) (first_here _ NoRegion _ q)))

      pub unpin_none : None ≡ any_region_for (machine w) p a → DoesWords (λ s. unpin s p a) w w (Err NoRegion)
      unpin_none n = no_pin (rw (sym n) refl)

      module _ (slot : ℕ) (e : Some slot ≡ any_region_for (machine w) p a) (r : Region) (read : r ≡ region_at (machine w) p slot) where
        is_missing : (b : Bool) → is_pinned r ≡ b → missing ≡ not b
        is_missing b q = ap (λ (x : Option ℕ). not (is_found x) || not (is_pinned (region_at (machine w) p (row_found x)))) (sym e) ∙ ap (λ (x : Region). not (is_pinned x)) (sym read) ∙ ap (λ (x : Bool). not x) q

        pub unpin_unpinned : r.pins ≡ 0 → DoesWords (λ s. unpin s p a) w w (Err NoRegion)
        unpin_unpinned z = no_pin (is_missing false (le-ltb 0 r.pins (omega arith)))

        pub unpin_done : (r.pins ≢ 0) → (v : List ℕ) → Unpinned (machine w) p slot (machine v) → DoesWords (λ s. unpin s p a) w v (Ok tt)
        unfolding unpin unpin_refusals
        unpin_done z v less f b s =
            granted (state_of w f b) Err _ (fine (with_machine (state_of w f b) (unpin_region (machine w) p (unpin_slot (words_alone w) p a)))) s (first_later _ NoProcess _ _ (not_yes _ o) (first_later _ BadAddress _ _ (not_yes _ u) (first_later _ NoRegion _ _ (is_missing true (lt-ltb 0 r.pins (some r.pins z))) first_none)))
            ∙ ap (λ (y : Machine). fine (with_machine (state_of w f b) y)) (sym (less (sound_accounted (state_of w f b) ((sound_tells _).yes s)) ∙ ap (λ (x : Option ℕ). unpin_region (machine w) p (row_found x)) e))
          where
            some : (n : ℕ) → (n ≢ 0) → 0 < n
            some n k = go (nat_lt 0 n) refl
              where
                go : (t : Bool) → nat_lt 0 n ≡ t → 0 < n
                go true q = ltb-true 0 n q
                go false q = let low = ltb-false 0 n q in absurd (k (omega arith))
