-- Laws of `Granted`: loads and stores, way by way: which test refuses, and where the byte stands.
use Rattle.std.specs.Prelude.{◌≡◌, Bool, false, ℕ, ◌+◌, ◌*◌, ◌/◌, ◌%◌, ◌<◌, Option, Some, None, Result, Ok, Err, ⊤}
use Rattle.std.proofs.Math.Path.{refl, ap, sym}
use Rattle.std.proofs.Common.{◌∙◌}
use Rattle.std.proofs.Math.Bool.{true}
use Rattle.std.proofs.lemmas.Bool.{false≢true, not-false}
use mathlib.Core.List.{List}
use native.Mathlib.Omega.{arith}
use Rattle.std.proofs.Math.ListN.{length, get_or, set}
use Rattle.answers.specs.declared.Refusal.{Refusal}
use Rattle.answers.specs.declared.Refusal.TheVariants.{NoProcess, BadAddress, Denied}
use Rattle.address.specs.declared.PhysAddr.{PhysAddr}
use Rattle.address.specs.Canonical.{user}
use Rattle.address.specs.Pages.{start_of, page_offset}
use Rattle.address.specs.PagesLaws.{start_exact}
use Rattle.model.specs.declared.Mapping.{Mapping}
use Rattle.model.specs.Machine.{mapped_of}
use Rattle.model.specs.Layout.{machine}
use Rattle.model.specs.Lookup.{is_open}
use Rattle.model.specs.Paging.{translate, is_user, is_writable}
use Rattle.model.specs.Access as model
use Rattle.model.specs.Answers.{fine, first_of}
use Rattle.model.specs.Refusals.{access_refusals}
use Rattle.model.specs.Sound.{Sound}
use Rattle.model.specs.RecordLaws.{sound_tells}
use Rattle.model.specs.Calls.{load, store}
use Rattle.paging.specs.Place.{translate_by}
use Rattle.paging.specs.MapperLaws.{well_paged, translate_law}
use Rattle.rows.specs.LentMemory.{state_of, words_alone, SoundWords, SoundFrames, Does, OnFrames}
use Rattle.lookup.specs.FirstOfLaws.{first_here, first_later, first_none, first_passed, not_no, not_yes, open_small}
use Rattle.rows.specs.GuardedLaws.{refused, granted}
use Rattle.lookup.specs.NamedSlotLaws.{sound_of}
use Rattle.access.specs.MappedFrameLaws.{frame_inside}
use Rattle.access.specs.Granted.{access_by, allowed}

pub access_at : (d : Result ⊤ Refusal) (i : ℕ) (j : PhysAddr) (x : Result PhysAddr Refusal) → x ≡ access_by d i → x ≡ Ok j → (Ok tt ≡ d) × (j.0 ≡ i)
access_at (Ok tt) i j x e f =
    let g : Ok j ≡ Ok (record { 0 = i }) = sym f ∙ e in
    let same : j ≡ record { 0 = i } = cc in
    (refl, ap (λ (y : PhysAddr). y.0) same)
access_at (Err r) i j x e f = let z : ◌≡◌ {A = ℕ} 0 1 = let g : Ok j ≡ Err r = sym f ∙ e in cc in absurd (omega arith)

pub access_no : (d : Result ⊤ Refusal) (i : ℕ) (r : Refusal) (x : Result PhysAddr Refusal) → x ≡ access_by d i → x ≡ Err r → Err r ≡ d
access_no (Ok tt) i r x e f = let z : ◌≡◌ {A = ℕ} 0 1 = let g : Err r ≡ Ok (record { 0 = i }) = sym f ∙ e in cc in absurd (omega arith)
access_no (Err q) i r x e f = let g : Err r ≡ Err q = sym f ∙ e in let h : r ≡ q = cc in ap (λ y. Err y) h

module _ (flags : ℕ) where
  pub kernel_only : (w : Bool) → is_user flags ≡ false → false ≡ allowed flags w
  kernel_only w e = rw e refl

  pub load_allowed : (w : Bool) → is_user flags ≡ true → w ≡ false → true ≡ allowed flags w
  load_allowed w e f = rw (e, f) refl

  pub store_allowed : (w b : Bool) → is_user flags ≡ true → w ≡ true → b ≡ is_writable flags → b ≡ allowed flags w
  store_allowed w b e f g = rw (e, f) g

-- ---- the tests, one by one

module _ (w : List ℕ) (p a : ℕ) (write : Bool) where
  abbrev page : Option Mapping
  page = model.page_at (machine w) p a

  abbrev here : Result PhysAddr Refusal
  here = access_by (first_of (access_refusals (words_alone w) p a write)) (model.byte_at page a)

  no_byte : (r : Refusal) → Err r ≡ first_of (access_refusals (words_alone w) p a write) → Err r ≡ here
  no_byte r e = ap (λ (d : Result ⊤ Refusal). access_by d (model.byte_at page a)) e

  pub access_closed : is_open (machine w) p ≡ false → Err NoProcess ≡ here
  unfolding access_refusals
  access_closed o = no_byte NoProcess (first_here _ NoProcess _ (not_no _ o))

  pub access_address : is_open (machine w) p ≡ true → user a ≡ false → Err BadAddress ≡ here
  unfolding access_refusals
  access_address o u = no_byte BadAddress (first_later _ NoProcess _ _ (not_yes _ o) (first_here _ BadAddress _ (not_no _ u)))

  module _ (o : is_open (machine w) p ≡ true) (u : user a ≡ true) where
    access_denied : model.granted page write ≡ false → Err Denied ≡ here
    unfolding access_refusals
    access_denied g = no_byte Denied (first_later _ NoProcess _ _ (not_yes _ o) (first_later _ BadAddress _ _ (not_yes _ u) (first_here _ Denied _ (not_no _ g))))

    access_granted : model.granted page write ≡ true → Ok (record { 0 = model.byte_at page a }) ≡ here
    unfolding access_refusals
    access_granted g = ap (λ (d : Result ⊤ Refusal). access_by d (model.byte_at page a)) (first_later _ NoProcess _ _ (not_yes _ o) (first_later _ BadAddress _ _ (not_yes _ u) (first_later _ Denied _ _ (not_yes _ g) first_none)))

    -- what the page was found to be mapped to, of a sound machine
    module _ (k : SoundWords w) (n : ℕ) (paged : n ≡ a / 4096) (t : Option Mapping) (found : t ≡ translate_by (mapped_of (machine w) p) n) where
      found_page : t ≡ page
      found_page =
          let small = open_small w p o in
          found ∙ translate_law (machine w) p (well_paged (state_of w k.frames k.files) p (sound_of k) small) n ∙ ap (λ (i : ℕ). translate (mapped_of (machine w) p) i) paged

      pub access_unmapped : t ≡ None → Err Denied ≡ here
      access_unmapped e = access_denied (ap (λ (x : Option Mapping). model.granted x write) (sym found_page ∙ e))

      module _ (x : Mapping) (e : t ≡ Some x) where
        pub access_disallowed : (b : Bool) → b ≡ allowed x.flags.0 write → b ≡ false → Err Denied ≡ here
        access_disallowed b q f = access_denied (ap (λ (y : Option Mapping). model.granted y write) (sym found_page ∙ e) ∙ sym q ∙ f)

        -- its frame is one of at most 256
        frame_small : x.frame.0 < 256
        frame_small =
            let inside = frame_inside (state_of w k.frames k.files) (sound_of k) p (a / 4096) x (open_small w p o) (sym found_page ∙ e) in
            let few = (sound_of k).r6.sized.frame_count in
            omega arith

        -- its byte, by the frame's first and the address's place in the page
        pub access_allowed : (b : Bool) → b ≡ allowed x.flags.0 write → b ≡ true → (o : ℕ) → o ≡ page_offset a → (v : PhysAddr) → v.0 ≡ start_of x.frame.0 + o → Ok v ≡ here
        access_allowed b q f o offset v at =
            let same : Some x ≡ page = sym e ∙ found_page in
            let small = frame_small in
            let start = start_exact x.frame.0 (omega arith) in
            let byte : v.0 ≡ x.frame.0 * 4096 + a % 4096 = omega arith in
            ap (λ (n : ℕ). Ok (record { 0 = n })) byte
            ∙ ap (λ (y : Option Mapping). Ok (record { 0 = model.byte_at y a })) same
            ∙ access_granted (ap (λ (y : Option Mapping). model.granted y write) (sym same) ∙ sym q ∙ f)

-- ---- the cores

module _ (w f : List ℕ) (p a : ℕ) (write : Bool) where
  abbrev tests : Result ⊤ Refusal
  tests = first_of (access_refusals (words_alone w) p a write)

  abbrev place : ℕ
  place = model.byte_at (model.page_at (machine w) p a) a

  -- a byte that is granted is one of the frames'
  pub granted_inside : SoundFrames w f → (x : Result PhysAddr Refusal) (j : PhysAddr) → x ≡ access_by tests place → x ≡ Ok j → j.0 < length f
  unfolding access_refusals
  granted_inside k x j e q =
      let there = access_at tests place j x e q in
      let one = first_passed _ NoProcess _ there.0 in
      let two = first_passed _ BadAddress _ one.1 in
      let three = first_passed _ Denied _ two.1 in
      let sound : Sound (state_of w f k.files) = (sound_tells _).yes k.sound in
      let inside = go (model.page_at (machine w) p a) refl sound (open_small w p (not-false _ one.0)) (not-false _ three.0) in
      let same = there.1 in
      omega arith
    where
      go : (t : Option Mapping) → model.page_at (machine w) p a ≡ t → Sound (state_of w f k.files) → p < 8 → model.granted t write ≡ true → model.byte_at t a < length f
      go None r s h g = absurd (false≢true g)
      go (Some y) r s h g =
          let inside = frame_inside (state_of w f k.files) s p (a / 4096) y h r in
          let long = s.r6.sized.frames in
          omega arith

module _ (w f : List ℕ) (p a : ℕ) where
  pub load_refused : (r : Refusal) → Err r ≡ first_of (access_refusals (words_alone w) p a false) → OnFrames (λ s. load s p a) w f (Err r)
  unfolding load access_refusals
  load_refused r e b s = sym (ap (λ x. x.answer) (refused (state_of w f b) Err _ _ s r e))

  pub load_answered : (x : Result PhysAddr Refusal) (j : PhysAddr) → x ≡ access_by (first_of (access_refusals (words_alone w) p a false)) (model.byte_at (model.page_at (machine w) p a) a) → x ≡ Ok j → (v : ℕ) → v ≡ get_or f j.0 0 → OnFrames (λ s. load s p a) w f (Ok v)
  unfolding load access_refusals model.loaded
  load_answered x j e q v read b s =
      let there = access_at _ _ j x e q in
      ap (λ (n : ℕ). Ok n) (read ∙ ap (λ (i : ℕ). get_or f i 0) there.1) ∙ sym (ap (λ y. y.answer) (granted (state_of w f b) Err _ _ s there.0))

  pub store_refused : (v : ℕ) (r : Refusal) → Err r ≡ first_of (access_refusals (words_alone w) p a true) → Does (λ s. store s p a v) w f w f (Err r)
  unfolding store access_refusals
  store_refused v r e b s = refused (state_of w f b) (λ (q : Refusal). Err q) _ _ s r e

  pub store_done : (v : ℕ) (x : Result PhysAddr Refusal) (j : PhysAddr) → x ≡ access_by (first_of (access_refusals (words_alone w) p a true)) (model.byte_at (model.page_at (machine w) p a) a) → x ≡ Ok j → (g : List ℕ) → g ≡ set f j.0 v → Does (λ s. store s p a v) w f w g (Ok tt)
  unfolding store access_refusals model.stored
  store_done v x j e q g put b s =
      let there = access_at _ _ j x e q in
      granted (state_of w f b) (λ (r : Refusal). Err r) _ _ s there.0 ∙ ap (λ (t : List ℕ). fine (state_of w t b)) (sym (put ∙ ap (λ (i : ℕ). set f i v) there.1))
