-- Laws: each way of a fault on a sound machine has what it asks, and is gone as the model says.
use Rattle.std.specs.Prelude.{◌≡◌, Bool, ◌&&◌, not, List, ℕ, ◌+◌, ◌*◌, ◌^◌, ◌≤◌, ◌<◌, ltb, leb, Option, Some, None}
use Rattle.std.proofs.Math.Path.{refl, ap}
use Rattle.std.proofs.Common.{sym, subst, ◌∙◌, inl, inr}
use Rattle.std.proofs.Math.Bool.{true, false}
use native.Mathlib.Omega.{arith}
use Rattle.std.proofs.Math.ListN.{length}
use borrow.Author.Tests.{leb-true, leb-false, ltb-true}
use Rattle.model.specs.declared.Mapping.{Mapping}
use Rattle.address.specs.declared.PhysFrame.{PhysFrame}
use Rattle.address.specs.declared.flags.PageTableFlags.{PageTableFlags}
use Rattle.answers.specs.declared.Refusal.{Refusal}
use Rattle.model.specs.declared.Region.{Region}
use Rattle.model.specs.declared.Pool.{Pool}
use Rattle.model.specs.declared.Way.{Way}
use Rattle.model.specs.declared.Way.TheVariants.{Refuse, Already, Restore, Map, Copy, Fill}
use Rattle.model.specs.Layout.{machine}
use Rattle.model.specs.Machine.{Machine, State, process_at, region_at, row_of, mapped_of}
use Rattle.model.specs.MachineLaws.{mapped_length}
use Rattle.model.specs.MappedBelowLaws.{length_unmap, length_unmapped}
use Rattle.laws.specs.BoolLaws.{both_true}
use Rattle.model.specs.Paging.{page_start, mapping, unmap_page, translate}
use Rattle.model.specs.Backing.{backing, frame_bytes, put_frame}
use Rattle.model.specs.Fault.{way_refusals, go_way, own_frame, fill_of, no_frame, no_room, no_entry_left, is_mapped, by_entry}
use Rattle.model.specs.Sound.{Sound, frame_by}
use Rattle.model.specs.RecordLaws.{sound_tells}
use Rattle.rows.specs.LentMemory.{state_of, SoundWords}
use Rattle.paging.specs.Mapper.{map_by, remap_by}
use Rattle.paging.specs.WellPaged.{WellPaged}
use Rattle.paging.specs.MapperLaws.{well_paged, map_law, remap_law}
use Rattle.fault_fill.specs.Fill.{FileReads}
use Rattle.fault_own.specs.Owned.{OwnFits, owned}
use Rattle.keeping.specs.Owing as owing
use Rattle.keeping.specs.Owing.{Owing, nothing}
use Rattle.keeping.specs.OwingOfSound.{sound_owing, sound_lent_is}
use Rattle.keeping.specs.BacksLaws.{source_of}
use Rattle.keeping.specs.OwingLaws.{open_low}
use Rattle.keeping.specs.PagesKept.{few_pages, base_used}
use Rattle.model.specs.RuleUseLaws.{backing_within}
use Rattle.keeping.specs.FreeLaws.{next_run}
use Rattle.keeping.specs.GuardedKept.{Passed, passed}
use Rattle.keeping.specs.FaultWayLaws.{Right, way_right}
use Rattle.fault.specs.Goes.{FaultFits, NextFits, FreshFits, Goes}

-- a way that is right and passes every test of its refusals
abbrev Asks : Machine → ℕ → ℕ → ℕ → Way → Type 0
Asks m p slot page way = Right (region_at m p slot) (translate (mapped_of m p) page) (backing m p slot page) way × Passed (way_refusals m p slot page way)

asks : (m : Machine) (p slot page : ℕ) (way : Way) → Goes m p slot page way → (x : Way) → way ≡ x → Asks m p slot page x
asks m p slot page way g x e = subst (λ (y : Way). Asks m p slot page y) e (subst (λ (y : Way). Right (region_at m p slot) (translate (mapped_of m p) page) (backing m p slot page) y) (sym g.picked) (way_right m p slot page g.write), passed _ g.passes)

module _ (w f b : List ℕ) (p slot page : ℕ) (fits : FaultFits w f b p slot page) where
  abbrev m : Machine
  m = machine w

  abbrev s : State
  s = state_of w f b

  pub fits_sound : Sound s
  fits_sound = (sound_tells s).yes fits.sound

  pub fits_words : SoundWords w
  fits_words = record { frames = f; files = b; sound = fits.sound }

  o : Owing nothing m
  o = sound_owing s fits_sound

  pub fits_process : p < 8
  fits_process = open_low m o p fits.opened

  pub fits_slot : slot < 64
  fits_slot = (o.listed p slot fits_process fits.listed).0

  -- the page starts in the region
  starts : ((region_at m p slot).start.0 ≤ page * 4096) × (page * 4096 < (region_at m p slot).start.0 + (region_at m p slot).size)
  starts = let k = both_true (leb (region_at m p slot).start.0 (page_start page)) (ltb (page_start page) ((region_at m p slot).start.0 + (region_at m p slot).size)) fits.inside in (leb-true _ _ k.0, ltb-true _ _ k.1)

  pub fits_page : page < 2 ^ 52
  fits_page =
      let k = starts.1 in
      let e = ((o.regions (row_of p slot)).used (o.listed p slot fits_process fits.listed).1).user_segment in
      omega arith

  paged : WellPaged m p
  paged = well_paged s p fits_sound fits_process

  next_fits : no_frame m ≡ false → NextFits m (length f)
  next_fits e = let k = (next_run nothing m o e).inside in let l = (sound_lent_is s fits_sound).frames in omega arith

  -- a frame that backs the page has its bytes
  frame_fits : (fr : ℕ) → frame_by (backing m p slot page) ≡ Some fr → fr * 4096 + 4096 ≤ length f
  frame_fits fr e = let k = source_of m p slot page fr e in let low = go k.base k.backs in let l = (sound_lent_is s fits_sound).frames in omega arith
    where
      go : (base : ℕ) → owing.Backs m (row_of p slot) page base fr → fr < m.frame_count
      go base (inl x) = let used = base_used nothing m o (row_of p slot) page base fr (inl x) in let y = backing_within m base used o.pool in let q = x.frame in omega (arith, used)
      go base (inr x) = let used = base_used nothing m o (row_of p slot) page base fr (inr x) in let y = backing_within m base used o.pool in let q = x.frame in let h = x.within in omega arith

  own_fits : no_frame m ≡ false → length (unmap_page (mapped_of m p) page) < 128 → (not (by_entry (backing m p slot page)) && no_entry_left m) ≡ false → OwnFits w p slot page
  own_fits e r l = record { sound = fits_words; opened = fits.opened; low = fits_slot; frame = e; room = r; entry = l }

  fits_copy : (fr : PhysFrame) → Asks m p slot page (Copy fr) → OwnFits w p slot page × (NextFits m (length f) × (fr.0 * 4096 + 4096 ≤ length f))
  unfolding way_refusals
  fits_copy fr k = (own_fits k.1.0 (room (translate (mapped_of m p) page) refl k.1.1.0) k.1.1.1.0, (next_fits k.1.0, frame_fits fr.0 k.0.1))
    where
      room : (x : Option Mapping) → translate (mapped_of m p) page ≡ x → (not (is_mapped x) && no_room m p) ≡ false → length (unmap_page (mapped_of m p) page) < 128
      room (Some x) q z = let a = length_unmapped page (mapped_of m p) x q in let c = few_pages nothing m o p fits_process in omega arith
      room None q z = let a = length_unmap page (mapped_of m p) in let c = mapped_length m p in let d = leb-false 128 (process_at m p).mapped z in omega arith

  fits_fill : Asks m p slot page Fill → OwnFits w p slot page × (NextFits m (length f) × FreshFits m (length b) p slot page)
  unfolding way_refusals
  fits_fill k = (
    own_fits k.1.0 (let a = length_unmap page (mapped_of m p) in let c = mapped_length m p in let d = leb-false 128 (process_at m p).mapped k.1.1.1.0 in omega arith) (left (by_entry (backing m p slot page)) k.1.1.1.1.0),
    (next_fits k.1.0, (fits_page, reads)),
  )
    where
      left : (c : Bool) → no_entry_left m ≡ false → (not c && no_entry_left m) ≡ false
      left true z = refl
      left false z = z

      reads : FileReads m (length b) (region_at m p slot) page
      reads e =
          let limits = ((o.regions (row_of p slot)).used (o.listed p slot fits_process fits.listed).1).file e in
          let low = limits.0 in
          let place = limits.1.0 in
          let most = o.sizes.file_count in
          let rows = o.sizes.files in
          let k = starts in
          let a = k.0 in
          let c = k.1 in
          (omega arith, (((sound_lent_is s fits_sound).files (region_at m p slot).file (omega arith)).inside low).1)

  -- ---- the ways

  module _ (way : Way) where
    pub gone_refused : (r : Refusal) → way ≡ Refuse r → s ≡ go_way s p slot page way
    unfolding go_way
    gone_refused r e = ap (λ (x : Way). go_way s p slot page x) (sym e)

    pub gone_already : way ≡ Already → s ≡ go_way s p slot page way
    unfolding go_way
    gone_already e = ap (λ (x : Way). go_way s p slot page x) (sym e)

    pub gone_restored : way ≡ Restore → (w' : List ℕ) → machine w' ≡ remap_by m p page (region_at m p slot).flags.0 → state_of w' f b ≡ go_way s p slot page way
    unfolding go_way
    gone_restored e w' k = (λ i. record { machine = (k ∙ remap_law m p paged page (region_at m p slot).flags.0) i; frames = f; bytes = b }) ∙ ap (λ (x : Way). go_way s p slot page x) (sym e)

    pub gone_mapped : (fr : PhysFrame) (flags : PageTableFlags) → way ≡ Map fr flags → Goes m p slot page way → (w' : List ℕ) → machine w' ≡ map_by m p (mapping page fr.0 flags.0) → state_of w' f b ≡ go_way s p slot page way
    unfolding go_way way_refusals
    gone_mapped fr flags e goes w' k = (λ i. record { machine = (k ∙ map_law m p paged (mapping page fr.0 flags.0) right.0.0 room) i; frames = f; bytes = b }) ∙ ap (λ (x : Way). go_way s p slot page x) (sym e)
      where
        right : Asks m p slot page (Map fr flags)
        right = asks m p slot page way goes (Map fr flags) e

        room : length (mapped_of m p) < 128
        room = let c = mapped_length m p in let d = leb-false 128 (process_at m p).mapped right.1.0 in omega arith

    pub gone_copied : (fr : PhysFrame) → way ≡ Copy fr → (w' f' : List ℕ) → machine w' ≡ owned m p slot page → f' ≡ put_frame f m.pool.next.0 (frame_bytes f fr.0) → state_of w' f' b ≡ go_way s p slot page way
    unfolding go_way own_frame owned
    gone_copied fr e w' f' k l = (λ i. record { machine = k i; frames = l i; bytes = b }) ∙ ap (λ (x : Way). go_way s p slot page x) (sym e)

    pub gone_filled : way ≡ Fill → (w' f' : List ℕ) → machine w' ≡ owned m p slot page → f' ≡ put_frame f m.pool.next.0 (fill_of s (region_at m p slot) page) → state_of w' f' b ≡ go_way s p slot page way
    unfolding go_way own_frame owned
    gone_filled e w' f' k l = (λ i. record { machine = k i; frames = l i; bytes = b }) ∙ ap (λ (x : Way). go_way s p slot page x) (sym e)

    -- what a way asks, by its name
    pub copy_asks : (fr : PhysFrame) → way ≡ Copy fr → Goes m p slot page way → OwnFits w p slot page × (NextFits m (length f) × (fr.0 * 4096 + 4096 ≤ length f))
    copy_asks fr e goes = fits_copy fr (asks m p slot page way goes (Copy fr) e)

    pub fill_asks : way ≡ Fill → Goes m p slot page way → OwnFits w p slot page × (NextFits m (length f) × FreshFits m (length b) p slot page)
    fill_asks e goes = fits_fill (asks m p slot page way goes Fill e)

-- ---- what was read

pub next_at : (n : Machine) (size : ℕ) (q : Pool) → q ≡ n.pool → NextFits n size → q.next.0 * 4096 + 4096 ≤ size
next_at n size q e h = subst (λ (x : Pool). x.next.0 * 4096 + 4096 ≤ size) (sym e) h

pub fresh_reads : (n : Machine) (size p slot page : ℕ) (r : Region) → r ≡ region_at n p slot → FreshFits n size p slot page → FileReads n size r page
fresh_reads n size p slot page r e h = subst (λ (x : Region). FileReads n size x page) (sym e) h.1
