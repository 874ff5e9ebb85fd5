-- The machine's holds as the numbered rows: where holders fit, the test of every two holds tells that holders of a frame are alike.
use Rattle.std.specs.Prelude.{◌≡◌, Bool, true, false, ◌&&◌, ◌||◌, cond, ℕ, zero, suc, ◌/◌, ◌<◌, get_or, eqb, ltb}
use Rattle.std.proofs.Math.Path.{refl, ap, sym}
use Rattle.std.proofs.Common.{subst, ◌∙◌, zero-le, suc-le-suc, arith, lt-ltb}
use Rattle.std.proofs.Math.Bool.{not}
use mathlib.Core.List.{List, [], ◌∷◌, ◌++◌, map, map-append}
use Rattle.std.proofs.lemmas.Bool.{eqb-false, not-true}
use Rattle.laws.specs.ListsLaws.{keep_append}
use Rattle.laws.specs.Tells.{Tells}
use Rattle.laws.specs.TellsLaws.{tells_both}
use Rattle.laws.specs.Lists.{keep}
use Rattle.model.specs.Layout.{machine}
use Rattle.model.specs.Machine.{no_entry, no_region}
use Rattle.model.specs.Lookup.{is_used, is_ranged, is_shared}
use Rattle.model.specs.Create.{one}
use Rattle.laws.specs.Tests.{Rows, all_pairs}
use Rattle.laws.specs.TestLaws.{tells_eq, tells_lt, tells_bool, tells_if, tells_as, tells_rows, tells_pairs, pairs_kept}
use Rattle.model.specs.Sound.{Hold, holds, entry_holds, range_holds, EntryFits, RegionFits}
use Rattle.model.specs.SoundTest.{alike}
use Rattle.model.specs.RecordLaws.{entry_tells, region_tells}
use Rattle.sound_frames.specs.declared.held.Held.{Held}
use Rattle.sound_frames.specs.Held.{place_of, no_held, entry_held, range_held, held_rows}
use Rattle.sound_frames.specs.HeldLaws.{held_length}
use Rattle.lookup.specs.BackedLaws.{backing_row}
use Rattle.sound_frames.specs.OnePage.{HoldersFit, Alike}

-- ---- holds that fit are the rows that have a frame

abbrev is_held : Held → Bool
is_held x = ltb x.frame 256

abbrev to_hold : Held → Hold
to_hold x = record { frame = x.frame; page = x.page; shared = x.shared }

module _ {A : Type 0} (d : A) (u : A → Bool) (frame page shared : A → ℕ) where
  abbrev hold_of : A → Hold
  hold_of a = record { frame = frame a; page = page a; shared = shared a }

  abbrev held_of : A → Held
  held_of a = record { frame = place_of (u a) (frame a); page = page a; shared = shared a }

  kept_rows : (l : List A) → Rows d l (λ i a. u a ≡ true → frame a < 256) → map hold_of (keep u l) ≡ map to_hold (keep is_held (map held_of l))
  unfolding keep place_of
  kept_rows [] fit = refl
  kept_rows (a ∷ l) fit = go (u a) refl (kept_rows l (λ i h. fit (suc i) (suc-le-suc h)))
    where
      rest : List Hold
      rest = map to_hold (keep is_held (map held_of l))

      go : (b : Bool) → u a ≡ b → map hold_of (keep u l) ≡ rest → map hold_of (cond (u a) (a ∷ keep u l) (keep u l)) ≡ map to_hold (cond (ltb (cond (u a && ltb (frame a) 256) (frame a) 256) 256) (held_of a ∷ keep is_held (map held_of l)) (keep is_held (map held_of l)))
      go true p same = let low = lt-ltb (frame a) 256 (fit zero (suc-le-suc zero-le) p) in rw (p, low, low) (ap {B = List Hold} (λ r. hold_of a ∷ r) same)
      go false p same = rw p same

module _ (w : List ℕ) (fit : HoldersFit (machine w)) where
  entry_frames : Rows no_entry (machine w).entries (λ i e. not (eqb e.owner 0) ≡ true → e.frame.0 < 256)
  entry_frames i h owned =
      let e = get_or (machine w).entries i no_entry in
      let fits = (tells_rows no_entry _ (λ j x. EntryFits (machine w) x) (λ j x. entry_tells (machine w) x) (machine w).entries).yes fit.0 i h in
      let len = (fits.used (eqb-false e.owner 0 (not-true _ owned))).frame in
      backing_row w e.frame.0 0 (omega arith)

  range_frames : Rows no_region (machine w).regions (λ i r. (is_used r && is_ranged r) ≡ true → r.range.0 < 256)
  range_frames i h both =
      let r = get_or (machine w).regions i no_region in
      let fits = (tells_rows no_region _ (λ j x. RegionFits (machine w) x) (λ j x. region_tells (machine w) x) (machine w).regions).yes fit.1 i h in
      let parts = (tells_both (tells_bool (is_used r)) (tells_eq r.ranged 1)).yes both in
      let limits = fits.used (eqb-false r.kind 0 (not-true _ parts.0)) in
      let len = limits.ranged parts.1 in
      let some = limits.some in
      backing_row w r.range.0 0 (omega arith)

  holds_rows : holds (machine w) ≡ map to_hold (keep is_held (held_rows (machine w)))
  unfolding holds entry_holds range_holds held_rows
  holds_rows =
      let m = machine w in
      ap (λ l. l ++ range_holds m.regions) (kept_rows no_entry (λ e. not (eqb e.owner 0)) (λ e. e.frame.0) (λ e. e.page.0) (λ e. 0) m.entries entry_frames)
      ∙ ap (λ l. map to_hold (keep is_held (map entry_held m.entries)) ++ l) (kept_rows no_region (λ r. is_used r && is_ranged r) (λ r. r.range.0) (λ r. r.start.0 / 4096) (λ r. one (is_shared r)) m.regions range_frames)
      ∙ sym (map-append to_hold (keep is_held (map entry_held m.entries)) (keep is_held (map range_held m.regions)))
      ∙ ap (λ l. map to_hold l) (sym (keep_append is_held (map entry_held m.entries) (map range_held m.regions)))

-- ---- pairs of those that are kept

abbrev AlikeHolds : Held → Held → Type 0
AlikeHolds x y = y.frame < 256 → x.frame ≡ y.frame → (x.page ≡ y.page) × (x.shared ≡ y.shared)

alike_holds_tell : (x y : Held) → Tells (not (is_held y) || alike (to_hold x) (to_hold y)) (AlikeHolds x y)
unfolding alike
alike_holds_tell x y = tells_if (tells_lt y.frame 256) (tells_if (tells_eq x.frame y.frame) (tells_both (tells_eq x.page y.page) (tells_eq x.shared y.shared)))

pub holds_tell : (w : List ℕ) → HoldersFit (machine w) → Tells (all_pairs (λ h. true) alike (holds (machine w))) (Alike (held_rows (machine w)))
holds_tell w fit =
    subst (λ (b : Bool). Tells b (Alike (held_rows (machine w)))) (sym (ap (λ l. all_pairs (λ h. true) alike l) (holds_rows w fit) ∙ pairs_kept is_held to_hold alike (held_rows (machine w))))
    (tells_as (λ p i j a b c d e. p i j a (rw held_length b) c d e) (λ p i j a b c d e. p i j a (rw held_length at b) c d e)
    (tells_pairs no_held is_held (λ x. x.frame < 256) (λ x y. not (is_held y) || alike (to_hold x) (to_hold y)) AlikeHolds (λ x. tells_lt x.frame 256) alike_holds_tell (held_rows (machine w))))
