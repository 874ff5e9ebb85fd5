-- The stages together are the soundness test, and what the earlier ones tell the later ones.
use Rattle.std.specs.Prelude.{◌≡◌, refl, Bool, true, false, not, ◌&&◌, ◌||◌, List, ℕ, ◌≤◌, length, leb}
use Rattle.std.proofs.Math.Path.{ap}
use Rattle.std.proofs.Common.{sym, ◌∙◌}
use Rattle.std.proofs.Math.Dec.{eqb}
use borrow.Author.Tests.{eq-eqb, ne_eqb, leb-true}
use Rattle.laws.specs.Tells.{Tells}
use Rattle.laws.specs.TellsLaws.{tells_of, tells_same, tells_both}
use Rattle.model.specs.Machine.{Machine, State, no_region, no_entry}
use Rattle.model.specs.Layout.{word_count, machine}
use Rattle.model.specs.Sound.{holds}
use Rattle.laws.specs.Tests.{all_rows, all_pairs}
use Rattle.laws.specs.TestLaws.{tells_bool, tells_as, tells_rows}
use Rattle.model.specs.SoundTest.{each_process, r1b, r2b, r3b, r4b, r5b, r6b, soundb, sizedb, file_fits, process_fits, orderedb, pagedb, region_fits, entry_fits, other_page, alike}
use Rattle.model.specs.SoundLaws.{tells_processes, r1_tells}
use Rattle.model.specs.RecordLaws.{ordered_tells, paged_tells, region_tells, entry_tells, once_a_page_tells}
use Rattle.rows.specs.LentMemory.{state_of}
use Rattle.sound_rows.specs.Sizes.{sizes_fit, file_fits_in}
use Rattle.sound_rows.specs.SizesLaws.{sized_is, files_fit_is}
use Rattle.laws.specs.TestChainLaws.{fails, passes}
use Rattle.sound_frames.specs.OnePage.{HoldersFit}
use Rattle.sound_pages.specs.Laid.{Laid}
use Rattle.soundness.specs.SoundLent.{sound_lent}
use Rattle.soundness.specs.Stages.{records_fit, lists_fit, frames_fit}

module _ (w f b : List ℕ) where
  abbrev s : State
  s = state_of w f b

  abbrev m : Machine
  m = machine w

  abbrev stages : Bool
  stages = records_fit m (length f) (length b) && (lists_fit m && (frames_fit m && (r4b m && r5b m)))

  abbrev once : Bool
  once = all_pairs (λ e. not (eqb e.owner 0)) other_page m.entries

  abbrev unheld : Bool
  unheld = all_rows (λ f b. not (eqb b.len 0) || eqb b.holders 0) 0 m.backings

  abbrev files : Bool
  files = all_rows (file_fits_in m.file_count (length b)) 0 m.files

  sized_told : Tells (sizedb s) (sizes_fit m (length f) ≡ true)
  sized_told = tells_of (sizedb s) (λ e. sym (sized_is w s refl) ∙ e) (λ e. sized_is w s refl ∙ e)

  files_told : Tells (all_rows (file_fits s) 0 m.files) (files ≡ true)
  files_told = tells_of (all_rows (file_fits s) 0 m.files) (λ e. sym (files_fit_is w s refl) ∙ e) (λ e. files_fit_is w s refl ∙ e)

  abbrev processes : Bool
  processes = each_process m (process_fits m)

  abbrev ordered : Bool
  ordered = each_process m (orderedb m)

  abbrev paged : Bool
  paged = each_process m (pagedb m)

  abbrev regions : Bool
  regions = all_rows (λ i r. region_fits m r) 0 m.regions

  abbrev entries : Bool
  entries = all_rows (λ i e. entry_fits m e) 0 m.entries

  abbrev one_page : Bool
  one_page = all_pairs (λ h. true) alike (holds m)

  -- the parts in the order of the rules
  abbrev Rules : Type 0
  Rules =
      (r1b m ≡ true) × ((r2b m ≡ true) × ((r3b m ≡ true) × ((r4b m ≡ true) × ((r5b m ≡ true) × ((sizes_fit m (length f) ≡ true) × ((files ≡ true) × ((processes ≡ true)
      × ((ordered ≡ true) × ((paged ≡ true) × ((regions ≡ true) × ((entries ≡ true) × ((once ≡ true) × ((one_page ≡ true) × (unheld ≡ true))))))))))))))

  rules_told : Tells (soundb s) Rules
  unfolding soundb r6b
  rules_told =
      tells_both (tells_bool (r1b m)) (tells_both (tells_bool (r2b m)) (tells_both (tells_bool (r3b m)) (tells_both (tells_bool (r4b m)) (tells_both (tells_bool (r5b m))
      (tells_both sized_told (tells_both files_told (tells_both (tells_bool processes) (tells_both (tells_bool ordered) (tells_both (tells_bool paged)
      (tells_both (tells_bool regions) (tells_both (tells_bool entries) (tells_both (tells_bool once) (tells_both (tells_bool one_page) (tells_bool unheld))))))))))))))

  abbrev Staged : Type 0
  Staged =
      ((sizes_fit m (length f) ≡ true) × ((files ≡ true) × ((processes ≡ true) × ((regions ≡ true) × (entries ≡ true)))))
      × (((ordered ≡ true) × ((paged ≡ true) × ((r1b m ≡ true) × (once ≡ true))))
      × (((r2b m ≡ true) × (((r3b m ≡ true) × (unheld ≡ true)) × (one_page ≡ true))) × ((r4b m ≡ true) × (r5b m ≡ true))))

  stages_told : Tells stages Staged
  unfolding records_fit lists_fit frames_fit
  stages_told =
      tells_both (tells_both (tells_bool (sizes_fit m (length f))) (tells_both (tells_bool files) (tells_both (tells_bool processes) (tells_both (tells_bool regions) (tells_bool entries)))))
      (tells_both (tells_both (tells_bool ordered) (tells_both (tells_bool paged) (tells_both (tells_bool (r1b m)) (tells_bool once))))
      (tells_both (tells_both (tells_bool (r2b m)) (tells_both (tells_both (tells_bool (r3b m)) (tells_bool unheld)) (tells_bool one_page))) (tells_both (tells_bool (r4b m)) (tells_bool (r5b m)))))

  in_stages : Rules → Staged
  in_stages t =
      let r = t.1.1.1.1.1 in
      let u = r.1.1.1.1.1 in
      ((r.0, (r.1.0, (r.1.1.0, (u.0, u.1.0)))), ((r.1.1.1.0, (r.1.1.1.1.0, (t.0, u.1.1.0))), ((t.1.0, ((t.1.1.0, u.1.1.1.1), u.1.1.1.0)), (t.1.1.1.0, t.1.1.1.1.0))))

  in_rules : Staged → Rules
  in_rules t =
      let one = t.0 in
      let two = t.1.0 in
      let three = t.1.1.0 in
      let four = t.1.1.1 in
      (two.1.1.0, (three.0, (three.1.0.0, (four.0, (four.1, (one.0, (one.1.0, (one.1.1.0, (two.0, (two.1.0, (one.1.1.1.0, (one.1.1.1.1, (two.1.1.1, (three.1.1, three.1.0.1))))))))))))))

  -- the stages in their order are the test
  pub stages_are : soundb s ≡ stages
  stages_are = tells_same (tells_as in_stages in_rules rules_told) stages_told

  lent_are : sound_lent w f b ≡ (eqb (length w) word_count && stages)
  unfolding sound_lent
  lent_are = ap (λ (x : Bool). eqb (length w) word_count && x) stages_are

  -- ---- the ways through the test

  pub other_length : (length w ≡ word_count → ⊥) → false ≡ sound_lent w f b
  other_length e = fails stages (ne_eqb (length w) word_count e) ∙ sym lent_are

  module _ (sized : length w ≡ word_count) where
    words_pass : (x : Bool) → x ≡ stages → x ≡ sound_lent w f b
    words_pass x e = passes (eq-eqb (length w) word_count sized) e ∙ sym lent_are

    pub records_fail : records_fit m (length f) (length b) ≡ false → false ≡ sound_lent w f b
    records_fail e = words_pass false (fails _ e)

    module _ (records : records_fit m (length f) (length b) ≡ true) where
      pub lists_fail : lists_fit m ≡ false → false ≡ sound_lent w f b
      lists_fail e = words_pass false (passes records (fails _ e))

      pub frames_fail : lists_fit m ≡ true → frames_fit m ≡ false → false ≡ sound_lent w f b
      frames_fail lists e = words_pass false (passes records (passes lists (fails _ e)))

      pub mapped_last : lists_fit m ≡ true → frames_fit m ≡ true → (x : Bool) → x ≡ (r4b m && r5b m) → x ≡ sound_lent w f b
      mapped_last lists frames x e = words_pass x (passes records (passes lists (passes frames e)))

-- ---- what the earlier stages tell

module _ (m : Machine) (frames files : ℕ) (told : records_fit m frames files ≡ true) where
  parts : (sizes_fit m frames ≡ true) × ((all_rows (file_fits_in m.file_count files) 0 m.files ≡ true) × ((each_process m (process_fits m) ≡ true) × ((all_rows (λ i r. region_fits m r) 0 m.regions ≡ true) × (all_rows (λ i e. entry_fits m e) 0 m.entries ≡ true))))
  unfolding records_fit
  parts = (tells_both (tells_bool _) (tells_both (tells_bool _) (tells_both (tells_bool _) (tells_both (tells_bool _) (tells_bool _))))).yes told

  pub few_frames : m.frame_count ≤ 256
  unfolding sizes_fit
  few_frames = leb-true m.frame_count 256 ((tells_both (tells_bool (leb m.frame_count 256)) (tells_bool _)).yes parts.0).0

  pub holders_fit : HoldersFit m
  holders_fit = (parts.1.1.1.1, parts.1.1.1.0)

  pub laid : lists_fit m ≡ true → Laid m
  unfolding lists_fit
  laid e =
      let lists = (tells_both (tells_bool (each_process m (orderedb m))) (tells_both (tells_bool (each_process m (pagedb m))) (tells_both (tells_bool (r1b m)) (tells_bool _)))).yes e in
      record {
        apart = (r1_tells m).yes lists.1.1.0;
        ordered = (tells_processes m _ _ (ordered_tells m)).yes lists.0;
        paged = (tells_processes m _ _ (paged_tells m)).yes lists.1.0;
        regions = (tells_rows no_region _ _ (λ i r. region_tells m r) m.regions).yes parts.1.1.1.0;
        entries = (tells_rows no_entry _ _ (λ i e. entry_tells m e) m.entries).yes parts.1.1.1.1;
        once_a_page = (once_a_page_tells m).yes lists.1.1.1;
      }
