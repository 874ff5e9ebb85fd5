-- Laws of `Sizes`: the sizes of the lent memory, and the files' rows, over numbers.
use Rattle.std.specs.Prelude.{◌≡◌, refl, Bool, false, List, ℕ, ◌*◌, ◌≤◌, ◌<◌, length, eqb}
use Rattle.std.proofs.Common.{ap, ◌∙◌}
use Rattle.std.proofs.Math.Path.{sym}
use Rattle.std.proofs.Math.Bool.{and-true}
use borrow.Author.Tests.{eq-eqb, le-leb, lt-leb, lt-ltb, le-ltb}
use Rattle.model.specs.declared.File.{File}
use Rattle.model.specs.Layout.{machine}
use Rattle.model.specs.Machine.{Machine, State}
use Rattle.laws.specs.Tests.{all_rows}
use Rattle.model.specs.SoundTest.{sizedb, file_fits, free_file}
use Rattle.lookup.specs.LookupsLaws.{processes_length, regions_length, entries_length, order_length, mapped_length, backings_length, files_length}
use Rattle.rows.specs.FileRow.{is_lent}
use Rattle.sound_rows.specs.Sizes.{sizes_fit, file_fits_in}

module _ (m : Machine) (n frames : ℕ) (counted : frames ≡ m.frame_count) where
  pub too_many_frames : 256 < frames → false ≡ sizes_fit m n
  unfolding sizes_fit
  too_many_frames h = rw (sym counted, lt-leb frames 256 h)

  module _ (files : ℕ) (filed : files ≡ m.file_count) (few : frames ≤ 256) where
    pub too_many_files : 8 < files → false ≡ sizes_fit m n
    unfolding sizes_fit
    too_many_files h = rw (sym counted, sym filed, le-leb frames 256 few, lt-leb files 8 h)

    pub frames_fit : files ≤ 8 → eqb n (frames * 4096) ≡ sizes_fit m n
    unfolding sizes_fit
    frames_fit h = rw (sym counted, sym filed, le-leb frames 256 few, le-leb files 8 h)

-- tables that are read from words have all their rows
-- what `sized` tells of every state of these words
pub sized_is : (w : List ℕ) (s : State) → s.machine ≡ machine w → sizedb s ≡ sizes_fit (machine w) (length s.frames)
unfolding sizedb sizes_fit
sized_is w s e = rw (e, eq-eqb _ 8 (processes_length w), eq-eqb _ 512 (regions_length w), eq-eqb _ 512 (order_length w), eq-eqb _ 1024 (mapped_length w), eq-eqb _ 512 (entries_length w), eq-eqb _ 256 (backings_length w), eq-eqb _ 8 (files_length w))

files_fit_in : (s : State) → all_rows (file_fits s) 0 s.machine.files ≡ all_rows (file_fits_in s.machine.file_count (length s.bytes)) 0 s.machine.files
unfolding file_fits file_fits_in
files_fit_in s = refl

-- what `files_fit` tells of every state of these words
pub files_fit_is : (w : List ℕ) (s : State) → s.machine ≡ machine w → all_rows (file_fits s) 0 s.machine.files ≡ all_rows (file_fits_in (machine w).file_count (length s.bytes)) 0 (machine w).files
files_fit_is w s e = files_fit_in s ∙ ap (λ (m : Machine). all_rows (file_fits_in m.file_count (length s.bytes)) 0 m.files) e

module _ (k n i : ℕ) (f : File) (x : Bool) where
  pub lent_row : i < k → x ≡ is_lent n f → x ≡ file_fits_in k n i f
  unfolding file_fits_in
  lent_row h e = rw (lt-ltb i k h, lt-leb k i h) (e ∙ sym (and-true (is_lent n f)))

  pub free_row : k ≤ i → x ≡ free_file f → x ≡ file_fits_in k n i f
  unfolding file_fits_in
  free_row h e = rw (le-ltb i k h, le-leb k i h) e
