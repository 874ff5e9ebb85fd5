-- The stages of the soundness test: the parts of `soundb` in the order in which the code asks them.
use Rattle.std.specs.Prelude.{Bool, true, not, ◌&&◌, ◌||◌, ℕ, eqb}
use Rattle.model.specs.Machine.{Machine}
use Rattle.model.specs.Sound.{holds}
use Rattle.laws.specs.Tests.{all_rows, all_pairs}
use Rattle.model.specs.SoundTest.{each_process, r1b, r2b, r3b, process_fits, orderedb, pagedb, region_fits, entry_fits, other_page, alike}
use Rattle.sound_rows.specs.Sizes.{sizes_fit, file_fits_in}

-- counts, the lengths of the frames' and files' bytes, and every row's limits
unfoldable pub records_fit : Machine → ℕ → ℕ → Bool
records_fit m frames files =
    sizes_fit m frames && (all_rows (file_fits_in m.file_count files) 0 m.files && (each_process m (process_fits m)
    && (all_rows (λ i r. region_fits m r) 0 m.regions && all_rows (λ i e. entry_fits m e) 0 m.entries)))

-- list order, page order, R1, and page entries one a page
unfoldable pub lists_fit : Machine → Bool
lists_fit m = each_process m (orderedb m) && (each_process m (pagedb m) && (r1b m && all_pairs (λ e. not (eqb e.owner 0)) other_page m.entries))

-- R2, R3, free rows unheld, and a backing's holders at one page
unfoldable pub frames_fit : Machine → Bool
frames_fit m = r2b m && ((r3b m && all_rows (λ f b. not (eqb b.len 0) || eqb b.holders 0) 0 m.backings) && all_pairs (λ h. true) alike (holds m))
