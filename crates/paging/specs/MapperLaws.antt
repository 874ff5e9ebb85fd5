-- Where a process's page table is well formed, map, unmap, remap and unmap_from leave what the model says: the laws that callers use.
use Rattle.std.specs.Prelude.{◌≡◌, Bool, List, ◌∷◌, ◌++◌, get_or, take, Option, Some, None}
use Rattle.std.proofs.Math.Path.{refl, ap, sym}
use Rattle.std.proofs.Common.{◌∙◌, length-append, length-drop, length-set, take-append-drop, length-take-le}
use Rattle.std.proofs.Math.Bool.{true, false, cond}
use Prim.Native.Nat.{ℕ, ◌+◌, ◌-◌, ◌≤◌, ◌<◌}
use native.Mathlib.Omega.{arith}
use Rattle.std.proofs.Math.ListN.{length, set, drop, length-take}
use Rattle.std.proofs.Math.Seq.{set-get_or}
use Rattle.std.proofs.Math.Dec.{ltb}
use borrow.Author.Tests.{lt-ltb, ltb-false}
use Rattle.model.specs.declared.Region.{Region}
use Rattle.model.specs.declared.Mapping.{Mapping}
use Rattle.laws.specs.Lists.{part, pad}
use Rattle.model.specs.Machine.{Machine, State, process_at, mapped_of, with_mapped, mapped_count, no_process, no_mapping}
use Rattle.model.specs.Sound.{Sound}
use Rattle.model.specs.Paging.{translate, map_page, unmap_page, unmap_from}
use Rattle.model.specs.MappedBelowLaws.{below, below_most}
use Rattle.laws.specs.ListsLaws.{pad_take}
use Rattle.paging.specs.Place.{place, row_for, mapped_at, translate_by}
use Rattle.paging.specs.PlaceLaws.{row_inside}
use Rattle.paging.specs.ProcessRows.{rows_of, with_rows, with_count, row_put, rows_taken}
use Rattle.paging.specs.ProcessRowsLaws.{rows_of_length, mapped_row, mapped_most, rows_put_same}
use Rattle.paging.specs.PadLaws.{put_in_pad, take_out_of_pad, set_in_pad}
use Rattle.paging.specs.Order.{Rising, remap_page}
use Rattle.paging.specs.OrderLaws.{place_below, translate_by_is, stands_mapped, map_below, remap_at, remap_missing, unmap_at, unmap_missing, below_mono, first_end, keep_region}
use Rattle.paging.specs.Mapper.{mapped_pages, inserted, taken_out, map_by, unmap_row, unmap_by, reflag, remap_row, remap_by, first_page, end_page, taken_if, unmap_from_by}
use Rattle.paging.specs.WellPaged.{WellPaged}

-- every process of a sound machine has such a page table
pub well_paged : (s : State) (p : ℕ) → Sound s → p < 8 → WellPaged s.machine p
well_paged s p sound h =
    let there : p < length s.machine.processes = rw sound.r6.sized.processes h in
    record { process = h; table = sound.r6.sized.mapped; few = (sound.r6.processes p there).mapped; paged = sound.r6.paged p there }

module _ (m : Machine) (p : ℕ) (w : WellPaged m p) where
  rising : Rising (mapped_of m p)
  rising = w.paged.rising

  few : length (mapped_of m p) ≤ 128
  few = mapped_most m p w.process w.table

  long : length (rows_of m p) ≡ 128
  long = rows_of_length m p w.process w.table

  -- the count is the list's length
  counted : (process_at m p).mapped ≡ length (mapped_of m p)
  unfolding mapped_of rows_of
  counted = let l = long in let n = w.few in sym (length-take-le (process_at m p).mapped (part 128 p m.mapped) (omega arith))

  -- the rows are the mapped ones and free ones after them
  pub padded : rows_of m p ≡ pad 128 no_mapping (mapped_of m p)
  unfolding mapped_of rows_of
  padded = sym (ap (λ (k : ℕ). pad k no_mapping (take (process_at m p).mapped (part 128 p m.mapped))) (sym long) ∙ pad_take no_mapping (part 128 p m.mapped) (process_at m p).mapped w.paged.free)

  -- rows and a count put, where the rows are those of a list
  both_put : (rows l : List Mapping) (n : ℕ) → rows ≡ pad 128 no_mapping l → n ≡ length l → with_count (with_rows m p rows) p n ≡ with_mapped m p l
  unfolding with_count with_rows with_mapped
  both_put rows l n e f = ap (λ t. with_count (with_rows m p t) p n) e ∙ ap (λ (i : ℕ). with_count (with_rows m p (pad 128 no_mapping l)) p i) f

  -- .. and the count is what it was
  pub rows_put : (rows l : List Mapping) → rows ≡ pad 128 no_mapping l → length l ≡ length (mapped_of m p) → with_rows m p rows ≡ with_mapped m p l
  unfolding with_count with_rows with_mapped
  rows_put rows l e f =
      ap (λ t. with_rows m p t) e
      ∙ ap (λ t. record { processes = t; regions = m.regions; order = m.order; mapped = (with_rows m p (pad 128 no_mapping l)).mapped; entries = m.entries; backings = m.backings; pool = m.pool; files = m.files; frame_count = m.frame_count; file_count = m.file_count })
      (sym (ap (λ (n : ℕ). set m.processes p (mapped_count (process_at m p) n)) (f ∙ sym counted) ∙ set-get_or m.processes p no_process))

  -- the list put as it was
  same_put : with_mapped m p (mapped_of m p) ≡ m
  unfolding rows_of
  same_put = sym (rows_put (rows_of m p) (mapped_of m p) padded refl) ∙ own
    where
      own : with_rows m p (rows_of m p) ≡ m
      own = rows_put_same m p

  taken : (from to : ℕ) → from ≤ to → to ≤ length (mapped_of m p) → taken_out m p from to (mapped_pages m p) ≡ with_mapped m p (take from (mapped_of m p) ++ drop to (mapped_of m p))
  taken from to h k =
      let l = mapped_of m p in
      let most = few in
      let size : length (take from l ++ drop to l) ≡ from + (length l - to) = simp (length-append, length-take, length-drop) (omega arith) in
      both_put (rows_taken (rows_of m p) from to (length l)) (take from l ++ drop to l) (length l - (to - from)) (ap (λ t. rows_taken t from to (length l)) padded ∙ take_out_of_pad l 128 from to (length l) refl h k most) (omega arith)

  pub translate_law : (page : ℕ) → translate_by (mapped_of m p) page ≡ translate (mapped_of m p) page
  translate_law page = translate_by_is (mapped_of m p) page rising

  pub map_law : (x : Mapping) → translate (mapped_of m p) x.page.0 ≡ None → length (mapped_of m p) < 128 → map_by m p x ≡ with_mapped m p (map_page (mapped_of m p) x)
  unfolding map_by
  map_law x e h =
      let l = mapped_of m p in
      let at : ℕ = below x.page.0 l in
      let most = below_most x.page.0 l in
      let size : length (take at l ++ (x ∷ drop at l)) ≡ length l + 1 = simp (length-append, length-take, length-drop) (omega arith) in
      rw (lt-ltb (length (mapped_of m p)) 128 h)
      (ap (λ (i : ℕ). inserted m p i (length l) x) (place_below l x.page.0 rising)
      ∙ both_put (row_put (rows_of m p) at (length l) x) (take at l ++ (x ∷ drop at l)) (length l + 1) (ap (λ t. row_put t at (length l) x) padded ∙ put_in_pad l 128 at (length l) x refl most h) (sym size)
      ∙ ap (λ t. with_mapped m p t) (sym (map_below l x rising e)))

  -- a page that has no row is not mapped
  no_row : (page : ℕ) → None ≡ row_for (mapped_of m p) page → translate (mapped_of m p) page ≡ None
  unfolding translate_by
  no_row page e = sym (translate_law page) ∙ ap (λ f. mapped_at (mapped_of m p) f) (sym e)

  pub unmap_law : (page : ℕ) → unmap_by m p page ≡ with_mapped m p (unmap_page (mapped_of m p) page)
  unfolding unmap_by
  unmap_law page = go (row_for (mapped_of m p) page) refl
    where
      go : (f : Option ℕ) → f ≡ row_for (mapped_of m p) page → unmap_row m p f ≡ with_mapped m p (unmap_page (mapped_of m p) page)
      go (Some i) e =
          let stands = stands_mapped (mapped_of m p) page i rising e in
          let inside = row_inside (mapped_of m p) page i e in
          taken i (i + 1) (omega arith) (omega arith) ∙ ap (λ t. with_mapped m p t) (sym (unmap_at page (mapped_of m p) rising i inside stands.0 stands.1))
      go None e = sym (ap (λ t. with_mapped m p t) (unmap_missing page (mapped_of m p) (no_row page e)) ∙ same_put)

  pub remap_law : (page flags : ℕ) → remap_by m p page flags ≡ with_mapped m p (remap_page (mapped_of m p) page flags)
  unfolding remap_by
  remap_law page flags = go (row_for (mapped_of m p) page) refl
    where
      go : (f : Option ℕ) → f ≡ row_for (mapped_of m p) page → remap_row m p flags f ≡ with_mapped m p (remap_page (mapped_of m p) page flags)
      go (Some i) e =
          let l = mapped_of m p in
          let stands = stands_mapped l page i rising e in
          let inside = row_inside l page i e in
          let other : Mapping = reflag (get_or l i no_mapping) flags in
          ap (λ x. with_rows m p (set (rows_of m p) i (reflag x flags))) (mapped_row m p i inside)
          ∙ rows_put (set (rows_of m p) i other) (set l i other) (ap (λ t. set t i other) padded ∙ set_in_pad l 128 i other inside few) (length-set l i other)
          ∙ ap (λ t. with_mapped m p t) (sym (remap_at page flags l rising i inside stands.1))
      go None e = sym (ap (λ t. with_mapped m p t) (remap_missing page flags (mapped_of m p) (no_row page e)) ∙ same_put)

  pub unmap_from_law : (r : Region) → unmap_from_by m p r ≡ unmap_from m p r
  unfolding unmap_from_by unmap_from
  unmap_from_law r =
      ap (λ (i : ℕ). taken_if m p i (place (mapped_of m p) (end_page r))) (place_below (mapped_of m p) (first_page r) rising)
      ∙ ap (λ (i : ℕ). taken_if m p (below (first_page r) (mapped_of m p)) i) (place_below (mapped_of m p) (end_page r) rising)
      ∙ go (ltb (below (first_page r) (mapped_of m p)) (below (end_page r) (mapped_of m p))) refl
      ∙ ap (λ t. with_mapped m p t) (sym (keep_region r (mapped_of m p) rising))
    where
      go : (b : Bool) → ltb (below (first_page r) (mapped_of m p)) (below (end_page r) (mapped_of m p)) ≡ b → cond b (taken_out m p (below (first_page r) (mapped_of m p)) (below (end_page r) (mapped_of m p)) (mapped_pages m p)) m ≡ with_mapped m p (take (below (first_page r) (mapped_of m p)) (mapped_of m p) ++ drop (below (end_page r) (mapped_of m p)) (mapped_of m p))
      go true e = taken (below (first_page r) (mapped_of m p)) (below (end_page r) (mapped_of m p)) (below_mono (first_page r) (end_page r) (first_end r) (mapped_of m p)) (below_most (end_page r) (mapped_of m p))
      go false e =
          let l = mapped_of m p in
          let low = ltb-false (below (first_page r) l) (below (end_page r) l) e in
          let high = below_mono (first_page r) (end_page r) (first_end r) l in
          let same : below (end_page r) l ≡ below (first_page r) l = omega arith in
          sym (ap (λ (i : ℕ). with_mapped m p (take (below (first_page r) l) l ++ drop i l)) same ∙ ap (λ t. with_mapped m p t) (take-append-drop (below (first_page r) l) l) ∙ same_put)
