-- The ways through map, unmap, remap and unmap_from: what each leaves is what Mapper says.
use Rattle.std.specs.Prelude.{◌≡◌, true, false, List, ◌++◌, ℕ, suc, ◌+◌, ◌-◌, ◌≤◌, ◌<◌, length, get_or, ltb, Some, None}
use Rattle.std.proofs.Math.Path.{refl, ap}
use Rattle.std.proofs.Common.{sym, ◌∙◌, length-set}
use native.Mathlib.Omega.{arith}
use Rattle.std.proofs.Math.ListN.{set, replicate, length-replicate}
use Rattle.std.proofs.Math.Seq.{slice, length-slice}
use borrow.Author.Tests.{lt-ltb, le-ltb}
use Rattle.model.specs.declared.Mapping.{Mapping}
use Rattle.model.specs.declared.Region.{Region}
use Rattle.model.specs.Layout.{word_count, machine}
use Rattle.model.specs.Machine.{Machine, mapped_of, no_mapping}
use Rattle.model.specs.Lookup.{is_found, pages_for}
use Rattle.lookup.specs.LookupsLaws.{mapped_length}
use Rattle.paging.specs.Place.{place, row_for}
use Rattle.paging.specs.ProcessRows.{rows_of, with_rows, with_count, put_rows, row_put, rows_taken}
use Rattle.paging.specs.ProcessRowsLaws.{rows_of_length, rowed_first, rowed_put}
use Rattle.paging.specs.PutRowsLaws.{put_length, put_front, raise_length, put_behind}
use Rattle.paging.specs.Mapper.{mapped_pages, inserted, taken_out, map_by, unmap_by, reflag, remap_by, first_page, end_page, unmap_from_by}

module _ (w : List ℕ) (p : ℕ) (h : p < 8) (sized : length w ≡ word_count) where
  -- rows put in two calls, and then a count
  rows_then_count : (u v x : List ℕ) (f g : List Mapping → List Mapping) (n : ℕ) → length u ≡ length w → machine u ≡ with_rows (machine w) p (f (rows_of (machine w) p)) → length (f (rows_of (machine w) p)) ≡ 128 → length v ≡ length u → machine v ≡ with_rows (machine u) p (g (rows_of (machine u) p)) → length (g (f (rows_of (machine w) p))) ≡ 128 → machine x ≡ with_count (machine v) p n → machine x ≡ with_count (with_rows (machine w) p (g (f (rows_of (machine w) p)))) p n
  rows_then_count u v x f g n a b c d e i j =
      let rows = rows_of (machine w) p in
      let first = rowed_put w p h w rows (rowed_first w p h sized) u f a b c in
      let second = rowed_put w p h u (f rows) first v g d e i in
      j ∙ ap (λ m. with_count m p n) second.same

  module _ (u v x : List ℕ) (kept : length u ≡ length w) (still : length v ≡ length u) where
    pub insert_done : (at n : ℕ) (row : Mapping) → at ≤ n → n < 128 → machine u ≡ with_rows (machine w) p (put_rows (rows_of (machine w) p) (suc at) (slice at n (rows_of (machine w) p))) → machine v ≡ with_rows (machine u) p (set (rows_of (machine u) p) at row) → machine x ≡ with_count (machine v) p (n + 1) → machine x ≡ inserted (machine w) p at n row
    unfolding row_put
    insert_done at n row k l a b c =
        let rows = rows_of (machine w) p in
        let long = rows_of_length (machine w) p h (mapped_length w) in
        let raised = raise_length rows n at k (omega arith) ∙ long in
        rows_then_count u v x (λ t. put_rows t (suc at) (slice at n t)) (λ t. set t at row) (n + 1) kept a raised still b (length-set (put_rows rows (suc at) (slice at n rows)) at row ∙ raised) c
        ∙ ap (λ t. with_count (with_rows (machine w) p t) p (n + 1)) (put_front rows at (slice at n rows) row (omega arith))

    pub take_out_done : (from to n left : ℕ) → from ≤ to → to ≤ n → n ≤ 128 → left ≡ n - (to - from) → machine u ≡ with_rows (machine w) p (put_rows (rows_of (machine w) p) from (slice to n (rows_of (machine w) p))) → machine v ≡ with_rows (machine u) p (put_rows (rows_of (machine u) p) left (replicate (n - left) no_mapping)) → machine x ≡ with_count (machine v) p left → machine x ≡ taken_out (machine w) p from to n
    unfolding rows_taken
    take_out_done from to n left k l q e a b c =
        let rows = rows_of (machine w) p in
        let long = rows_of_length (machine w) p h (mapped_length w) in
        let moved = length-slice to n rows (omega arith) in
        let freed = length-replicate (n - left) no_mapping in
        let lowered = put_length rows from (slice to n rows) (omega arith) ∙ long in
        let cleared = put_length (put_rows rows from (slice to n rows)) left (replicate (n - left) no_mapping) (omega arith) ∙ lowered in
        let gap : n - left ≡ to - from = omega arith in
        rows_then_count u v x (λ t. put_rows t from (slice to n t)) (λ t. put_rows t left (replicate (n - left) no_mapping)) left kept a lowered still b cleared c
        ∙ ap (λ t. with_count (with_rows (machine w) p t) p left) (put_behind rows from (slice to n rows) (replicate (n - left) no_mapping) left (omega arith) (omega arith))
        ∙ ap (λ (i : ℕ). with_count (with_rows (machine w) p (put_rows rows from (slice to n rows ++ replicate i no_mapping))) p left) gap
        ∙ ap (λ (i : ℕ). with_count (with_rows (machine w) p (put_rows rows from (slice to n rows ++ replicate (to - from) no_mapping))) p i) e

module _ (m : Machine) (p n : ℕ) (counted : n ≡ mapped_pages m p) where
  pub map_done : (x : Mapping) (at : ℕ) (new : Machine) → n < 128 → at ≡ place (mapped_of m p) x.page.0 → new ≡ inserted m p at n x → (true ≡ ltb (mapped_pages m p) 128) × (new ≡ map_by m p x)
  unfolding map_by
  map_done x at new h e f =
      let test = lt-ltb (mapped_pages m p) 128 (omega arith) in
      (sym test, f ∙ ap (λ (i : ℕ). inserted m p i n x) e ∙ ap (λ (i : ℕ). inserted m p (place (mapped_of m p) x.page.0) i x) counted ∙ rw test refl)

  pub map_full : (x : Mapping) → 128 ≤ n → (false ≡ ltb (mapped_pages m p) 128) × (m ≡ map_by m p x)
  unfolding map_by
  map_full x h = let test = le-ltb (mapped_pages m p) 128 (omega arith) in (sym test, rw test refl)

  pub unmap_found : (page at : ℕ) (new : Machine) → Some at ≡ row_for (mapped_of m p) page → new ≡ taken_out m p at (at + 1) n → new ≡ unmap_by m p page
  unfolding unmap_by
  unmap_found page at new e f = f ∙ ap (λ (i : ℕ). taken_out m p at (at + 1) i) counted ∙ rw (← e) refl

  -- what is taken out of a region's pages
  module _ (r : Region) (first end from to : ℕ) (begins : first ≡ pages_for (r.start.0 + 0)) (ends : end ≡ end_page r) (low : from ≡ place (mapped_of m p) first) (high : to ≡ place (mapped_of m p) end) where
    low_is : from ≡ place (mapped_of m p) (first_page r)
    low_is = let none : r.start.0 + 0 ≡ r.start.0 = omega arith in low ∙ ap (λ (i : ℕ). place (mapped_of m p) i) (begins ∙ ap (λ (i : ℕ). pages_for i) none)

    high_is : to ≡ place (mapped_of m p) (end_page r)
    high_is = high ∙ ap (λ (i : ℕ). place (mapped_of m p) i) ends

    pub some_taken : (new : Machine) → from < to → new ≡ taken_out m p from to n → new ≡ unmap_from_by m p r
    unfolding unmap_from_by
    some_taken new h f = f ∙ rw (← low_is, ← high_is, lt-ltb from to h, counted) refl

    pub none_taken : to ≤ from → m ≡ unmap_from_by m p r
    unfolding unmap_from_by
    none_taken h = rw (← low_is, ← high_is, le-ltb from to h) refl

module _ (m : Machine) (p page : ℕ) where
  pub unmap_no_row : None ≡ row_for (mapped_of m p) page → m ≡ unmap_by m p page
  unfolding unmap_by
  unmap_no_row e = rw (← e) refl

  pub remap_found : (flags at : ℕ) (row : Mapping) (new : Machine) → Some at ≡ row_for (mapped_of m p) page → row ≡ get_or (rows_of m p) at no_mapping → new ≡ with_rows m p (set (rows_of m p) at (reflag row flags)) → (true ≡ is_found (row_for (mapped_of m p) page)) × (new ≡ remap_by m p page flags)
  unfolding remap_by
  remap_found flags at row new e read f = (ap is_found e, f ∙ ap (λ y. with_rows m p (set (rows_of m p) at (reflag y flags))) read ∙ rw (← e) refl)

  pub remap_no_row : (flags : ℕ) → None ≡ row_for (mapped_of m p) page → (false ≡ is_found (row_for (mapped_of m p) page)) × (m ≡ remap_by m p page flags)
  unfolding remap_by
  remap_no_row flags e = (ap is_found e, rw (← e) refl)
