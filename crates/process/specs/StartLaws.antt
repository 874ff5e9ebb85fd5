-- Start, step by step: the lengths, the words all 0 read as tables, the files put, the empty machine.
use Rattle.std.specs.Prelude.{◌≡◌, ◌≢◌, Bool, true, false, ◌&&◌, ◌||◌, ℕ, suc, ◌+◌, ◌*◌, ◌/◌, ◌%◌, ◌≤◌, ◌<◌, get_or, set, take, drop, replicate, ltb, Ok, Err}
use Rattle.std.proofs.Math.Path.{refl, ap}
use Rattle.std.proofs.Common.{sym, ◌∙◌, not-suc-le-zero, add-one, arith, length-set, get_or-set_same, get_or-set_other, eq-eqb, ne_eqb, lt-ltb, le-ltb, ltb-true, ltb-false}
use Rattle.std.proofs.Math.Bool.{not, cond}
use mathlib.Core.List.{List, [], ◌++◌}
use Rattle.std.proofs.Math.Decide.{ℕ_discrete}
use Rattle.std.proofs.Math.ListN.{length, get_or-eq_default}
use Rattle.std.proofs.Math.Seq.{paste, paste-zero, paste-suc, take-length}
use Rattle.std.proofs.Math.Dec.{eqb}
use Rattle.std.proofs.lemmas.Bool.{not-false}
use Rattle.laws.specs.ResultLaws.{ok_not_err}
use Rattle.laws.specs.BoolLaws.{or_none}
use Rattle.answers.specs.declared.Refusal.{Refusal}
use Rattle.answers.specs.declared.Refusal.TheVariants.{BadTable}
use Rattle.model.specs.declared.File.{File}
use Rattle.model.specs.declared.Pool.{Pool}
use Rattle.laws.specs.Lists.{all, pad}
use Rattle.laws.specs.Rows.{rows}
use Rattle.laws.specs.RowsLaws.{rows_length, rows_at, same_rows}
use Rattle.model.specs.Machine.{Machine, no_process, no_region, no_mapping, no_entry, no_backing, no_file, State, empty_machine, with_machine, with_pool}
use Rattle.model.specs.Layout.{word_count, machine, process_row, region_row, order_row, mapping_row, entry_row, backing_row, pool_row, file_row}
use Rattle.model.specs.Answers.{first_of, fine, leaving, refuse}
use Rattle.model.specs.Refusals.{bad_lengths, start_refusals}
use Rattle.model.specs.Calls as calls
use Rattle.rows.specs.FileRow.{is_lent}
use Rattle.rows.specs.LentMemory.{state_of}
use Rattle.lookup.specs.LookupsLaws.{files_length}
use Rattle.rows.specs.With.{with_files, with_frame_count, with_file_count}
use Rattle.process.specs.Start.{file_in, files_of, start_call, Starts, unfit, bad_sizes, Zeros}
use Rattle.laws.specs.ListsLaws.{fill_pad}

-- ---- the list of files

pub files_number : (l : List ℕ) → length (files_of l) ≡ length l / 3
unfolding files_of
files_number l = rows_length (file_in l) (length l / 3)

pub file_row_is : (l : List ℕ) (i : ℕ) (f : File) → i < length l / 3 → f ≡ file_in l i → f ≡ get_or (files_of l) i no_file
unfolding files_of
file_row_is l i f h e = e ∙ sym (rows_at (file_in l) (length l / 3) i no_file h)

-- ---- the lengths, one by one

module _ (l : List ℕ) (frames n : ℕ) where
  pub bad_rows : length l % 3 ≢ 0 → true ≡ bad_sizes l frames n
  bad_rows h = rw (ne_eqb (length l % 3) 0 h) refl

  module _ (whole : length l % 3 ≡ 0) where
    pub bad_frames : frames % 4096 ≢ 0 → true ≡ bad_sizes l frames n
    bad_frames h = rw (eq-eqb (length l % 3) 0 whole, ne_eqb (frames % 4096) 0 h) refl

    module _ (framed : frames % 4096 ≡ 0) where
      pub many_frames : 256 < frames / 4096 → true ≡ bad_sizes l frames n
      many_frames h = rw (eq-eqb (length l % 3) 0 whole, eq-eqb (frames % 4096) 0 framed, lt-ltb 256 (frames / 4096) h) refl

      module _ (few : frames / 4096 ≤ 256) where
        pub many_files : 8 < length l / 3 → true ≡ bad_sizes l frames n
        many_files h = rw (eq-eqb (length l % 3) 0 whole, eq-eqb (frames % 4096) 0 framed, le-ltb 256 (frames / 4096) few, lt-ltb 8 (length l / 3) h) refl

        pub some_files : length l / 3 ≤ 8 → (b : Bool) → b ≡ all (is_lent n) (files_of l) → not b ≡ bad_sizes l frames n
        some_files h b e = rw (eq-eqb (length l % 3) 0 whole, eq-eqb (frames % 4096) 0 framed, le-ltb 256 (frames / 4096) few, le-ltb 8 (length l / 3) h) (ap not e)

-- ---- words all 0

-- every word below i is 0
abbrev pub ZeroBelow : ℕ → List ℕ → Type 0
ZeroBelow i w = (length w ≡ word_count) × ((j : ℕ) → j < i → get_or w j 0 ≡ 0)

pub zero_first : (w : List ℕ) → length w ≡ word_count → ZeroBelow 0 w
zero_first w s = (s, λ j h. absurd (not-suc-le-zero h))

pub zero_more : (w : List ℕ) (i : ℕ) → i < word_count → ZeroBelow i w → ZeroBelow (i + 1) (set w i 0)
zero_more w i h z = (length-set w i 0 ∙ z.0, λ j k. go j k (ℕ_discrete j i))
  where
    go : (j : ℕ) → j < i + 1 → Dec (j ≡ i) → get_or (set w i 0) j 0 ≡ 0
    go j k (yes e) = ap (λ (x : ℕ). get_or (set w i 0) x 0) e ∙ get_or-set_same w i 0 0 (rw z.0 h)
    go j k (no n) = get_or-set_other w i j 0 0 n ∙ z.1 j (omega arith)

pub zero_all : (w : List ℕ) (i : ℕ) → word_count ≤ i → ZeroBelow i w → Zeros w
zero_all w i h z j = go (ltb j word_count) refl
  where
    go : (b : Bool) → ltb j word_count ≡ b → get_or w j 0 ≡ 0
    go true e = let low = ltb-true j word_count e in z.1 j (omega arith)
    go false e = get_or-eq_default w 0 {n = j} (rw z.0 (ltb-false j word_count e))

-- .. read as tables they are the empty machine without frames and files
module _ (w : List ℕ) (z : Zeros w) where
  zero_regions : rows (region_row w) 512 ≡ replicate 512 no_region
  unfolding region_row
  zero_regions = same_rows (region_row w) no_region (λ i k. record { kind = z (40 + i * 12) k; start = record { 0 = z (40 + i * 12 + 1) k }; size = z (40 + i * 12 + 2) k; flags = record { 0 = z (40 + i * 12 + 3) k }; fork = z (40 + i * 12 + 4) k; per_thread = z (40 + i * 12 + 5) k; pins = z (40 + i * 12 + 6) k; file = z (40 + i * 12 + 7) k; offset = z (40 + i * 12 + 8) k; length = z (40 + i * 12 + 9) k; ranged = z (40 + i * 12 + 10) k; range = record { 0 = z (40 + i * 12 + 11) k } }) 512

  zero_processes : rows (process_row w) 8 ≡ replicate 8 no_process
  unfolding process_row
  zero_processes = same_rows (process_row w) no_process (λ i k. record { opened = z (i * 5) k; start = record { 0 = z (i * 5 + 1) k }; size = z (i * 5 + 2) k; attached = z (i * 5 + 3) k; mapped = z (i * 5 + 4) k }) 8

  zero_order : rows (order_row w) 512 ≡ replicate 512 0
  unfolding order_row
  zero_order = same_rows (order_row w) 0 (λ i. z (6184 + i)) 512

  zero_mapped : rows (mapping_row w) 1024 ≡ replicate 1024 no_mapping
  unfolding mapping_row
  zero_mapped = same_rows (mapping_row w) no_mapping (λ i k. record { page = record { 0 = z (6696 + i * 3) k }; frame = record { 0 = z (6696 + i * 3 + 1) k }; flags = record { 0 = z (6696 + i * 3 + 2) k } }) 1024

  zero_entries : rows (entry_row w) 512 ≡ replicate 512 no_entry
  unfolding entry_row
  zero_entries = same_rows (entry_row w) no_entry (λ i k. record { owner = z (9768 + i * 3) k; page = record { 0 = z (9768 + i * 3 + 1) k }; frame = record { 0 = z (9768 + i * 3 + 2) k } }) 512

  zero_backings : rows (backing_row w) 256 ≡ replicate 256 no_backing
  unfolding backing_row
  zero_backings = same_rows (backing_row w) no_backing (λ i k. record { len = z (11304 + i * 2) k; holders = z (11304 + i * 2 + 1) k }) 256

  zero_files : rows (file_row w) 8 ≡ replicate 8 no_file
  unfolding file_row
  zero_files = same_rows (file_row w) no_file (λ i k. record { readable = z (11818 + i * 3) k; offset = z (11818 + i * 3 + 1) k; len = z (11818 + i * 3 + 2) k }) 8

  pub zero_machine : machine w ≡ with_files (empty_machine 0 []) (replicate 8 no_file)
  unfolding machine pool_row empty_machine
  zero_machine = λ k. record { processes = zero_processes k; regions = zero_regions k; order = zero_order k; mapped = zero_mapped k; entries = zero_entries k; backings = zero_backings k; pool = record { free = z 11816 k; next = record { 0 = z 11817 k } }; files = zero_files k; frame_count = z 11842 k; file_count = z 11843 k }

-- ---- the files put

-- what the loop keeps: the first i files are put
abbrev pub FilesPut : List ℕ → List ℕ → ℕ → List ℕ → Type 0
FilesPut w₀ l i w = (length w ≡ word_count) × ((i ≤ length l / 3) × (machine w ≡ with_files (machine w₀) (paste (machine w₀).files 0 (files_of l) i)))

module _ (w₀ l : List ℕ) where
  pub files_first : length w₀ ≡ word_count → FilesPut w₀ l 0 w₀
  files_first s = (s, (omega arith, ap (λ t. with_files (machine w₀) t) (paste-zero (machine w₀).files 0 (files_of l))))

  pub files_more : (i : ℕ) (w v : List ℕ) (f : File) → FilesPut w₀ l i w → i < length l / 3 → length l / 3 ≤ 8 → f ≡ file_in l i → length v ≡ length w → machine v ≡ with_files (machine w) (set (machine w).files i f) → FilesPut w₀ l (i + 1) v
  files_more i w v f p h few e kept put =
      let long = files_length w₀ in
      let number = files_number l in
      let next : set (paste (machine w₀).files 0 (files_of l) i) (0 + i) (get_or (files_of l) i no_file) ≡ paste (machine w₀).files 0 (files_of l) (suc i) = paste-suc (machine w₀).files 0 (files_of l) i no_file (omega arith) (omega arith) in
      let here : 0 + i ≡ i = omega arith in (
        kept ∙ p.0,
        (
          omega arith,
          put
              ∙ ap (λ (m : Machine). with_files m (set m.files i f)) p.1.1
              ∙ ap (λ (x : File). with_files (machine w₀) (set (paste (machine w₀).files 0 (files_of l) i) i x)) (file_row_is l i f h e)
              ∙ ap (λ (k : ℕ). with_files (machine w₀) (set (paste (machine w₀).files 0 (files_of l) i) k (get_or (files_of l) i no_file))) (sym here)
              ∙ ap (λ t. with_files (machine w₀) t) next
              ∙ ap (λ (k : ℕ). with_files (machine w₀) (paste (machine w₀).files 0 (files_of l) k)) (sym (add-one i)),
        ),
      )

  pub files_all : (i : ℕ) (w : List ℕ) → FilesPut w₀ l i w → length l / 3 ≤ i → machine w ≡ with_files (machine w₀) (paste (machine w₀).files 0 (files_of l) (length l / 3))
  files_all i w p h =
      let low = p.1.0 in
      let same : i ≡ length l / 3 = omega arith in
      p.1.1 ∙ ap (λ (k : ℕ). with_files (machine w₀) (paste (machine w₀).files 0 (files_of l) k)) same

-- ---- the empty machine

paste_pad : (n k : ℕ) (d : File) (l : List File) → k ≡ length l → length l ≤ n → paste (replicate n d) 0 l k ≡ pad n d l
paste_pad n k d l e h =
    let here : 0 + k ≡ length l = omega arith in
    ap (λ (i : ℕ). take k l ++ drop i (replicate n d)) here ∙ ap (λ (i : ℕ). take i l ++ drop (length l) (replicate n d)) e ∙ ap (λ t. t ++ drop (length l) (replicate n d)) (take-length l) ∙ fill_pad n d l h

module _ (l : List ℕ) (few : length l / 3 ≤ 8) (n : ℕ) where
  abbrev pool : Pool
  pool = record { free = n; next = record { 0 = 0 } }

  pub empty_put : (m m₁ m₂ m₃ m₄ : Machine) → m ≡ with_files (empty_machine 0 []) (replicate 8 no_file) → m₁ ≡ with_pool m m.backings pool → m₂ ≡ with_frame_count m₁ n → m₃ ≡ with_files m₂ (paste m₂.files 0 (files_of l) (length l / 3)) → m₄ ≡ with_file_count m₃ (length l / 3) → m₄ ≡ empty_machine n (files_of l)
  unfolding empty_machine
  empty_put m m₁ m₂ m₃ m₄ a b c d e =
      let number = files_number l in
      let two : m₂ ≡ with_frame_count (with_pool (with_files (empty_machine 0 []) (replicate 8 no_file)) (replicate 256 no_backing) pool) n = c ∙ ap (λ (x : Machine). with_frame_count x n) (b ∙ ap (λ (x : Machine). with_pool x x.backings pool) a) in
      e ∙ ap (λ (x : Machine). with_file_count x (length l / 3)) (d ∙ ap (λ (x : Machine). with_files x (paste x.files 0 (files_of l) (length l / 3))) two)
      ∙ ap (λ (k : ℕ). with_file_count (with_files (with_frame_count (with_pool (empty_machine 0 []) (replicate 256 no_backing) pool) n) (paste (replicate 8 no_file) 0 (files_of l) (length l / 3))) k) (sym number)
      ∙ ap (λ (t : List File). with_file_count (with_files (with_frame_count (with_pool (empty_machine 0 []) (replicate 256 no_backing) pool) n) t) (length (files_of l))) (paste_pad 8 (length l / 3) no_file (files_of l) (sym number) (rw number few))

-- ---- the call

module _ (w frames bytes l : List ℕ) where
  abbrev s : State
  s = state_of w frames bytes

  pub other_words : length w ≢ word_count → Starts w frames bytes l w (Err BadTable)
  unfolding start_call
  other_words h = (rw (ne_eqb (length w) word_count h) refl, λ q e. refl)

  -- the model's test of the lengths
  unfit_lengths : bad_lengths s (files_of l) ≡ unfit l (length frames) (length bytes)
  unfolding bad_lengths
  unfit_lengths = ap (λ (n : ℕ). not (eqb (length frames % 4096) 0) || (ltb 256 (length frames / 4096) || (ltb 8 n || not (all (is_lent (length bytes)) (files_of l))))) (files_number l)

  started : (b : Bool) → unfit l (length frames) (length bytes) ≡ b → calls.start s (files_of l) ≡ calls.decided (cond b (Err BadTable) (Ok tt)) (λ (r : Refusal). Err r) s (fine (with_machine s (empty_machine (length frames / 4096) (files_of l))))
  unfolding calls.start start_refusals first_of
  started b e = ap (λ (x : Bool). calls.decided (cond x (Err BadTable) (Ok tt)) (λ (r : Refusal). Err r) s (fine (with_machine s (empty_machine (length frames / 4096) (files_of l))))) (unfit_lengths ∙ e)

  module _ (sized : length w ≡ word_count) where
    whole : (b : Bool) → eqb (length l % 3) 0 ≡ b → start_call w frames bytes l ≡ cond b (calls.start s (files_of l)) (refuse BadTable s)
    unfolding start_call
    whole b e = ap (λ (x : Bool). cond (x && eqb (length l % 3) 0) (calls.start s (files_of l)) (refuse BadTable s)) (eq-eqb (length w) word_count sized) ∙ ap (λ (x : Bool). cond x (calls.start s (files_of l)) (refuse BadTable s)) e

    pub bad_start : bad_sizes l (length frames) (length bytes) ≡ true → Starts w frames bytes l w (Err BadTable)
    bad_start b = (go (eqb (length l % 3) 0) refl b, λ q e. refl)
      where
        go : (t : Bool) → eqb (length l % 3) 0 ≡ t → (not t || unfit l (length frames) (length bytes)) ≡ true → start_call w frames bytes l ≡ leaving (Err BadTable) s
        go true e f = whole true e ∙ started true f
        go false e f = whole false e

    pub good_start : bad_sizes l (length frames) (length bytes) ≡ false → (v : List ℕ) → machine v ≡ empty_machine (length frames / 4096) (files_of l) → Starts w frames bytes l v (Ok tt)
    good_start b v put =
        let fits = or_none _ _ b in
        (whole true (not-false _ fits.0) ∙ started false fits.1 ∙ ap (λ (m : Machine). fine (with_machine s m)) (sym put), λ q e. absurd (ok_not_err e))

  -- files that fit are at most 8
  pub few_files : bad_sizes l (length frames) (length bytes) ≡ false → length l / 3 ≤ 8
  few_files b =
      let files : Bool = ltb 8 (length l / 3) || not (all (is_lent (length bytes)) (files_of l)) in
      let one = or_none (not (eqb (length l % 3) 0)) (unfit l (length frames) (length bytes)) b in
      let two = or_none (not (eqb (length frames % 4096) 0)) (ltb 256 (length frames / 4096) || files) one.1 in
      let three = or_none (ltb 256 (length frames / 4096)) files two.1 in
      ltb-false 8 (length l / 3) (or_none (ltb 8 (length l / 3)) (not (all (is_lent (length bytes)) (files_of l))) three.1).0
