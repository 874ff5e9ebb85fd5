-- Reading the lent words as tables is one to one: what is said of the tables settles every word.
use Rattle.std.specs.Prelude.{◌≡◌, refl, Bool, true, false, List, [], ◌∷◌, ℕ, zero, suc, ◌+◌, ◌-◌, ◌*◌, ◌/◌, ◌%◌, ◌≤◌, ◌<◌, length, get_or, ltb}
use Rattle.std.proofs.Common.{ap, sym, subst, ◌∙◌, not-suc-le-zero, arith, ext_get_or, ltb-true, ltb-false}
use Rattle.std.proofs.Math.Decide.{ℕ_discrete}
use Rattle.laws.specs.Rows.{rows}
use Rattle.laws.specs.RowsLaws.{row_same}
use Rattle.model.specs.Layout.{word_count, machine, process_row, region_row, order_row, mapping_row, entry_row, backing_row, pool_row, file_row, process_words, region_words, mapping_words, entry_words, backing_words, file_words}

-- a fact at 0, 1, .., k - 1
abbrev AllBelow : (ℕ → Type 0) → ℕ → Type 0
AllBelow P zero = Unit {0}
AllBelow P (suc k) = AllBelow P k × P k

at_below : (P : ℕ → Type 0) (k : ℕ) → AllBelow P k → (j : ℕ) → j < k → P j
at_below P zero a j h = absurd (not-suc-le-zero h)
at_below P (suc k) a j h = go (at_below P k a.0 j) (ℕ_discrete j k)
  where
    go : (j < k → P j) → Dec (j ≡ k) → P j
    go lower (yes e) = subst P (sym e) a.1
    go lower (no n) = lower (omega arith)

-- the words of row i of a table at word b, k words a row, are the row's
abbrev Reads : {A : Type 0} → (A → List ℕ) → (List ℕ → ℕ → A) → ℕ → ℕ → Type 0
Reads words f b k = (w : List ℕ) (i : ℕ) → AllBelow (λ j. get_or (words (f w i)) j 0 ≡ get_or w (b + i * k + j) 0) k

-- .. and equal words: word j of row i
word_same : {A : Type 0} (words : A → List ℕ) (f : List ℕ → ℕ → A) (b k n : ℕ) → Reads words f b k → (v w : List ℕ) → rows (f v) n ≡ rows (f w) n → (i j : ℕ) → i < n → j < k → get_or v (b + i * k + j) 0 ≡ get_or w (b + i * k + j) 0
word_same words f b k n r v w e i j h l =
    sym (at_below _ k (r v i) j l) ∙ ap (λ x. get_or (words x) j 0) (row_same (f v) (f w) n i h e) ∙ at_below _ k (r w i) j l

reads_process : Reads process_words process_row 0 5
unfolding process_row
reads_process u i = (((((tt, ap (λ z. get_or u z 0) (omega arith)), ap (λ z. get_or u z 0) (omega arith)), ap (λ z. get_or u z 0) (omega arith)), ap (λ z. get_or u z 0) (omega arith)), ap (λ z. get_or u z 0) (omega arith))

reads_region : Reads region_words region_row 40 12
unfolding region_row
reads_region u i = ((((((((((((tt, ap (λ z. get_or u z 0) (omega arith)), ap (λ z. get_or u z 0) (omega arith)), ap (λ z. get_or u z 0) (omega arith)), ap (λ z. get_or u z 0) (omega arith)), ap (λ z. get_or u z 0) (omega arith)), ap (λ z. get_or u z 0) (omega arith)), ap (λ z. get_or u z 0) (omega arith)), ap (λ z. get_or u z 0) (omega arith)), ap (λ z. get_or u z 0) (omega arith)), ap (λ z. get_or u z 0) (omega arith)), ap (λ z. get_or u z 0) (omega arith)), ap (λ z. get_or u z 0) (omega arith))

abbrev order_words : ℕ → List ℕ
order_words s = s ∷ []

reads_order : Reads order_words order_row 6184 1
unfolding order_row
reads_order u i = (tt, ap (λ z. get_or u z 0) (omega arith))

reads_mapping : Reads mapping_words mapping_row 6696 3
unfolding mapping_row
reads_mapping u i = (((tt, ap (λ z. get_or u z 0) (omega arith)), ap (λ z. get_or u z 0) (omega arith)), ap (λ z. get_or u z 0) (omega arith))

reads_entry : Reads entry_words entry_row 9768 3
unfolding entry_row
reads_entry u i = (((tt, ap (λ z. get_or u z 0) (omega arith)), ap (λ z. get_or u z 0) (omega arith)), ap (λ z. get_or u z 0) (omega arith))

reads_backing : Reads backing_words backing_row 11304 2
unfolding backing_row
reads_backing u i = ((tt, ap (λ z. get_or u z 0) (omega arith)), ap (λ z. get_or u z 0) (omega arith))

reads_file : Reads file_words file_row 11818 3
unfolding file_row
reads_file u i = (((tt, ap (λ z. get_or u z 0) (omega arith)), ap (λ z. get_or u z 0) (omega arith)), ap (λ z. get_or u z 0) (omega arith))

module _ (v w : List ℕ) (same : machine v ≡ machine w) where
  abbrev Same : ℕ → Type 0
  Same x = get_or v x 0 ≡ get_or w x 0

  -- a word in its place, named by row and column
  placed : (x y : ℕ) → x ≡ y → Same y → Same x
  placed x y e p = subst (λ (z : ℕ). Same z) (sym e) p

  in_processes : (x : ℕ) → 0 ≤ x → x < 40 → Same x
  unfolding machine
  in_processes x l h = placed x (0 + (x - 0) / 5 * 5 + (x - 0) % 5) (omega arith) (word_same process_words process_row 0 5 8 reads_process v w (ap (λ m. m.processes) same) ((x - 0) / 5) ((x - 0) % 5) (omega arith) (omega arith))

  in_regions : (x : ℕ) → 40 ≤ x → x < 6184 → Same x
  unfolding machine
  in_regions x l h = placed x (40 + (x - 40) / 12 * 12 + (x - 40) % 12) (omega arith) (word_same region_words region_row 40 12 512 reads_region v w (ap (λ m. m.regions) same) ((x - 40) / 12) ((x - 40) % 12) (omega arith) (omega arith))

  in_order : (x : ℕ) → 6184 ≤ x → x < 6696 → Same x
  unfolding machine
  in_order x l h = placed x (6184 + (x - 6184) / 1 * 1 + (x - 6184) % 1) (omega arith) (word_same order_words order_row 6184 1 512 reads_order v w (ap (λ m. m.order) same) ((x - 6184) / 1) ((x - 6184) % 1) (omega arith) (omega arith))

  in_mapped : (x : ℕ) → 6696 ≤ x → x < 9768 → Same x
  unfolding machine
  in_mapped x l h = placed x (6696 + (x - 6696) / 3 * 3 + (x - 6696) % 3) (omega arith) (word_same mapping_words mapping_row 6696 3 1024 reads_mapping v w (ap (λ m. m.mapped) same) ((x - 6696) / 3) ((x - 6696) % 3) (omega arith) (omega arith))

  in_entries : (x : ℕ) → 9768 ≤ x → x < 11304 → Same x
  unfolding machine
  in_entries x l h = placed x (9768 + (x - 9768) / 3 * 3 + (x - 9768) % 3) (omega arith) (word_same entry_words entry_row 9768 3 512 reads_entry v w (ap (λ m. m.entries) same) ((x - 9768) / 3) ((x - 9768) % 3) (omega arith) (omega arith))

  in_backings : (x : ℕ) → 11304 ≤ x → x < 11816 → Same x
  unfolding machine
  in_backings x l h = placed x (11304 + (x - 11304) / 2 * 2 + (x - 11304) % 2) (omega arith) (word_same backing_words backing_row 11304 2 256 reads_backing v w (ap (λ m. m.backings) same) ((x - 11304) / 2) ((x - 11304) % 2) (omega arith) (omega arith))

  in_files : (x : ℕ) → 11818 ≤ x → x < 11842 → Same x
  unfolding machine
  in_files x l h = placed x (11818 + (x - 11818) / 3 * 3 + (x - 11818) % 3) (omega arith) (word_same file_words file_row 11818 3 8 reads_file v w (ap (λ m. m.files) same) ((x - 11818) / 3) ((x - 11818) % 3) (omega arith) (omega arith))

  in_pool : (x : ℕ) → 11816 ≤ x → x < 11818 → Same x
  unfolding machine pool_row
  in_pool x l h = go (ℕ_discrete x 11816)
    where
      go : Dec (x ≡ 11816) → Same x
      go (yes e) = placed x 11816 e (ap (λ m. m.pool.free) same)
      go (no n) = placed x 11817 (omega arith) (ap (λ m. m.pool.next.0) same)

  in_counts : (x : ℕ) → 11842 ≤ x → x < 11844 → Same x
  unfolding machine
  in_counts x l h = go (ℕ_discrete x 11842)
    where
      go : Dec (x ≡ 11842) → Same x
      go (yes e) = placed x 11842 e (ap (λ m. m.frame_count) same)
      go (no n) = placed x 11843 (omega arith) (ap (λ m. m.file_count) same)

  -- one part or the other
  either : (x a : ℕ) → (x < a → Same x) → (a ≤ x → Same x) → Same x
  either x a f g = go (ltb x a) refl
    where
      go : (b : Bool) → ltb x a ≡ b → Same x
      go true e = f (ltb-true x a e)
      go false e = g (ltb-false x a e)

  each_same : (x : ℕ) → x < word_count → Same x
  each_same x h =
      either x 40 (in_processes x (omega arith)) (λ a. either x 6184 (in_regions x a) (λ b. either x 6696 (in_order x b) (λ c. either x 9768 (in_mapped x c) (λ d. either x 11304 (in_entries x d) (λ e. either x 11816 (in_backings x e) (λ f. either x 11818 (in_pool x f) (λ g. either x 11842 (in_files x g) (λ i. in_counts x i h))))))))

  -- words that read as the same machine are the same words
  pub settled : length v ≡ word_count → length w ≡ word_count → v ≡ w
  settled p q = ext_get_or 0 v w (p ∙ sym q) (λ x h. each_same x (rw p at h))
