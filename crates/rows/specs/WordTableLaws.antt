-- A table among the words: n rows of k words from word b on. What a put of one row leaves of its own table and of any other.
use Rattle.std.specs.Prelude.{◌≢◌, ◌≡◌, refl, Bool, true, false, ◌||◌, List, ℕ, suc, ◌+◌, ◌*◌, ◌≤◌, ◌<◌, length, get_or, set, ltb, leb}
use Rattle.std.proofs.Common.{sym, ◌∙◌, mul-le-mul_right, suc-mul, arith, ltb-true, ltb-false, leb-true}
use Rattle.std.proofs.lemmas.Bool.{false≢true}
use Rattle.laws.specs.Rows.{rows}
use Rattle.laws.specs.RowsLaws.{rows_same, rows_set}
use Rattle.rows.specs.RowWordsLaws.{place, place_is, write, write_at, write_else, SameBut}

-- row i is made of the k words from b + i * k on, and `words` gives a row's words back
pub record TableAt {A : Type 0} (words : A → List ℕ) (row : List ℕ → ℕ → A) (b k n : ℕ) : Type 0 where
  pub shape : (ℕ → ℕ) → A
  pub makes : (w : List ℕ) (i : ℕ) → i < n → (g : ℕ → ℕ) → ((j : ℕ) → ltb j k ≡ true → get_or w (place (b + i * k) j) 0 ≡ g j) → row w i ≡ shape g
  pub whole : (a : A) → shape (λ j. get_or (words a) j 0) ≡ a
  pub sized : (a : A) → length (words a) ≡ k

-- two parts of the words have none in common
abbrev pub Apart : ℕ → ℕ → ℕ → ℕ → Type 0
Apart a e b f = (leb e b || leb f a) ≡ true

apart : (a e b f x : ℕ) → Apart a e b f → a ≤ x → x < e → b ≤ x → x < f → ⊥
apart a e b f x p l h m i = go (leb e b) refl (leb f a) refl p
  where
    go : (s : Bool) → leb e b ≡ s → (t : Bool) → leb f a ≡ t → (s || t) ≡ true → ⊥
    go true q t r o = let z = leb-true e b q in omega arith
    go false q true r o = let z = leb-true f a r in omega arith
    go false q false r o = false≢true o

-- word j of row i is a word of the table
in_table : (i j k n : ℕ) → i < n → j < k → i * k + j < n * k
in_table i j k n h l = let p = mul-le-mul_right k h in let q = suc-mul i k in omega arith

-- .. and no word of another row
other_row : (i j k x : ℕ) → j ≢ i → x < k → i * k ≤ j * k + x → j * k + x < i * k + k → ⊥
other_row i j k x n h l m = go (ltb j i) refl
  where
    go : (s : Bool) → ltb j i ≡ s → ⊥
    go true q = let p = in_table j x k i (ltb-true j i q) h in omega arith
    go false q =
        let above = ltb-false j i q in
        let p = mul-le-mul_right {m = suc i} {n = j} k (omega arith) in
        let s = suc-mul i k in
        omega arith

module _ {A : Type 0} {words : A → List ℕ} {row : List ℕ → ℕ → A} {b k n : ℕ} (t : TableAt words row b k n) where
  -- rows are equal where their words are
  row_same : (v w : List ℕ) (i : ℕ) → i < n → ((j : ℕ) → j < k → get_or v (place (b + i * k) j) 0 ≡ get_or w (place (b + i * k) j) 0) → row v i ≡ row w i
  row_same v w i h same =
      t.makes v i h (λ j. get_or w (place (b + i * k) j) 0) (λ j l. same j (ltb-true j k l)) ∙ sym (t.makes w i h (λ j. get_or w (place (b + i * k) j) 0) (λ j l. refl))

  -- a row keeps its value where only words outside the table change
  pub row_kept : (v w : List ℕ) (a e : ℕ) → SameBut v w a e → Apart b (b + n * k) a e → (i : ℕ) → i < n → row v i ≡ row w i
  row_kept v w a e same p i h = row_same v w i h at_each
    where
      at_each : (j : ℕ) → j < k → get_or v (place (b + i * k) j) 0 ≡ get_or w (place (b + i * k) j) 0
      at_each j l = let z = in_table i j k n h l in let q = place_is (b + i * k) j in same (place (b + i * k) j) (apart b (b + n * k) a e (place (b + i * k) j) p (omega arith) (omega arith))

  -- .. and so does the table
  pub kept : (v w : List ℕ) (a e : ℕ) → SameBut v w a e → Apart b (b + n * k) a e → rows (row v) n ≡ rows (row w) n
  kept v w a e same p = rows_same (row v) (row w) n (row_kept v w a e same p)

  -- a row's words written where row i stands
  module _ (w : List ℕ) (i : ℕ) (a : A) (h : i < n) (fits : b + n * k ≤ length w) (at : ℕ) (here : at ≡ b + i * k) where
    -- they change no word outside the table
    pub put_else : SameBut (write w at 0 (words a)) w b (b + n * k)
    put_else x out = write_else w at (words a) x inside
      where
        inside : at ≤ x → x < at + length (words a) → ⊥
        inside l m = let s = t.sized a in let p = mul-le-mul_right k h in let q = suc-mul i k in out (omega arith) (omega arith)

    -- row i is the row that was put
    pub put_row : row (write w at 0 (words a)) i ≡ a
    put_row = t.makes (write w at 0 (words a)) i h (λ j. get_or (words a) j 0) at_each ∙ t.whole a
      where
        at_each : (j : ℕ) → ltb j k ≡ true → get_or (write w at 0 (words a)) (place (b + i * k) j) 0 ≡ get_or (words a) j 0
        at_each j l =
            let s = t.sized a in
            let m = ltb-true j k l in
            let p = mul-le-mul_right k h in
            let q = suc-mul i k in
            let z = place_is (b + i * k) j in
            write_at w at 0 (words a) j (omega arith) (omega arith) (place (b + i * k) j) (omega arith)

    -- every other row stays
    put_other : (j : ℕ) → j < n → j ≢ i → row (write w at 0 (words a)) j ≡ row w j
    put_other j l ne = row_same (write w at 0 (words a)) w j l at_each
      where
        at_each : (x : ℕ) → x < k → get_or (write w at 0 (words a)) (place (b + j * k) x) 0 ≡ get_or w (place (b + j * k) x) 0
        at_each x m = let s = t.sized a in let z = place_is (b + j * k) x in write_else w at (words a) (place (b + j * k) x) (λ p q. other_row i j k x ne m (omega arith) (omega arith))

    -- so the table is one `set` of what it was
    pub put_set : rows (row (write w at 0 (words a))) n ≡ set (rows (row w) n) i a
    put_set = rows_set (row w) (row (write w at 0 (words a))) n i a h put_row put_other
