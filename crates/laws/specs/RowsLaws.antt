-- Laws of `Rows`: a table as the list of its rows: row i is what a function says of i. Laws that hold for any row.
use Rattle.std.specs.Prelude.{◌≢◌, ◌≡◌, refl, ◌∷◌, ℕ, zero, suc, ◌<◌, length, get_or, set, replicate}
use Rattle.std.proofs.Common.{ap, sym, ◌∙◌, zero-le, suc-le-suc, le_of_suc-le-suc, not-suc-le-zero, length-set, ext_get_or, get_or-set_same, get_or-set_other}
use Rattle.std.proofs.Math.Decide.{ℕ_discrete}
use Rattle.laws.specs.Rows.{rows}

pub rows_length {ℓ} : {A : Type ℓ} (f : ℕ → A) (n : ℕ) → length (rows f n) ≡ n
unfolding rows
rows_length f zero = refl
rows_length f (suc n) = ap suc (rows_length (λ i. f (suc i)) n)

pub rows_at {ℓ} : {A : Type ℓ} (f : ℕ → A) (n i : ℕ) (d : A) → i < n → get_or (rows f n) i d ≡ f i
unfolding rows
rows_at f zero i d h = absurd (not-suc-le-zero h)
rows_at f (suc n) zero d h = refl
rows_at f (suc n) (suc i) d h = rows_at (λ i. f (suc i)) n i d (le_of_suc-le-suc h)

-- the same rows, where the functions agree on them
pub rows_same {ℓ} : {A : Type ℓ} (f g : ℕ → A) (n : ℕ) → ((i : ℕ) → i < n → f i ≡ g i) → rows f n ≡ rows g n
unfolding rows
rows_same f g zero h = refl
rows_same f g (suc n) h =
    ap (λ a. a ∷ rows (λ i. f (suc i)) n) (h zero (suc-le-suc zero-le)) ∙ ap (λ l. g zero ∷ l) (rows_same (λ i. f (suc i)) (λ i. g (suc i)) n (λ i k. h (suc i) (suc-le-suc k)))

-- one row is another, and the rest stay
pub rows_set {ℓ} : {A : Type ℓ} (f g : ℕ → A) (n i : ℕ) (a : A) → i < n → g i ≡ a → ((j : ℕ) → j < n → j ≢ i → g j ≡ f j) → rows g n ≡ set (rows f n) i a
rows_set f g n i a h e o =
    ext_get_or a (rows g n) (set (rows f n) i a) (rows_length g n ∙ sym (length-set (rows f n) i a ∙ rows_length f n)) at_each
  where
    at_each : (j : ℕ) → j < length (rows g n) → get_or (rows g n) j a ≡ get_or (set (rows f n) i a) j a
    at_each j k = go (ℕ_discrete j i)
      where
        below : j < n
        below = rw rows_length at k

        go : Dec (j ≡ i) → get_or (rows g n) j a ≡ get_or (set (rows f n) i a) j a
        go (yes p) = rows_at g n j a below ∙ ap g p ∙ e ∙ sym (get_or-set_same (rows f n) i a a (rw rows_length h)) ∙ ap (λ x. get_or (set (rows f n) i a) x a) (sym p)
        go (no p) = rows_at g n j a below ∙ o j below p ∙ sym (rows_at f n j a below) ∙ sym (get_or-set_other (rows f n) i j a a p)

-- equal tables have equal rows
pub row_same : {A : Type 0} (f g : ℕ → A) (n i : ℕ) → i < n → rows f n ≡ rows g n → f i ≡ g i
row_same f g n i h e = sym (rows_at f n i (f i) h) ∙ ap (λ l. get_or l i (f i)) e ∙ rows_at g n i (f i) h

-- rows that are all the same
pub same_rows : {A : Type 0} (f : ℕ → A) (d : A) → ((i : ℕ) → f i ≡ d) → (n : ℕ) → rows f n ≡ replicate n d
unfolding rows
same_rows f d h zero = refl
same_rows f d h (suc n) = λ k. h zero k ∷ same_rows (λ i. f (suc i)) d (λ i. h (suc i)) n k
