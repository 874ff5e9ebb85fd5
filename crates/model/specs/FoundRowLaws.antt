-- What a search through rows finds: the first row that passes the test, none where none does; and rows counted.
use Rattle.std.specs.Prelude.{◌≡◌, refl, Bool, true, false, not, cond, List, [], ◌∷◌, ℕ, zero, suc, ◌+◌, ◌≤◌, ◌<◌, ◌-◌, length, get_or, Option, Some, None}
use Rattle.std.proofs.Common.{ap, sym, ◌∙◌, true≢false, not-suc-le-zero, arith}
use Rattle.laws.specs.ResultLaws.{none_not_some, some_same}
use Rattle.model.specs.Lookup.{first_row, is_found, row_found}
use Rattle.laws.specs.Lists.{count}

-- where one is counted one is found
pub count_found : {A : Type 0} (f : A → Bool) (l : List A) (k : ℕ) → 1 ≤ count f l → not (is_found (first_row f l k)) ≡ false
unfolding count first_row
count_found f [] k h = absurd (not-suc-le-zero h)
count_found f (x ∷ l) k h = go (f x) h (count_found f l (k + 1))
  where
    go : (b : Bool) → 1 ≤ cond b (count f l + 1) (count f l) → (1 ≤ count f l → not (is_found (first_row f l (k + 1))) ≡ false)
        → not (is_found (cond b (Some k) (first_row f l (k + 1)))) ≡ false
    go true j more = refl
    go false j more = more j

-- nothing is found: no row passes, and none past the end
pub first_missing : {A : Type 0} (f : A → Bool) (d : A) → f d ≡ false → (l : List A) (i : ℕ) → first_row f l i ≡ None → (j : ℕ) → f (get_or l j d) ≡ false
unfolding first_row
first_missing f d z [] i e j = z
first_missing f d z (x ∷ l) i e j = go (f x) refl e j (first_missing f d z l (i + 1))
  where
    go : (b : Bool) → f x ≡ b → cond b (Some i) (first_row f l (i + 1)) ≡ None → (j : ℕ) → (first_row f l (i + 1) ≡ None → (k : ℕ) → f (get_or l k d) ≡ false)
        → f (get_or (x ∷ l) j d) ≡ false
    go true p q j more = absurd (none_not_some (sym q))
    go false p q zero more = p
    go false p q (suc j) more = more q j

-- where the list's first row is row i
first_from : {A : Type 0} (f : A → Bool) (l : List A) (i j : ℕ) (d : A) → first_row f l i ≡ Some j → ((i ≤ j) × (j < i + length l)) × (f (get_or l (j - i) d) ≡ true)
unfolding first_row
first_from f [] i j d e = absurd (none_not_some e)
first_from f (x ∷ l) i j d e = go (f x) refl e (first_from f l (i + 1) j d)
  where
    go : (b : Bool) → f x ≡ b → cond b (Some i) (first_row f l (i + 1)) ≡ Some j → (first_row f l (i + 1) ≡ Some j → ((i + 1 ≤ j) × (j < i + 1 + length l)) × (f (get_or l (j - (i + 1)) d) ≡ true)) → ((i ≤ j) × (j < i + suc (length l))) × (f (get_or (x ∷ l) (j - i) d) ≡ true)
    go true p q later =
        let same = some_same q in
        let here : j - i ≡ 0 = omega arith in
        ((omega arith, omega arith), ap (λ (k : ℕ). f (get_or (x ∷ l) k d)) here ∙ p)
    go false p q later =
        let rest = later q in
        let low = rest.0.0 in
        let high = rest.0.1 in
        let there : j - i ≡ suc (j - (i + 1)) = omega arith in
        ((omega arith, omega arith), ap (λ (k : ℕ). f (get_or (x ∷ l) k d)) there ∙ rest.1)

pub first_found : {A : Type 0} (f : A → Bool) (l : List A) (j : ℕ) (d : A) → first_row f l 0 ≡ Some j → (j < length l) × (f (get_or l j d) ≡ true)
first_found f l j d e =
    let found = first_from f l 0 j d e in
    let high = found.0.1 in
    let same : j ≡ j - 0 = omega arith in
    (omega arith, ap (λ (k : ℕ). f (get_or l k d)) same ∙ found.1)

-- the one row that passes is found
pub first_only : {A : Type 0} (f : A → Bool) (d : A) → f d ≡ false → (l : List A) (j : ℕ) → f (get_or l j d) ≡ true → ((i : ℕ) → f (get_or l i d) ≡ true → i ≡ j)
    → first_row f l 0 ≡ Some j
first_only f d z l j p only = go (first_row f l 0) refl
  where
    go : (x : Option ℕ) → first_row f l 0 ≡ x → x ≡ Some j
    go None e = absurd (true≢false (sym p ∙ first_missing f d z l 0 e j))
    go (Some i) e = ap (λ (k : ℕ). Some k) (only i (first_found f l i d e).1)

-- none passes: nothing is found
pub first_nowhere : {A : Type 0} (f : A → Bool) (d : A) (l : List A) → ((i : ℕ) → f (get_or l i d) ≡ false) → first_row f l 0 ≡ None
first_nowhere f d l none = go (first_row f l 0) refl
  where
    go : (x : Option ℕ) → first_row f l 0 ≡ x → x ≡ None
    go None e = refl
    go (Some i) e = absurd (true≢false (sym (first_found f l i d e).1 ∙ none i))

-- a search that does not miss has found its row
pub found_row : (x : Option ℕ) → not (is_found x) ≡ false → x ≡ Some (row_found x)
found_row (Some i) e = refl
found_row None e = absurd (true≢false e)
