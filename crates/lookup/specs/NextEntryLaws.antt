-- Laws of `NextEntry`: a region's page entries in page order: the next one from a page on, how a loop finds it, and what it is.
use Rattle.std.specs.Prelude.{◌≡◌, Bool, ◌&&◌, drop, leb, Option, Some, None}
use Rattle.std.proofs.Math.Path.{refl, ap, sym, subst}
use Rattle.std.proofs.Common.{◌∙◌, true≢false, le_of_suc-le-suc, not-suc-le-zero, drop_of_length-le, length-drop, drop-cons, drop-drop, get_or-drop, eqb-true, leb-true, leb-false, eq-eqb, ne_eqb, le-leb}
use Rattle.std.proofs.Math.Bool.{true, false, cond}
use mathlib.Core.List.{List, [], ◌∷◌}
use Prim.Native.Nat.{ℕ, zero, suc, ◌+◌, ◌-◌, ◌≤◌, ◌<◌}
use native.Mathlib.Omega.{arith}
use Rattle.std.proofs.Math.ListN.{length, get_or}
use Rattle.std.proofs.lemmas.Bool.{lt-leb}
use Rattle.laws.specs.ResultLaws.{none_not_some, some_same}
use Rattle.model.specs.declared.Entry.{Entry}
use Rattle.model.specs.Machine.{no_entry}
use Rattle.model.specs.Lookup.{row_found}
use Rattle.laws.specs.BoolLaws.{both_true}
use Rattle.lookup.specs.NextEntry.{entry_from, not_after, comes_first, nearer, next_from, next_entry}

-- ---- the test of an entry

module _ (t : List Entry) (owner page : ℕ) (e : Entry) where
  pub other_not : (later : Option ℕ) → (e.owner ≡ owner → ⊥) → false ≡ comes_first t owner page e later
  other_not later n = rw (ne_eqb e.owner owner n) refl

  pub below_not : (later : Option ℕ) → e.owner ≡ owner → e.page.0 < page → false ≡ comes_first t owner page e later
  below_not later o h = rw (eq-eqb e.owner owner o, lt-leb page e.page.0 h) refl

  pub first_alone : (later : Option ℕ) → e.owner ≡ owner → page ≤ e.page.0 → later ≡ None → true ≡ comes_first t owner page e later
  first_alone later o h n = rw (eq-eqb e.owner owner o, le-leb page e.page.0 h, n) refl

  pub first_of_two : (later : Option ℕ) (j : ℕ) → e.owner ≡ owner → page ≤ e.page.0 → later ≡ Some j → (x : Entry) → x ≡ get_or t j no_entry → leb e.page.0 x.page.0 ≡ comes_first t owner page e later
  first_of_two later j o h n x same = ap (λ (y : Entry). leb e.page.0 y.page.0) same ∙ rw (eq-eqb e.owner owner o, le-leb page e.page.0 h, n) refl

pub nearer_is : (t : List Entry) (owner page i : ℕ) (later : Option ℕ) (e : Entry) → e ≡ get_or t i no_entry → (b : Bool) → comes_first t owner page e later ≡ b → cond b (Some i) later ≡ nearer t owner page i later
nearer_is t owner page i later e same b p = ap (λ (x : Bool). cond x (Some i) later) (sym p) ∙ ap (λ (x : Entry). cond (comes_first t owner page x later) (Some i) later) same

-- ---- the loop, from the last row down

module _ (t : List Entry) (owner page : ℕ) where
  pub next_within : (l : List Entry) (i j : ℕ) → next_from t owner page l i ≡ Some j → (i ≤ j) × (j < i + length l)
  unfolding next_from
  next_within [] i j e = absurd (none_not_some e)
  next_within (x ∷ l) i j e = go (comes_first t owner page x (next_from t owner page l (i + 1))) e (next_within l (i + 1) j)
    where
      go : (b : Bool) → cond b (Some i) (next_from t owner page l (i + 1)) ≡ Some j → (next_from t owner page l (i + 1) ≡ Some j → (i + 1 ≤ j) × (j < i + 1 + length l)) → (i ≤ j) × (j < i + suc (length l))
      go true p later = let same = some_same p in (omega arith, omega arith)
      go false p later = let above = (later p).0 in let below = (later p).1 in (omega arith, omega arith)

-- the rows from i on are seen
abbrev pub Seen : List Entry → ℕ → ℕ → ℕ → ℕ → Option ℕ → Type 0
Seen t owner page n i found = (i ≤ n) × (found ≡ next_from t owner page (drop i t) i)

module _ (t : List Entry) (owner page n : ℕ) (sized : length t ≡ n) where
  pub seen_none : Seen t owner page n n None
  unfolding next_from
  seen_none = (omega arith, ap (λ l. next_from t owner page l n) (sym (drop_of_length-le t {i = n} (omega arith))))

  pub seen_row : (i : ℕ) (found : Option ℕ) → Seen t owner page n i found → 0 < n → row_found found < n
  seen_row i None s h = h
  seen_row i (Some j) s h = let below = (next_within t owner page (drop i t) i j (sym s.1)).1 in let rest = length-drop i t in let seen = s.0 in omega arith

  pub seen_more : (i : ℕ) (found : Option ℕ) → Seen t owner page n i found → 0 < i → (next : Option ℕ) → next ≡ nearer t owner page (i - 1) found → Seen t owner page n (i - 1) next
  unfolding next_from
  seen_more i found s h next e = (let seen = s.0 in omega arith, e ∙ ap (λ f. nearer t owner page (i - 1) f) (s.1 ∙ again) ∙ sym (ap (λ l. next_from t owner page l (i - 1)) (drop-cons t (i - 1) no_entry (let seen = s.0 in omega arith))))
    where
      up : suc (i - 1) ≡ i
      up = omega arith

      one : i - 1 + 1 ≡ i
      one = omega arith

      again : next_from t owner page (drop i t) i ≡ next_from t owner page (drop (suc (i - 1)) t) (i - 1 + 1)
      again = ap (λ (k : ℕ). next_from t owner page (drop k t) i) (sym up) ∙ ap (λ (k : ℕ). next_from t owner page (drop (suc (i - 1)) t) k) (sym one)

  pub seen_all : (i : ℕ) (found : Option ℕ) → Seen t owner page n i found → i ≤ 0 → found ≡ next_from t owner page t 0
  seen_all zero found s h = s.1
  seen_all (suc i) found s h = absurd (not-suc-le-zero h)

-- ---- what is found

module _ (owner page : ℕ) where
  -- the lowest page of the owner's entries from a page on, among l
  pub record Lowest (l : List Entry) (x : Entry) : Type 0 where
    pub owned : x.owner ≡ owner
    pub from : page ≤ x.page.0
    pub lowest : (n : ℕ) → n < length l → (get_or l n no_entry).owner ≡ owner → page ≤ (get_or l n no_entry).page.0 → x.page.0 ≤ (get_or l n no_entry).page.0

  -- the owner has none
  abbrev pub NoneFrom : List Entry → Type 0
  NoneFrom l = (n : ℕ) → n < length l → (get_or l n no_entry).owner ≡ owner → (get_or l n no_entry).page.0 < page

  pub is_from : (e : Entry) → entry_from owner page e ≡ true → (e.owner ≡ owner) × (page ≤ e.page.0)
  is_from e q = let b = both_true _ _ q in (eqb-true e.owner owner b.0, leb-true page e.page.0 b.1)

  pub not_from : (e : Entry) → entry_from owner page e ≡ false → e.owner ≡ owner → e.page.0 < page
  not_from e q o = leb-false page e.page.0 (ap (λ (b : Bool). b && leb page e.page.0) (sym (eq-eqb e.owner owner o)) ∙ q)

  lowest_first : (e : Entry) (l : List Entry) → entry_from owner page e ≡ true → ((n : ℕ) → n < length l → (get_or l n no_entry).owner ≡ owner → page ≤ (get_or l n no_entry).page.0 → e.page.0 ≤ (get_or l n no_entry).page.0) → Lowest (e ∷ l) e
  lowest_first e l q rest = record { owned = (is_from e q).0; from = (is_from e q).1; lowest = among }
    where
      among : (n : ℕ) → n < suc (length l) → (get_or (e ∷ l) n no_entry).owner ≡ owner → page ≤ (get_or (e ∷ l) n no_entry).page.0 → e.page.0 ≤ (get_or (e ∷ l) n no_entry).page.0
      among zero h o p = omega arith
      among (suc n) h o p = rest n (le_of_suc-le-suc h) o p

  lowest_later : (e : Entry) (l : List Entry) (x : Entry) → (e.owner ≡ owner → page ≤ e.page.0 → x.page.0 ≤ e.page.0) → Lowest l x → Lowest (e ∷ l) x
  lowest_later e l x here rest = record { owned = rest.owned; from = rest.from; lowest = among }
    where
      among : (n : ℕ) → n < suc (length l) → (get_or (e ∷ l) n no_entry).owner ≡ owner → page ≤ (get_or (e ∷ l) n no_entry).page.0 → x.page.0 ≤ (get_or (e ∷ l) n no_entry).page.0
      among zero h o p = here o p
      among (suc n) h o p = rest.lowest n (le_of_suc-le-suc h) o p

-- the rows of t from row i on: the first, and the rest
module _ (t : List Entry) (i : ℕ) (e : Entry) (l : List Entry) (here : drop i t ≡ e ∷ l) where
  pub first_is : get_or t i no_entry ≡ e
  first_is = let same : i ≡ i + 0 = omega arith in ap (λ (k : ℕ). get_or t k no_entry) same ∙ sym (get_or-drop i t 0 no_entry) ∙ ap (λ x. get_or x 0 no_entry) here

  pub rest_is : drop (i + 1) t ≡ l
  rest_is = sym (drop-drop 1 i t) ∙ ap (λ x. drop 1 x) here

module _ (t : List Entry) (owner page : ℕ) where
  none_from : (l : List Entry) (i : ℕ) → next_from t owner page l i ≡ None → NoneFrom owner page l
  unfolding next_from
  none_from [] i p = λ n h o. absurd (not-suc-le-zero h)
  none_from (e ∷ l) i p = go (entry_from owner page e) refl (next_from t owner page l (i + 1)) (not_after t e.page.0 (next_from t owner page l (i + 1))) refl p (none_from l (i + 1))
    where
      go : (b : Bool) → entry_from owner page e ≡ b → (f : Option ℕ) (c : Bool) → not_after t e.page.0 f ≡ c → cond (b && c) (Some i) f ≡ None → (f ≡ None → NoneFrom owner page l) → NoneFrom owner page (e ∷ l)
      go false q f c k r rest zero h o = not_from owner page e q o
      go false q f c k r rest (suc n) h o = rest r n (le_of_suc-le-suc h) o
      go true q f true k r rest n h o = absurd (none_not_some (sym r))
      go true q None false k r rest n h o = absurd (true≢false k)
      go true q (Some j) false k r rest n h o = absurd (none_not_some (sym r))

  pub lowest_from : (l : List Entry) (i : ℕ) → drop i t ≡ l → (j : ℕ) → next_from t owner page l i ≡ Some j → Lowest owner page l (get_or t j no_entry)
  unfolding next_from
  lowest_from [] i here j p = absurd (none_not_some p)
  lowest_from (e ∷ l) i here j p =
      go (entry_from owner page e) refl (next_from t owner page l (i + 1)) (not_after t e.page.0 (next_from t owner page l (i + 1))) refl p (none_from l (i + 1)) (lowest_from l (i + 1) (rest_is t i e l here))
    where
      is_first : i ≡ j → Lowest owner page (e ∷ l) e → Lowest owner page (e ∷ l) (get_or t j no_entry)
      is_first same x = subst (λ (y : Entry). Lowest owner page (e ∷ l) y) (sym (first_is t i e l here) ∙ ap (λ (k : ℕ). get_or t k no_entry) same) x

      go : (b : Bool) → entry_from owner page e ≡ b → (f : Option ℕ) (c : Bool) → not_after t e.page.0 f ≡ c → cond (b && c) (Some i) f ≡ Some j → (f ≡ None → NoneFrom owner page l) → ((k : ℕ) → f ≡ Some k → Lowest owner page l (get_or t k no_entry)) → Lowest owner page (e ∷ l) (get_or t j no_entry)
      go false q f c k r none rest = lowest_later owner page e l (get_or t j no_entry) (λ o h. let below = not_from owner page e q o in absurd (omega arith)) (rest j r)
      go true q None true k r none rest = is_first (some_same r) (lowest_first owner page e l q (λ n h o p. let below = none refl n h o in absurd (omega arith)))
      go true q (Some m) true k r none rest = is_first (some_same r) (lowest_first owner page e l q (λ n h o p. let low = (rest m refl).lowest n h o p in let before = leb-true e.page.0 (get_or t m no_entry).page.0 k in omega arith))
      go true q None false k r none rest = absurd (true≢false k)
      go true q (Some m) false k r none rest = lowest_later owner page e l (get_or t j no_entry) (λ o h. let after = leb-false e.page.0 (get_or t j no_entry).page.0 (ap (λ (x : ℕ). leb e.page.0 (get_or t x no_entry).page.0) (sym (some_same r)) ∙ k) in omega arith) (rest j r)

-- what is found is the region's entry with the lowest page from a page on
pub next_found : (t : List Entry) (row page j : ℕ) → next_entry t row page ≡ Some j → (j < length t) × Lowest (row + 1) page t (get_or t j no_entry)
unfolding next_entry
next_found t row page j p = (let below = (next_within t (row + 1) page t 0 j p).1 in omega arith, lowest_from t (row + 1) page t 0 refl j p)

-- nothing is found where the region has no entry from a page on
pub next_none : (t : List Entry) (row page : ℕ) → next_entry t row page ≡ None → NoneFrom (row + 1) page t
unfolding next_entry
next_none t row page p = none_from t (row + 1) page t 0 p
