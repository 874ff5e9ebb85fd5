-- A walk with `next_entry`, from page 0 and on from each page that is found, lists the model's single_pages.
use Rattle.std.specs.Prelude.{◌≢◌, ◌≡◌, Bool, ◌&&◌, ℕ, suc, ◌+◌, ◌-◌, ◌≤◌, ◌<◌, length, get_or, drop, ltb, leb, Option, Some, None}
use Rattle.std.proofs.Math.Path.{refl, ap, sym}
use Rattle.std.proofs.Common.{subst, ◌∙◌, true≢false, arith, length-drop, ltb-true, leb-true, leb-false, eqb-true, eq-eqb, lt-ltb, le-ltb, le-leb}
use Rattle.std.proofs.Math.Bool.{true, false, cond}
use mathlib.Core.List.{List, [], ◌∷◌}
use Rattle.std.proofs.Math.Dec.{eqb}
use Rattle.std.proofs.lemmas.Bool.{lt-leb}
use Rattle.laws.specs.ResultLaws.{none_not_some, some_same}
use Rattle.model.specs.declared.Entry.{Entry}
use Rattle.laws.specs.Lists.{keep}
use Rattle.model.specs.Machine.{no_entry}
use Rattle.model.specs.Clone.{Held, in_order, single_pages}
use Rattle.lookup.specs.NextEntry.{entry_from, not_after, next_from, next_entry, held_of, OnceAPage}
use Rattle.lookup.specs.NextEntryLaws.{next_within, Lowest, lowest_from, is_from, not_from, first_is, rest_is}

-- those from a page on
abbrev pub held_from : ℕ → List Held → List Held
held_from k l = keep (λ h. leb k h.page) l

-- a region's pages from a page on
abbrev pub pages_from : ℕ → List Entry → ℕ → List Held
pages_from k l row = held_from k (single_pages l row)

-- ---- those from a page on, of a list

held_in_order : (k : ℕ) (h : Held) (l : List Held) → held_from k (in_order h l) ≡ cond (leb k h.page) (in_order h (held_from k l)) (held_from k l)
unfolding keep in_order
held_in_order k h [] = refl
held_in_order k h (x ∷ l) = go (ltb h.page x.page) refl (leb k h.page) refl (leb k x.page) refl (held_in_order k h l)
  where
    go : (a : Bool) → ltb h.page x.page ≡ a → (b : Bool) → leb k h.page ≡ b → (c : Bool) → leb k x.page ≡ c → held_from k (in_order h l) ≡ cond (leb k h.page) (in_order h (held_from k l)) (held_from k l) → held_from k (in_order h (x ∷ l)) ≡ cond (leb k h.page) (in_order h (held_from k (x ∷ l))) (held_from k (x ∷ l))
    go true p true q true r rest = rw (p, q, r, p) refl
    go true p true q false r rest = let before = ltb-true h.page x.page p in let from = leb-true k h.page q in let below = leb-false k x.page r in absurd (omega arith)
    go true p false q true r rest = rw (p, q, r) refl
    go true p false q false r rest = rw (p, q, r) refl
    go false p true q true r rest = rw (p, q, r, p) (ap (λ y. x ∷ y) (rest ∙ rw q refl))
    go false p true q false r rest = rw (p, q, r) (rest ∙ rw q refl)
    go false p false q true r rest = rw (p, q, r) (ap (λ y. x ∷ y) (rest ∙ rw q refl))
    go false p false q false r rest = rw (p, q, r) (rest ∙ rw q refl)

-- from a later page on, of those from a page on
held_later : (k m : ℕ) → k ≤ m → (l : List Held) → held_from m (held_from k l) ≡ held_from m l
unfolding keep
held_later k m h [] = refl
held_later k m h (x ∷ l) = go (leb k x.page) refl (leb m x.page) refl (held_later k m h l)
  where
    go : (a : Bool) → leb k x.page ≡ a → (b : Bool) → leb m x.page ≡ b → held_from m (held_from k l) ≡ held_from m l → held_from m (held_from k (x ∷ l)) ≡ held_from m (x ∷ l)
    go true p true q rest = rw (p, q) (ap (λ y. x ∷ y) rest)
    go true p false q rest = rw (p, q) rest
    go false p true q rest = let below = leb-false k x.page p in let from = leb-true m x.page q in absurd (omega arith)
    go false p false q rest = rw (p, q) rest

-- from an earlier page on: all
held_earlier : (k m : ℕ) → m ≤ k → (l : List Held) → held_from m (held_from k l) ≡ held_from k l
unfolding keep
held_earlier k m h [] = refl
held_earlier k m h (x ∷ l) = go (leb k x.page) refl (held_earlier k m h l)
  where
    go : (a : Bool) → leb k x.page ≡ a → held_from m (held_from k l) ≡ held_from k l → held_from m (held_from k (x ∷ l)) ≡ held_from k (x ∷ l)
    go true p rest = let from = leb-true k x.page p in rw (p, le-leb m x.page (omega arith)) (ap (λ y. x ∷ y) rest)
    go false p rest = rw p rest

held_all : (l : List Held) → held_from 0 l ≡ l
unfolding keep
held_all [] = refl
held_all (x ∷ l) = rw (le-leb 0 x.page (omega arith)) (ap (λ y. x ∷ y) (held_all l))

-- ---- one entry more

module _ (row k : ℕ) (e : Entry) (l : List Entry) where
  pages_in : entry_from (row + 1) k e ≡ true → pages_from k (e ∷ l) row ≡ in_order (held_of e) (pages_from k l row)
  unfolding single_pages
  pages_in q =
      let is = is_from (row + 1) k e q in
      rw (eq-eqb e.owner (row + 1) is.0) (held_in_order k (held_of e) (single_pages l row) ∙ rw (le-leb k e.page.0 is.1) refl)

  pages_out : entry_from (row + 1) k e ≡ false → pages_from k (e ∷ l) row ≡ pages_from k l row
  unfolding single_pages
  pages_out q = go (eqb e.owner (row + 1)) refl
    where
      go : (b : Bool) → eqb e.owner (row + 1) ≡ b → pages_from k (e ∷ l) row ≡ pages_from k l row
      go true p = rw p (held_in_order k (held_of e) (single_pages l row) ∙ rw (lt-leb k e.page.0 (not_from (row + 1) k e q (eqb-true e.owner (row + 1) p))) refl)
      go false p = rw p refl

  -- the entry stands before all others
  page_first : entry_from (row + 1) k e ≡ true → in_order (held_of e) (pages_from k l row) ≡ held_of e ∷ pages_from k l row → held_from (e.page.0 + 1) (pages_from k l row) ≡ pages_from k l row → pages_from k (e ∷ l) row ≡ held_of e ∷ held_from (e.page.0 + 1) (single_pages l row)
  page_first q before after =
      let from = (is_from (row + 1) k e q).1 in
      pages_in q ∙ before ∙ ap (λ x. held_of e ∷ x) (sym after ∙ held_later k (e.page.0 + 1) (omega arith) (single_pages l row))

-- an entry that is from no page k on is from no later page on; one that is, from every page up to its own
out_below : (owner k : ℕ) (e : Entry) → e.page.0 < k → entry_from owner k e ≡ false
out_below owner k e h = rw (lt-leb k e.page.0 h) (go (eqb e.owner owner))
  where
    go : (b : Bool) → (b && false) ≡ false
    go true = refl
    go false = refl

out_later : (owner k m : ℕ) (e : Entry) → k ≤ m → entry_from owner k e ≡ false → entry_from owner m e ≡ false
out_later owner k m e h q = go (eqb e.owner owner) refl
  where
    go : (b : Bool) → eqb e.owner owner ≡ b → (b && leb m e.page.0) ≡ false
    go true p = let below = not_from owner k e q (eqb-true e.owner owner p) in lt-leb m e.page.0 (omega arith)
    go false p = refl

in_up_to : (owner k m : ℕ) (e : Entry) → m ≤ e.page.0 → entry_from owner k e ≡ true → entry_from owner m e ≡ true
in_up_to owner k m e h q = rw (eq-eqb e.owner owner (is_from owner k e q).0, le-leb m e.page.0 h) refl

-- ---- the walk

module _ (t : List Entry) (row k : ℕ) where
  pages_none : (l : List Entry) (i : ℕ) → next_from t (row + 1) k l i ≡ None → pages_from k l row ≡ []
  unfolding next_from single_pages keep
  pages_none [] i p = refl
  pages_none (e ∷ l) i p = go (entry_from (row + 1) k e) refl (next_from t (row + 1) k l (i + 1)) (not_after t e.page.0 (next_from t (row + 1) k l (i + 1))) refl p (pages_none l (i + 1))
    where
      go : (b : Bool) → entry_from (row + 1) k e ≡ b → (f : Option ℕ) (c : Bool) → not_after t e.page.0 f ≡ c → cond (b && c) (Some i) f ≡ None → (f ≡ None → pages_from k l row ≡ []) → pages_from k (e ∷ l) row ≡ []
      go false q f c n r rest = pages_out row k e l q ∙ rest r
      go true q f true n r rest = absurd (none_not_some (sym r))
      go true q None false n r rest = absurd (true≢false n)
      go true q (Some j) false n r rest = absurd (none_not_some (sym r))

  -- x is the first page of l from page k on
  abbrev FirstPage : List Entry → Entry → Type 0
  FirstPage l x = pages_from k l row ≡ held_of x ∷ pages_from (x.page.0 + 1) l row

  first_alone : (e : Entry) (l : List Entry) → entry_from (row + 1) k e ≡ true → pages_from k l row ≡ [] → FirstPage (e ∷ l) e
  unfolding keep in_order
  first_alone e l q none =
      page_first row k e l q (ap (λ x. in_order (held_of e) x) none ∙ ap (λ x. held_of e ∷ x) (sym none)) (ap (λ x. held_from (e.page.0 + 1) x) none ∙ sym none)
      ∙ ap (λ x. held_of e ∷ x) (sym (pages_out row (e.page.0 + 1) e l (out_below (row + 1) (e.page.0 + 1) e (omega arith))))

  first_before : (e : Entry) (l : List Entry) (x : Entry) → entry_from (row + 1) k e ≡ true → e.page.0 < x.page.0 → FirstPage l x → FirstPage (e ∷ l) e
  unfolding keep in_order
  first_before e l x q h rest =
      page_first row k e l q (ap (λ y. in_order (held_of e) y) rest ∙ before ∙ ap (λ y. held_of e ∷ y) (sym rest)) (ap (λ y. held_from (e.page.0 + 1) y) rest ∙ after ∙ sym rest)
      ∙ ap (λ y. held_of e ∷ y) (sym (pages_out row (e.page.0 + 1) e l (out_below (row + 1) (e.page.0 + 1) e (omega arith))))
    where
      before : in_order (held_of e) (held_of x ∷ pages_from (x.page.0 + 1) l row) ≡ held_of e ∷ held_of x ∷ pages_from (x.page.0 + 1) l row
      before = rw (lt-ltb e.page.0 x.page.0 h) refl

      after : held_from (e.page.0 + 1) (held_of x ∷ pages_from (x.page.0 + 1) l row) ≡ held_of x ∷ pages_from (x.page.0 + 1) l row
      after = rw (le-leb (e.page.0 + 1) x.page.0 (omega arith)) (ap (λ y. held_of x ∷ y) (held_earlier (x.page.0 + 1) (e.page.0 + 1) (omega arith) (single_pages l row)))

  first_after : (e : Entry) (l : List Entry) (x : Entry) → entry_from (row + 1) k e ≡ true → x.page.0 < e.page.0 → FirstPage l x → FirstPage (e ∷ l) x
  unfolding in_order
  first_after e l x q h rest =
      pages_in row k e l q ∙ ap (λ y. in_order (held_of e) y) rest ∙ behind ∙ ap (λ y. held_of x ∷ y) (sym (pages_in row (x.page.0 + 1) e l (in_up_to (row + 1) k (x.page.0 + 1) e (omega arith) q)))
    where
      behind : in_order (held_of e) (held_of x ∷ pages_from (x.page.0 + 1) l row) ≡ held_of x ∷ in_order (held_of e) (pages_from (x.page.0 + 1) l row)
      behind = rw (le-ltb e.page.0 x.page.0 (omega arith)) refl

  first_other : (e : Entry) (l : List Entry) (x : Entry) → entry_from (row + 1) k e ≡ false → k ≤ x.page.0 → FirstPage l x → FirstPage (e ∷ l) x
  first_other e l x q h rest =
      pages_out row k e l q ∙ rest ∙ ap (λ y. held_of x ∷ y) (sym (pages_out row (x.page.0 + 1) e l (out_later (row + 1) k (x.page.0 + 1) e (omega arith) q)))

  module _ (once : OnceAPage t) where
    pages_found : (l : List Entry) (i : ℕ) → drop i t ≡ l → (j : ℕ) → next_from t (row + 1) k l i ≡ Some j → FirstPage l (get_or t j no_entry)
    unfolding next_from
    pages_found [] i here j p = absurd (none_not_some p)
    pages_found (e ∷ l) i here j p =
        go (entry_from (row + 1) k e) refl (next_from t (row + 1) k l (i + 1)) refl (not_after t e.page.0 (next_from t (row + 1) k l (i + 1))) refl p (pages_none l (i + 1)) (pages_found l (i + 1) (rest_is t i e l here))
      where
        lowest : (m : ℕ) → next_from t (row + 1) k l (i + 1) ≡ Some m → Lowest (row + 1) k l (get_or t m no_entry)
        lowest m s = lowest_from t (row + 1) k l (i + 1) (rest_is t i e l here) m s

        is_first : i ≡ j → FirstPage (e ∷ l) e → FirstPage (e ∷ l) (get_or t j no_entry)
        is_first same x = subst (λ (y : Entry). FirstPage (e ∷ l) y) (sym (first_is t i e l here) ∙ ap (λ (n : ℕ). get_or t n no_entry) same) x

        -- rows i and m are two rows of one region
        other_page : (m : ℕ) → next_from t (row + 1) k l (i + 1) ≡ Some m → e.owner ≡ row + 1 → e.page.0 ≢ (get_or t m no_entry).page.0
        other_page m s o same =
            let within = next_within t (row + 1) k l (i + 1) m s in
            let above = within.0 in
            let below = within.1 in
            let rest : length t - i ≡ suc (length l) = sym (length-drop i t) ∙ ap (λ x. length x) here in
            let is = first_is t i e l here in
            let owner = ap (λ (x : Entry). x.owner) is in
            let page = ap (λ (x : Entry). x.page.0) is in
            let owned = (lowest m s).owned in
            once i m (omega arith) (omega arith) (λ z. let none = sym o ∙ sym owner ∙ z in omega arith) (owner ∙ o ∙ sym owned) (page ∙ same)

        go : (b : Bool) → entry_from (row + 1) k e ≡ b → (f : Option ℕ) → next_from t (row + 1) k l (i + 1) ≡ f → (c : Bool) → not_after t e.page.0 f ≡ c → cond (b && c) (Some i) f ≡ Some j → (f ≡ None → pages_from k l row ≡ []) → ((m : ℕ) → f ≡ Some m → FirstPage l (get_or t m no_entry)) → FirstPage (e ∷ l) (get_or t j no_entry)
        go false q f s c n r none rest = first_other e l (get_or t j no_entry) q (lowest j (s ∙ r)).from (rest j r)
        go true q None s true n r none rest = is_first (some_same r) (first_alone e l q (none refl))
        go true q (Some m) s true n r none rest =
            let before = leb-true e.page.0 (get_or t m no_entry).page.0 n in
            let other = other_page m s (is_from (row + 1) k e q).0 in
            is_first (some_same r) (first_before e l (get_or t m no_entry) q (omega arith) (rest m refl))
        go true q None s false n r none rest = absurd (true≢false n)
        go true q (Some m) s false n r none rest =
            let after = leb-false e.page.0 (get_or t j no_entry).page.0 (ap (λ (x : ℕ). leb e.page.0 (get_or t x no_entry).page.0) (sym (some_same r)) ∙ n) in
            first_after e l (get_or t j no_entry) q after (rest j r)

-- the walk starts at page 0 ..
pub walk_start : (t : List Entry) (row : ℕ) → pages_from 0 t row ≡ single_pages t row
walk_start t row = held_all (single_pages t row)

-- .. what is found is the first page of what is left, and the rest are those past it ..
pub walk_on : (t : List Entry) (row k : ℕ) → OnceAPage t → (j : ℕ) → next_entry t row k ≡ Some j → pages_from k t row ≡ held_of (get_or t j no_entry) ∷ pages_from ((get_or t j no_entry).page.0 + 1) t row
unfolding next_entry
walk_on t row k once j p = pages_found t row k once t 0 refl j p

-- .. and where nothing is found none is left
pub walk_end : (t : List Entry) (row k : ℕ) → next_entry t row k ≡ None → pages_from k t row ≡ []
unfolding next_entry
walk_end t row k p = pages_none t row k t 0 p
