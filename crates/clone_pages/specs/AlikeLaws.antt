-- Tables that are alike for a region: an entry of another put into one; searches find the same rows.
use Rattle.std.specs.Prelude.{◌≡◌, ◌≢◌, Bool, ◌&&◌, cond, ℕ, zero, suc, ◌+◌, ◌<◌, length, get_or, set, drop, leb, Option, Some, None}
use Rattle.std.proofs.Math.Path.{refl}
use Rattle.std.proofs.Common.{ap, sym, ◌∙◌, arith, length-set, get_or-set_same, get_or-set_other, ne_eqb}
use mathlib.Core.List.{List, [], ◌∷◌}
use Rattle.std.proofs.Math.Decide.{ℕ_discrete}
use Rattle.model.specs.declared.Entry.{Entry}
use Rattle.model.specs.Machine.{no_entry}
use Rattle.model.specs.Lookup.{first_row}
use Rattle.lookup.specs.Lookups.{entry_of}
use Rattle.lookup.specs.NextEntry.{entry_from, not_after, comes_first, next_from, next_entry}
use Rattle.lookup.specs.NextEntryLaws.{lowest_from, first_is, rest_is}
use Rattle.clone_pages.specs.Alike.{Alike}

pub alike_first : (t : List Entry) (src : ℕ) → Alike t t src
alike_first t src = record { long = refl; same = λ j e. refl; other = λ j n. n }

-- another region's entry put into a row that is not the region's
pub alike_set : (t u : List Entry) (src : ℕ) → Alike t u src → (i : ℕ) (e : Entry) → i < length u → (get_or u i no_entry).owner ≢ src + 1 → e.owner ≢ src + 1 → Alike t (set u i e) src
alike_set t u src k i e low free new = record { long = length-set u i e ∙ k.long; same = λ j o. same j o (ℕ_discrete j i); other = λ j n. other j n (ℕ_discrete j i) }
  where
    same : (j : ℕ) → (get_or t j no_entry).owner ≡ src + 1 → Dec (j ≡ i) → get_or (set u i e) j no_entry ≡ get_or t j no_entry
    same j o (yes z) = absurd (free (ap (λ (x : ℕ). (get_or u x no_entry).owner) (sym z) ∙ ap (λ (x : Entry). x.owner) (k.same j o) ∙ o))
    same j o (no z) = get_or-set_other u i j e no_entry z ∙ k.same j o

    other : (j : ℕ) → (get_or t j no_entry).owner ≢ src + 1 → Dec (j ≡ i) → (get_or (set u i e) j no_entry).owner ≢ src + 1
    other j n (yes z) y = new (sym (ap (λ (x : Entry). x.owner) (ap (λ (x : ℕ). get_or (set u i e) x no_entry) z ∙ get_or-set_same u i e no_entry low)) ∙ y)
    other j n (no z) y = k.other j n (sym (ap (λ (x : Entry). x.owner) (get_or-set_other u i j e no_entry z)) ∙ y)

-- ---- the search for the next entry finds the same row

module _ (t u : List Entry) (src k : ℕ) (a : Alike t u src) where
  next_same : (l l' : List Entry) (i : ℕ) → drop i t ≡ l → drop i u ≡ l' → length l' ≡ length l → next_from u (src + 1) k l' i ≡ next_from t (src + 1) k l i
  unfolding next_from
  next_same [] [] i p q n = refl
  next_same [] (x ∷ l') i p q n = absurd (omega arith)
  next_same (x ∷ l) [] i p q n = absurd (omega arith)
  next_same (x ∷ l) (y ∷ l') i p q n = go (ℕ_discrete x.owner (src + 1)) (next_same l l' (i + 1) (rest_is t i x l p) (rest_is u i y l' q) (omega arith))
    where
      later : Option ℕ
      later = next_from t (src + 1) k l (i + 1)

      here : get_or t i no_entry ≡ x
      here = first_is t i x l p

      there : get_or u i no_entry ≡ y
      there = first_is u i y l' q

      after : (f : Option ℕ) → later ≡ f → (n : ℕ) → not_after u n f ≡ not_after t n f
      after None e n = refl
      after (Some j) e n = ap (λ (z : Entry). leb n z.page.0) (a.same j (lowest_from t (src + 1) k l (i + 1) (rest_is t i x l p) j e).owned)

      go : Dec (x.owner ≡ src + 1) → next_from u (src + 1) k l' (i + 1) ≡ later → cond (comes_first u (src + 1) k y (next_from u (src + 1) k l' (i + 1))) (Some i) (next_from u (src + 1) k l' (i + 1)) ≡ cond (comes_first t (src + 1) k x later) (Some i) later
      go (yes o) ih =
          let same : y ≡ x = sym there ∙ a.same i (ap (λ (z : Entry). z.owner) here ∙ o) ∙ here in
          ap (λ (f : Option ℕ). cond (comes_first u (src + 1) k y f) (Some i) f) ih
          ∙ ap (λ (z : Entry). cond (comes_first u (src + 1) k z later) (Some i) later) same
          ∙ ap (λ (b : Bool). cond (entry_from (src + 1) k x && b) (Some i) later) (after later refl x.page.0)
      go (no o) ih =
          let not_mine : y.owner ≢ src + 1 = λ z. a.other i (λ e. o (sym (ap (λ (v : Entry). v.owner) here) ∙ e)) (ap (λ (v : Entry). v.owner) there ∙ z) in
          rw (ne_eqb y.owner (src + 1) not_mine, ne_eqb x.owner (src + 1) o) ih

  pub next_alike : next_entry u src k ≡ next_entry t src k
  unfolding next_entry
  next_alike = next_same t u 0 refl refl a.long

-- ---- and so does the search for a page's entry

first_same : (f : Entry → Bool) (t u : List Entry) (i : ℕ) → length u ≡ length t → ((j : ℕ) → f (get_or u j no_entry) ≡ f (get_or t j no_entry)) → first_row f u i ≡ first_row f t i
unfolding first_row
first_same f [] [] i n e = refl
first_same f [] (y ∷ u) i n e = absurd (omega arith)
first_same f (x ∷ t) [] i n e = absurd (omega arith)
first_same f (x ∷ t) (y ∷ u) i n e = λ k. cond (e zero k) (Some i) (first_same f t u (i + 1) (omega arith) (λ j. e (suc j)) k)

pub found_alike : (t u : List Entry) (src page : ℕ) → Alike t u src → first_row (entry_of (src + 1) page) u 0 ≡ first_row (entry_of (src + 1) page) t 0
found_alike t u src page a = first_same (entry_of (src + 1) page) t u 0 a.long (λ j. go j (ℕ_discrete (get_or t j no_entry).owner (src + 1)))
  where
    go : (j : ℕ) → Dec ((get_or t j no_entry).owner ≡ src + 1) → entry_of (src + 1) page (get_or u j no_entry) ≡ entry_of (src + 1) page (get_or t j no_entry)
    go j (yes o) = ap (λ (z : Entry). entry_of (src + 1) page z) (a.same j o)
    go j (no o) = rw (ne_eqb (get_or u j no_entry).owner (src + 1) (a.other j o), ne_eqb (get_or t j no_entry).owner (src + 1) o) refl
