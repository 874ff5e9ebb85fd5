-- Laws of the halving search: what its loop knows, and that it counts the rows below a page where pages rise.
use Rattle.std.proofs.Math.Path.{◌≡◌, refl, ap}
use Rattle.std.proofs.Common.{sym, subst, ◌∙◌}
use Rattle.std.specs.Prelude.{Bool, ◌&&◌, List, get_or, eqb, Some, None}
use Rattle.std.proofs.Math.Bool.{true, false, cond}
use Prim.Native.Nat.{ℕ, zero, suc, ◌+◌, ◌-◌, ◌≤◌, ◌<◌}
use native.Mathlib.Omega.{arith}
use Rattle.std.proofs.Math.ListN.{length}
use Rattle.std.proofs.Math.Dec.{ltb}
use borrow.Author.Tests.{ltb-true, ltb-false, lt-ltb, le-ltb}
use Rattle.model.specs.declared.Mapping.{Mapping}
use Rattle.model.specs.Machine.{no_mapping}
use Rattle.paging.specs.Place.{page_at, middle, halve, place, stands_at, row_for, translate_by}

-- the middle lies between the ends
pub middle_from : (lo hi : ℕ) → lo < hi → lo ≤ middle lo hi
middle_from lo hi h = omega arith

pub middle_under : (lo hi : ℕ) → lo < hi → middle lo hi < hi
middle_under lo hi h = omega arith

module _ (l : List Mapping) (page : ℕ) where
  pub halve_empty : (n lo hi : ℕ) → hi ≤ lo → halve n l page lo hi ≡ lo
  unfolding halve
  halve_empty zero lo hi h = refl
  halve_empty (suc n) lo hi h = rw (le-ltb lo hi h)

  pub halve_up : (n lo hi : ℕ) → lo < hi → page_at l (middle lo hi) < page → halve (suc n) l page lo hi ≡ halve n l page (middle lo hi + 1) hi
  unfolding halve
  halve_up n lo hi h p = rw (lt-ltb lo hi h, lt-ltb (page_at l (middle lo hi)) page p)

  pub halve_down : (n lo hi : ℕ) → lo < hi → page ≤ page_at l (middle lo hi) → halve (suc n) l page lo hi ≡ halve n l page lo (middle lo hi)
  unfolding halve
  halve_down n lo hi h p = rw (lt-ltb lo hi h, le-ltb (page_at l (middle lo hi)) page p)

  -- steps to spare change nothing
  halve_enough : (j k lo hi : ℕ) → hi ≤ j + lo → hi ≤ k + lo → halve j l page lo hi ≡ halve k l page lo hi
  halve_enough zero k lo hi p q = halve_empty zero lo hi (omega arith) ∙ sym (halve_empty k lo hi (omega arith))
  halve_enough (suc j) zero lo hi p q = halve_empty (suc j) lo hi (omega arith) ∙ sym (halve_empty zero lo hi (omega arith))
  halve_enough (suc j) (suc k) lo hi p q = go (ltb lo hi) refl (ltb (page_at l (middle lo hi)) page) refl (λ u v. halve_enough j k (middle lo hi + 1) hi u v) (λ u v. halve_enough j k lo (middle lo hi) u v)
    where
      go : (b : Bool) → ltb lo hi ≡ b → (d : Bool) → ltb (page_at l (middle lo hi)) page ≡ d → (hi ≤ j + (middle lo hi + 1) → hi ≤ k + (middle lo hi + 1) → halve j l page (middle lo hi + 1) hi ≡ halve k l page (middle lo hi + 1) hi) → (middle lo hi ≤ j + lo → middle lo hi ≤ k + lo → halve j l page lo (middle lo hi) ≡ halve k l page lo (middle lo hi)) → halve (suc j) l page lo hi ≡ halve (suc k) l page lo hi
      go false e d f up down = let h = ltb-false lo hi e in halve_empty (suc j) lo hi h ∙ sym (halve_empty (suc k) lo hi h)
      go true e true f up down =
          let h = ltb-true lo hi e in
          let low = middle_from lo hi h in
          let g = ltb-true (page_at l (middle lo hi)) page f in
          halve_up j lo hi h g ∙ up (omega arith) (omega arith) ∙ sym (halve_up k lo hi h g)
      go true e false f up down =
          let h = ltb-true lo hi e in
          let high = middle_under lo hi h in
          let g = ltb-false (page_at l (middle lo hi)) page f in
          halve_down j lo hi h g ∙ down (omega arith) (omega arith) ∙ sym (halve_down k lo hi h g)

  -- what the loop knows: the search between lo and hi finds what the whole search does
  pub record Searched (lo hi : ℕ) : Type 0 where
    pub ends : lo ≤ hi
    pub inside : hi ≤ length l
    pub same : place l page ≡ halve (hi - lo) l page lo hi

  pub search_first : (n : ℕ) → n ≡ length l → Searched 0 n
  unfolding place
  search_first n e = record { ends = omega arith; inside = omega arith; same = halve_enough (length l) (n - 0) 0 (length l) (omega arith) (omega arith) ∙ ap (λ (x : ℕ). halve (n - 0) l page 0 x) (sym e) }

  module _ (lo hi : ℕ) (s : Searched lo hi) (h : lo < hi) (row : Mapping) (read : row ≡ get_or l (middle lo hi) no_mapping) where
    whole : place l page ≡ halve (suc (hi - lo - 1)) l page lo hi
    whole = let some : hi - lo ≡ suc (hi - lo - 1) = omega arith in s.same ∙ ap (λ (n : ℕ). halve n l page lo hi) some

    pub search_up : row.page.0 < page → Searched (middle lo hi + 1) hi
    search_up p =
        let low = middle_from lo hi h in
        let high = middle_under lo hi h in
        record {
          ends = omega arith;
          inside = s.inside;
          same = whole ∙ halve_up (hi - lo - 1) lo hi h (subst (λ (x : Mapping). x.page.0 < page) read p) ∙ halve_enough (hi - lo - 1) (hi - (middle lo hi + 1)) (middle lo hi + 1) hi (omega arith) (omega arith);
        }

    pub search_down : page ≤ row.page.0 → Searched lo (middle lo hi)
    search_down p =
        let low = middle_from lo hi h in
        let high = middle_under lo hi h in
        let in_list = s.inside in
        record {
          ends = omega arith;
          inside = omega arith;
          same = whole ∙ halve_down (hi - lo - 1) lo hi h (subst (λ (x : Mapping). page ≤ x.page.0) read p) ∙ halve_enough (hi - lo - 1) (middle lo hi - lo) lo (middle lo hi) (omega arith) (omega arith);
        }

  pub search_done : (lo hi : ℕ) → Searched lo hi → hi ≤ lo → lo ≡ place l page
  search_done lo hi s h = sym (s.same ∙ halve_empty (hi - lo) lo hi h)

-- ---- the row that is found

module _ (l : List Mapping) (page : ℕ) where
  pub stands_in : (i : ℕ) → i < length l → eqb (page_at l i) page ≡ stands_at l i page
  stands_in i h = rw (lt-ltb i (length l) h)

  pub stands_past : (i : ℕ) → length l ≤ i → false ≡ stands_at l i page
  stands_past i h = rw (le-ltb i (length l) h)

  pub row_found : (at : ℕ) → at ≡ place l page → (b : Bool) → b ≡ stands_at l at page → b ≡ true → Some at ≡ row_for l page
  unfolding row_for
  row_found at e b f t = rw (← e, ← f, t)

  pub row_missing : (at : ℕ) → at ≡ place l page → (b : Bool) → b ≡ stands_at l at page → b ≡ false → None ≡ row_for l page
  unfolding row_for
  row_missing at e b f t = rw (← e, ← f, t)

  -- a row that is found is one of the list, and the page's
  pub row_inside : (at : ℕ) → Some at ≡ row_for l page → at < length l
  unfolding row_for
  row_inside at e = go (ltb (place l page) (length l)) refl (eqb (page_at l (place l page)) page) e
    where
      go : (a : Bool) → ltb (place l page) (length l) ≡ a → (b : Bool) → Some at ≡ cond (a && b) (Some (place l page)) None → at < length l
      go true p true f = let same : at ≡ place l page = cc in let h = ltb-true (place l page) (length l) p in omega arith
      go true p false f = let z : ◌≡◌ {A = ℕ} 0 1 = cc in absurd (omega arith)
      go false p b f = let z : ◌≡◌ {A = ℕ} 0 1 = cc in absurd (omega arith)

  pub translate_found : (at : ℕ) → Some at ≡ row_for l page → (row : Mapping) → row ≡ get_or l at no_mapping → Some row ≡ translate_by l page
  unfolding translate_by
  translate_found at e row f = rw (← e, f)

  pub translate_missing : None ≡ row_for l page → None ≡ translate_by l page
  unfolding translate_by
  translate_missing e = rw (← e)
