-- Page tables in page order: map, unmap and remap keep the order; and what stands in the lists that they leave.
use Rattle.std.specs.Prelude.{◌≡◌, ◌⊎◌, ◌≢◌, Bool, true, false, not, cond, get_or, eqb, ltb}
use Rattle.std.proofs.Math.Path.{refl}
use Rattle.std.proofs.Common.{ap, subst, inl, inr, le_of_suc-le-suc, not-suc-le-zero, arith, ltb-true, ltb-false}
use mathlib.Core.List.{List, [], ◌∷◌}
use Prim.Native.Nat.{ℕ, zero, suc, ◌<◌, zero-le, suc-le-suc}
use Rattle.std.proofs.lemmas.Bool.{eqb-false, not-true}
use Rattle.model.specs.declared.Mapping.{Mapping}
use Rattle.laws.specs.Lists.{keep}
use Rattle.model.specs.Machine.{no_mapping}
use Rattle.model.specs.Paging.{mapping, map_page, unmap_page, remap_where}
use Rattle.model.specs.MappedBelowLaws.{length_remap}
use Rattle.laws.specs.In.{In}
use Rattle.laws.specs.InLaws.{in_at, in_row, in_map, in_later}
use Rattle.laws.specs.InListsLaws.{in_keep}
use Rattle.keeping.specs.MappedKept.{Rising}

-- by membership: every later page is higher
abbrev Above : ℕ → List Mapping → Type 0
Above n l = (x : Mapping) → In x l → n < x.page.0

rising_cons : (x : Mapping) (l : List Mapping) → Above x.page.0 l → Rising l → Rising (x ∷ l)
rising_cons x l f r zero zero h k u = absurd (not-suc-le-zero h)
rising_cons x l f r zero (suc j) h k u = f _ (in_at no_mapping l j (le_of_suc-le-suc k))
rising_cons x l f r (suc i) zero h k u = absurd (not-suc-le-zero h)
rising_cons x l f r (suc i) (suc j) h k u = r i j (le_of_suc-le-suc h) (le_of_suc-le-suc k) u

rising_rest : (x : Mapping) (l : List Mapping) → Rising (x ∷ l) → Rising l
rising_rest x l r i j h k u = r (suc i) (suc j) (suc-le-suc h) (suc-le-suc k) u

rising_above : (x : Mapping) (l : List Mapping) → Rising (x ∷ l) → Above x.page.0 l
rising_above x l r y k =
    let s = in_row no_mapping y l k in
    subst (λ (z : Mapping). x.page.0 < z.page.0) s.is (r zero (suc s.row) (suc-le-suc zero-le) (suc-le-suc s.inside) tt)

-- some of them kept
pub rising_keep : (f : Mapping → Bool) (l : List Mapping) → Rising l → Rising (keep f l)
unfolding keep
rising_keep f [] r = r
rising_keep f (x ∷ l) r = go (f x) (rising_keep f l (rising_rest x l r))
  where
    go : (b : Bool) → Rising (keep f l) → Rising (cond b (x ∷ keep f l) (keep f l))
    go true s = rising_cons x (keep f l) (λ y k. rising_above x l r y (in_keep f y l k).0) s
    go false s = s

-- ---- remap

module _ (f : Mapping → Bool) (g : Mapping → ℕ) where
  -- a mapping as it is remapped
  abbrev pub remapped : Mapping → Mapping
  remapped x = cond (f x) (mapping x.page.0 x.frame.0 (g x)) x

  page_remapped : (x : Mapping) → (remapped x).page.0 ≡ x.page.0
  page_remapped x = go (f x)
    where
      go : (b : Bool) → (cond b (mapping x.page.0 x.frame.0 (g x)) x).page.0 ≡ x.page.0
      go true = refl
      go false = refl

  page_remap : (l : List Mapping) (i : ℕ) → (get_or (remap_where f g l) i no_mapping).page.0 ≡ (get_or l i no_mapping).page.0
  unfolding remap_where
  page_remap [] i = refl
  page_remap (x ∷ l) zero = page_remapped x
  page_remap (x ∷ l) (suc i) = page_remap l i

  -- flags changed: the order stays
  pub rising_remap : (l : List Mapping) → Rising l → Rising (remap_where f g l)
  rising_remap l r i j h k u =
      let same = length_remap f g l in
      let left = page_remap l i in
      let right = page_remap l j in
      let less = r i j h (omega arith) u in
      omega arith

  -- each was there, with its flags or new ones
  pub in_remap : (y : Mapping) (l : List Mapping) → In y (remap_where f g l) → (x : Mapping) × (In x l × (y ≡ remapped x))
  unfolding remap_where
  in_remap y l k = in_map (λ x. remapped x) y l k

-- ---- map

-- the new one, or there before
pub in_mapped : (x y : Mapping) (l : List Mapping) → In x (map_page l y) → (x ≡ y) ⊎ In x l
unfolding map_page
in_mapped x y [] (inl e) = inl e
in_mapped x y [] (inr k) = absurd k
in_mapped x y (z ∷ l) k = go (ltb y.page.0 z.page.0) k (in_mapped x y l)
  where
    go : (b : Bool) → In x (cond b (y ∷ z ∷ l) (z ∷ map_page l y)) → (In x (map_page l y) → (x ≡ y) ⊎ In x l) → (x ≡ y) ⊎ In x (z ∷ l)
    go true (inl e) more = inl e
    go true (inr h) more = inr h
    go false (inl e) more = inr (inl e)
    go false (inr h) more = in_later x y z l (more h)

pub rising_map : (l : List Mapping) (y : Mapping) → Rising l → ((x : Mapping) → In x l → x.page.0 ≢ y.page.0) → Rising (map_page l y)
unfolding map_page
rising_map [] y r n = rising_cons y [] (λ x k. absurd k) r
rising_map (z ∷ l) y r n = go (ltb y.page.0 z.page.0) refl (rising_map l y (rising_rest z l r) (λ x k. n x (inr k)))
  where
    go : (b : Bool) → ltb y.page.0 z.page.0 ≡ b → Rising (map_page l y) → Rising (cond b (y ∷ z ∷ l) (z ∷ map_page l y))
    go true p s = rising_cons y (z ∷ l) above r
      where
        above : Above y.page.0 (z ∷ l)
        above x (inl e) = let u = ltb-true y.page.0 z.page.0 p in let same = ap (λ (w : Mapping). w.page.0) e in omega arith
        above x (inr k) = let u = ltb-true y.page.0 z.page.0 p in let v = rising_above z l r x k in omega arith
    go false p s = rising_cons z (map_page l y) (λ x k. above x (in_mapped x y l k)) s
      where
        above : (x : Mapping) → (x ≡ y) ⊎ In x l → z.page.0 < x.page.0
        above x (inl e) =
            let u = ltb-false y.page.0 z.page.0 p in
            let same = ap (λ (w : Mapping). w.page.0) e in
            let differ = n z (inl refl) in
            let v : z.page.0 < y.page.0 = omega (arith, differ) in
            omega arith
        above x (inr k) = rising_above z l r x k

-- ---- unmap

-- there before, and of another page
pub in_unmapped : (x : Mapping) (page : ℕ) (l : List Mapping) → In x (unmap_page l page) → In x l × (x.page.0 ≢ page)
unfolding unmap_page
in_unmapped x page l k = let t = in_keep (λ y. not (eqb y.page.0 page)) x l k in (t.0, eqb-false x.page.0 page (not-true _ t.1))

pub rising_unmap : (page : ℕ) (l : List Mapping) → Rising l → Rising (unmap_page l page)
unfolding unmap_page
rising_unmap page l r = rising_keep (λ y. not (eqb y.page.0 page)) l r
