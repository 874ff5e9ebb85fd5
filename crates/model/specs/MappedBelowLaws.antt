-- How many pages are mapped below a page, and what map, unmap and remap do to that number.
use Rattle.std.specs.Prelude.{◌≡◌, Bool, true, false, not, length, eqb, ltb, Some}
use Rattle.std.proofs.Math.Path.{refl, ap}
use Rattle.std.proofs.Math.Bool.{cond}
use mathlib.Core.List.{List, [], ◌∷◌}
use Prim.Native.Nat.{ℕ, suc, ◌+◌, ◌≤◌, ◌<◌, zero-le, suc-le-suc}
use Rattle.std.proofs.Common.{arith, ltb-true, ltb-false, eqb-true, lt-ltb}
use Rattle.laws.specs.ResultLaws.{none_not_some}
use Rattle.laws.specs.CountLaws.{count_most, count_more}
use Rattle.model.specs.declared.Mapping.{Mapping}
use Rattle.laws.specs.Lists.{keep, count}
use Rattle.model.specs.Paging.{mapping, translate, map_page, unmap_page, remap_where}

-- the mapped pages below page k
abbrev pub below : ℕ → List Mapping → ℕ
below k l = count (λ x. ltb x.page.0 k) l

pub below_most : (k : ℕ) (l : List Mapping) → below k l ≤ length l
below_most k l = count_most (λ x. ltb x.page.0 k) l

pub below_next : (k : ℕ) (l : List Mapping) → below k l ≤ below (suc k) l
below_next k l = count_more (λ x. ltb x.page.0 k) (λ x. ltb x.page.0 (suc k)) (λ x e. let h = ltb-true x.page.0 k e in lt-ltb x.page.0 (suc k) (omega arith)) l

-- a page that is mapped counts from the next one on
pub below_here : (page : ℕ) (l : List Mapping) (x : Mapping) → translate l page ≡ Some x → suc (below page l) ≤ below (suc page) l
unfolding count translate
below_here page [] x e = absurd (none_not_some e)
below_here page (y ∷ l) x e = go (eqb y.page.0 page) refl (ltb y.page.0 page) refl (ltb y.page.0 (suc page)) refl e (below_here page l x)
  where
    go : (a : Bool) → eqb y.page.0 page ≡ a → (b : Bool) → ltb y.page.0 page ≡ b → (c : Bool) → ltb y.page.0 (suc page) ≡ c → cond a (Some y) (translate l page) ≡ Some x → (translate l page ≡ Some x → suc (below page l) ≤ below (suc page) l) → suc (cond b (below page l + 1) (below page l)) ≤ cond c (below (suc page) l + 1) (below (suc page) l)
    go true i true j c k f ih = let u = eqb-true y.page.0 page i in let v = ltb-true y.page.0 page j in absurd (omega arith)
    go true i false j true k f ih = let u = below_next page l in omega arith
    go true i false j false k f ih = let u = eqb-true y.page.0 page i in let v = ltb-false y.page.0 (suc page) k in absurd (omega arith)
    go false i true j true k f ih = let u = ih f in omega arith
    go false i true j false k f ih = let u = ltb-true y.page.0 page j in let v = ltb-false y.page.0 (suc page) k in absurd (omega arith)
    go false i false j true k f ih = let u = ih f in omega arith
    go false i false j false k f ih = ih f

-- ---- map

pub below_map : (k : ℕ) (l : List Mapping) (x : Mapping) → x.page.0 < k → below k (map_page l x) ≡ suc (below k l)
unfolding count map_page
below_map k [] x h = rw (lt-ltb x.page.0 k h)
below_map k (y ∷ l) x h = go (ltb x.page.0 y.page.0) (ltb y.page.0 k) (below_map k l x h)
  where
    add : (n : ℕ) → n + 1 ≡ suc n
    add n = omega arith

    inner : (c : Bool) → below k (map_page l x) ≡ suc (below k l) → cond c (below k (map_page l x) + 1) (below k (map_page l x)) ≡ suc (cond c (below k l + 1) (below k l))
    inner true e = rw e (omega arith)
    inner false e = e

    go : (b c : Bool) → below k (map_page l x) ≡ suc (below k l) → count (λ z. ltb z.page.0 k) (cond b (x ∷ y ∷ l) (y ∷ map_page l x)) ≡ suc (count (λ z. ltb z.page.0 k) (y ∷ l))
    go true c e = rw (lt-ltb x.page.0 k h) (add _)
    go false c e = inner (ltb y.page.0 k) e

pub length_map : (l : List Mapping) (x : Mapping) → length (map_page l x) ≡ suc (length l)
unfolding map_page
length_map [] x = refl
length_map (y ∷ l) x = go (ltb x.page.0 y.page.0) (length_map l x)
  where
    go : (b : Bool) → length (map_page l x) ≡ suc (length l) → length (cond b (x ∷ y ∷ l) (y ∷ map_page l x)) ≡ suc (suc (length l))
    go true e = refl
    go false e = ap suc e

-- ---- unmap

pub below_unmap : (page : ℕ) (l : List Mapping) → below page (unmap_page l page) ≡ below page l
unfolding count unmap_page keep
below_unmap page [] = refl
below_unmap page (y ∷ l) = go (eqb y.page.0 page) refl (ltb y.page.0 page) refl (below_unmap page l)
  where
    go : (a : Bool) → eqb y.page.0 page ≡ a → (b : Bool) → ltb y.page.0 page ≡ b → below page (unmap_page l page) ≡ below page l → count (λ z. ltb z.page.0 page) (cond (not a) (y ∷ unmap_page l page) (unmap_page l page)) ≡ cond b (below page l + 1) (below page l)
    go true i true j e = let u = eqb-true y.page.0 page i in let v = ltb-true y.page.0 page j in absurd (omega arith)
    go true i false j e = e
    go false i true j e = rw j (ap (λ (n : ℕ). n + 1) e)
    go false i false j e = rw j e

pub length_unmap : (page : ℕ) (l : List Mapping) → length (unmap_page l page) ≤ length l
unfolding unmap_page keep
length_unmap page [] = zero-le
length_unmap page (y ∷ l) = go (eqb y.page.0 page) (length_unmap page l)
  where
    go : (a : Bool) → length (unmap_page l page) ≤ length l → length (cond (not a) (y ∷ unmap_page l page) (unmap_page l page)) ≤ suc (length l)
    go true h = omega arith
    go false h = suc-le-suc h

pub length_unmapped : (page : ℕ) (l : List Mapping) (x : Mapping) → translate l page ≡ Some x → length (unmap_page l page) < length l
unfolding unmap_page keep translate
length_unmapped page [] x e = absurd (none_not_some e)
length_unmapped page (y ∷ l) x e = go (eqb y.page.0 page) e (length_unmap page l) (length_unmapped page l x)
  where
    go : (a : Bool) → cond a (Some y) (translate l page) ≡ Some x → length (unmap_page l page) ≤ length l → (translate l page ≡ Some x → length (unmap_page l page) < length l) → length (cond (not a) (y ∷ unmap_page l page) (unmap_page l page)) < suc (length l)
    go true f h ih = suc-le-suc h
    go false f h ih = suc-le-suc (ih f)

-- ---- remap

module _ (f : Mapping → Bool) (g : Mapping → ℕ) where
  page_remap : (x : Mapping) → (cond (f x) (mapping x.page.0 x.frame.0 (g x)) x).page.0 ≡ x.page.0
  page_remap x = go (f x)
    where
      go : (b : Bool) → (cond b (mapping x.page.0 x.frame.0 (g x)) x).page.0 ≡ x.page.0
      go true = refl
      go false = refl

  pub below_remap : (k : ℕ) (l : List Mapping) → below k (remap_where f g l) ≡ below k l
  unfolding count remap_where
  below_remap k [] = refl
  below_remap k (x ∷ l) = λ i. cond (ltb (page_remap x i) k) (below_remap k l i + 1) (below_remap k l i)

  pub length_remap : (l : List Mapping) → length (remap_where f g l) ≡ length l
  unfolding remap_where
  length_remap [] = refl
  length_remap (x ∷ l) = ap suc (length_remap l)
