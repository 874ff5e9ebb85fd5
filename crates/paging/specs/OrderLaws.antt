-- Laws of `Order`: where pages rise: the halving search counts the pages below, and each of the model's operations is a change at that place.
use Rattle.std.specs.Prelude.{◌≡◌, refl, Bool, true, false, ◌&&◌, not, cond, List, [], ◌∷◌, ◌++◌, ℕ, zero, suc, ◌+◌, ◌≤◌, ◌<◌, length, get_or, take, drop, set, eqb, ltb, leb, Option, Some, None}
use Rattle.std.proofs.Common.{ap, sym, ◌∙◌, zero-le, suc-le-suc, le_of_suc-le-suc, not-suc-le-zero, arith, add-one, ltb-true, ltb-false, lt-ltb, le-ltb, eq-eqb, ne_eqb, eqb-true, leb-true, leb-false}
use Rattle.std.proofs.Math.Dec.{leb-suc-suc}
use Rattle.std.proofs.lemmas.Bool.{eqb-false}
use Rattle.laws.specs.TellsLaws.{tells_same, tells_both}
use Rattle.model.specs.declared.Region.{Region}
use Rattle.model.specs.declared.Mapping.{Mapping}
use Rattle.laws.specs.Lists.{keep, count}
use Rattle.model.specs.Machine.{no_mapping}
use Rattle.laws.specs.TestLaws.{tells_eq, tells_le, tells_lt, tells_as}
use Rattle.model.specs.Lookup.{span_end}
use Rattle.model.specs.Paging.{page_start, mapping, maps_in, translate, map_page, unmap_page, remap_where}
use Rattle.model.specs.MappedBelowLaws.{below, below_most}
use Rattle.paging.specs.Place.{page_at, middle, halve, place, stands_at, row_for, mapped_at, translate_by}
use Rattle.paging.specs.Mapper.{first_page, end_page}
use Rattle.paging.specs.PlaceLaws.{middle_from, middle_under, halve_empty, halve_up, halve_down}
use Rattle.paging.specs.Order.{Rising, remap_page}

-- no page below n
abbrev pub From : ℕ → List Mapping → Type 0
From n l = (i : ℕ) → i < length l → n ≤ page_at l i

pub rising_rest : (x : Mapping) (l : List Mapping) → Rising (x ∷ l) → Rising l
rising_rest x l r i j h k u = r (suc i) (suc j) (suc-le-suc h) (suc-le-suc k) u

pub rising_from : (x : Mapping) (l : List Mapping) → Rising (x ∷ l) → From (suc x.page.0) l
rising_from x l r j h = r zero (suc j) (suc-le-suc zero-le) (suc-le-suc h) tt

pub from_rest : (n : ℕ) (x : Mapping) (l : List Mapping) → From n (x ∷ l) → From n l
from_rest n x l f i h = f (suc i) (suc-le-suc h)

from_less : (n k : ℕ) (l : List Mapping) → n ≤ k → From k l → From n l
from_less n k l h f i j = let g = f i j in omega arith

below_none : (page : ℕ) (l : List Mapping) → From page l → below page l ≡ 0
unfolding count
below_none page [] f = refl
below_none page (x ∷ l) f = rw (le-ltb x.page.0 page (f zero (suc-le-suc zero-le))) (below_none page l (from_rest page x l f))

-- the first row stands below a page, or none does
below_cons : (page : ℕ) (x : Mapping) (l : List Mapping) → x.page.0 < page → below page (x ∷ l) ≡ suc (below page l)
unfolding count
below_cons page x l h = rw (lt-ltb x.page.0 page h) (add-one (below page l))

below_first : (page : ℕ) (x : Mapping) (l : List Mapping) → Rising (x ∷ l) → page ≤ x.page.0 → below page (x ∷ l) ≡ 0
below_first page x l r h = below_none page (x ∷ l) all_from
  where
    all_from : From page (x ∷ l)
    all_from zero k = h
    all_from (suc i) k = let g = rising_from x l r i (le_of_suc-le-suc k) in omega arith

below_tail : (page : ℕ) (x : Mapping) (l : List Mapping) → Rising (x ∷ l) → page ≤ suc x.page.0 → below page l ≡ 0
below_tail page x l r h = below_none page l (from_less page (suc x.page.0) l h (rising_from x l r))

-- a row below a page counts, a row at it or above does not
below_row : (page : ℕ) (l : List Mapping) → Rising l → (i : ℕ) → i < length l → page_at l i < page → i < below page l
below_row page [] r i h p = absurd (not-suc-le-zero h)
below_row page (x ∷ l) r zero h p = let e = below_cons page x l p in omega arith
below_row page (x ∷ l) r (suc i) h p =
    let above = rising_from x l r i (le_of_suc-le-suc h) in
    let e = below_cons page x l (omega arith) in
    let rest = below_row page l (rising_rest x l r) i (le_of_suc-le-suc h) p in
    omega arith

above_row : (page : ℕ) (l : List Mapping) → Rising l → (i : ℕ) → i < length l → page ≤ page_at l i → below page l ≤ i
above_row page [] r i h p = absurd (not-suc-le-zero h)
above_row page (x ∷ l) r zero h p = let e = below_first page x l r p in omega arith
above_row page (x ∷ l) r (suc i) h p = go (ltb x.page.0 page) refl (above_row page l (rising_rest x l r) i (le_of_suc-le-suc h) p)
  where
    go : (b : Bool) → ltb x.page.0 page ≡ b → below page l ≤ i → below page (x ∷ l) ≤ suc i
    go true e ih = let f = below_cons page x l (ltb-true x.page.0 page e) in omega arith
    go false e ih = let f = below_first page x l r (ltb-false x.page.0 page e) in omega arith

-- ---- the search

halve_below : (l : List Mapping) (page : ℕ) → Rising l → (n lo hi : ℕ) → lo ≤ below page l → below page l ≤ hi → hi ≤ length l → hi ≤ n + lo → halve n l page lo hi ≡ below page l
halve_below l page r zero lo hi a b c d = halve_empty l page zero lo hi (omega arith) ∙ omega arith
halve_below l page r (suc n) lo hi a b c d = go (ltb lo hi) refl (ltb (page_at l (middle lo hi)) page) refl (λ u v. halve_below l page r n (middle lo hi + 1) hi u b c v) (λ u v w. halve_below l page r n lo (middle lo hi) a u v w)
  where
    go : (s : Bool) → ltb lo hi ≡ s → (t : Bool) → ltb (page_at l (middle lo hi)) page ≡ t → (middle lo hi + 1 ≤ below page l → hi ≤ n + (middle lo hi + 1) → halve n l page (middle lo hi + 1) hi ≡ below page l) → (below page l ≤ middle lo hi → middle lo hi ≤ length l → middle lo hi ≤ n + lo → halve n l page lo (middle lo hi) ≡ below page l) → halve (suc n) l page lo hi ≡ below page l
    go false e t f up down = let h = ltb-false lo hi e in halve_empty l page (suc n) lo hi h ∙ omega arith
    go true e true f up down =
        let h = ltb-true lo hi e in
        let low = middle_from lo hi h in
        let high = middle_under lo hi h in
        let g = ltb-true (page_at l (middle lo hi)) page f in
        let row = below_row page l r (middle lo hi) (omega arith) g in
        halve_up l page n lo hi h g ∙ up (omega arith) (omega arith)
    go true e false f up down =
        let h = ltb-true lo hi e in
        let high = middle_under lo hi h in
        let g = ltb-false (page_at l (middle lo hi)) page f in
        let row = above_row page l r (middle lo hi) (omega arith) g in
        halve_down l page n lo hi h g ∙ down row (omega arith) (omega arith)

-- the search gives the place at which the page stands or belongs
pub place_below : (l : List Mapping) (page : ℕ) → Rising l → place l page ≡ below page l
unfolding place
place_below l page r = let most = below_most page l in halve_below l page r (length l) 0 (length l) (omega arith) most (omega arith) (omega arith)

-- ---- translate

translate_none : (page : ℕ) (l : List Mapping) → From (suc page) l → translate l page ≡ None
unfolding translate
translate_none page [] f = refl
translate_none page (x ∷ l) f = let h = f zero (suc-le-suc zero-le) in rw (ne_eqb x.page.0 page (λ e. omega arith)) (translate_none page l (from_rest (suc page) x l f))

-- the row at a place, if it is the page's
abbrev row_if : List Mapping → ℕ → ℕ → Option Mapping
row_if l page i = cond (stands_at l i page) (Some (get_or l i no_mapping)) None

row_if_is : (l : List Mapping) (page i : ℕ) (b : Bool) → mapped_at l (cond b (Some i) None) ≡ cond b (Some (get_or l i no_mapping)) None
row_if_is l page i true = refl
row_if_is l page i false = refl

translate_below : (page : ℕ) (l : List Mapping) → Rising l → row_if l page (below page l) ≡ translate l page
unfolding translate count
translate_below page [] r = refl
translate_below page (x ∷ l) r = go (ltb x.page.0 page) refl (eqb x.page.0 page) refl (translate_below page l (rising_rest x l r))
  where
    go : (b : Bool) → ltb x.page.0 page ≡ b → (d : Bool) → eqb x.page.0 page ≡ d → row_if l page (below page l) ≡ translate l page → row_if (x ∷ l) page (below page (x ∷ l)) ≡ cond d (Some x) (translate l page)
    go true e true f ih = let u = ltb-true x.page.0 page e in let v = eqb-true x.page.0 page f in absurd (omega arith)
    go true e false f ih = ap (λ (i : ℕ). row_if (x ∷ l) page i) (below_cons page x l (ltb-true x.page.0 page e)) ∙ rw (leb-suc-suc (suc (below page l)) (length l)) ih
    go false e true f ih = ap (λ (i : ℕ). row_if (x ∷ l) page i) (below_first page x l r (ltb-false x.page.0 page e)) ∙ rw (f, lt-ltb 0 (suc (length l)) (suc-le-suc zero-le))
    go false e false f ih =
        let u = ltb-false x.page.0 page e in
        let v = eqb-false x.page.0 page f in
        ap (λ (i : ℕ). row_if (x ∷ l) page i) (below_first page x l r u) ∙ rw (f, lt-ltb 0 (suc (length l)) (suc-le-suc zero-le)) (sym (translate_none page l (from_less (suc page) (suc x.page.0) l (omega arith) (rising_from x l r))))

pub translate_by_is : (l : List Mapping) (page : ℕ) → Rising l → translate_by l page ≡ translate l page
unfolding translate_by row_for
translate_by_is l page r = row_if_is l page (place l page) (stands_at l (place l page) page) ∙ ap (λ (i : ℕ). row_if l page i) (place_below l page r) ∙ translate_below page l r

-- a page that is mapped stands at its place, and one that is not does not
pub stands_mapped : (l : List Mapping) (page i : ℕ) → Rising l → Some i ≡ row_for l page → (i ≡ below page l) × (page_at l i ≡ page)
unfolding row_for
stands_mapped l page i r e = go (ltb (place l page) (length l)) (eqb (page_at l (place l page)) page) refl e
  where
    go : (a b : Bool) → eqb (page_at l (place l page)) page ≡ b → Some i ≡ cond (a && b) (Some (place l page)) None → (i ≡ below page l) × (page_at l i ≡ page)
    go true true p f =
        let same : i ≡ place l page = cc in
        (same ∙ place_below l page r, ap (λ (j : ℕ). page_at l j) same ∙ eqb-true (page_at l (place l page)) page p)
    go true false p f = let z : ◌≡◌ {A = ℕ} 0 1 = cc in absurd (omega arith)
    go false b p f = let z : ◌≡◌ {A = ℕ} 0 1 = cc in absurd (omega arith)

-- ---- map

pub not_first : (page : ℕ) (x : Mapping) (l : List Mapping) → translate (x ∷ l) page ≡ None → (x.page.0 ≡ page → ⊥) × (translate l page ≡ None)
unfolding translate
not_first page x l e = go (eqb x.page.0 page) refl e
  where
    go : (b : Bool) → eqb x.page.0 page ≡ b → cond b (Some x) (translate l page) ≡ None → (x.page.0 ≡ page → ⊥) × (translate l page ≡ None)
    go true p f = let z : ◌≡◌ {A = ℕ} 0 1 = cc in absurd (omega arith)
    go false p f = (eqb-false x.page.0 page p, f)

-- a page that is not above another and not the same is below it
pub page_under : (x y : Mapping) → y.page.0 ≤ x.page.0 → (y.page.0 ≡ x.page.0 → ⊥) → y.page.0 < x.page.0
page_under x y u v = go (ltb y.page.0 x.page.0) refl
  where
    go : (b : Bool) → ltb y.page.0 x.page.0 ≡ b → y.page.0 < x.page.0
    go true q = ltb-true y.page.0 x.page.0 q
    go false q = let w = ltb-false y.page.0 x.page.0 q in absurd (v (omega arith))

pub map_below : (l : List Mapping) (x : Mapping) → Rising l → translate l x.page.0 ≡ None → map_page l x ≡ take (below x.page.0 l) l ++ (x ∷ drop (below x.page.0 l) l)
unfolding map_page count
map_below [] x r e = refl
map_below (y ∷ l) x r e = go (ltb x.page.0 y.page.0) refl (map_below l x (rising_rest y l r) (not_first x.page.0 y l e).1)
  where
    go : (b : Bool) → ltb x.page.0 y.page.0 ≡ b → map_page l x ≡ take (below x.page.0 l) l ++ (x ∷ drop (below x.page.0 l) l) → cond b (x ∷ y ∷ l) (y ∷ map_page l x) ≡ take (below x.page.0 (y ∷ l)) (y ∷ l) ++ (x ∷ drop (below x.page.0 (y ∷ l)) (y ∷ l))
    go true p ih = let u = ltb-true x.page.0 y.page.0 p in sym (ap (λ (i : ℕ). take i (y ∷ l) ++ (x ∷ drop i (y ∷ l))) (below_first x.page.0 y l r (omega arith)))
    go false p ih =
        let u = ltb-false x.page.0 y.page.0 p in
        let v = (not_first x.page.0 y l e).0 in
        ap (λ t. y ∷ t) ih ∙ sym (ap (λ (i : ℕ). take i (y ∷ l) ++ (x ∷ drop i (y ∷ l))) (below_cons x.page.0 y l (page_under x y u v)))

-- ---- pages taken out

-- those that are not from page a up to page e
abbrev pub outside : ℕ → ℕ → Mapping → Bool
outside a e x = not (leb a x.page.0 && ltb x.page.0 e)

pub keep_below : (a e : ℕ) → a ≤ e → (l : List Mapping) → Rising l → keep (outside a e) l ≡ take (below a l) l ++ drop (below e l) l
unfolding keep count
keep_below a e h [] r = refl
keep_below a e h (x ∷ l) r = go (leb a x.page.0) refl (ltb x.page.0 e) refl (keep_below a e h l (rising_rest x l r))
  where
    Cut : ℕ → ℕ → List Mapping
    Cut i j = take i (x ∷ l) ++ drop j (x ∷ l)

    go : (b : Bool) → leb a x.page.0 ≡ b → (d : Bool) → ltb x.page.0 e ≡ d → keep (outside a e) l ≡ take (below a l) l ++ drop (below e l) l → cond (not (b && d)) (x ∷ keep (outside a e) l) (keep (outside a e) l) ≡ Cut (below a (x ∷ l)) (below e (x ∷ l))
    go false p d q ih =
        let u = leb-false a x.page.0 p in
        ap (λ t. x ∷ t) ih ∙ sym (ap (λ (i : ℕ). Cut i (below e (x ∷ l))) (below_cons a x l u) ∙ ap (λ (j : ℕ). Cut (suc (below a l)) j) (below_cons e x l (omega arith)))
    go true p true q ih =
        let u = leb-true a x.page.0 p in
        let v = ltb-true x.page.0 e q in
        ih ∙ ap (λ (i : ℕ). take i l ++ drop (below e l) l) (below_tail a x l r (omega arith)) ∙ sym (ap (λ (i : ℕ). Cut i (below e (x ∷ l))) (below_first a x l r u) ∙ ap (λ (j : ℕ). Cut 0 j) (below_cons e x l v))
    go true p false q ih =
        let u = leb-true a x.page.0 p in
        let v = ltb-false x.page.0 e q in
        ap (λ t. x ∷ t) (ih ∙ ap (λ (i : ℕ). take i l ++ drop (below e l) l) (below_tail a x l r (omega arith)) ∙ ap (λ (j : ℕ). drop j l) (below_tail e x l r (omega arith)))
        ∙ sym (ap (λ (i : ℕ). Cut i (below e (x ∷ l))) (below_first a x l r u) ∙ ap (λ (j : ℕ). Cut 0 j) (below_first e x l r v))

-- no page of the list is the one
remap_none : (page flags : ℕ) (l : List Mapping) → ((i : ℕ) → i < length l → page_at l i ≡ page → ⊥) → remap_page l page flags ≡ l
unfolding remap_where
remap_none page flags [] f = refl
remap_none page flags (x ∷ l) f = rw (ne_eqb x.page.0 page (f zero (suc-le-suc zero-le))) (ap (λ t. x ∷ t) (remap_none page flags l (λ i h. f (suc i) (suc-le-suc h))))

pub remap_at : (page flags : ℕ) (l : List Mapping) → Rising l → (i : ℕ) → i < length l → page_at l i ≡ page → remap_page l page flags ≡ set l i (mapping (get_or l i no_mapping).page.0 (get_or l i no_mapping).frame.0 flags)
unfolding remap_where
remap_at page flags [] r i h e = absurd (not-suc-le-zero h)
remap_at page flags (x ∷ l) r zero h e = rw (eq-eqb x.page.0 page e) (ap (λ t. mapping x.page.0 x.frame.0 flags ∷ t) (remap_none page flags l (λ i k p. let u = rising_from x l r i k in omega arith)))
remap_at page flags (x ∷ l) r (suc i) h e =
    let u = rising_from x l r i (le_of_suc-le-suc h) in
    rw (ne_eqb x.page.0 page (λ p. omega arith)) (ap (λ t. x ∷ t) (remap_at page flags l (rising_rest x l r) i (le_of_suc-le-suc h) e))

-- where it is not mapped there is nothing to replace
pub remap_missing : (page flags : ℕ) (l : List Mapping) → translate l page ≡ None → remap_page l page flags ≡ l
unfolding remap_where
remap_missing page flags [] e = refl
remap_missing page flags (x ∷ l) e = let n = not_first page x l e in rw (ne_eqb x.page.0 page n.0) (ap (λ t. x ∷ t) (remap_missing page flags l n.1))

-- ---- one page taken out

keep_same : (f g : Mapping → Bool) → ((x : Mapping) → f x ≡ g x) → (l : List Mapping) → keep f l ≡ keep g l
unfolding keep
keep_same f g e [] = refl
keep_same f g e (x ∷ l) = λ i. cond (e x i) (x ∷ keep_same f g e l i) (keep_same f g e l i)

not_page : (page q : ℕ) → not (eqb q page) ≡ not (leb page q && ltb q (suc page))
not_page page q = ap not (tells_same (tells_eq q page) (tells_as (λ b. exact b.0 b.1) (λ e. (omega arith, omega arith)) (tells_both (tells_le page q) (tells_lt q (suc page)))))
  where
    exact : page ≤ q → q < suc page → q ≡ page
    exact a b = omega arith

below_after : (page : ℕ) (l : List Mapping) → Rising l → (i : ℕ) → i < length l → page_at l i ≡ page → below (suc page) l ≡ i + 1
below_after page l r i h e = go (ltb (suc i) (length l)) refl
  where
    go : (b : Bool) → ltb (suc i) (length l) ≡ b → below (suc page) l ≡ i + 1
    go true p =
        let inside = ltb-true (suc i) (length l) p in
        let low = below_row (suc page) l r i h (omega arith) in
        let more = r i (suc i) (omega arith) inside tt in
        let high = above_row (suc page) l r (suc i) inside (omega arith) in
        omega arith
    go false p =
        let low = below_row (suc page) l r i h (omega arith) in
        let most = below_most (suc page) l in
        let last = ltb-false (suc i) (length l) p in
        omega arith

pub unmap_at : (page : ℕ) (l : List Mapping) → Rising l → (i : ℕ) → i < length l → i ≡ below page l → page_at l i ≡ page → unmap_page l page ≡ take i l ++ drop (i + 1) l
unfolding unmap_page
unmap_at page l r i h b e =
    keep_same (λ x. not (eqb x.page.0 page)) (outside page (suc page)) (λ x. not_page page x.page.0) l
    ∙ keep_below page (suc page) (omega arith) l r
    ∙ ap (λ (j : ℕ). take j l ++ drop (below (suc page) l) l) (sym b)
    ∙ ap (λ (j : ℕ). take i l ++ drop j l) (below_after page l r i h e)

pub unmap_missing : (page : ℕ) (l : List Mapping) → translate l page ≡ None → unmap_page l page ≡ l
unfolding unmap_page keep
unmap_missing page [] e = refl
unmap_missing page (x ∷ l) e = let n = not_first page x l e in rw (ne_eqb x.page.0 page n.0) (ap (λ t. x ∷ t) (unmap_missing page l n.1))

-- ---- a region's pages taken out

pub below_mono : (a e : ℕ) → a ≤ e → (l : List Mapping) → below a l ≤ below e l
unfolding count
below_mono a e h [] = zero-le
below_mono a e h (x ∷ l) = go (ltb x.page.0 a) refl (ltb x.page.0 e) refl (below_mono a e h l)
  where
    go : (b : Bool) → ltb x.page.0 a ≡ b → (d : Bool) → ltb x.page.0 e ≡ d → below a l ≤ below e l → cond b (below a l + 1) (below a l) ≤ cond d (below e l + 1) (below e l)
    go true p true q i = omega arith
    go true p false q i = let u = ltb-true x.page.0 a p in let v = ltb-false x.page.0 e q in absurd (omega arith)
    go false p true q i = omega arith
    go false p false q i = i

-- a page starts inside a region exactly if it is one from the first that starts there up to the first that starts past it
pub maps_in_is : (r : Region) (x : Mapping) → maps_in r x ≡ (leb (first_page r) x.page.0 && ltb x.page.0 (end_page r))
maps_in_is r x =
    tells_same (tells_both (tells_le r.start.0 (page_start page)) (tells_lt (page_start page) (span_end r)))
    (tells_as (λ b. (starts b.0, stops b.1)) (λ b. (started b.0, stopped b.1)) (tells_both (tells_le (first_page r) page) (tells_lt page (end_page r))))
  where
    page : ℕ
    page = x.page.0

    starts : first_page r ≤ page → r.start.0 ≤ page_start page
    starts h = omega arith

    started : r.start.0 ≤ page_start page → first_page r ≤ page
    started h = omega arith

    stops : page < end_page r → page_start page < span_end r
    stops h = omega arith

    stopped : page_start page < span_end r → page < end_page r
    stopped h = omega arith

pub first_end : (r : Region) → first_page r ≤ end_page r
first_end r = omega arith

pub keep_region : (r : Region) (l : List Mapping) → Rising l → keep (λ x. not (maps_in r x)) l ≡ take (below (first_page r) l) l ++ drop (below (end_page r) l) l
keep_region r l s = keep_same (λ x. not (maps_in r x)) (outside (first_page r) (end_page r)) (λ x. ap not (maps_in_is r x)) l ∙ keep_below (first_page r) (end_page r) (first_end r) l s
