-- The flat table's operations do to the map that it means what `PageMap` says.
use Rattle.std.specs.Prelude.{◌≡◌, Bool, not, ℕ, ltb, Option, Some, None}
use Rattle.std.proofs.Math.Path.{refl, ap, sym}
use Rattle.std.proofs.Common.{◌∙◌, true≢false, arith, eqb-true}
use Rattle.std.proofs.Math.Bool.{true, false, cond}
use Rattle.std.proofs.lemmas.Bool.{false≢true}
use mathlib.Core.List.{List, [], ◌∷◌}
use Rattle.std.proofs.Math.Dec.{eqb}
use Rattle.model.specs.declared.Region.{Region}
use Rattle.model.specs.declared.Mapping.{Mapping}
use Rattle.laws.specs.Lists.{keep}
use Rattle.model.specs.Lookup.{contains}
use Rattle.model.specs.Paging.{page_start, maps_in, translate, map_page, unmap_page, remap_where}
use Rattle.paging.specs.Mapper.{reflag}
use Rattle.paging.specs.Order.{remap_page}
use Rattle.paging.specs.OrderLaws.{not_first}
use Rattle.paging.specs.PageMap.{meaning, page_mapped, pages_unmapped, page_unmapped, region_unmapped, with_flags, page_remapped}

-- ---- the flat table

-- no page is both a new one and one that is mapped
map_order : (x y : Mapping) (q : ℕ) (rest : Option Mapping) (a : Bool) → eqb x.page.0 q ≡ a → (b : Bool) → eqb y.page.0 q ≡ b → (y.page.0 ≡ x.page.0 → ⊥) → cond b (Some y) (cond a (Some x) rest) ≡ cond a (Some x) (cond b (Some y) rest)
map_order x y q rest true e true f n = let u = eqb-true x.page.0 q e in let v = eqb-true y.page.0 q f in absurd (n (omega arith))
map_order x y q rest true e false f n = refl
map_order x y q rest false e b f n = refl

map_at : (l : List Mapping) (x : Mapping) → translate l x.page.0 ≡ None → (q : ℕ) → meaning (map_page l x) q ≡ page_mapped (meaning l) x q
unfolding translate map_page
map_at [] x none q = refl
map_at (y ∷ l) x none q = go (ltb x.page.0 y.page.0) (map_at l x (not_first x.page.0 y l none).1 q)
  where
    go : (b : Bool) → translate (map_page l x) q ≡ cond (eqb x.page.0 q) (Some x) (translate l q) → translate (cond b (x ∷ y ∷ l) (y ∷ map_page l x)) q ≡ cond (eqb x.page.0 q) (Some x) (cond (eqb y.page.0 q) (Some y) (translate l q))
    go true ih = refl
    go false ih = ap (λ t. cond (eqb y.page.0 q) (Some y) t) ih ∙ map_order x y q (translate l q) (eqb x.page.0 q) refl (eqb y.page.0 q) refl (not_first x.page.0 y l none).0

pub map_meaning : (l : List Mapping) (x : Mapping) → meaning l x.page.0 ≡ None → meaning (map_page l x) ≡ page_mapped (meaning l) x
map_meaning l x none = λ i q. map_at l x none q i

-- pages unmapped: those that a test of the page names
module _ (out : ℕ → Bool) where
  keep_at : (l : List Mapping) (q : ℕ) → meaning (keep (λ x. not (out x.page.0)) l) q ≡ pages_unmapped (meaning l) out q
  unfolding translate keep
  keep_at [] q = go (out q)
    where
      go : (b : Bool) → ◌≡◌ {A = Option Mapping} None (cond b None None)
      go true = refl
      go false = refl
  keep_at (x ∷ l) q = go (out x.page.0) refl (eqb x.page.0 q) refl (out q) refl (keep_at l q)
    where
      -- the row's page is the one, and a test says of it one thing
      same : eqb x.page.0 q ≡ true → {b c : Bool} → out x.page.0 ≡ b → out q ≡ c → b ≡ c
      same d e f = sym e ∙ ap out (eqb-true x.page.0 q d) ∙ f

      rest : List Mapping
      rest = keep (λ y. not (out y.page.0)) l

      go : (b : Bool) → out x.page.0 ≡ b → (d : Bool) → eqb x.page.0 q ≡ d → (c : Bool) → out q ≡ c → translate rest q ≡ cond (out q) None (translate l q) → translate (cond (not b) (x ∷ rest) rest) q ≡ cond c None (cond d (Some x) (translate l q))
      go true e true f true g ih = ih ∙ rw g
      go true e true f false g ih = absurd (true≢false (same f e g))
      go true e false f true g ih = ih ∙ rw g
      go true e false f false g ih = ih ∙ rw g
      go false e true f true g ih = absurd (false≢true (same f e g))
      go false e true f false g ih = rw f
      go false e false f true g ih = rw f (ih ∙ rw g)
      go false e false f false g ih = rw f (ih ∙ rw g)

  pub keep_meaning : (l : List Mapping) → meaning (keep (λ x. not (out x.page.0)) l) ≡ pages_unmapped (meaning l) out
  keep_meaning l = λ i q. keep_at l q i

pub unmap_meaning : (l : List Mapping) (page : ℕ) → meaning (unmap_page l page) ≡ page_unmapped (meaning l) page
unfolding unmap_page
unmap_meaning l page = keep_meaning (λ q. eqb q page) l

pub unmap_from_meaning : (l : List Mapping) (r : Region) → meaning (keep (λ x. not (maps_in r x)) l) ≡ region_unmapped (meaning l) r
unmap_from_meaning l r = keep_meaning (λ q. contains r (page_start q)) l

remap_at : (l : List Mapping) (page flags q : ℕ) → meaning (remap_page l page flags) q ≡ page_remapped (meaning l) page flags q
unfolding translate remap_where
remap_at [] page flags q = go (eqb q page)
  where
    go : (b : Bool) → ◌≡◌ {A = Option Mapping} None (cond b None None)
    go true = refl
    go false = refl
remap_at (x ∷ l) page flags q = go (eqb x.page.0 page) refl (eqb x.page.0 q) refl (remap_at l page flags q)
  where
    -- the row is the page's exactly if the page that is asked for is
    same : eqb x.page.0 q ≡ true → {b : Bool} → eqb x.page.0 page ≡ b → eqb q page ≡ b
    same d e = ap (λ (n : ℕ). eqb n page) (sym (eqb-true x.page.0 q d)) ∙ e

    go : (b : Bool) → eqb x.page.0 page ≡ b → (d : Bool) → eqb x.page.0 q ≡ d → translate (remap_page l page flags) q ≡ page_remapped (meaning l) page flags q → translate (cond b (reflag x flags) x ∷ remap_page l page flags) q ≡ cond (eqb q page) (with_flags (cond d (Some x) (translate l q)) flags) (cond d (Some x) (translate l q))
    go true e true f ih = rw (f, same f e)
    go true e false f ih = rw f ih
    go false e true f ih = rw (f, same f e)
    go false e false f ih = rw f ih

pub remap_meaning : (l : List Mapping) (page flags : ℕ) → meaning (remap_page l page flags) ≡ page_remapped (meaning l) page flags
remap_meaning l page flags = λ i q. remap_at l page flags q i
