-- Laws of a region's flags replaced: a page's flags, a row, all rows, the region.
use Rattle.std.specs.Prelude.{◌≡◌, refl, Bool, true, false, List, ℕ, ◌+◌, ◌*◌, ◌≤◌, ◌<◌, length, get_or, set}
use Rattle.std.proofs.Math.Path.{ap}
use Rattle.std.proofs.Common.{sym, subst, ◌∙◌}
use Rattle.std.proofs.Math.Bool.{cond}
use Rattle.std.proofs.lemmas.List.{set-get_or}
use Rattle.std.proofs.Math.Dec.{ltb}
use borrow.Author.Tests.{lt-ltb, le-ltb}
use Rattle.address.specs.Flags.{read_only}
use Rattle.model.specs.declared.Mapping.{Mapping}
use Rattle.model.specs.declared.Region.{Region}
use Rattle.model.specs.declared.Backed.{Backed}
use Rattle.model.specs.Machine.{Machine, mapped_of, no_mapping, region_at, with_mapped, with_region, with_regions, row_of}
use Rattle.model.specs.Layout.{machine}
use Rattle.model.specs.Lookup.{contains}
use Rattle.model.specs.Paging.{mapping, maps_in, page_start, remap_where}
use Rattle.model.specs.Backing.{backing, entry_for}
use Rattle.model.specs.Protect.{holders_by, with_flags, page_flags, set_protection}
use Rattle.paging.specs.ProcessRows.{rows_of, with_rows}
use Rattle.paging.specs.ProcessRowsLaws.{rows_put_same}
use Rattle.remap.specs.Remapped.{remapped}
use Rattle.remap.specs.RemappedLaws.{remapped_is, Doing, doing_more}
use Rattle.protect.specs.Protects.{RangeFits, protected_in, Protected}

-- ---- the flags of a page

module _ (m : Machine) (p s flags page : ℕ) (b : Backed) (read : b ≡ backing m p s page) (n : ℕ) (held : n ≡ holders_by b) where
  same : n ≡ holders_by (backing m p s page)
  same = held ∙ ap (λ (x : Backed). holders_by x) read

  pub flags_shared : 1 < n → (f : ℕ) → f ≡ read_only flags → f ≡ page_flags m p s flags page
  unfolding page_flags
  flags_shared h f e = e ∙ ap (λ (t : Bool). cond t (read_only flags) flags) (sym (ap (λ (k : ℕ). ltb 1 k) (sym same) ∙ lt-ltb 1 n h))

  pub flags_whole : n ≤ 1 → flags ≡ page_flags m p s flags page
  unfolding page_flags
  flags_whole h = ap (λ (t : Bool). cond t (read_only flags) flags) (sym (ap (λ (k : ℕ). ltb 1 k) (sym same) ∙ le-ltb 1 n h))

module _ (m : Machine) (p s i flags : ℕ) (r : Region) (is : r ≡ region_at m p s) (x : Mapping) (read : x ≡ get_or (rows_of m p) i no_mapping) (b : Bool) (told : b ≡ contains r (page_start x.page.0)) where
  here : b ≡ maps_in (region_at m p s) x
  here = told ∙ ap (λ (y : Region). maps_in y x) is

  pub row_protected : b ≡ true → (f : ℕ) → f ≡ page_flags m p s flags x.page.0 → (y : Mapping) → y ≡ mapping x.page.0 x.frame.0 f → (n : Machine) → n ≡ with_rows m p (set (rows_of m p) i y) → n ≡ with_rows m p (set (rows_of m p) i (protected_in m p s flags (get_or (rows_of m p) i no_mapping)))
  row_protected e f new y row n put =
      put ∙ ap (λ (z : Mapping). with_rows m p (set (rows_of m p) i z)) (row ∙ ap (λ (k : ℕ). mapping x.page.0 x.frame.0 k) new ∙ ap (λ (t : Bool). cond t (mapping x.page.0 x.frame.0 (page_flags m p s flags x.page.0)) x) (sym e ∙ here) ∙ ap (λ (z : Mapping). protected_in m p s flags z) read)

  pub row_passed : b ≡ false → m ≡ with_rows m p (set (rows_of m p) i (protected_in m p s flags (get_or (rows_of m p) i no_mapping)))
  row_passed e =
      sym (ap (λ (z : Mapping). with_rows m p (set (rows_of m p) i z)) (ap (λ (z : Mapping). protected_in m p s flags z) (sym read) ∙ ap (λ (t : Bool). cond t (mapping x.page.0 x.frame.0 (page_flags m p s flags x.page.0)) x) (sym here ∙ e) ∙ read)
      ∙ ap (λ t. with_rows m p t) (set-get_or (rows_of m p) i no_mapping) ∙ rows_put_same m p)

-- ---- the rows: what a page gets does not hang on the rows

rows_apart : (m : Machine) (p s flags : ℕ) (rows : List Mapping) (x : Mapping) → protected_in (with_rows m p rows) p s flags x ≡ protected_in m p s flags x
unfolding with_rows page_flags backing entry_for
rows_apart m p s flags rows x = refl

rows_fit : (m : Machine) (p s : ℕ) (rows : List Mapping) → RangeFits m p s → RangeFits (with_rows m p rows) p s
unfolding with_rows
rows_fit m p s rows h = h

module _ (w₀ : List ℕ) (p s flags : ℕ) (w : List ℕ) (i : ℕ) (k : Doing (protected_in (machine w₀) p s flags) w₀ p w i) where
  pub doing_fits : RangeFits (machine w₀) p s → RangeFits (machine w) p s
  doing_fits h = subst (λ (m : Machine). RangeFits m p s) (sym k.same) (rows_fit (machine w₀) p s _ h)

  pub protect_more : p < 8 → (v : List ℕ) → length v ≡ length w → machine v ≡ with_rows (machine w) p (set (rows_of (machine w) p) i (protected_in (machine w) p s flags (get_or (rows_of (machine w) p) i no_mapping))) → Doing (protected_in (machine w₀) p s flags) w₀ p v (i + 1)
  protect_more low v long put =
      doing_more (protected_in (machine w₀) p s flags) w₀ p low w i k v long (protected_in (machine w) p s flags)
      (λ x. ap (λ (m : Machine). protected_in m p s flags x) k.same ∙ rows_apart (machine w₀) p s flags _ x) put

swapped : (m : Machine) (p s : ℕ) (l : List Mapping) (r : Region) → with_regions (with_mapped m p l) (set (with_mapped m p l).regions (row_of p s) r) ≡ with_mapped (with_region m p s r) p l
unfolding with_mapped
swapped m p s l r = refl

pub protects : (m : Machine) (p s flags : ℕ) (r : Region) → r ≡ region_at m p s → (a : Machine) → a ≡ remapped (protected_in m p s flags) m p → (x : Region) → x ≡ with_flags r flags → (n : Machine) → n ≡ with_regions a (set a.regions (p * 64 + s) x) → Protected m p s flags n
unfolding set_protection remap_where
protects m p s flags r read a rows x row n put w =
    put
    ∙ ap (λ (y : Machine). with_regions y (set y.regions (p * 64 + s) x)) (rows ∙ remapped_is (protected_in m p s flags) m p w)
    ∙ ap (λ (y : Region). with_regions (with_mapped m p l) (set (with_mapped m p l).regions (p * 64 + s) y)) (row ∙ ap (λ (y : Region). with_flags y flags) read)
    ∙ swapped m p s l (with_flags (region_at m p s) flags)
  where
    l : List Mapping
    l = remap_where (maps_in (region_at m p s)) (λ y. page_flags m p s flags y.page.0) (mapped_of m p)
