-- Laws of a region's mapped pages made read-only: a row, all rows, and the model's demote.
use Rattle.std.specs.Prelude.{◌≡◌, refl, Bool, true, false, ◌&&◌, not, cond, ℕ, ◌<◌, ◌≤◌, get_or, set, leb, ltb}
use Rattle.std.proofs.Common.{ap, sym, ◌∙◌, eq-eqb, ne_eqb, le-leb}
use Rattle.std.proofs.lemmas.List.{set-get_or}
use Rattle.std.proofs.lemmas.Bool.{lt-leb}
use Rattle.address.specs.Flags.{read_only}
use Rattle.model.specs.declared.Mapping.{Mapping}
use Rattle.model.specs.declared.Region.{Region}
use Rattle.model.specs.Machine.{Machine, no_mapping, region_at}
use Rattle.model.specs.Lookup.{contains}
use Rattle.model.specs.Paging.{mapping, maps_in, page_start, remap_where}
use Rattle.model.specs.Clone.{demote}
use Rattle.paging.specs.ProcessRows.{rows_of, with_rows}
use Rattle.paging.specs.ProcessRowsLaws.{rows_put_same}
use Rattle.paging.specs.Mapper.{first_page, end_page}
use Rattle.paging.specs.OrderLaws.{maps_in_is}
use Rattle.paging.specs.WellPaged.{WellPaged}
use Rattle.remap.specs.Remapped.{remapped}
use Rattle.remap.specs.RemappedLaws.{remapped_is, remapped_none}
use Rattle.remap.specs.Demoted.{read_only_in, demoted_in}

-- ---- whether a page starts inside a region

module _ (r : Region) (page first : ℕ) (is : first ≡ first_page r) where
  pub before_region : page < first → false ≡ contains r (page_start page)
  before_region h = sym (maps_in_is r (mapping page 0 0) ∙ ap (λ (b : Bool). b && ltb page (end_page r)) (ap (λ (n : ℕ). leb n page) (sym is) ∙ lt-leb first page h))

  pub from_region : first ≤ page → (e : ℕ) → e ≡ end_page r → ltb page e ≡ contains r (page_start page)
  from_region h e last = sym (maps_in_is r (mapping page 0 0) ∙ ap (λ (b : Bool). b && ltb page (end_page r)) (ap (λ (n : ℕ). leb n page) (sym is) ∙ le-leb first page h) ∙ ap (λ (n : ℕ). ltb page n) (sym last))

module _ (m : Machine) (p i : ℕ) (r : Region) (x : Mapping) (read : x ≡ get_or (rows_of m p) i no_mapping) (b : Bool) (told : b ≡ contains r (page_start x.page.0)) where
  pub row_demoted : b ≡ true → (f : ℕ) → f ≡ read_only x.flags.0 → (y : Mapping) → y ≡ mapping x.page.0 x.frame.0 f → (n : Machine) → n ≡ with_rows m p (set (rows_of m p) i y) → n ≡ with_rows m p (set (rows_of m p) i (read_only_in r (get_or (rows_of m p) i no_mapping)))
  row_demoted e f flags y row n put =
      put ∙ ap (λ (z : Mapping). with_rows m p (set (rows_of m p) i z)) (row ∙ ap (λ (k : ℕ). mapping x.page.0 x.frame.0 k) flags ∙ ap (λ (t : Bool). cond t (mapping x.page.0 x.frame.0 (read_only x.flags.0)) x) (sym e ∙ told) ∙ ap (λ (z : Mapping). read_only_in r z) read)

  pub row_left : b ≡ false → m ≡ with_rows m p (set (rows_of m p) i (read_only_in r (get_or (rows_of m p) i no_mapping)))
  row_left e =
      sym (ap (λ (z : Mapping). with_rows m p (set (rows_of m p) i z)) (ap (λ (z : Mapping). read_only_in r z) (sym read) ∙ ap (λ (t : Bool). cond t (mapping x.page.0 x.frame.0 (read_only x.flags.0)) x) (sym told ∙ e) ∙ read)
      ∙ ap (λ t. with_rows m p t) (set-get_or (rows_of m p) i no_mapping) ∙ rows_put_same m p)

module _ (r : Region) (m : Machine) (p : ℕ) where
  pub shared_stays : r.kind ≡ 3 → m ≡ remapped (demoted_in r) m p
  shared_stays e = remapped_none (demoted_in r) m p (λ x. rw (eq-eqb r.kind 3 e) refl) (rows_put_same m p)

  pub rows_demoted : (r.kind ≡ 3 → ⊥) → (n : Machine) → n ≡ remapped (read_only_in r) m p → n ≡ remapped (demoted_in r) m p
  rows_demoted e n put = put ∙ ap (λ (t : Bool). remapped (λ x. cond (not t && maps_in r x) (mapping x.page.0 x.frame.0 (read_only x.flags.0)) x) m p) (sym (ne_eqb r.kind 3 e))

-- of a page table that is well formed: the model's
pub demote_is : (m : Machine) (p s : ℕ) → WellPaged m p → remapped (demoted_in (region_at m p s)) m p ≡ demote m p s
unfolding demote remap_where
demote_is m p s w = remapped_is (demoted_in (region_at m p s)) m p w
