-- Some pages of a page table kept; the backing of a mapped page is in use.
use Rattle.std.specs.Prelude.{◌≡◌, ◌≢◌, Bool, ℕ, ◌≤◌, ◌<◌, length}
use Rattle.std.proofs.Common.{ap, sym, subst, inl, inr, arith}
use Rattle.model.specs.declared.Mapping.{Mapping}
use Rattle.laws.specs.Lists.{keep}
use Rattle.model.specs.Machine.{Machine, process_at, mapped_of, with_mapped}
use Rattle.model.specs.Paging.{remap_where}
use Rattle.model.specs.Backing.{backing_at}
use Rattle.model.specs.MachineLaws.{mapped_length, mapped_put}
use Rattle.model.specs.MappedBelowLaws.{length_remap}
use Rattle.laws.specs.In.{In}
use Rattle.laws.specs.InListsLaws.{in_keep}
use Rattle.laws.specs.ListsLaws.{keep_most}
use Rattle.keeping.specs.Owing.{Backs, Owing, Placed}
use Rattle.keeping.specs.OwingLaws.{open_low}
use Rattle.keeping.specs.MappedKept.{mapped_kept}
use Rattle.keeping.specs.MapOrderLaws.{rising_keep, remapped, rising_remap, in_remap}

module _ (d : ℕ → ℕ) (m : Machine) (o : Owing d m) where
  -- at most 128 pages are mapped
  pub few_pages : (p : ℕ) → p < 8 → length (mapped_of m p) ≤ 128
  few_pages p h = let a = mapped_length m p in let b = (o.arenas p h).mapped in omega arith

  -- any of them unmapped
  pub pages_kept : (p : ℕ) → (process_at m p).opened ≡ 1 → (f : Mapping → Bool) → Owing d (with_mapped m p (keep f (mapped_of m p)))
  pages_kept p opened f =
      let h = open_low m o p opened in
      let less = keep_most f (mapped_of m p) in
      let few = few_pages p h in
      mapped_kept d m o p opened (keep f (mapped_of m p)) (rising_keep f (mapped_of m p) (o.paged p h).rising) (omega arith)
      (λ x k. o.mapped p h x (in_keep f x (mapped_of m p) k).0)

  -- some of them remapped, where each has its place with its new flags
  pub remap_kept : (p : ℕ) → (process_at m p).opened ≡ 1 → (f : Mapping → Bool) (g : Mapping → ℕ) → ((x : Mapping) → Placed m p x → Placed m p (remapped f g x))
      → Owing d (with_mapped m p (remap_where f g (mapped_of m p)))
  remap_kept p opened f g placed =
      let low = open_low m o p opened in
      let same = length_remap f g (mapped_of m p) in
      let few = few_pages p low in
      mapped_kept d m o p opened (remap_where f g (mapped_of m p)) (rising_remap f g (mapped_of m p) (o.paged p low).rising) (omega arith) each
    where
      each : (y : Mapping) → In y (remap_where f g (mapped_of m p)) → Placed m p y
      each y i =
          let was = in_remap f g y (mapped_of m p) i in
          let low = open_low m o p opened in
          subst (Placed m p) (sym was.1.1) (placed was.0 (o.mapped p low was.0 was.1.0))

  -- what is left reads back
  pub pages_read : (p : ℕ) → p < 8 → (f : Mapping → Bool) → mapped_of (with_mapped m p (keep f (mapped_of m p))) p ≡ keep f (mapped_of m p)
  pages_read p low f =
      let a = o.sizes.processes in
      let b = o.sizes.mapped in
      let few = few_pages p low in
      let less = keep_most f (mapped_of m p) in
      mapped_put m p (omega arith) (keep f (mapped_of m p)) (omega arith) (omega arith)

  -- what backs a page is in use
  pub base_used : (row pg base fr : ℕ) → Backs m row pg base fr → (backing_at m base).len ≢ 0
  base_used row pg base fr (inl b) z =
      let own = b.owner in
      let one = ((o.entries b.at).used (λ e. omega arith)).frame in
      let same = ap (λ (f : ℕ). (backing_at m f).len) b.start in
      omega arith
  base_used row pg base fr (inr b) z = let h = b.within in omega arith

  -- and has a holder
  pub base_held : (row pg base fr : ℕ) → Backs m row pg base fr → 1 ≤ (backing_at m base).holders
  base_held row pg base fr b = o.held base (base_used row pg base fr b)
