-- Changes of the machine alone that leave a page's region row, entry and list alone.
use Rattle.std.specs.Prelude.{◌≡◌, ◌⊎◌, ◌≢◌, Bool, not, cond, get_or, set, eqb}
use Rattle.std.proofs.Math.Path.{refl}
use Rattle.std.proofs.Common.{ap, sym, subst, ◌∙◌, inl, inr, arith, get_or-set_other, eqb-true, ne_eqb}
use Rattle.std.proofs.Math.Bool.{true, false}
use mathlib.Core.List.{List, [], ◌∷◌, map}
use Prim.Native.Nat.{ℕ, zero, suc, ◌+◌, ◌<◌}
use Rattle.std.proofs.Math.Decide.{ℕ_discrete}
use Rattle.model.specs.declared.Region.{Region}
use Rattle.model.specs.declared.Entry.{Entry}
use Rattle.laws.specs.Lists.{keep}
use Rattle.model.specs.Machine.{Machine, State, with_machine, with_order, region_at, row_of, order_of, no_entry, no_region, with_mapped}
use Rattle.model.specs.MachineLaws.{books_let_go, order_mapped}
use Rattle.model.specs.Lookup.{is_ranged, is_pinned}
use Rattle.model.specs.Paging.{unmap_from, maps_in}
use Rattle.model.specs.Backing.{let_go}
use Rattle.model.specs.Remove.{frames_of, drop_region, remove_region}
use Rattle.laws.specs.In.{In}
use Rattle.laws.specs.InListsLaws.{keep_in}
use Rattle.keeping.specs.Owing.{Owing, entry_at}
use Rattle.keeping.specs.PagesKept.{pages_kept}
use Rattle.keeping.specs.OrderKept.{order_other}
use Rattle.keeping.specs.OwingLaws.{listed_open}
use Rattle.keeping.specs.DropKept.{all_gone, gone_books, drop_order, drop_lends}
use Rattle.keeping.specs.RemovalKept.{remove_order}
use Rattle.isolation.specs.ViewLaws.{looks}
use Rattle.isolation.specs.Undisturbed.{Undisturbed}

-- ---- rows

pub record RowAs (r x : Region) : Type 0 where
  pub look : looks x ≡ looks r
  pub ranged : x.ranged ≡ r.ranged
  pub range : x.range ≡ r.range

pub row_is : {r x : Region} → x ≡ r → RowAs r x
row_is e = record { look = ap looks e; ranged = ap (λ (y : Region). y.ranged) e; range = ap (λ (y : Region). y.range) e }

pub row_then : {a b c : Region} → RowAs a b → RowAs b c → RowAs a c
row_then x y = record { look = y.look ∙ x.look; ranged = y.ranged ∙ x.ranged; range = y.range ∙ x.range }

-- a row of a table after one was put
pub set_either : {A : Type 0} (l : List A) (i : ℕ) (x : A) (j : ℕ) (d : A) → (get_or (set l i x) j d ≡ get_or l j d) ⊎ ((j ≡ i) × (get_or (set l i x) j d ≡ x))
set_either [] i x j d = inl refl
set_either (y ∷ l) zero x zero d = inr (refl, refl)
set_either (y ∷ l) zero x (suc j) d = inl refl
set_either (y ∷ l) (suc i) x zero d = inl refl
set_either (y ∷ l) (suc i) x (suc j) d = go (set_either l i x j d)
  where
    go : (get_or (set l i x) j d ≡ get_or l j d) ⊎ ((j ≡ i) × (get_or (set l i x) j d ≡ x)) → (get_or (set l i x) j d ≡ get_or l j d) ⊎ ((suc j ≡ suc i) × (get_or (set l i x) j d ≡ x))
    go (inl e) = inl e
    go (inr e) = inr (ap suc e.0, e.1)

-- the region's row replaced by one like it
pub row_put : (l : List Region) (i j : ℕ) (r : Region) → RowAs (get_or l i no_region) r → RowAs (get_or l j no_region) (get_or (set l i r) j no_region)
row_put l i j r k = go (set_either l i r j no_region)
  where
    go : (get_or (set l i r) j no_region ≡ get_or l j no_region) ⊎ ((j ≡ i) × (get_or (set l i r) j no_region ≡ r)) → RowAs (get_or l j no_region) (get_or (set l i r) j no_region)
    go (inl e) = row_is e
    go (inr (z, e)) = row_then (row_then (row_is (ap (λ (n : ℕ). get_or l n no_region) (sym z))) k) (row_is e)

-- ---- a page's row, entry and list

pub record Quiet (m n : Machine) (q t pg : ℕ) : Type 0 where
  pub files : n.files ≡ m.files
  pub row : RowAs (region_at m q t) (region_at n q t)
  pub forth : (i : ℕ) → (entry_at m i).owner ≡ row_of q t + 1 → (entry_at m i).page.0 ≡ pg → entry_at n i ≡ entry_at m i
  pub back : (i : ℕ) → (entry_at n i).owner ≡ row_of q t + 1 → (entry_at n i).page.0 ≡ pg → entry_at n i ≡ entry_at m i
  pub listed : In t (order_of n q)

pub quiet_then : {a b c : Machine} {q t pg : ℕ} → Quiet a b q t pg → Quiet b c q t pg → Quiet a c q t pg
quiet_then x y = record {
  files = y.files ∙ x.files;
  row = row_then x.row y.row;
  forth = λ i u z. let e = x.forth i u z in y.forth i (ap (λ (k : Entry). k.owner) e ∙ u) (ap (λ (k : Entry). k.page.0) e ∙ z) ∙ e;
  back = λ i u z. let e = y.back i u z in e ∙ x.back i (ap (λ (k : Entry). k.owner) (sym e) ∙ u) (ap (λ (k : Entry). k.page.0) (sym e) ∙ z);
  listed = y.listed;
}

pub quiet_state : (s : State) (n : Machine) (q t pg at : ℕ) → Quiet s.machine n q t pg → Undisturbed s (with_machine s n) q t pg at
quiet_state s n q t pg at k = record { bytes = refl; files = k.files; look = k.row.look; ranged = k.row.ranged; range = k.row.range; forth = k.forth; back = k.back; frames = λ base fr b. refl; listed = k.listed }

-- two slots of two processes
pub rows_apart : (p u q t : ℕ) → u < 64 → t < 64 → (p ≡ q → u ≡ t → ⊥) → row_of q t ≢ row_of p u
rows_apart p u q t a b n z = n (omega arith) (omega arith)

-- ---- a region dropped

module _ (m : Machine) (p u : ℕ) where
  abbrev freed : Entry → Entry
  freed e = cond (eqb e.owner (row_of p u + 1)) no_entry e

  map_row : (l : List Entry) (i : ℕ) → get_or (map freed l) i no_entry ≡ freed (get_or l i no_entry)
  map_row [] i = sym (pick (eqb 0 (row_of p u + 1)))
    where
      pick : (b : Bool) → cond b no_entry no_entry ≡ no_entry
      pick true = refl
      pick false = refl
  map_row (e ∷ l) zero = refl
  map_row (e ∷ l) (suc i) = map_row l i

  drop_entries : (drop_region m p u).entries ≡ map freed m.entries
  unfolding drop_region
  drop_entries = refl

  drop_regions : (drop_region m p u).regions ≡ set m.regions (row_of p u) no_region
  unfolding drop_region
  drop_regions = go (is_ranged (region_at m p u))
    where
      fs : List ℕ
      fs = frames_of m.entries (row_of p u)

      go : (b : Bool) → set (cond b (let_go (all_gone fs m) (region_at m p u).range.0) (all_gone fs m)).regions (row_of p u) no_region ≡ set m.regions (row_of p u) no_region
      go true = ap (λ l. set l (row_of p u) no_region) ((books_let_go (all_gone fs m) (region_at m p u).range.0).regions ∙ (gone_books fs m).regions)
      go false = ap (λ l. set l (row_of p u) no_region) (gone_books fs m).regions

  freed_is : (b : Bool) (e : Entry) (row : ℕ) → eqb e.owner (row_of p u + 1) ≡ b → row ≢ row_of p u → (e.owner ≡ row + 1) ⊎ ((cond b no_entry e).owner ≡ row + 1) → cond b no_entry e ≡ e
  freed_is true e row x z (inl o) = absurd (z (let h = eqb-true e.owner (row_of p u + 1) x in omega arith))
  freed_is true e row x z (inr o) = absurd (let h : 0 ≡ row + 1 = o in omega arith)
  freed_is false e row x z o = refl

  pub drop_quiet : (q t pg : ℕ) → row_of q t ≢ row_of p u → In t (order_of m q) → Quiet m (drop_region m p u) q t pg
  drop_quiet q t pg z i = record {
    files = (drop_lends m p u).files;
    row = row_is (ap (λ l. get_or l (row_of q t) no_region) drop_regions ∙ get_or-set_other m.regions (row_of p u) (row_of q t) no_region no_region z);
    forth = λ i o y. row_at i ∙ freed_is _ (entry_at m i) (row_of q t) refl z (inl o);
    back = λ i o y. row_at i ∙ freed_is _ (entry_at m i) (row_of q t) refl z (inr (ap (λ (e : Entry). e.owner) (sym (row_at i)) ∙ o));
    listed = subst (λ l. In t l) (sym (drop_order m p u q)) i;
  }
    where
      row_at : (i : ℕ) → entry_at (drop_region m p u) i ≡ freed (entry_at m i)
      row_at i = ap (λ l. get_or l i no_entry) drop_entries ∙ map_row m.entries i

-- ---- a region removed

remove_other : (d : ℕ → ℕ) (m : Machine) → Owing d m → (p u : ℕ) → In u (order_of m p) → (q : ℕ) → q ≢ p → order_of (remove_region m p u) q ≡ order_of m q
unfolding remove_region unmap_from
remove_other d m o p u listed q e = go (is_pinned (region_at m p u))
  where
    bare : Machine
    bare = unmap_from m p (region_at m p u)

    out : Machine
    out = with_order bare p (keep (λ t. not (eqb t u)) (order_of m p))

    bare_owing : Owing d bare
    bare_owing = pages_kept d m o p (listed_open d m o p u listed) (λ x. not (maps_in (region_at m p u) x))

    reads : order_of out q ≡ order_of m q
    reads = order_other d bare bare_owing p (listed_open d bare bare_owing p u (subst (λ l. In u l) (sym (order_mapped m p p _)) listed)) (keep (λ t. not (eqb t u)) (order_of m p)) q e ∙ order_mapped m p q _

    go : (b : Bool) → order_of (cond b out (drop_region out p u)) q ≡ order_of m q
    go true = reads
    go false = drop_order out p u q ∙ reads

module _ (d : ℕ → ℕ) (m : Machine) (o : Owing d m) (p u : ℕ) (listed : In u (order_of m p)) (low : p < 8) where
  abbrev out : Machine
  out = with_order (unmap_from m p (region_at m p u)) p (keep (λ t. not (eqb t u)) (order_of m p))

  -- the list of another process, and the others of its own
  pub remove_listed : (q t : ℕ) → q < 8 → In t (order_of m q) → row_of q t ≢ row_of p u → In t (order_of (remove_region m p u) q)
  remove_listed q t h i z = go (ℕ_discrete q p)
    where
      go : Dec (q ≡ p) → In t (order_of (remove_region m p u) q)
      go (yes e) =
          let kept = keep_in (λ s. not (eqb s u)) t (order_of m p) (subst (λ (r : ℕ). In t (order_of m r)) e i) (rw (ne_eqb t u (λ y. z (omega arith))) refl) in
          subst (λ (r : ℕ). In t (order_of (remove_region m p u) r)) (sym e) (subst (λ l. In t l) (sym (remove_order d m o p u listed)) kept)
      go (no e) = subst (λ l. In t l) (sym (other q e)) i
        where
          other : (q : ℕ) → q ≢ p → order_of (remove_region m p u) q ≡ order_of m q
          other q e = remove_other d m o p u listed q e

  pub remove_quiet : (q t pg : ℕ) → q < 8 → In t (order_of m q) → row_of q t ≢ row_of p u → Quiet m (remove_region m p u) q t pg
  unfolding remove_region with_order unmap_from with_mapped
  remove_quiet q t pg h i z = go (is_pinned (region_at m p u)) refl (remove_listed q t h i z)
    where
      go : (b : Bool) → is_pinned (region_at m p u) ≡ b → In t (order_of (cond b out (drop_region out p u)) q) → Quiet m (cond b out (drop_region out p u)) q t pg
      go true e k = record { files = refl; row = row_is refl; forth = λ i o y. refl; back = λ i o y. refl; listed = k }
      go false e k = let w = drop_quiet out p u q t pg z (subst (λ l. In t l) (drop_order out p u q) k) in record { files = w.files; row = w.row; forth = w.forth; back = w.back; listed = w.listed }
