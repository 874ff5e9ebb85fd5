-- The pages that a clone copies or shares: of the region, each once; and how many entries are left.
use Rattle.std.specs.Prelude.{◌≡◌, refl, ◌⊎◌, ◌≢◌, Bool, true, false, not, cond, List, [], ◌∷◌, ℕ, zero, suc, ◌+◌, ◌-◌, ◌≤◌, ◌<◌, length, get_or, set, eqb, ltb}
use Rattle.std.proofs.Common.{ap, sym, subst, ◌∙◌, inl, inr, arith, eqb-true, eq-eqb, ne_eqb}
use Rattle.model.specs.declared.Entry.{Entry}
use Rattle.model.specs.Machine.{Machine, no_entry}
use Rattle.model.specs.Lookup.{free_entry, free_entries, is_found, contains}
use Rattle.laws.specs.Lists.{count}
use Rattle.model.specs.Paging.{page_start}
use Rattle.model.specs.Backing.{backing_at}
use Rattle.model.specs.Clone.{Held, in_order, single_pages}
use Rattle.laws.specs.SetLaws.{each_row}
use Rattle.laws.specs.In.{In}
use Rattle.laws.specs.InLaws.{in_later}
use Rattle.laws.specs.CountLaws.{count_put}
use Rattle.model.specs.FoundRowLaws.{count_found}
use Rattle.keeping.specs.Owing.{entry_at, Owing, row_at}
use Rattle.keeping.specs.EntriesKept.{entry_on}

-- no page twice
abbrev pub OncePages : List Held → Type 0
OncePages [] = Unit {0}
OncePages (h ∷ l) = ((k : Held) → In k l → k.page ≢ h.page) × OncePages l

in_order_in : (h k : Held) (l : List Held) → In k (in_order h l) → (k ≡ h) ⊎ In k l
unfolding in_order
in_order_in h k [] (inl e) = inl e
in_order_in h k [] (inr i) = absurd i
in_order_in h k (x ∷ l) i = go (ltb h.page x.page) i (in_order_in h k l)
  where
    go : (b : Bool) → In k (cond b (h ∷ x ∷ l) (x ∷ in_order h l)) → (In k (in_order h l) → (k ≡ h) ⊎ In k l) → (k ≡ h) ⊎ In k (x ∷ l)
    go true (inl e) more = inl e
    go true (inr j) more = inr j
    go false (inl e) more = inr (inl e)
    go false (inr j) more = in_later k h x l (more j)

once_order : (h : Held) (l : List Held) → OncePages l → ((k : Held) → In k l → k.page ≢ h.page) → OncePages (in_order h l)
unfolding in_order
once_order h [] o n = (n, tt)
once_order h (x ∷ l) o n = go (ltb h.page x.page) (once_order h l o.1 (λ k i. n k (inr i)))
  where
    go : (b : Bool) → OncePages (in_order h l) → OncePages (cond b (h ∷ x ∷ l) (x ∷ in_order h l))
    go true r = (n, o)
    go false r = (λ k i. side k (in_order_in h k l i), r)
      where
        side : (k : Held) → (k ≡ h) ⊎ In k l → k.page ≢ x.page
        side k (inl e) z = n x (inl refl) (sym z ∙ ap (λ (y : Held). y.page) e)
        side k (inr i) z = o.0 k i z

-- an entry of a row that is such a page
pub record EntryOf (l : List Entry) (row : ℕ) (h : Held) : Type 0 where
  pub at : ℕ
  pub owner : (get_or l at no_entry).owner ≡ row + 1
  pub page : (get_or l at no_entry).page.0 ≡ h.page
  pub frame : (get_or l at no_entry).frame.0 ≡ h.frame

-- each comes from an entry
pub single_of : (l : List Entry) (row : ℕ) (h : Held) → In h (single_pages l row) → EntryOf l row h
unfolding single_pages
single_of [] row h i = absurd i
single_of (e ∷ l) row h i = go (eqb e.owner (row + 1)) refl i (single_of l row h)
  where
    later : EntryOf l row h → EntryOf (e ∷ l) row h
    later k = record { at = suc k.at; owner = k.owner; page = k.page; frame = k.frame }

    go : (b : Bool) → eqb e.owner (row + 1) ≡ b
        → In h (cond b (in_order (record { page = e.page.0; frame = e.frame.0 }) (single_pages l row)) (single_pages l row))
        → (In h (single_pages l row) → EntryOf l row h) → EntryOf (e ∷ l) row h
    go false p j more = later (more j)
    go true p j more = side (in_order_in (record { page = e.page.0; frame = e.frame.0 }) h (single_pages l row) j)
      where
        side : (h ≡ record { page = e.page.0; frame = e.frame.0 }) ⊎ In h (single_pages l row) → EntryOf (e ∷ l) row h
        side (inl q) = record {
          at = 0;
          owner = eqb-true e.owner (row + 1) p;
          page = sym (ap (λ (y : Held). y.page) q);
          frame = sym (ap (λ (y : Held). y.frame) q);
        }
        side (inr k) = later (more k)

-- entries of one region are of different pages
abbrev OnceIn : List Entry → Type 0
OnceIn l =
    (i j : ℕ) → i ≢ j → (get_or l i no_entry).owner ≢ 0 → (get_or l i no_entry).owner ≡ (get_or l j no_entry).owner → (get_or l i no_entry).page.0 ≢ (get_or l j no_entry).page.0

-- so no page comes twice
pub once_single : (l : List Entry) (row : ℕ) → OnceIn l → OncePages (single_pages l row)
unfolding single_pages
once_single [] row o = tt
once_single (e ∷ l) row o = go (eqb e.owner (row + 1)) refl (once_single l row (λ i j z. o (suc i) (suc j) (λ q. z (omega arith))))
  where
    go : (b : Bool) → eqb e.owner (row + 1) ≡ b → OncePages (single_pages l row)
        → OncePages (cond b (in_order (record { page = e.page.0; frame = e.frame.0 }) (single_pages l row)) (single_pages l row))
    go false p r = r
    go true p r = once_order _ (single_pages l row) r (λ k i. let s = single_of l row k i in let own = eqb-true e.owner (row + 1) p in
        let other = s.owner in λ z. o zero (suc s.at) (λ q. omega arith) (λ q. omega arith) (own ∙ sym other) (sym z ∙ sym s.page))

-- it starts in the region, which is private, and its frame is a backing of its own
pub single_fits : (d : ℕ → ℕ) (m : Machine) → Owing d m → (row : ℕ) (h : Held) → In h (single_pages m.entries row)
    → ((row_at m row).kind ≢ 3) × ((contains (row_at m row) (page_start h.page) ≡ true) × ((backing_at m h.frame).len ≡ 1))
single_fits d m o row h i =
    let s = single_of m.entries row h i in
    let own = s.owner in
    let back : (entry_at m s.at).owner - 1 ≡ row = omega arith in
    let k = (o.entries s.at).used (λ z. omega arith) in
    let inside = subst (λ (j : ℕ). contains (row_at m j) (page_start (entry_at m s.at).page.0) ≡ true) back k.inside in
    let page_inside = subst (λ (g : ℕ). contains (row_at m row) (page_start g) ≡ true) s.page inside in
    (subst (λ (j : ℕ). (row_at m j).kind ≢ 3) back k.unshared, (page_inside, subst (λ (f : ℕ). (backing_at m f).len ≡ 1) s.frame k.frame))

-- an entry put for another page leaves a page without one
pub fresh_put : (l : List Entry) (i row pg f : ℕ) → i < length l → (g : ℕ) → g ≢ pg
    → ((j : ℕ) → (get_or l j no_entry).owner ≡ row + 1 → (get_or l j no_entry).page.0 ≢ g) → (j : ℕ) → (get_or (set l i (entry_on row pg f)) j no_entry).owner ≡ row + 1
    → (get_or (set l i (entry_on row pg f)) j no_entry).page.0 ≢ g
fresh_put l i row pg f h g other fresh =
    each_row l i (entry_on row pg f) no_entry h (λ j e. e.owner ≡ row + 1 → e.page.0 ≢ g) (λ e z. other (sym z)) (λ j y. fresh j)

-- ---- entries left

-- an entry put leaves one free entry less
pub entries_fewer : (m : Machine) (i : ℕ) (e : Entry) → i < length m.entries → (entry_at m i).owner ≡ 0 → e.owner ≢ 0
    → count (λ x. eqb x.owner 0) (set m.entries i e) + 1 ≡ free_entries m
unfolding free_entries
entries_fewer m i e h z u = count_put (λ x. eqb x.owner 0) no_entry m.entries i e h (eq-eqb _ 0 z) (ne_eqb _ 0 u)

-- one is found where one is counted
pub entry_left : (m : Machine) → 1 ≤ free_entries m → not (is_found (free_entry m)) ≡ false
unfolding free_entries free_entry
entry_left m h = count_found (λ x. eqb x.owner 0) m.entries 0 h
