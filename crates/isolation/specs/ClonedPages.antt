-- The pages that a clone shares or copies are those that are backed.
use Rattle.std.specs.Prelude.{◌≡◌, ◌⊎◌, ◌≢◌, Bool, cond, List, [], ◌∷◌, map, ℕ, zero, suc, ◌+◌, ◌-◌, ◌/◌, ◌≤◌, ◌<◌, get_or, eqb, ltb, Option, Some, None}
use Rattle.std.proofs.Math.Path.{refl, ap, sym}
use Rattle.std.proofs.Common.{subst, ◌∙◌, inl}
use Rattle.std.proofs.Math.Logic.{inr}
use Rattle.std.proofs.Math.Bool.{true, false, not}
use Rattle.std.proofs.lemmas.Bool.{false≢true}
use native.Mathlib.Omega.{arith}
use Rattle.std.proofs.Math.Decide.{ℕ_discrete}
use borrow.Author.Tests.{eqb-true, eq-eqb}
use Rattle.model.specs.declared.Region.{Region}
use Rattle.model.specs.declared.Entry.{Entry}
use Rattle.laws.specs.Lists.{keep, up_from}
use Rattle.model.specs.Machine.{Machine, region_at, row_of, no_entry}
use Rattle.model.specs.Lookup.{is_ranged, is_found}
use Rattle.model.specs.Backing.{backing_at, entry_for}
use Rattle.model.specs.Clone.{Held, in_order, single_pages, range_pages, backed_pages}
use Rattle.laws.specs.In.{In}
use Rattle.laws.specs.InLaws.{in_left, in_right, in_either, in_map, map_in}
use Rattle.laws.specs.InListsLaws.{in_keep, keep_in, in_up}
use Rattle.model.specs.FoundRowLaws.{first_found}
use Rattle.keeping.specs.Owing.{Backs, entry_at}
use Rattle.keeping.specs.BacksLaws.{entry_of, tells_entry, no_entry_there}
use Rattle.keeping.specs.ClonePagesLaws.{single_of}

order_here : (h : Held) (l : List Held) → In h (in_order h l)
unfolding in_order
order_here h [] = inl refl
order_here h (x ∷ l) = go (ltb h.page x.page) (order_here h l)
  where
    go : (b : Bool) → In h (in_order h l) → In h (cond b (h ∷ x ∷ l) (x ∷ in_order h l))
    go true r = inl refl
    go false r = inr r

order_there : (h k : Held) (l : List Held) → In k l → In k (in_order h l)
unfolding in_order
order_there h k [] i = absurd i
order_there h k (x ∷ l) i = go (ltb h.page x.page) i (order_there h k l)
  where
    go : (b : Bool) → In k (x ∷ l) → (In k l → In k (in_order h l)) → In k (cond b (h ∷ x ∷ l) (x ∷ in_order h l))
    go true j more = inr j
    go false (inl e) more = inl e
    go false (inr j) more = inr (more j)

abbrev held_by : Entry → Held
held_by e = record { page = e.page.0; frame = e.frame.0 }

pub single_in : (l : List Entry) (row i : ℕ) → (get_or l i no_entry).owner ≡ row + 1 → In (held_by (get_or l i no_entry)) (single_pages l row)
unfolding single_pages
single_in [] row i e = absurd (omega arith)
single_in (x ∷ l) row zero e = rw (eq-eqb x.owner (row + 1) e) (order_here (held_by x) (single_pages l row))
single_in (x ∷ l) row (suc i) e = go (eqb x.owner (row + 1)) (single_in l row i e)
  where
    go : (b : Bool) → In (held_by (get_or l i no_entry)) (single_pages l row) → In (held_by (get_or l i no_entry)) (cond b (in_order (held_by x) (single_pages l row)) (single_pages l row))
    go true j = order_there (held_by x) (held_by (get_or l i no_entry)) (single_pages l row) j
    go false j = j

up_in : (x a k : ℕ) → a ≤ x → x < a + k → In x (up_from a k)
unfolding up_from
up_in x a zero h l = absurd (omega arith)
up_in x a (suc k) h l = go (ℕ_discrete x a) (λ g. up_in x (a + 1) k g (omega arith))
  where
    go : Dec (x ≡ a) → (a + 1 ≤ x → In x (up_from (a + 1) k)) → In x (a ∷ up_from (a + 1) k)
    go (yes z) more = inl z
    go (no z) more = inr (more (omega (arith, z)))

module _ (m : Machine) (p t : ℕ) where
  abbrev r : Region
  r = region_at m p t

  abbrev src : ℕ
  src = row_of p t

  abbrev page_from : ℕ → Held
  page_from i = record { page = r.start.0 / 4096 + i; frame = r.range.0 + i }

  abbrev frames : List Held
  frames = map page_from (up_from 0 (backing_at m r.range.0).len)

  abbrev bare : Held → Bool
  bare h = not (is_found (entry_for m src h.page))

  none_found : (pg : ℕ) → ((i : ℕ) → (entry_at m i).owner ≡ src + 1 → (entry_at m i).page.0 ≢ pg) → not (is_found (entry_for m src pg)) ≡ true
  unfolding entry_for
  none_found pg n = go (entry_for m src pg) refl
    where
      go : (x : Option ℕ) → entry_for m src pg ≡ x → not (is_found x) ≡ true
      go None e = refl
      go (Some i) e = let k = (tells_entry src pg (entry_at m i)).yes (first_found (entry_of src pg) m.entries i no_entry e).1 in absurd (n i k.0 k.1)

  found_none : (x : Option ℕ) → not (is_found x) ≡ true → x ≡ None
  found_none None e = refl
  found_none (Some j) e = absurd (false≢true e)

  -- what a listed page is backed by
  pub backed_of : (h : Held) → In h (backed_pages m p t) → (base : ℕ) × Backs m src h.page base h.frame
  unfolding backed_pages range_pages
  backed_of h i = go (in_either h (range_pages m p t) (single_pages m.entries src) i)
    where
      range : (b : Bool) → is_ranged r ≡ b → In h (cond b (keep bare frames) []) → (base : ℕ) × Backs m src h.page base h.frame
      range false e j = absurd j
      range true e j =
          let k = in_keep bare h frames j in
          let y = in_map page_from h (up_from 0 (backing_at m r.range.0).len) k.0 in
          let small = (in_up y.0 0 (backing_at m r.range.0).len y.1.0).1 in
          let page = ap (λ (z : Held). z.page) y.1.1 in
          let frame = ap (λ (z : Held). z.frame) y.1.1 in
          (r.range.0, inr (record { none = no_entry_there m p t h.page (found_none _ k.1); ranged = eqb-true r.ranged 1 e; start = refl; within = omega arith; frame = omega arith }))

      go : In h (range_pages m p t) ⊎ In h (single_pages m.entries src) → (base : ℕ) × Backs m src h.page base h.frame
      go (inl j) = range (is_ranged r) refl j
      go (inr j) = let e = single_of m.entries src h j in (h.frame, inl (record { at = e.at; owner = e.owner; page = e.page; start = e.frame; frame = refl }))

  -- a page that is backed, of a region that starts not later, is listed
  pub backed_in : (pg base fr : ℕ) → r.start.0 / 4096 ≤ pg → Backs m src pg base fr → In (record { page = pg; frame = fr }) (backed_pages m p t)
  unfolding backed_pages range_pages
  backed_in pg base fr h (inl b) =
      in_right (record { page = pg; frame = fr }) (range_pages m p t) (single_pages m.entries src)
      (subst (λ (k : Held). In k (single_pages m.entries src)) (λ i. record { page = b.page i; frame = (b.start ∙ sym b.frame) i }) (single_in m.entries src b.at b.owner))
  backed_in pg base fr h (inr b) = in_left held (range_pages m p t) (single_pages m.entries src) (subst (λ (c : Bool). In held (cond c (keep bare frames) [])) (sym (eq-eqb r.ranged 1 b.ranged)) (keep_in bare held frames in_range (none_found pg b.none)))
    where
      page : r.start.0 / 4096 + (pg - r.start.0 / 4096) ≡ pg
      page = omega arith

      frame : r.range.0 + (pg - r.start.0 / 4096) ≡ fr
      frame = let e = b.start in let f = b.frame in omega arith

      inside : pg - r.start.0 / 4096 < 0 + (backing_at m r.range.0).len
      inside = let w = subst (λ (x : ℕ). pg - r.start.0 / 4096 < (backing_at m x).len) (sym b.start) b.within in omega arith

      held : Held
      held = record { page = pg; frame = fr }

      in_range : In held frames
      in_range =
          let k = pg - r.start.0 / 4096 in
          let all = up_from 0 (backing_at m r.range.0).len in
          subst (λ (x : Held). In x frames) (λ i. record { page = page i; frame = frame i }) (map_in page_from k all (up_in k 0 (backing_at m r.range.0).len (omega arith) inside))
