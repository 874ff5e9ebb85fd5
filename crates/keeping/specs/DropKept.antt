-- A detached region dropped: each page entry set free and its backing let go, the slot set free and the range let go.
use Rattle.std.specs.Prelude.{◌≡◌, ◌≢◌, Bool, cond, length, set, eqb}
use Rattle.std.proofs.Math.Path.{refl, ap, sym, subst}
use Rattle.std.proofs.Common.{◌∙◌, arith, get_or-set_same, set-set, eqb-true}
use Rattle.std.proofs.Math.Bool.{true, false}
use mathlib.Core.List.{List, [], ◌∷◌, ◌++◌, map, append_assoc}
use Prim.Native.Nat.{ℕ, zero, suc, ◌+◌, ◌<◌}
use Rattle.std.proofs.Math.ListN.{get_or}
use Rattle.std.proofs.Math.Seq.{get_or-append_seam, set-append_seam}
use Rattle.std.proofs.lemmas.Bool.{eqb-false}
use Rattle.model.specs.declared.Entry.{Entry}
use Rattle.model.specs.declared.Region.{Region}
use Rattle.laws.specs.Lists.{keep, each}
use Rattle.model.specs.Machine.{Machine, with_entries, with_regions, with_region, region_at, row_of, order_of, no_entry, no_region}
use Rattle.model.specs.Lookup.{is_ranged}
use Rattle.model.specs.Backing.{let_go}
use Rattle.model.specs.Pins.{with_pins}
use Rattle.model.specs.Remove.{frames_of, drop_region}
use Rattle.model.specs.Sound.{Used}
use Rattle.model.specs.MachineLaws.{Books, books_then, books_let_go, books_order}
use Rattle.laws.specs.In.{In}
use Rattle.keeping.specs.Owing.{row_at, entry_at, Owing, Unlisted}
use Rattle.keeping.specs.BackingsKept.{let_go_kept}
use Rattle.keeping.specs.SlotsKept.{owes, owes_range, owes_nothing, slot_freed}
use Rattle.keeping.specs.EntriesKept.{free_kept}
use Rattle.keeping.specs.CoreKept.{Lends, lends_then}
use Rattle.keeping.specs.LetGoLaws.{lends_let_go, let_go_entries, let_go_regions, let_go_kept_entries}

-- backings let go one after the other
abbrev pub all_gone : List ℕ → Machine → Machine
all_gone l m = each (λ f n. let_go n f) l m

-- an entry of the row set free, any other as it is
abbrev freed : ℕ → Entry → Entry
freed row e = cond (eqb e.owner (row + 1)) no_entry e

gone_entries : (fs : List ℕ) (m : Machine) (l : List Entry) → all_gone fs (with_entries m l) ≡ with_entries (all_gone fs m) l
unfolding each
gone_entries [] m l = refl
gone_entries (f ∷ fs) m l = ap (λ (x : Machine). all_gone fs x) (let_go_entries m l f) ∙ gone_entries fs (let_go m f) l

-- which leaves processes, regions, lists and page tables alone
pub gone_books : (fs : List ℕ) (m : Machine) → Books m (all_gone fs m)
unfolding each
gone_books [] m = record { processes = refl; regions = refl; order = refl; mapped = refl }
gone_books (f ∷ fs) m = books_then (books_let_go m f) (gone_books fs (let_go m f))

unlisted_as : {m n : Machine} (row : ℕ) → Books m n → Unlisted m row → Unlisted n row
unlisted_as row k u p t h i = u p t h (subst (λ l. In t l) (books_order p k) i)

-- ---- the entries, one after the other

module _ (d : ℕ → ℕ) (row : ℕ) where
  -- one entry
  one_gone : (m : Machine) → Owing d m → Unlisted m row → (i : ℕ) → (entry_at m i).owner ≡ row + 1
      → Owing d (let_go (with_entries m (set m.entries i no_entry)) (entry_at m i).frame.0)
  one_gone m o u i e =
      let_go_kept d _ (entry_at m i).frame.0 (free_kept d m o i (λ z. omega arith) (λ p h x j k q. absurd (u p k.slot h k.listed (omega arith))))

  -- all entries of the row set free and let go
  pub entries_gone : (l pre : List Entry) (m : Machine) → m.entries ≡ pre ++ l → Owing d m → Unlisted m row
      → Owing d (with_entries (all_gone (frames_of l row) m) (pre ++ map (freed row) l))
  unfolding frames_of keep each order_of
  entries_gone [] pre m e o u = subst (λ t. Owing d (with_entries m t)) e o
  entries_gone (x ∷ l) pre m e o u = go (eqb x.owner (row + 1)) refl (λ n y q. entries_gone l (pre ++ (y ∷ [])) n (q ∙ sym (append_assoc pre (y ∷ []) l)))
    where
      at : entry_at m (length pre) ≡ x
      at = ap (λ t. get_or t (length pre) no_entry) e ∙ get_or-append_seam pre x l no_entry

      emptied : Machine
      emptied = with_entries m (set m.entries (length pre) no_entry)

      go : (b : Bool) → eqb x.owner (row + 1) ≡ b
          → ((n : Machine) (y : Entry) → n.entries ≡ pre ++ (y ∷ l) → Owing d n → Unlisted n row
          → Owing d (with_entries (all_gone (frames_of l row) n) ((pre ++ (y ∷ [])) ++ map (freed row) l)))
          → Owing d
          (with_entries (all_gone (map (λ z. z.frame.0) (cond b (x ∷ keep (λ z. eqb z.owner (row + 1)) l) (keep (λ z. eqb z.owner (row + 1)) l))) m)
          (pre ++ (cond b no_entry x ∷ map (freed row) l)))
      go true q next =
          let owner = ap (λ (z : Entry). z.owner) at ∙ eqb-true x.owner (row + 1) q in
          let f : ℕ = (entry_at m (length pre)).frame.0 in
          let o1 = one_gone m o u (length pre) owner in
          let r = next (let_go emptied f) no_entry (let_go_kept_entries emptied f ∙ ap (λ t. set t (length pre) no_entry) e ∙ set-append_seam pre x l no_entry) o1
          (unlisted_as row (books_let_go emptied f) u) in
          let rest : List Entry = (pre ++ (no_entry ∷ [])) ++ map (freed row) l in
          let first_out = ap (λ (n : Machine). with_entries (all_gone (frames_of l row) n) rest) (let_go_entries m (set m.entries (length pre) no_entry) f) in
          let others_out = ap (λ (n : Machine). with_entries n rest) (gone_entries (frames_of l row) (let_go m f) (set m.entries (length pre) no_entry)) in
          let joined : with_entries (all_gone (frames_of l row) (let_go m f)) rest ≡ with_entries (all_gone (frames_of l row) (let_go m x.frame.0))
          (pre ++ (no_entry ∷ map (freed row) l)) = λ t. with_entries (all_gone (frames_of l row) (let_go m (at t).frame.0))
          (append_assoc pre (no_entry ∷ []) (map (freed row) l) t) in
          subst (Owing d) (first_out ∙ others_out ∙ joined) r
      go false q next = subst (λ t. Owing d (with_entries (all_gone (frames_of l row) m) t)) (append_assoc pre (x ∷ []) (map (freed row) l)) (next m x e o u)

freed_none : (row : ℕ) (l : List Entry) (i : ℕ) → (get_or (map (freed row) l) i no_entry).owner ≢ row + 1
freed_none row [] i = λ z. omega arith
freed_none row (x ∷ l) zero = go (eqb x.owner (row + 1)) refl
  where
    go : (b : Bool) → eqb x.owner (row + 1) ≡ b → (cond b no_entry x).owner ≢ row + 1
    go true e z = omega arith
    go false e z = eqb-false x.owner (row + 1) e z
freed_none row (x ∷ l) (suc i) = freed_none row l i

-- ---- the whole region

module _ (d : ℕ → ℕ) (m : Machine) (o : Owing d m) (p t : ℕ) (used : Used (region_at m p t)) (unlisted : Unlisted m (row_of p t)) where
  abbrev row : ℕ
  row = row_of p t

  abbrev pages : Machine
  pages = all_gone (frames_of m.entries row) m

  abbrev left : List Entry
  left = map (freed row) m.entries

  abbrev bare : Machine
  bare = with_entries pages left

  abbrev slots : List Region
  slots = set pages.regions row no_region

  same_row : row_at bare row ≡ region_at m p t
  same_row = ap (λ l. get_or l row no_region) (gone_books (frames_of m.entries row) m).regions

  bare_owing : Owing d bare
  bare_owing = entries_gone d row m.entries [] m refl o unlisted

  free_owing : Owing (owes (region_at m p t) d) (with_regions bare slots)
  unfolding order_of
  free_owing =
      subst (λ (r : Region). Owing (owes r d) (with_regions bare slots)) same_row
      (slot_freed d bare bare_owing row (subst (λ (r : Region). Used r) (sym same_row) used)
      (unlisted_as row (gone_books (frames_of m.entries row) m) unlisted) (freed_none row m.entries))

  -- a region that no process lists is dropped
  pub drop_kept : Owing d (drop_region m p t)
  unfolding drop_region
  drop_kept = go (is_ranged (region_at m p t)) refl
    where
      go : (b : Bool) → is_ranged (region_at m p t) ≡ b
          → Owing d (with_region (with_entries (cond b (let_go pages (region_at m p t).range.0) pages) left) p t no_region)
      go false e = subst (λ (k : ℕ → ℕ). Owing k (with_regions bare slots)) (λ i g. owes_nothing (region_at m p t) d (eqb-false _ 1 e) g i) free_owing
      go true e =
          let f : ℕ = (region_at m p t).range.0 in
          let owed = subst (λ (k : ℕ → ℕ). Owing k (with_regions bare slots)) (owes_range (region_at m p t) d used (eqb-true _ 1 e)) free_owing in
          let regions_out = let_go_regions bare slots f in
          let entries_out = ap (λ (n : Machine). with_regions n slots) (let_go_entries pages left f) in
          let same_rows = ap (λ l. with_regions (with_entries (let_go pages f) left) (set l row no_region)) (sym (books_let_go pages f).regions) in
          subst (Owing d) (regions_out ∙ entries_out ∙ same_rows) (let_go_kept d (with_regions bare slots) f owed)

-- ---- what dropping leaves alone

gone_regions : (fs : List ℕ) (m : Machine) (l : List Region) → all_gone fs (with_regions m l) ≡ with_regions (all_gone fs m) l
unfolding each
gone_regions [] m l = refl
gone_regions (f ∷ fs) m l = ap (λ (x : Machine). all_gone fs x) (let_go_regions m l f) ∙ gone_regions fs (let_go m f) l

gone_lends : (fs : List ℕ) (m : Machine) → Lends m (all_gone fs m)
unfolding each
gone_lends [] m = record { files = refl; file_count = refl; frame_count = refl }
gone_lends (f ∷ fs) m = lends_then (lends_let_go m f) (gone_lends fs (let_go m f))

module _ (m : Machine) (p t : ℕ) where
  pub drop_order : (q : ℕ) → order_of (drop_region m p t) q ≡ order_of m q
  unfolding drop_region order_of
  drop_order q = go (is_ranged (region_at m p t))
    where
      fs : List ℕ
      fs = frames_of m.entries (row_of p t)

      go : (b : Bool)
          → order_of
          (with_region (with_entries (cond b (let_go (all_gone fs m) (region_at m p t).range.0) (all_gone fs m))
          (map (freed (row_of p t)) m.entries)) p t no_region) q ≡ order_of m q
      go true = books_order q (books_then (gone_books fs m) (books_let_go (all_gone fs m) (region_at m p t).range.0))
      go false = books_order q (gone_books fs m)

  -- its pins are gone with it
  pub drop_pins : (k : ℕ) → row_of p t < length m.regions → drop_region (with_region m p t (with_pins (region_at m p t) k)) p t ≡ drop_region m p t
  unfolding drop_region
  drop_pins k inside =
      ap (λ (r : Region). tail r (all_gone fs (with_regions m l))) (get_or-set_same m.regions (row_of p t) (with_pins (region_at m p t) k) no_region inside)
      ∙ ap (λ (x : Machine). tail (region_at m p t) x) (gone_regions fs m l)
      ∙ go (is_ranged (region_at m p t))
    where
      fs : List ℕ
      fs = frames_of m.entries (row_of p t)

      l : List Region
      l = set m.regions (row_of p t) (with_pins (region_at m p t) k)

      es : List Entry
      es = map (freed (row_of p t)) m.entries

      tail : Region → Machine → Machine
      tail r x = with_region (with_entries (cond (is_ranged r) (let_go x r.range.0) x) es) p t no_region

      f : ℕ
      f = (region_at m p t).range.0

      gone : Machine
      gone = all_gone fs m

      again : (x : Machine) → x.regions ≡ m.regions → with_region (with_entries (with_regions x l) es) p t no_region ≡ with_region (with_entries x es) p t no_region
      again x e =
          ap (λ t'. with_regions (with_entries x es) t') (set-set m.regions (row_of p t) (with_pins (region_at m p t) k) no_region
          ∙ ap (λ t'. set t' (row_of p t) no_region) (sym e))

      go : (b : Bool)
          → with_region (with_entries (cond b (let_go (with_regions gone l) f) (with_regions gone l)) es) p t no_region ≡ with_region
          (with_entries (cond b (let_go gone f) gone) es) p t no_region
      go true = ap (λ (x : Machine). with_region (with_entries x es) p t no_region) (let_go_regions gone l f)
          ∙ again (let_go gone f) ((books_let_go gone f).regions ∙ (gone_books fs m).regions)
      go false = again gone (gone_books fs m).regions

  pub drop_lends : Lends m (drop_region m p t)
  unfolding drop_region
  drop_lends = go (is_ranged (region_at m p t))
    where
      fs : List ℕ
      fs = frames_of m.entries (row_of p t)

      go : (b : Bool)
          → Lends m
          (with_region (with_entries (cond b (let_go (all_gone fs m) (region_at m p t).range.0) (all_gone fs m))
          (map (freed (row_of p t)) m.entries)) p t no_region)
      go true = lends_then (gone_lends fs m) (lends_then (lends_let_go (all_gone fs m) (region_at m p t).range.0)
          (record { files = refl; file_count = refl; frame_count = refl }))
      go false = lends_then (gone_lends fs m) (record { files = refl; file_count = refl; frame_count = refl })
