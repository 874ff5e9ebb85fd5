-- Laws of `Dropped`: the page entries of a region dropped one by one, lowest first: each lets its frame go and is free.
use Rattle.std.specs.Prelude.{◌≡◌, ◌≢◌, Bool, true, false, not, List, [], ◌∷◌, map, ℕ, zero, suc, ◌+◌, ◌≤◌, ◌<◌, length, get_or, set, eqb}
use Rattle.std.proofs.Math.Path.{refl, ap, subst}
use Rattle.std.proofs.Common.{sym, ◌∙◌, zero-le, suc-le-suc, le_of_suc-le-suc, not-suc-le-zero, get_or-set_same, get_or-set_other, eqb-true, eq-eqb, ne_eqb}
use Rattle.std.proofs.Math.Bool.{cond}
use native.Mathlib.Omega.{arith}
use Rattle.std.proofs.Math.Decide.{ℕ_discrete}
use Rattle.model.specs.declared.Entry.{Entry}
use Rattle.laws.specs.Lists.{keep, each}
use Rattle.model.specs.Machine.{Machine, no_entry, with_entries}
use Rattle.model.specs.Backing.{backing_at, with_backings, let_go}
use Rattle.model.specs.Sound.{holders_of}
use Rattle.model.specs.Remove.{frames_of}
use Rattle.model.specs.MachineLaws.{Books, books_then, books_let_go}
use Rattle.model.specs.Layout.{machine}
use Rattle.backing.specs.BackingLaws.{release_is, release_ready, used_low}
use Rattle.backing.specs.BackingSteps.{released}
use Rattle.lookup.specs.LookupsLaws.{entries_length}
use Rattle.model.specs.HolderLaws.{holders_split}
use Rattle.model.specs.Holders.{one_if, weight, entry_taken, entry_hold, ranges_hold}
use Rattle.remove.specs.HoldingLaws.{holding_set}
use Rattle.remove.specs.Accounted.{FreeUnranged, Accounted}
use Rattle.remove.specs.AccountedLaws.{ready_same, given_used, given_held}
use Rattle.keeping.specs.LetGoLaws.{let_go_is, let_go_entries}
use Rattle.remove.specs.Dropped.{LetsGo, all_gone, owned_by, freed, entries_dropped, entry_dropped, entry_left, EntryGone, EntriesGone}

pub lets_go : (m : Machine) (f : ℕ) (n : Machine) → n ≡ released m f → LetsGo m f n
lets_go m f n e ready used = e ∙ release_is m ready f used

-- a backing in use has a row
pub lets_go_past : (m : Machine) (f : ℕ) → 256 ≤ f → LetsGo m f m
lets_go_past m f h ready used = let low = used_low m ready f used in let few = ready.few in absurd (omega arith)

pub let_go_kept : (m : Machine) (f : ℕ) → (let_go m f).entries ≡ m.entries
unfolding with_backings
let_go_kept m f = ap (λ (x : Machine). x.entries) (let_go_is m f)

gone_entries : (m : Machine) (l k : List Entry) (fs : List ℕ) → with_entries (all_gone fs (with_entries m l)) k ≡ with_entries (all_gone fs m) k
unfolding each
gone_entries m l k [] = refl
gone_entries m l k (f ∷ fs) = ap (λ (x : Machine). with_entries (all_gone fs x) k) (let_go_entries m l f) ∙ gone_entries (let_go m f) l k fs

pub gone_books : (m : Machine) (fs : List ℕ) → Books m (all_gone fs m)
unfolding each
gone_books m [] = record { processes = refl; regions = refl; order = refl; mapped = refl }
gone_books m (f ∷ fs) = books_then (books_let_go m f) (gone_books (let_go m f) fs)

free_not_owned : (row : ℕ) → owned_by row no_entry ≡ false
free_not_owned row = ne_eqb 0 (row + 1) (λ e. omega arith)

frames_next : (row : ℕ) (l : List Entry) (i : ℕ) → ((j : ℕ) → j < i → owned_by row (get_or l j no_entry) ≡ false) → i < length l → owned_by row (get_or l i no_entry) ≡ true → frames_of l row ≡ (get_or l i no_entry).frame.0 ∷ frames_of (set l i no_entry) row
unfolding frames_of keep
frames_next row [] i none h e = absurd (not-suc-le-zero h)
frames_next row (x ∷ l) zero none h e = let p : eqb x.owner (row + 1) ≡ true = e in rw (p, free_not_owned row) refl
frames_next row (x ∷ l) (suc i) none h e =
    let p : eqb x.owner (row + 1) ≡ false = none zero (suc-le-suc zero-le) in
    rw p (frames_next row l i (λ j k. none (suc j) (suc-le-suc k)) (le_of_suc-le-suc h) e)

freed_set : (row : ℕ) (l : List Entry) (i : ℕ) → owned_by row (get_or l i no_entry) ≡ true → map (freed row) (set l i no_entry) ≡ map (freed row) l
freed_set row [] i e = refl
freed_set row (x ∷ l) zero e = ap (λ (y : Entry). y ∷ map (freed row) l) (let p : owned_by row x ≡ true = e in rw (free_not_owned row, p) refl)
freed_set row (x ∷ l) (suc i) e = ap (λ t. freed row x ∷ t) (freed_set row l i e)

none_owned : (row : ℕ) (l : List Entry) → ((j : ℕ) → j < length l → owned_by row (get_or l j no_entry) ≡ false) → (frames_of l row ≡ []) × (map (freed row) l ≡ l)
unfolding frames_of keep
none_owned row [] none = (refl, refl)
none_owned row (x ∷ l) none =
    let p : eqb x.owner (row + 1) ≡ false = none zero (suc-le-suc zero-le) in
    let rest = none_owned row l (λ j k. none (suc j) (suc-le-suc k)) in
    (rw p rest.0, rw p (ap (λ t. x ∷ t) rest.1))

module _ (m : Machine) (row i : ℕ) where
  abbrev e : Entry
  e = get_or m.entries i no_entry

  module _ (mine : owned_by row e ≡ true) (inside : i < length m.entries) where
    taken : entry_taken e ≡ true
    taken = let is = eqb-true e.owner (row + 1) mine in ap not (ne_eqb e.owner 0 (λ z. omega arith))

    -- one hold less
    entry_less : (g : ℕ) → holders_of m g ≡ holders_of (entry_dropped m i) g + one_if (eqb e.frame.0 g)
    unfolding entry_dropped
    entry_less g =
        let was = holders_split m g in
        let is = holders_split (with_entries (let_go m e.frame.0) (set m.entries i no_entry)) g in
        let ranges = ap (λ t. ranges_hold t g) (books_let_go m e.frame.0).regions in
        let entries = holding_set entry_taken entry_hold g no_entry refl m.entries i inside in
        let one : weight entry_taken entry_hold g e ≡ one_if (eqb e.frame.0 g) = ap (λ (b : Bool). cond b (one_if (eqb e.frame.0 g)) 0) taken in
        omega arith

    module _ (a : Accounted m) where
      pub entry_used : (backing_at m e.frame.0).len ≢ 0
      entry_used = given_used m a e.frame.0 (entry_dropped m i) entry_less

      entry_accounted : Accounted (entry_dropped m i)
      unfolding entry_dropped
      entry_accounted =
          record {
            ready = ready_same (let_go m e.frame.0) (with_entries (let_go m e.frame.0) (set m.entries i no_entry)) refl refl refl (release_ready m a.ready e.frame.0 entry_used);
            held = given_held m a e.frame.0 (with_entries (let_go m e.frame.0) (set m.entries i no_entry)) entry_less refl;
            slots = subst FreeUnranged (sym (books_let_go m e.frame.0).regions) a.slots;
          }

    -- the others are left for later
    entry_first : ((j : ℕ) → j < i → owned_by row (get_or m.entries j no_entry) ≡ false) → entries_dropped (entry_dropped m i) row ≡ entries_dropped m row
    unfolding entries_dropped entry_dropped each
    entry_first none =
        gone_entries (let_go m e.frame.0) (set m.entries i no_entry) (map (freed row) (set m.entries i no_entry)) (frames_of (set m.entries i no_entry) row)
        ∙ ap (λ t. with_entries (all_gone (frames_of (set m.entries i no_entry) row) (let_go m e.frame.0)) t) (freed_set row m.entries i mine)
        ∙ ap (λ fs. with_entries (all_gone fs m) (map (freed row) m.entries)) (sym (frames_next row m.entries i none inside mine))

pub entry_goes :
    (m : Machine) (row i : ℕ) (x : Entry)
    → x ≡ get_or m.entries i no_entry
    → i < length m.entries
    → x.owner ≡ row + 1
    → (n : Machine)
    → LetsGo m x.frame.0 n
    → (o : Machine) (z : Entry)
    → z ≡ no_entry
    → o ≡ with_entries n (set n.entries i z)
    → EntryGone m row i o
unfolding entry_left entry_dropped
entry_goes m row i x read inside own n gone o z none put a =
    put
    ∙ ap (λ (y : Entry). with_entries n (set n.entries i y)) none
    ∙ ap (λ (k : Machine). with_entries k (set k.entries i no_entry)) went
    ∙ ap (λ t. with_entries (let_go m (e m row i).frame.0) (set t i no_entry)) (let_go_kept m (e m row i).frame.0)
    ∙ sym (ap (λ (b : Bool). cond b (entry_dropped m i) m) mine)
  where
    mine : owned_by row (get_or m.entries i no_entry) ≡ true
    mine = ap (λ (y : Entry). owned_by row y) (sym read) ∙ eq-eqb x.owner (row + 1) own

    went : n ≡ let_go m (get_or m.entries i no_entry).frame.0
    went = subst (λ (y : Entry). LetsGo m y.frame.0 n) read gone a.ready (entry_used m row i mine inside a)

pub entry_stays : (m : Machine) (row i : ℕ) (x : Entry) → x ≡ get_or m.entries i no_entry → (x.owner ≡ row + 1 → ⊥) → EntryGone m row i m
unfolding entry_left
entry_stays m row i x read other a = sym (ap (λ (b : Bool). cond b (entry_dropped m i) m) (ap (λ (y : Entry). owned_by row y) (sym read) ∙ ne_eqb x.owner (row + 1) other))

-- of m the region's entries below row i are dropped: none of them is left, and dropping the rest would come to the same
pub record Passing (m n : Machine) (row i : ℕ) : Type 0 where
  pub accounted : Accounted n
  pub rest : entries_dropped n row ≡ entries_dropped m row
  pub none : (j : ℕ) → j < i → owned_by row (get_or n.entries j no_entry) ≡ false

abbrev pub Dropping : List ℕ → ℕ → List ℕ → ℕ → Type 0
Dropping w row v i = (i ≤ 512) × ((length v ≡ length w) × (Accounted (machine w) → Passing (machine w) (machine v) row i))

pub drop_first : (w : List ℕ) (row : ℕ) → Dropping w row w 0
drop_first w row = (omega arith, (refl, λ a. record { accounted = a; rest = refl; none = λ j h. absurd (not-suc-le-zero h) }))

passing_next : (m n : Machine) (row i : ℕ) → i < length n.entries → Passing m n row i → Passing m (entry_left n row i) row (i + 1)
unfolding entry_left entry_dropped
passing_next m n row i inside s = go (owned_by row (get_or n.entries i no_entry)) refl
  where
    passed : (l : List Entry) → ((j : ℕ) → j < i → owned_by row (get_or l j no_entry) ≡ false) → owned_by row (get_or l i no_entry) ≡ false → (j : ℕ) → j < i + 1 → owned_by row (get_or l j no_entry) ≡ false
    passed l below here j h = pick (ℕ_discrete j i)
      where
        pick : Dec (j ≡ i) → owned_by row (get_or l j no_entry) ≡ false
        pick (yes p) = ap (λ (k : ℕ). owned_by row (get_or l k no_entry)) p ∙ here
        pick (no p) = below j (omega arith)

    go : (b : Bool) → owned_by row (get_or n.entries i no_entry) ≡ b → Passing m (cond b (entry_dropped n i) n) row (i + 1)
    go false q = record { accounted = s.accounted; rest = s.rest; none = passed n.entries s.none q }
    go true q =
        record {
          accounted = entry_accounted n row i q inside s.accounted;
          rest = entry_first n row i q inside s.none ∙ s.rest;
          none = passed (entry_dropped n i).entries before here;
        }
      where
        before : (j : ℕ) → j < i → owned_by row (get_or (entry_dropped n i).entries j no_entry) ≡ false
        before j h = ap (λ (y : Entry). owned_by row y) (get_or-set_other n.entries i j no_entry no_entry (λ z. omega arith)) ∙ s.none j h

        here : owned_by row (get_or (entry_dropped n i).entries i no_entry) ≡ false
        here = ap (λ (y : Entry). owned_by row y) (get_or-set_same n.entries i no_entry no_entry inside) ∙ free_not_owned row

pub drop_more : (w : List ℕ) (row : ℕ) (v : List ℕ) (i : ℕ) → Dropping w row v i → i < 512 → (u : List ℕ) → length u ≡ length v → EntryGone (machine v) row i (machine u) → Dropping w row u (i + 1)
drop_more w row v i s h u long step = (omega arith, (long ∙ s.1.0, λ a. let p = s.1.1 a in subst (λ (n : Machine). Passing (machine w) n row (i + 1)) (sym (step p.accounted)) (passing_next (machine w) (machine v) row i (rw entries_length h) p)))

pub drop_all : (w : List ℕ) (row : ℕ) (v : List ℕ) (i : ℕ) → Dropping w row v i → 512 ≤ i → EntriesGone (machine w) row (machine v)
unfolding entries_dropped each
drop_all w row v i s h a = (p.accounted, sym nothing ∙ p.rest)
  where
    p : Passing (machine w) (machine v) row i
    p = s.1.1 a

    left : (frames_of (machine v).entries row ≡ []) × (map (freed row) (machine v).entries ≡ (machine v).entries)
    left = none_owned row (machine v).entries (λ j k. p.none j (let size = entries_length v in omega arith))

    nothing : entries_dropped (machine v) row ≡ machine v
    nothing = λ t. with_entries (all_gone (left.0 t) (machine v)) (left.1 t)
