-- Page entries given to another row, one after the other.
use Rattle.std.specs.Prelude.{◌≡◌, refl, List, ◌++◌, map, ℕ, ◌+◌, ◌/◌, ◌≤◌, ◌<◌, length, get_or, set, take}
use Rattle.std.proofs.Math.Path.{ap}
use Rattle.std.proofs.Common.{sym, ◌∙◌, append-nil, arith, drop_of_length-le, eq-eqb, ne_eqb, le-leb}
use Rattle.std.proofs.lemmas.List.{map-append, length-map, set-get_or}
use Rattle.std.proofs.lemmas.List.Edits.{sets, sets-eq}
use Rattle.std.proofs.lemmas.Bool.{lt-leb}
use Rattle.model.specs.declared.Entry.{Entry}
use Rattle.model.specs.Machine.{Machine, no_entry, with_entries}
use Rattle.model.specs.Layout.{machine}
use Rattle.model.specs.Carve.{give_entries}
use Rattle.laws.specs.ListsLaws.{sets_after}
use Rattle.lookup.specs.LookupsLaws.{entries_length}
use Rattle.regions.specs.PickedLaws.{Picks, Picked, picked_first, front_more, picked_all}
use Rattle.split.specs.GivenEntries.{given}

module _ (m : Machine) (i owner page new : ℕ) (e : Entry) (read : e ≡ get_or m.entries i no_entry) where
  abbrev left : Entry → Machine
  left x = with_entries m (set m.entries i x)

  stays : given owner page new e ≡ e → m ≡ left (given owner page new (get_or m.entries i no_entry))
  stays s = ap (λ (l : List Entry). with_entries m l) (sym (ap (λ (x : Entry). set m.entries i x) (sym (ap (λ (x : Entry). given owner page new x) read) ∙ s ∙ read) ∙ set-get_or m.entries i no_entry))

  pub give_other : (e.owner ≡ owner → ⊥) → m ≡ left (given owner page new (get_or m.entries i no_entry))
  give_other n = stays (rw (ne_eqb e.owner owner n) refl)

  pub give_below : e.owner ≡ owner → e.page.0 < page → m ≡ left (given owner page new (get_or m.entries i no_entry))
  give_below o h = stays (rw (eq-eqb e.owner owner o, lt-leb page e.page.0 h) refl)

  pub give_one : e.owner ≡ owner → page ≤ e.page.0 → (n : Machine) → n ≡ left (record { owner = new; page = e.page; frame = e.frame }) → n ≡ left (given owner page new (get_or m.entries i no_entry))
  give_one o h n put = put ∙ ap (λ (x : Entry). left x) (sym (rw (eq-eqb e.owner owner o, le-leb page e.page.0 h) refl) ∙ ap (λ (x : Entry). given owner page new x) read)

-- ---- one after the other

maps : (f : Entry → Entry) → Picks (map f)
maps f = record { joins = map-append f; few = λ l. rw length-map (omega arith); none = refl }

-- a list put over one of the same length
pub sets_whole : {A : Type 0} (v l : List A) → length v ≡ length l → sets l 0 v ≡ v
sets_whole v l same = sets-eq v l 0 (omega arith) ∙ ap (λ t. v ++ t) (drop_of_length-le l {i = 0 + length v} (omega arith)) ∙ append-nil v

-- of the words w the first i entries are given
abbrev pub Given : List ℕ → ℕ → ℕ → ℕ → List ℕ → ℕ → Type 0
Given w row at new v i =
    Picked (map (given (row + 1) (at / 4096) (new + 1))) (machine w).entries 512 (machine w).entries 0 (machine v).entries i i
    × ((length v ≡ length w) × (machine v ≡ with_entries (machine w) (machine v).entries))

module _ (w : List ℕ) (row at new : ℕ) where
  abbrev f : Entry → Entry
  f = given (row + 1) (at / 4096) (new + 1)

  sized : 512 ≡ length (machine w).entries
  sized = sym (entries_length w)

  pub given_first : Given w row at new w 0
  given_first = (picked_first (map f) (maps f) (machine w).entries 512 sized (machine w).entries 0, (refl, refl))

  module _ (v : List ℕ) (i : ℕ) (s : Given w row at new v i) where
    pub given_more : i < 512 → (page : ℕ) → page ≡ at / 4096 → (u : List ℕ) → length u ≡ length v → machine u ≡ with_entries (machine v) (set (machine v).entries i (given (row + 1) page (new + 1) (get_or (machine v).entries i no_entry))) → Given w row at new u (i + 1)
    given_more h page paged u long by_page = (front_more (map f) (maps f) (machine w).entries 512 sized (machine w).entries (machine v).entries i i s.0 h no_entry x here (machine u).entries (i + 1) refl entries, (long ∙ s.1.0, table))
      where
        x : Entry
        x = get_or (machine v).entries i no_entry

        put : machine u ≡ with_entries (machine v) (set (machine v).entries i (f x))
        put = by_page ∙ ap (λ (n : ℕ). with_entries (machine v) (set (machine v).entries i (given (row + 1) n (new + 1) x))) paged

        fit : 0 + length (map f (take i (machine w).entries)) ≤ i
        fit = let e = s.0.1.0 in omega arith

        here : x ≡ get_or (machine w).entries i no_entry
        here = ap (λ l. get_or l i no_entry) s.0.1.1 ∙ sets_after (machine w).entries 0 (map f (take i (machine w).entries)) i no_entry fit

        entries : (machine u).entries ≡ set (machine v).entries i (f x)
        entries = ap (λ (m : Machine). m.entries) put

        table : machine u ≡ with_entries (machine w) (machine u).entries
        table = put ∙ ap (λ (m : Machine). with_entries m (set (machine v).entries i (f x))) s.1.1 ∙ ap (λ l. with_entries (machine w) l) (sym entries)

    pub given_all : 512 ≤ i → machine v ≡ give_entries (machine w) row at new
    unfolding give_entries
    given_all h =
        s.1.1
        ∙ ap (λ l. with_entries (machine w) l)
        ((picked_all (map f) (maps f) (machine w).entries 512 sized (machine w).entries 0 (machine v).entries i i s.0 h).1
        ∙ sets_whole (map f (machine w).entries) (machine w).entries (length-map (machine w).entries f))
