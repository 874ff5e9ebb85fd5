-- The page entries of a clone, one after the other: each holds the frame that the source's entry holds.
use Rattle.std.specs.Prelude.{◌≡◌, ◌≢◌, Bool, true, false, not, List, [], ◌∷◌, ℕ, ◌+◌, ◌≤◌, ◌<◌, length, set}
use Rattle.std.proofs.Math.Path.{refl, ap, sym}
use Rattle.std.proofs.Common.{subst, ◌∙◌, inl, inr, true≢false, get_or-set_same, eq-eqb}
use native.Mathlib.Omega.{arith}
use Rattle.std.proofs.Math.Decide.{ℕ_discrete}
use Rattle.std.proofs.Math.Seq.{get_or-set_other}
use Rattle.model.specs.declared.Entry.{Entry}
use Rattle.model.specs.declared.Backing.{Backing}
use Rattle.model.specs.declared.Region.{Region}
use Rattle.model.specs.declared.Mapping.{Mapping}
use Rattle.laws.specs.Lists.{each}
use Rattle.model.specs.Machine.{Machine, with_entries, with_regions, region_at, row_of, order_of, mapped_of, no_entry, no_region, no_backing}
use Rattle.model.specs.Lookup.{contains, free_entry, free_entries, row_found, is_found}
use Rattle.model.specs.Paging.{page_start, is_writable}
use Rattle.model.specs.Backing.{backing_at, hold, add_entry, with_backings}
use Rattle.model.specs.Clone.{Held, share_entry}
use Rattle.model.specs.Sound.{Used, Flagged, Hold, holders_of, Apart}
use Rattle.laws.specs.In.{In}
use Rattle.keeping.specs.Owing.{row_at, entry_at, Backs, Placed, Owing, Holds}
use Rattle.model.specs.HolderLaws.{weight_free, weight_taken, weight_ranged}
use Rattle.model.specs.Holders.{entry_hold, range_hold, one_if, weight, range_taken}
use Rattle.keeping.specs.OwingLaws.{taken_there, used_there}
use Rattle.model.specs.RuleUseLaws.{apart_alone}
use Rattle.keeping.specs.HomesLaws.{held_some}
use Rattle.keeping.specs.BackingsKept.{more, hold_kept}
use Rattle.model.specs.RuleUseLaws.{backing_there}
use Rattle.keeping.specs.SlotsKept.{row_counts}
use Rattle.keeping.specs.EntriesKept.{EntryNew, entry_on, entry_kept, free_row, entry_counts}
use Rattle.keeping.specs.ClonePagesLaws.{OncePages, EntryOf, entries_fewer, entry_left, fresh_put}

-- ---- a backing with one holder has no other

module _ (d : ℕ → ℕ) (m : Machine) (o : Owing d m) (f : ℕ) (lone : (backing_at m f).holders ≡ 1) where
  few : holders_of m f ≤ 1
  few = let a = o.counted f in omega arith

  -- an entry holds it: nothing else does
  module _ (i : ℕ) (taken : (entry_at m i).owner ≢ 0) (frame : (entry_at m i).frame.0 ≡ f) where
    abbrev without : Machine
    without = with_entries m (set m.entries i no_entry)

    there : i < length m.entries
    there = taken_there m i taken

    none_else : (h : Hold) → Holds without h → h.frame ≢ f
    none_else h k e =
        let a = entry_counts m i no_entry there f in
        let b = weight_taken f (entry_at m i) taken ∙ ap (λ (t : Bool). one_if t) (eq-eqb (entry_at m i).frame.0 f frame) in
        let c = weight_free f no_entry refl in
        let s = held_some without f h k e in
        let l = few in
        omega arith

    -- so what it backs is backed by that entry
    pub only_entry : (row pg base fr : ℕ) → Used (row_at m row) → Backs m row pg base fr → base ≡ f → row + 1 ≡ (entry_at m i).owner
    only_entry row pg base fr u (inl b) e = go (ℕ_discrete b.at i)
      where
        go : Dec (b.at ≡ i) → row + 1 ≡ (entry_at m i).owner
        go (yes z) = sym b.owner ∙ ap (λ (j : ℕ). (entry_at m j).owner) z
        go (no z) =
            let same = get_or-set_other m.entries i b.at no_entry no_entry z in
            absurd (none_else (entry_hold (entry_at without b.at))
            (inl (record { row = b.at; taken = λ y. let own = b.owner in let q = ap (λ (x : Entry). x.owner) same in omega arith; is = refl }))
            (ap (λ (x : Entry). x.frame.0) same ∙ b.start ∙ e))
    only_entry row pg base fr u (inr b) e =
        absurd (none_else (range_hold (row_at m row)) (inr (record { row = row; taken = u; ranged = b.ranged; is = refl })) (b.start ∙ e))

  -- a range is it: nothing else holds it
  module _ (at : ℕ) (taken : Used (row_at m at)) (ranged : (row_at m at).ranged ≡ 1) (frame : (row_at m at).range.0 ≡ f) where
    abbrev unranged : Machine
    unranged = with_regions m (set m.regions at no_region)

    in_table : at < length m.regions
    in_table = used_there m at taken

    no_other : (h : Hold) → Holds unranged h → h.frame ≢ f
    no_other h k e =
        let a = row_counts m at in_table no_region f in
        let b : weight range_taken range_hold f (row_at m at) ≡ 1 = weight_ranged f (row_at m at) taken ranged ∙ ap (λ (t : Bool). one_if t) (eq-eqb (row_at m at).range.0 f frame) in
        let s = held_some unranged f h k e in
        let l = few in
        omega arith

    -- so what it backs is backed by that range
    pub only_range : (row pg base fr : ℕ) → Used (row_at m row) → Backs m row pg base fr → base ≡ f → row ≡ at
    only_range row pg base fr u (inl b) e =
        absurd (no_other (entry_hold (entry_at m b.at)) (inl (record { row = b.at; taken = λ y. let own = b.owner in omega arith; is = refl }))
        (b.start ∙ e))
    only_range row pg base fr u (inr b) e = go (ℕ_discrete row at)
      where
        go : Dec (row ≡ at) → row ≡ at
        go (yes z) = z
        go (no z) =
            let same = get_or-set_other m.regions at row no_region no_region z in
            absurd
            (no_other (range_hold (row_at unranged row))
            (inr (record {
              row = row;
              taken = subst (λ (x : Region). Used x) (sym same) u;
              ranged = ap (λ (x : Region). x.ranged) same ∙ b.ranged;
              is = refl;
            })) (ap (λ (x : Region). x.range.0) same ∙ b.start ∙ e))

-- no mapping of the region at a row is writable, or there is none
abbrev pub Demoted : Machine → ℕ → Type 0
Demoted m row =
    (p : ℕ) → p < 8 → (x : Mapping) → In x (mapped_of m p) → (t : ℕ) → t < 64 → contains (region_at m p t) (page_start x.page.0) ≡ true → row_of p t ≡ row
    → is_writable x.flags.0 ≡ false

abbrev pub Bare : Machine → ℕ → Type 0
Bare m row =
    (p : ℕ) → p < 8 → (x : Mapping) → In x (mapped_of m p) → (t : ℕ) → t < 64 → contains (region_at m p t) (page_start x.page.0) ≡ true → row_of p t ≢ row

-- a region apart from all of its process has no mapped page yet
pub bare_new : (d : ℕ → ℕ) (m : Machine) → Owing d m → (q slot : ℕ) → q < 8 → slot < 64 → (r : Region)
    → ((t : ℕ) → t < 64 → Used (region_at m q t) → Apart r (region_at m q t)) → (n : Machine) → region_at n q slot ≡ r → ((p : ℕ) → mapped_of n p ≡ mapped_of m p)
    → Bare n (row_of q slot)
bare_new d m o q slot low small r apart n row mapped p h x i t less e same =
    let here : p ≡ q = omega arith in
    let k = o.mapped q low x (subst (λ (j : ℕ). In x (mapped_of m j)) here (subst (λ l. In x l) (mapped p) i)) in
    let lst = o.listed q k.slot low k.listed in
    let new = subst (λ (y : Region). contains y (page_start x.page.0) ≡ true) row (subst (λ (j : ℕ). contains (row_at n j) (page_start x.page.0) ≡ true) same e) in
    apart_alone r (region_at m q k.slot) (page_start x.page.0) (apart k.slot lst.0 lst.1) new k.inside

-- a holder more: mappings that could be writable are of the one holder
pub held_more : (r : Region) (fl h : ℕ) → Flagged r fl h → (r.kind ≢ 3 → is_writable fl ≡ true → h ≡ 1 → ⊥) → Flagged r fl (h + 1)
held_more r fl h k n = record { private = k.private; lone = λ z w. absurd (n z w (k.lone z w)); shared = k.shared }

-- ---- the loop

-- what the entries still to share need
pub record Sharing (d : ℕ → ℕ) (n : Machine) (src row : ℕ) (l : List Held) : Type 0 where
  pub owing : Owing d n
  pub low : row < 512
  pub other : src ≢ row
  pub used : Used (row_at n row)
  pub unshared : (h : Held) → In h l → (row_at n row).kind ≢ 3
  pub contained : (h : Held) → In h l → contains (row_at n row) (page_start h.page) ≡ true
  pub source : (h : Held) → In h l → EntryOf n.entries src h
  pub fresh : (h : Held) → In h l → (j : ℕ) → (entry_at n j).owner ≡ row + 1 → (entry_at n j).page.0 ≢ h.page
  pub once : OncePages l
  pub left : length l ≤ free_entries n
  pub demoted : (h : Held) → In h l → Demoted n src
  pub bare : Bare n row

module _ (d : ℕ → ℕ) (src row : ℕ) (h : Held) (l : List Held) (n : Machine) (k : Sharing d n src row (h ∷ l)) where
  from : EntryOf n.entries src h
  from = k.source h (inl refl)

  taken : (entry_at n from.at).owner ≢ 0
  taken z = let e = from.owner in omega arith

  one_frame : (backing_at n h.frame).len ≡ 1
  one_frame = subst (λ (f : ℕ). (backing_at n f).len ≡ 1) from.frame ((k.owing.entries from.at).used taken).frame

  used_frame : (backing_at n h.frame).len ≢ 0
  used_frame z = let e = one_frame in omega arith

  abbrev held : Machine
  held = hold n h.frame

  held_owing : Owing (more h.frame d) held
  held_owing = hold_kept d n k.owing h.frame used_frame one_more
    where
      of_source : (p : ℕ) → p < 8 → (x : Mapping) (q : Placed n p x) → q.base ≡ h.frame → (backing_at n h.frame).holders ≡ 1 → row_of p q.slot ≡ src
      of_source p low x q e one =
          let u = (k.owing.listed p q.slot low q.listed).1 in
          let s = only_entry d n k.owing h.frame one from.at taken from.frame (row_of p q.slot) x.page.0 q.base x.frame.0 u q.backed e in
          let own = from.owner in
          omega arith

      one_more : (p : ℕ) → p < 8 → (x : Mapping) → In x (mapped_of n p) → (q : Placed n p x) → q.base ≡ h.frame
          → Flagged (region_at n p q.slot) x.flags.0 ((backing_at n h.frame).holders + 1)
      one_more p low x i q e =
          let small = (k.owing.listed p q.slot low q.listed).0 in
          let before = subst (λ (j : ℕ). Flagged (region_at n p q.slot) x.flags.0 (backing_at n j).holders) e q.flagged in
          let demoted : (backing_at n h.frame).holders ≡ 1
          → is_writable x.flags.0 ≡ false = λ one. k.demoted h (inl refl) p low x i q.slot small q.inside (of_source p low x q e one) in
          held_more _ _ _ before (λ z w one. true≢false (sym w ∙ demoted one))

  some_left : not (is_found (free_entry n)) ≡ false
  some_left = let a = k.left in entry_left n (omega arith)

  abbrev i : ℕ
  i = row_found (free_entry n)

  entry_new : EntryNew held i row h.page h.frame
  unfolding hold with_backings order_of mapped_of
  entry_new = record {
    inside = (free_row n some_left).0;
    free = (free_row n some_left).1;
    low = k.low;
    used = k.used;
    unshared = k.unshared h (inl refl);
    contained = k.contained h (inl refl);
    none = k.fresh h (inl refl);
    frame = ap (λ (b : Backing). b.len) (get_or-set_same n.backings h.frame _ no_backing (backing_there n h.frame used_frame)) ∙ one_frame;
    agree = λ g q e. let t = k.owing.one_page g (entry_hold (entry_at n from.at)) q (inl (record { row = from.at; taken = taken; is = refl }))
        (e ∙ sym from.frame) in (t.0 ∙ from.page, t.1);
    unmapped = λ p low x j q e. absurd (k.bare p low x j q.slot (k.owing.listed p q.slot low q.listed).0 q.inside e);
  }

  abbrev next : Machine
  next = share_entry row h n

  next_owing : Owing d next
  unfolding share_entry add_entry hold with_backings free_entry
  next_owing = entry_kept d held i row h.page h.frame held_owing entry_new

  still : (j : ℕ) → (entry_at n j).owner ≢ 0 → entry_at next j ≡ entry_at n j
  unfolding share_entry add_entry hold with_backings free_entry
  still j u =
      get_or-set_other n.entries i j (entry_on row h.page h.frame) no_entry (λ z. u (ap (λ (x : ℕ). (entry_at n x).owner) z ∙ (free_row n some_left).1))

  source_still : (g : Held) → In g l → EntryOf next.entries src g
  source_still g j =
      let s = k.source g (inr j) in
      let same = still s.at (λ z. let e = s.owner in omega arith) in
      record {
        at = s.at;
        owner = ap (λ (x : Entry). x.owner) same ∙ s.owner;
        page = ap (λ (x : Entry). x.page.0) same ∙ s.page;
        frame = ap (λ (x : Entry). x.frame.0) same ∙ s.frame;
      }

  fresh_still : (g : Held) → In g l → (j : ℕ) → (entry_at next j).owner ≡ row + 1 → (entry_at next j).page.0 ≢ g.page
  unfolding share_entry add_entry hold with_backings free_entry
  fresh_still g q = fresh_put n.entries i row h.page h.frame (free_row n some_left).0 g.page (k.once.0 g q) (k.fresh g (inr q))

  left_still : length l ≤ free_entries next
  unfolding share_entry add_entry hold with_backings free_entry free_entries
  left_still =
      let a = entries_fewer n i (entry_on row h.page h.frame) (free_row n some_left).0 (free_row n some_left).1 (λ z. omega arith) in
      let b = k.left in
      omega arith

  shared_one : Sharing d next src row l
  unfolding share_entry add_entry hold with_backings order_of mapped_of
  shared_one = record {
    owing = next_owing;
    low = k.low;
    other = k.other;
    used = k.used;
    unshared = λ g j. k.unshared g (inr j);
    contained = λ g j. k.contained g (inr j);
    source = source_still;
    fresh = fresh_still;
    once = k.once.1;
    left = left_still;
    demoted = λ g j. k.demoted g (inr j);
    bare = k.bare;
  }

-- all of them
pub shared_all : (d : ℕ → ℕ) (src row : ℕ) (l : List Held) (n : Machine) → Sharing d n src row l → Owing d (each (share_entry row) l n)
unfolding each
shared_all d src row [] n k = k.owing
shared_all d src row (h ∷ l) n k = shared_all d src row l (share_entry row h n) (shared_one d src row h l n k)
