-- A backing with one holder backs one page of one region; a shared one backs no private page.
use Rattle.std.specs.Prelude.{◌≡◌, ◌≢◌, true, ℕ, ◌+◌, ◌-◌, ◌/◌, ◌≤◌, ◌<◌, length, set, leb, ltb, Some}
use Rattle.std.proofs.Math.Path.{refl}
use Rattle.std.proofs.Common.{ap, sym, subst, ◌∙◌, inl, inr, arith, get_or-set_other, eq-eqb, ne_eqb, leb-true, ltb-true}
use Rattle.std.proofs.Math.Decide.{ℕ_discrete}
use Rattle.model.specs.declared.Region.{Region}
use Rattle.model.specs.declared.Entry.{Entry}
use Rattle.model.specs.declared.Backing.{Backing}
use Rattle.model.specs.declared.Backed.TheVariants as by
use Rattle.model.specs.Machine.{Machine, with_entries, with_regions, region_at, row_of, no_entry, no_region}
use Rattle.model.specs.Lookup.{contains, is_shared}
use Rattle.laws.specs.BoolLaws.{both_true}
use Rattle.model.specs.Paging.{page_start}
use Rattle.model.specs.Backing.{backing, backing_at, entry_for}
use Rattle.model.specs.Create.{one}
use Rattle.model.specs.Sound.{Used, Hold, holders_of}
use Rattle.laws.specs.SetLaws.{row_there}
use Rattle.keeping.specs.Owing.{Owing, Backs, Holds, row_at, entry_at, nothing}
use Rattle.model.specs.HolderLaws.{weight_free, weight_taken}
use Rattle.model.specs.Holders.{entry_hold, range_hold, weight, entry_taken, range_taken, one_if}
use Rattle.keeping.specs.BacksLaws.{source_of, entry_found}
use Rattle.keeping.specs.HomesLaws.{held_some}
use Rattle.keeping.specs.EntriesKept.{entry_on, entry_counts}
use Rattle.keeping.specs.SlotsKept.{row_counts}
use Rattle.isolation.specs.Statements.{Alone, OwnPage}
use Rattle.isolation.specs.BackingsApart.{backings_apart}

module _ {d : ℕ → ℕ} (m : Machine) (o : Owing d m) where
  -- a page's frame lies in its backing
  pub in_base : (row pg base fr : ℕ) → Backs m row pg base fr → (base ≤ fr) × (fr < base + (backing_at m base).len)
  in_base row pg base fr (inl b) =
      let own = b.owner in
      let k = ((o.entries b.at).used (λ e. omega arith)).frame in
      let same = ap (λ (f : ℕ). (backing_at m f).len) b.start in
      let f = b.frame in
      (omega arith, omega arith)
  in_base row pg base fr (inr b) = let f = b.frame in let w = b.within in (omega arith, omega arith)

  -- .. and in no other
  pub same_base : (i j pg qg base bass fr : ℕ) → Backs m i pg base fr → Backs m j qg bass fr → base ≡ bass
  same_base i j pg qg base bass fr a b = let u = in_base i pg base fr a in let v = in_base j qg bass fr b in backings_apart m o base bass fr u.0 u.1 v.0 v.1

  -- two holders are two
  entry_there : (i : ℕ) → (entry_at m i).owner ≢ 0 → i < length m.entries
  entry_there i u = row_there m.entries no_entry i (λ e. u (ap (λ (x : Entry). x.owner) e))

  heavy : (i f : ℕ) → (entry_at m i).owner ≢ 0 → (entry_at m i).frame.0 ≡ f → weight entry_taken entry_hold f (entry_at m i) ≡ 1
  heavy i f u e = weight_taken f (entry_at m i) u ∙ ap one_if (eq-eqb (entry_at m i).frame.0 f e)

  -- .. an entry and another hold
  pub two_entry : (i f : ℕ) → (entry_at m i).owner ≢ 0 → (entry_at m i).frame.0 ≡ f → (h : Hold) → Holds (with_entries m (set m.entries i no_entry)) h → h.frame ≡ f → 2 ≤ holders_of m f
  two_entry i f u e h k z =
      let c = entry_counts m i no_entry (entry_there i u) f in
      let a = heavy i f u e in
      let b = weight_free f no_entry refl in
      let s = held_some (with_entries m (set m.entries i no_entry)) f h k z in
      omega arith

  pub two_range : (i f : ℕ) → Used (row_at m i) → (row_at m i).ranged ≡ 1 → (row_at m i).range.0 ≡ f → (h : Hold) → Holds (with_regions m (set m.regions i no_region)) h → h.frame ≡ f → 2 ≤ holders_of m f
  two_range i f u r e h k z =
      let c = row_counts m i (row_there m.regions no_region i (λ x. u (ap (λ (y : Region). y.kind) x))) no_region f in
      let a : weight range_taken range_hold f (row_at m i) ≡ 1 = rw (ne_eqb (row_at m i).kind 0 u, eq-eqb (row_at m i).ranged 1 r, eq-eqb (row_at m i).range.0 f e) refl in
      let s = held_some (with_regions m (set m.regions i no_region)) f h k z in
      omega arith

  owned : (i row : ℕ) → (entry_at m i).owner ≡ row + 1 → (entry_at m i).owner ≢ 0
  owned i row e z = omega arith

-- the one holder of a backing: an entry, so that no other entry and no range is
module _ (m : Machine) (o : Owing nothing m) (base : ℕ) (lone : (backing_at m base).holders ≡ 1) where
  one_holder : 2 ≤ holders_of m base → ⊥
  one_holder h = let c = o.counted base in omega arith

  pub no_entry_else : (i j : ℕ) → (entry_at m i).owner ≢ 0 → (entry_at m i).frame.0 ≡ base → i ≢ j → (entry_at m j).owner ≢ 0 → (entry_at m j).frame.0 ≢ base
  no_entry_else i j u e z v f =
      let same : entry_at (with_entries m (set m.entries i no_entry)) j ≡ entry_at m j = get_or-set_other m.entries i j no_entry no_entry (λ y. z (sym y)) in
      let there : Holds (with_entries m (set m.entries i no_entry)) (entry_hold (entry_at m j)) = inl (record { row = j; taken = λ y. v (ap (λ (k : Entry). k.owner) (sym same) ∙ y); is = ap entry_hold (sym same) }) in
      one_holder (two_entry m o i base u e (entry_hold (entry_at m j)) there f)

  pub no_range_else : (i j : ℕ) → (entry_at m i).owner ≢ 0 → (entry_at m i).frame.0 ≡ base → Used (row_at m j) → (row_at m j).ranged ≡ 1 → (row_at m j).range.0 ≢ base
  no_range_else i j u e v r f = one_holder (two_entry m o i base u e (range_hold (row_at m j)) (inr (record { row = j; taken = v; ranged = r; is = refl })) f)

  -- .. or a range, so that no other range is
  no_second_range : (i j : ℕ) → Used (row_at m i) → (row_at m i).ranged ≡ 1 → (row_at m i).range.0 ≡ base → i ≢ j → Used (row_at m j) → (row_at m j).ranged ≡ 1 → (row_at m j).range.0 ≢ base
  no_second_range i j u r e z v s f =
      let same : row_at (with_regions m (set m.regions i no_region)) j ≡ row_at m j = get_or-set_other m.regions i j no_region no_region (λ y. z (sym y)) in
      let there : Holds (with_regions m (set m.regions i no_region)) (range_hold (row_at m j)) = inr (record { row = j; taken = λ y. v (ap (λ (k : Region). k.kind) (sym same) ∙ y); ranged = ap (λ (k : Region). k.ranged) same ∙ s; is = ap range_hold (sym same) }) in
      one_holder (two_range m o i base u r e (range_hold (row_at m j)) there f)

  -- the pages of a region do not start before it
  starts : (row pg : ℕ) → contains (row_at m row) (page_start pg) ≡ true → (row_at m row).start.0 / 4096 ≤ pg
  starts row pg e =
      let b = both_true (leb (row_at m row).start.0 (page_start pg)) (ltb (page_start pg) ((row_at m row).start.0 + (row_at m row).size)) e in
      let l = leb-true (row_at m row).start.0 (page_start pg) b.0 in
      omega arith

  -- two pages with a frame of it are one page
  pub alone : (i j pg qg fr : ℕ) → Used (row_at m i) → Used (row_at m j) → contains (row_at m i) (page_start pg) ≡ true → contains (row_at m j) (page_start qg) ≡ true → Backs m i pg base fr → Backs m j qg base fr → (i ≡ j) × (pg ≡ qg)
  alone i j pg qg fr u v x y (inl a) (inl b) = go (ℕ_discrete a.at b.at)
    where
      go : Dec (a.at ≡ b.at) → (i ≡ j) × (pg ≡ qg)
      go (yes z) =
          let p = a.owner in
          let q = b.owner in
          let e : (entry_at m a.at).owner ≡ (entry_at m b.at).owner = ap (λ (k : ℕ). (entry_at m k).owner) z in
          (omega arith, sym a.page ∙ ap (λ (k : ℕ). (entry_at m k).page.0) z ∙ b.page)
      go (no z) = absurd (no_entry_else a.at b.at (owned m o a.at i a.owner) a.start z (owned m o b.at j b.owner) b.start)
  alone i j pg qg fr u v x y (inl a) (inr b) = absurd (no_range_else a.at j (owned m o a.at i a.owner) a.start v b.ranged b.start)
  alone i j pg qg fr u v x y (inr a) (inl b) = absurd (no_range_else b.at i (owned m o b.at j b.owner) b.start u a.ranged a.start)
  alone i j pg qg fr u v x y (inr a) (inr b) = go (ℕ_discrete i j)
    where
      go : Dec (i ≡ j) → (i ≡ j) × (pg ≡ qg)
      go (yes z) =
          let f = a.frame in
          let g = b.frame in
          let e : (row_at m i).start.0 ≡ (row_at m j).start.0 = ap (λ (k : ℕ). (row_at m k).start.0) z in
          let p = starts i pg x in
          let q = starts j qg y in
          (z, omega arith)
      go (no z) = absurd (no_second_range i j u a.ranged a.start z v b.ranged b.start)

-- what a Shared region holds no private page holds
module _ {d : ℕ → ℕ} (m : Machine) (o : Owing d m) (i j pg qg base fr gr : ℕ) (used : Used (row_at m j)) (shared : (row_at m i).kind ≡ 3) (private : (row_at m j).kind ≢ 3) where
  shared_used : Used (row_at m i)
  shared_used z = omega arith

  -- a range of the Shared region, and another hold of its backing, which then is Shared too
  held : (x : Hold) → (row_at m i).ranged ≡ 1 → (row_at m i).range.0 ≡ base → Holds m x → x.frame ≡ base → x.shared ≡ 1
  held x r start holds frame =
      let e = (o.one_page (range_hold (row_at m i)) x (inr (record { row = i; taken = shared_used; ranged = r; is = refl })) holds (start ∙ sym frame)).1 in
      sym e ∙ ap one (eq-eqb (row_at m i).kind 3 shared)

  pub shared_else : Backs m i pg base fr → Backs m j qg base gr → ⊥
  shared_else (inl a) b =
      let p = a.owner in
      let k = ((o.entries a.at).used (λ e. omega arith)).unshared in
      let same : (entry_at m a.at).owner - 1 ≡ i = omega arith in
      k (ap (λ (x : ℕ). (row_at m x).kind) same ∙ shared)
  shared_else (inr a) (inl b) =
      let p = b.owner in
      let e : ◌≡◌ {A = ℕ} 0 1 = held (entry_hold (entry_at m b.at)) a.ranged a.start (inl (record { row = b.at; taken = λ z. omega arith; is = refl })) b.start in
      omega arith
  shared_else (inr a) (inr b) =
      let e = held (range_hold (row_at m j)) a.ranged a.start (inr (record { row = j; taken = used; ranged = b.ranged; is = refl })) b.start in
      let t : one (is_shared (row_at m j)) ≡ 0 = ap one (ne_eqb (row_at m j).kind 3 private) in
      omega arith

-- ---- a frame with one holder is one page's

-- an entry of a page in a backing of one frame with one holder
pub record OwnEntry (m : Machine) (p slot pg : ℕ) : Type 0 where
  pub at : ℕ
  pub frame : ℕ
  pub is : entry_at m at ≡ entry_on (row_of p slot) pg frame
  pub single : backing_at m frame ≡ record { len = 1; holders = 1 }

module _ (m : Machine) (o : Owing nothing m) where
  -- a region in which an address lies is one in use
  contained_used : (row a : ℕ) → contains (row_at m row) a ≡ true → Used (row_at m row)
  contained_used row a e z = nowhere (subst (λ (r : Region). contains r a ≡ true) ((o.regions row).free z) e)
    where
      nowhere : contains no_region a ≡ true → ⊥
      nowhere h = let l = ltb-true a (0 + 0) (both_true (leb 0 a) (ltb a (0 + 0)) h).1 in omega arith

  pub lone_alone : (p slot pg base f : ℕ) → slot < 64 → contains (region_at m p slot) (page_start pg) ≡ true → Backs m (row_of p slot) pg base f → (backing_at m base).holders ≡ 1 → Alone m p slot pg f
  lone_alone p slot pg base f small inside backs one r other page low there e =
      let b = source_of m r other page f e in
      let same = same_base m o (row_of p slot) (row_of r other) pg page base b.base f backs b.backs in
      let theirs : Backs m (row_of r other) page base f = subst (λ (x : ℕ). Backs m (row_of r other) page x f) (sym same) b.backs in
      let k = alone m o base one (row_of p slot) (row_of r other) pg page f (contained_used (row_of p slot) (page_start pg) inside) (contained_used (row_of r other) (page_start page) there) inside there backs theirs in
      let rows = k.0 in
      (omega arith, (omega arith, sym k.1))

  -- an entry with a backing of one frame and one holder makes the page its region's own
  through_entry : (p slot pg i : ℕ) → entry_for m (row_of p slot) pg ≡ Some i → backing m p slot pg ≡ by.ByEntry i (entry_at m i).frame (backing_at m (entry_at m i).frame.0).holders
  unfolding backing
  through_entry p slot pg i e = rw e refl

  pub own_page : (p slot pg : ℕ) → slot < 64 → contains (region_at m p slot) (page_start pg) ≡ true → OwnEntry m p slot pg → OwnPage m p slot pg
  own_page p slot pg small inside k =
      let i = k.at in
      let f = k.frame in
      let owner : (entry_at m i).owner ≡ row_of p slot + 1 = ap (λ (e : Entry). e.owner) k.is in
      let page : (entry_at m i).page.0 ≡ pg = ap (λ (e : Entry). e.page.0) k.is in
      let frame : (entry_at m i).frame.0 ≡ f = ap (λ (e : Entry). e.frame.0) k.is in
      let holders : (backing_at m f).holders ≡ 1 = ap (λ (b : Backing). b.holders) k.single in
      let c = o.counted f in
      let there = through_entry p slot pg i (entry_found m p slot pg o.once_a_page f f i owner page) in
      record {
        entry = i;
        frame = record { 0 = f };
        backed = there ∙ ap (λ (e : Entry). by.ByEntry i e.frame (backing_at m e.frame.0).holders) k.is ∙ ap (λ (n : ℕ). by.ByEntry i (record { 0 = f }) n) holders;
        counted = omega arith;
        alone = lone_alone p slot pg f f small inside (inl (record { at = i; owner = owner; page = page; start = frame; frame = refl })) holders;
      }
