-- What backs a page, in two forms: the model's function and the relation.
use Rattle.std.specs.Prelude.{◌≡◌, refl, ◌≢◌, Bool, false, ◌&&◌, cond, ℕ, ◌+◌, ◌-◌, ◌/◌, ◌<◌, eqb, ltb, Option, Some, None}
use Rattle.std.proofs.Common.{ap, sym, subst, ◌∙◌, inl, inr, arith, eqb-true, eq-eqb, ltb-true, lt-ltb}
use Rattle.std.proofs.Math.Bool.{true, true≢false}
use Rattle.std.proofs.Math.Decide.{ℕ_discrete}
use Rattle.laws.specs.ResultLaws.{none_not_some, some_same}
use Rattle.laws.specs.Tells.{Tells}
use Rattle.laws.specs.TellsLaws.{told, not_told, tells_both}
use Rattle.address.specs.declared.PhysFrame.{PhysFrame}
use Rattle.model.specs.declared.Entry.{Entry}
use Rattle.model.specs.declared.Backed as backed
use Rattle.model.specs.declared.Backed.TheVariants as by
use Rattle.model.specs.Machine.{Machine, region_at, row_of, no_entry}
use Rattle.model.specs.Lookup.{is_ranged}
use Rattle.model.specs.Backing.{backing_at, backing, entry_for}
use Rattle.model.specs.Fault.{by_entry}
use Rattle.model.specs.Protect.{holders_by}
use Rattle.laws.specs.TestLaws.{tells_eq}
use Rattle.model.specs.Sound.{frame_by}
use Rattle.model.specs.FoundRowLaws.{first_found, first_missing, first_only, first_nowhere}
use Rattle.keeping.specs.Owing.{entry_at, Backs}

-- whether an entry is of a row and a page
abbrev pub entry_of : ℕ → ℕ → Entry → Bool
entry_of row page e = eqb e.owner (row + 1) && eqb e.page.0 page

pub tells_entry : (row page : ℕ) (e : Entry) → Tells (entry_of row page e) ((e.owner ≡ row + 1) × (e.page.0 ≡ page))
tells_entry row page e = tells_both (tells_eq _ _) (tells_eq _ _)

free_none : (row page : ℕ) → entry_of row page no_entry ≡ false
free_none row page = not_told (tells_entry row page no_entry) (λ p. let h = p.0 in omega arith)

-- the page entry if any, else the range (RULES B1)
abbrev by_range : Machine → ℕ → ℕ → ℕ → backed.Backed
by_range m p s page =
    cond (is_ranged (region_at m p s) && ltb (page - (region_at m p s).start.0 / 4096) (backing_at m (region_at m p s).range.0).len)
    (by.ByRange (record { 0 = (region_at m p s).range.0 + (page - (region_at m p s).start.0 / 4096) })
    (backing_at m (region_at m p s).range.0).holders) by.Unbacked

-- the entry that a search finds, or the range
abbrev by_found : Machine → ℕ → ℕ → ℕ → Option ℕ → backed.Backed
by_found m p s page (Some i) = by.ByEntry i (entry_at m i).frame (backing_at m (entry_at m i).frame.0).holders
by_found m p s page None = by_range m p s page

backing_is : (m : Machine) (p s page : ℕ) (f : Option ℕ) → entry_for m (row_of p s) page ≡ f → backing m p s page ≡ by_found m p s page f
unfolding backing
backing_is m p s page None e = rw e refl
backing_is m p s page (Some i) e = rw e refl

-- what backs a page, with its holders
pub record Source (m : Machine) (p s page fr : ℕ) : Type 0 where
  pub base : ℕ
  pub backs : Backs m (row_of p s) page base fr
  pub holders : holders_by (backing m p s page) ≡ (backing_at m base).holders

module _ (m : Machine) (p s page : ℕ) where
  found_entry : (i : ℕ) → entry_for m (row_of p s) page ≡ Some i → ((entry_at m i).owner ≡ row_of p s + 1) × ((entry_at m i).page.0 ≡ page)
  unfolding entry_for
  found_entry i e = (tells_entry (row_of p s) page (entry_at m i)).yes (first_found (entry_of (row_of p s) page) m.entries i no_entry e).1

  -- where none is found there is none
  pub no_entry_there : entry_for m (row_of p s) page ≡ None → (i : ℕ) → (entry_at m i).owner ≡ row_of p s + 1 → (entry_at m i).page.0 ≢ page
  unfolding entry_for
  no_entry_there e i a b =
      true≢false (sym (told (tells_entry (row_of p s) page (entry_at m i)) (a, b))
      ∙ first_missing (entry_of (row_of p s) page) no_entry (free_none (row_of p s) page) m.entries 0 e i)

  -- from the function
  pub source_of : (fr : ℕ) → frame_by (backing m p s page) ≡ Some fr → Source m p s page fr
  source_of fr e = go (entry_for m (row_of p s) page) refl
    where
      range : (b c : Bool) → is_ranged (region_at m p s) ≡ b → ltb (page - (region_at m p s).start.0 / 4096) (backing_at m (region_at m p s).range.0).len ≡ c
          → entry_for m (row_of p s) page ≡ None
          → backing m p s page ≡ cond (b && c) (by.ByRange (record { 0 = (region_at m p s).range.0 + (page - (region_at m p s).start.0 / 4096) })
          (backing_at m (region_at m p s).range.0).holders) by.Unbacked → Source m p s page fr
      range true true u v w k = record {
        base = (region_at m p s).range.0;
        backs = inr (record {
          none = no_entry_there w;
          ranged = eqb-true _ 1 u;
          start = refl;
          within = ltb-true _ _ v;
          frame = sym (some_same (ap frame_by (sym k) ∙ e));
        });
        holders = ap holders_by k;
      }
      range true false u v w k = absurd (none_not_some (ap frame_by (sym k) ∙ e))
      range false true u v w k = absurd (none_not_some (ap frame_by (sym k) ∙ e))
      range false false u v w k = absurd (none_not_some (ap frame_by (sym k) ∙ e))

      go : (f : Option ℕ) → entry_for m (row_of p s) page ≡ f → Source m p s page fr
      go (Some i) w =
          let k = backing_is m p s page (Some i) w in
          let t = found_entry i w in
          record {
            base = (entry_at m i).frame.0;
            backs = inl (record { at = i; owner = t.0; page = t.1; start = refl; frame = sym (some_same (ap frame_by (sym k) ∙ e)) });
            holders = ap holders_by k;
          }
      go None w = range _ _ refl refl w (backing_is m p s page None w)

  -- an entry that backs a page is one of the region and the page
  pub entry_of_backing : (i : ℕ) (f : PhysFrame) (n : ℕ) → backing m p s page ≡ by.ByEntry i f n
      → (((entry_at m i).owner ≡ row_of p s + 1) × ((entry_at m i).page.0 ≡ page)) × (f ≡ (entry_at m i).frame)
  entry_of_backing i f n e = go (entry_for m (row_of p s) page) refl
    where
      ranged : (b : Bool) (g : PhysFrame) (k : ℕ) → cond b (by.ByRange g k) by.Unbacked ≡ by.ByEntry i f n → ⊥
      ranged true g k q = let z : ◌≡◌ {A = ℕ} 0 1 = cc in omega arith
      ranged false g k q = let z : ◌≡◌ {A = ℕ} 0 1 = cc in omega arith

      go : (x : Option ℕ) → entry_for m (row_of p s) page ≡ x → (((entry_at m i).owner ≡ row_of p s + 1) × ((entry_at m i).page.0 ≡ page)) × (f ≡ (entry_at m i).frame)
      go (Some j) w =
          let k : by.ByEntry j (entry_at m j).frame (backing_at m (entry_at m j).frame.0).holders ≡ by.ByEntry i f n = sym (backing_is m p s page (Some j) w) ∙ e in
          let same : j ≡ i = cc in
          let frame : (entry_at m j).frame ≡ f = cc in (
            subst (λ (x : ℕ). ((entry_at m x).owner ≡ row_of p s + 1) × ((entry_at m x).page.0 ≡ page)) same (found_entry j w),
            sym frame ∙ ap (λ (x : ℕ). (entry_at m x).frame) same,
          )
      go None w = absurd (ranged (is_ranged (region_at m p s) && ltb (page - (region_at m p s).start.0 / 4096) (backing_at m (region_at m p s).range.0).len)
          (record { 0 = (region_at m p s).range.0 + (page - (region_at m p s).start.0 / 4096) }) (backing_at m (region_at m p s).range.0).holders
          (sym (backing_is m p s page None w) ∙ e))

  -- where no entry backs a page there is none
  pub none_of : by_entry (backing m p s page) ≡ false → (j : ℕ) → (entry_at m j).owner ≡ row_of p s + 1 → (entry_at m j).page.0 ≢ page
  none_of e = go (entry_for m (row_of p s) page) refl
    where
      go : (x : Option ℕ) → entry_for m (row_of p s) page ≡ x → (j : ℕ) → (entry_at m j).owner ≡ row_of p s + 1 → (entry_at m j).page.0 ≢ page
      go (Some j) w = absurd (true≢false (ap by_entry (sym (backing_is m p s page (Some j) w)) ∙ e))
      go None w = no_entry_there w

  -- to the function: of two entries of a region at most one is of the page
  module _ (once : (i j : ℕ) → i ≢ j → (entry_at m i).owner ≢ 0 → (entry_at m i).owner ≡ (entry_at m j).owner → (entry_at m i).page.0 ≢ (entry_at m j).page.0)
      (base fr : ℕ) where
    -- the one entry of a region and a page is the one that is found
    pub entry_found : (i : ℕ) → (entry_at m i).owner ≡ row_of p s + 1 → (entry_at m i).page.0 ≡ page → entry_for m (row_of p s) page ≡ Some i
    unfolding entry_for
    entry_found i a b =
        first_only (entry_of (row_of p s) page) no_entry (free_none (row_of p s) page) m.entries i
        (told (tells_entry (row_of p s) page (entry_at m i)) (a, b)) only
      where
        only : (j : ℕ) → entry_of (row_of p s) page (entry_at m j) ≡ true → j ≡ i
        only j q = go (ℕ_discrete j i)
          where
            t : ((entry_at m j).owner ≡ row_of p s + 1) × ((entry_at m j).page.0 ≡ page)
            t = (tells_entry (row_of p s) page (entry_at m j)).yes q

            go : Dec (j ≡ i) → j ≡ i
            go (yes z) = z
            go (no z) = absurd (once j i z (λ y. let o = t.0 in omega arith) (t.0 ∙ sym a) (t.1 ∙ sym b))

    none_found : ((i : ℕ) → (entry_at m i).owner ≡ row_of p s + 1 → (entry_at m i).page.0 ≢ page) → entry_for m (row_of p s) page ≡ None
    unfolding entry_for
    none_found n =
        first_nowhere (entry_of (row_of p s) page) no_entry m.entries (λ i. not_told (tells_entry (row_of p s) page (entry_at m i)) (λ t. n i t.0 t.1))

    -- what backs a page is what the function gives, with its holders
    pub backing_of : Backs m (row_of p s) page base fr → (frame_by (backing m p s page) ≡ Some fr) × (holders_by (backing m p s page) ≡ (backing_at m base).holders)
    backing_of (inl b) =
        let k = backing_is m p s page (Some b.at) (entry_found b.at b.owner b.page) in
        (ap frame_by k ∙ ap (λ (x : ℕ). Some x) (b.start ∙ sym b.frame), ap holders_by k ∙ ap (λ (x : ℕ). (backing_at m x).holders) b.start)
    backing_of (inr b) =
        let k = backing_is m p s page None (none_found b.none) in
        let u = eq-eqb (region_at m p s).ranged 1 b.ranged in
        let within = subst (λ (x : ℕ). page - (region_at m p s).start.0 / 4096 < (backing_at m x).len) (sym b.start) b.within in
        let v = lt-ltb (page - (region_at m p s).start.0 / 4096) (backing_at m (region_at m p s).range.0).len within in
        let w : by_range m p s page ≡ by.ByRange (record { 0 = (region_at m p s).range.0 + (page - (region_at m p s).start.0 / 4096) })
        (backing_at m (region_at m p s).range.0).holders = rw (u, v) refl in (
          ap frame_by (k ∙ w) ∙ ap (λ (x : ℕ). Some x) (ap (λ (x : ℕ). x + (page - (region_at m p s).start.0 / 4096)) b.start ∙ sym b.frame),
          ap holders_by (k ∙ w) ∙ ap (λ (x : ℕ). (backing_at m x).holders) b.start,
        )
