-- Laws of `MappedTests`: the ways through the tests of one mapping: its flags, what an entry allows, what a range allows.
use Rattle.std.specs.Prelude.{◌≡◌, ◌≢◌, Bool, true, false, not, ◌||◌, ℕ, ◌+◌, ◌-◌, ◌*◌, ◌≤◌, ◌<◌, get_or, eqb, ltb, leb}
use Rattle.std.proofs.Common.{ap, sym, ◌∙◌, arith, ltb-true, leb-true, lt-ltb, le-ltb, eq-eqb, ne_eqb}
use Rattle.std.proofs.Math.Bool.{and-true}
use Rattle.laws.specs.BoolLaws.{both_true}
use Rattle.address.specs.Flags.{read_only}
use Rattle.model.specs.declared.Region.{Region}
use Rattle.model.specs.declared.Mapping.{Mapping}
use Rattle.model.specs.declared.Entry.{Entry}
use Rattle.model.specs.declared.Backing.{Backing}
use Rattle.model.specs.Machine.{Machine, no_region}
use Rattle.model.specs.Paging.{is_writable, all_four}
use Rattle.model.specs.Backing.{backing_at}
use Rattle.model.specs.SoundTest.{flaggedb}
use Rattle.lookup.specs.Backed.{pages_past}
use Rattle.sound_pages.specs.MappedFit.{allows, range_allows}
use Rattle.sound_pages.specs.MappedMarks.{of_process}
use Rattle.sound_pages.specs.MappedTests.{is_own}

module _ (own flags : ℕ) where
  pub own_flags : flags ≡ own → true ≡ is_own own flags
  own_flags e = rw (eq-eqb flags own e)

  pub not_own : flags ≢ own → (n : ℕ) → n ≡ read_only own → eqb flags n ≡ is_own own flags
  not_own d n e = rw (ne_eqb flags own d) (ap (λ (k : ℕ). eqb flags k) e)

module _ (r : Region) (flags holders : ℕ) where
  pub shared_flags : r.kind ≡ 3 → eqb flags all_four ≡ flaggedb r flags holders
  unfolding flaggedb
  shared_flags e = rw (eq-eqb r.kind 3 e)

  module _ (private : r.kind ≢ 3) where
    pub other_flags : is_own r.flags.0 flags ≡ false → false ≡ flaggedb r flags holders
    unfolding flaggedb
    other_flags e = rw (ne_eqb r.kind 3 private, e)

    pub writable_flags : is_own r.flags.0 flags ≡ true → is_writable flags ≡ true → eqb holders 1 ≡ flaggedb r flags holders
    unfolding flaggedb
    writable_flags e f = rw (ne_eqb r.kind 3 private, e, f) (sym (and-true (eqb holders 1)))

    pub fixed_flags : is_own r.flags.0 flags ≡ true → is_writable flags ≡ false → true ≡ flaggedb r flags holders
    unfolding flaggedb
    fixed_flags e f = rw (ne_eqb r.kind 3 private, e, f)

-- ---- an entry

module _ (p : ℕ) (e : Entry) where
  pub above_first : p * 64 < e.owner → leb e.owner (p * 64 + 64) ≡ of_process p e
  above_first h = rw (lt-ltb (p * 64) e.owner h)

  pub not_above : e.owner ≤ p * 64 → false ≡ of_process p e
  not_above h = rw (le-ltb (p * 64) e.owner h)

  -- its region has a row
  pub owner_row : p < 8 → of_process p e ≡ true → (1 ≤ e.owner) × (e.owner ≤ 512)
  owner_row h o =
      let b = both_true (ltb (p * 64) e.owner) (leb e.owner (p * 64 + 64)) o in
      let above = ltb-true (p * 64) e.owner b.0 in
      let most = leb-true e.owner (p * 64 + 64) b.1 in
      (omega arith, omega arith)

module _ (m : Machine) (e : Entry) (x : Mapping) where
  pub other_frame : e.frame.0 ≢ x.frame.0 → false ≡ allows m e x
  other_frame n = rw (ne_eqb e.frame.0 x.frame.0 n)

  pub same_frame : e.frame.0 ≡ x.frame.0 → (r : Region) → r ≡ get_or m.regions (e.owner - 1) no_region → (b : Backing) → b ≡ backing_at m e.frame.0 → flaggedb r x.flags.0 b.holders ≡ allows m e x
  same_frame f r own b read =
      rw (eq-eqb e.frame.0 x.frame.0 f) (ap (λ (y : Region). flaggedb y x.flags.0 b.holders) own ∙ ap (λ (y : Backing). flaggedb (get_or m.regions (e.owner - 1) no_region) x.flags.0 y.holders) read)

-- ---- a range

module _ (m : Machine) (r : Region) (x : Mapping) where
  pub unranged : r.ranged ≢ 1 → false ≡ range_allows m r x
  unranged n = rw (ne_eqb r.ranged 1 n)

  module _ (ranged : r.ranged ≡ 1) (b : Backing) (read : b ≡ backing_at m r.range.0) (n : ℕ) (past : n ≡ pages_past r x.page.0) where
    pub past_range : b.len ≤ n → false ≡ range_allows m r x
    past_range h = rw (eq-eqb r.ranged 1 ranged, le-ltb (pages_past r x.page.0) (backing_at m r.range.0).len out)
      where
        out : (backing_at m r.range.0).len ≤ pages_past r x.page.0
        out = let same = ap (λ (y : Backing). y.len) read in omega arith

    module _ (low : n < b.len) where
      inside : ltb (pages_past r x.page.0) (backing_at m r.range.0).len ≡ true
      inside = let same = ap (λ (y : Backing). y.len) read in lt-ltb (pages_past r x.page.0) (backing_at m r.range.0).len (omega arith)

      pub off_range : r.range.0 + n ≢ x.frame.0 → false ≡ range_allows m r x
      off_range d = rw (eq-eqb r.ranged 1 ranged, inside, ne_eqb (r.range.0 + pages_past r x.page.0) x.frame.0 (λ e. d (ap (λ (k : ℕ). r.range.0 + k) past ∙ e)))

      pub in_range : r.range.0 + n ≡ x.frame.0 → flaggedb r x.flags.0 b.holders ≡ range_allows m r x
      in_range e =
          rw (eq-eqb r.ranged 1 ranged, inside, eq-eqb (r.range.0 + pages_past r x.page.0) x.frame.0 (ap (λ (k : ℕ). r.range.0 + k) (sym past) ∙ e)) (ap (λ (y : Backing). flaggedb r x.flags.0 y.holders) read)

-- ---- a mark

module _ (mark : ℕ) (b : Bool) where
  pub mark_passes : mark ≢ 0 → true ≡ (not (eqb mark 0) || b)
  mark_passes n = rw (ne_eqb mark 0 n)

  pub unmarked_range : mark ≡ 0 → b ≡ (not (eqb mark 0) || b)
  unmarked_range e = rw (eq-eqb mark 0 e)
