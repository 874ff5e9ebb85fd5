-- Laws of `EntryRow`: a page entry's row, and where its page starts, counted in pages.
use Rattle.std.specs.Prelude.{◌≡◌, Bool, true, false, ◌&&◌, ℕ, ◌+◌, ◌-◌, ◌*◌, ◌%◌, ◌≤◌, ◌<◌, get_or, eqb, ltb}
use Rattle.std.proofs.Common.{sym, ◌∙◌, arith, ltb-true, lt-ltb, le-ltb, le-leb}
use Rattle.std.proofs.Math.Bool.{and_assoc}
use Rattle.std.proofs.lemmas.Bool.{lt-leb}
use Rattle.model.specs.declared.Region.{Region}
use Rattle.model.specs.declared.Entry.{Entry}
use Rattle.model.specs.Machine.{Machine, no_region}
use Rattle.model.specs.Lookup.{contains, pages_for}
use Rattle.model.specs.Paging.{page_start}
use Rattle.model.specs.Backing.{backing_at}
use Rattle.model.specs.SoundTest.{enteredb}
use Rattle.laws.specs.TestChainLaws.{fails, passes, instead}
use Rattle.sound_rows.specs.EntryRow.{takes_entry}

-- past the last row there is no owner
pub no_owner : (m : Machine) (e : Entry) → 512 < e.owner → false ≡ enteredb m e
unfolding enteredb
no_owner m e h = fails _ (lt-leb e.owner 512 h)

pub entered_by : (m : Machine) (e : Entry) → e.owner ≤ 512 → (x : Bool) → x ≡ (takes_entry (get_or m.regions (e.owner - 1) no_region) e.page.0 && eqb (backing_at m e.frame.0).len 1) → x ≡ enteredb m e
unfolding enteredb
entered_by m e h x p = passes (le-leb e.owner 512 h) (p ∙ simp and_assoc)

-- bytes of a region before its first page start
abbrev pub skipped : ℕ → ℕ
skipped start = (4096 - start % 4096) % 4096

first_start : (start : ℕ) → pages_for start * 4096 ≡ start + skipped start
first_start start = omega arith

module _ (r : Region) (page first : ℕ) (told : first ≡ pages_for r.start.0) where
  pub starts_before : page < first → false ≡ contains r (page_start page)
  starts_before h = fails _ (lt-leb r.start.0 (page * 4096) (omega arith))

  module _ (from : first ≤ page) where
    pub starts_nowhere : r.size ≤ skipped r.start.0 → false ≡ contains r (page_start page)
    starts_nowhere h =
        let f = first_start r.start.0 in
        passes (le-leb r.start.0 (page * 4096) (omega arith)) (sym (le-ltb (page * 4096) (r.start.0 + r.size) (omega arith)))

    pub starts_within : skipped r.start.0 < r.size → (n : ℕ) → n ≡ pages_for (r.size - skipped r.start.0) → ltb (page - first) n ≡ contains r (page_start page)
    starts_within h n e = passes (le-leb r.start.0 (page * 4096) (omega arith)) (instead inside rest)
      where
        inside : ltb (page - first) n ≡ true → ltb (page * 4096) (r.start.0 + r.size) ≡ true
        inside t =
            let l = ltb-true (page - first) n t in
            let f = first_start r.start.0 in
            lt-ltb (page * 4096) (r.start.0 + r.size) (omega arith)

        rest : ltb (page * 4096) (r.start.0 + r.size) ≡ true → ltb (page - first) n ≡ true
        rest t =
            let l = ltb-true (page * 4096) (r.start.0 + r.size) t in
            let f = first_start r.start.0 in
            lt-ltb (page - first) n (omega arith)
