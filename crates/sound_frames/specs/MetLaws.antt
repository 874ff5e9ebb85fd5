-- What the code tests and keeps of a row: one law a way.
use Rattle.std.specs.Prelude.{◌≡◌, ◌≢◌, true, false, ◌&&◌, ℕ, ◌+◌, ◌-◌, ◌≤◌, ◌<◌, eqb, leb}
use Rattle.std.proofs.Common.{arith}
use Rattle.std.proofs.Math.Decide.{ℕ_discrete}
use borrow.Author.Tests.{eq-eqb, ne_eqb, lt-ltb, le-ltb, le-leb, lt-leb}
use Rattle.laws.specs.Tells.{Tells}
use Rattle.laws.specs.TellsLaws.{tells_same, tells_both}
use Rattle.model.specs.declared.Pool.{Pool}
use Rattle.laws.specs.TestLaws.{tells_unless, tells_eq, tells_le, tells_as}
use Rattle.sound_frames.specs.declared.backings.Met.{Met}
use Rattle.sound_frames.specs.Met.{may_start, with_free, with_row}

module _ (end f len count : ℕ) where
  pub none_starts : len ≡ 0 → true ≡ may_start end f len count
  none_starts p = rw (eq-eqb len 0 p)

  module _ (some : len ≢ 0) where
    pub starts_early : f < end → false ≡ may_start end f len count
    starts_early h = rw (ne_eqb len 0 some, lt-leb end f h)

    module _ (past : end ≤ f) where
      pub starts_outside : count < f → false ≡ may_start end f len count
      starts_outside h = let l : count < f + len = omega arith in rw (ne_eqb len 0 some, le-leb end f past, lt-leb (f + len) count l)

      pub ends_within : f ≤ count → leb len (count - f) ≡ may_start end f len count
      ends_within h = rw (ne_eqb len 0 some, le-leb end f past) (tells_same (tells_as (λ l. omega arith) (λ l. omega arith) (tells_le len (count - f))) (tells_le (f + len) count))

-- what a row that may start tells
pub may_start_tells : (end f len count : ℕ) → Tells (may_start end f len count) (len ≢ 0 → (end ≤ f) × (f + len ≤ count))
may_start_tells end f len count = tells_unless (tells_eq len 0) (tells_both (tells_le end f) (tells_le (f + len) count))

-- a backing that may start is no longer than the frames
pub may_bounded : (end f len count : ℕ) → may_start end f len count ≡ true → count ≤ 256 → len ≤ 256
may_bounded end f len count p few = go (ℕ_discrete len 0)
  where
    go : Dec (len ≡ 0) → len ≤ 256
    go (yes z) = omega arith
    go (no z) = let q = ((may_start_tells end f len count).yes p z).1 in omega arith

module _ (f : ℕ) (s : Met) where
  pub first_free : s.free ≡ 0 → ◌≡◌ {A = Met} (record { end = s.end; free = 1; next = f }) (with_free f s)
  unfolding with_free
  first_free p = rw (eq-eqb s.free 0 p, p)

  pub more_free : s.free ≢ 0 → ◌≡◌ {A = Met} (record { end = s.end; free = s.free + 1; next = s.next }) (with_free f s)
  unfolding with_free
  more_free n = rw (ne_eqb s.free 0 n)

module _ (count f len : ℕ) (s : Met) where
  pub with_backing : len ≢ 0 → ◌≡◌ {A = Met} (record { end = f + len; free = s.free; next = s.next }) (with_row count f len s)
  unfolding with_row
  with_backing n = rw (ne_eqb len 0 n)

  module _ (none : len ≡ 0) where
    pub with_covered : f < s.end → s ≡ with_row count f len s
    unfolding with_row
    with_covered h = rw (eq-eqb len 0 none, lt-leb s.end f h)

    pub with_past : s.end ≤ f → count ≤ f → s ≡ with_row count f len s
    unfolding with_row
    with_past l h = rw (eq-eqb len 0 none, le-leb s.end f l, le-ltb f count h)

    pub with_frame : s.end ≤ f → f < count → with_free f s ≡ with_row count f len s
    unfolding with_row
    with_frame l h = rw (eq-eqb len 0 none, le-leb s.end f l, lt-ltb f count h)

module _ (free next : ℕ) (q : Pool) where
  pub same_free : q.free ≡ free → eqb q.next.0 next ≡ (eqb q.free free && eqb q.next.0 next)
  same_free p = rw (eq-eqb q.free free p)

  pub other_free : q.free ≢ free → false ≡ (eqb q.free free && eqb q.next.0 next)
  other_free p = rw (ne_eqb q.free free p)
