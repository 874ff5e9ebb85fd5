-- R1: a segment's end compared with an address with no sum that could be too large, and slots apart from all later ones.
use Rattle.std.specs.Prelude.{◌≡◌, Bool, true, false, List, ℕ, ◌+◌, ◌-◌, ◌*◌, ◌/◌, ◌≤◌, ◌<◌, drop, leb}
use Rattle.std.proofs.Common.{sym, arith, leb-true, le-leb, eq-eqb, ne_eqb}
use Rattle.std.proofs.lemmas.Bool.{lt-leb}
use Rattle.laws.specs.TellsLaws.{tells_of, tells_same}
use Rattle.laws.specs.Lists.{all}
use Rattle.model.specs.Machine.{Machine}
use Rattle.laws.specs.Tests.{all_pairs, later}
use Rattle.laws.specs.TestLaws.{tells_le}
use Rattle.model.specs.declared.Process.{Process}
use Rattle.model.specs.declared.Region.{Region}
use Rattle.model.specs.Lookup.{segment_end, regions_of, is_used}
use Rattle.model.specs.SoundTest.{apartb}

-- R1 of one process
abbrev pub disjointb : Machine → ℕ → Process → Bool
disjointb m p q = all_pairs is_used apartb (regions_of m p)

-- a number of pages fits between two addresses
pub ends_past : (start n a : ℕ) → start ≤ a → leb n ((a - start) / 4096) ≡ leb (start + n * 4096) a
ends_past start n a h = tells_same (tells_of (leb n ((a - start) / 4096)) (λ e. let l = leb-true n ((a - start) / 4096) e in omega arith) (λ l. le-leb n ((a - start) / 4096) (omega arith))) (tells_le (start + n * 4096) a)

pub ends_before : (start n a : ℕ) → a < start → false ≡ leb (start + n * 4096) a
ends_before start n a h = sym (lt-leb (start + n * 4096) a (omega arith))

module _ (r x : Region) where
  pub apart_free : x.kind ≡ 0 → true ≡ apartb r x
  unfolding apartb
  apart_free e = rw (eq-eqb x.kind 0 e)

  pub apart_below : (x.kind ≡ 0 → ⊥) → leb (segment_end r) x.start.0 ≡ true → true ≡ apartb r x
  unfolding apartb
  apart_below n e = rw (ne_eqb x.kind 0 n, e)

  pub apart_above : (x.kind ≡ 0 → ⊥) → leb (segment_end r) x.start.0 ≡ false → leb (segment_end x) r.start.0 ≡ apartb r x
  unfolding apartb
  apart_above n e = rw (ne_eqb x.kind 0 n, e)

module _ (l : List Region) (s : ℕ) (r : Region) where
  -- a free slot is apart from all
  pub later_free : r.kind ≡ 0 → true ≡ later is_used apartb l s r
  later_free e = rw (eq-eqb r.kind 0 e)

  pub later_used : (r.kind ≡ 0 → ⊥) → all (apartb r) (drop (s + 1) l) ≡ later is_used apartb l s r
  later_used n = rw (ne_eqb r.kind 0 n)
