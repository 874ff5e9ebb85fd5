-- The parts of a region, field by field, and the tests with no sum that could be too large.
use Rattle.std.specs.Prelude.{◌≡◌, refl, Bool, true, false, ltb}
use Rattle.std.proofs.Math.Path.{ap}
use Rattle.std.proofs.Common.{sym, ◌∙◌, arith, ltb-true, ltb-false, lt-ltb, le-ltb, eq-eqb, ne_eqb}
use Prim.Native.Nat.{ℕ, ◌+◌, ◌-◌, ◌*◌, ◌≤◌, ◌<◌, min}
use Rattle.model.specs.declared.Region.{Region}
use Rattle.model.specs.Lookup.{is_file, span_end}
use Rattle.model.specs.Create.{one}
use Rattle.model.specs.Carve.{strictly_inside, low_part, high_part}

pub offset_file : (r : Region) (n : ℕ) → r.kind ≡ 2 → r.offset + n ≡ r.offset + one (is_file r) * n
offset_file r n e = let o : one (is_file r) ≡ 1 = ap one (eq-eqb r.kind 2 e) in rw o (omega arith)

pub offset_other : (r : Region) (n : ℕ) → (r.kind ≡ 2 → ⊥) → r.offset ≡ r.offset + one (is_file r) * n
offset_other r n e = let o : one (is_file r) ≡ 0 = ap one (ne_eqb r.kind 2 e) in rw o (omega arith)

pub not_inside : (r : Region) (b : ℕ) → b ≤ r.start.0 → false ≡ strictly_inside r b
not_inside r b h = rw (le-ltb r.start.0 b h) refl

pub inside_by : (r : Region) (b : ℕ) → r.start.0 < b → ltb (b - r.start.0) r.size ≡ strictly_inside r b
inside_by r b h = rw (lt-ltb r.start.0 b h) (go (ltb (b - r.start.0) r.size) refl)
  where
    go : (x : Bool) → ltb (b - r.start.0) r.size ≡ x → x ≡ ltb b (span_end r)
    go true e = let l = ltb-true (b - r.start.0) r.size e in sym (lt-ltb b (span_end r) (omega arith))
    go false e = let l = ltb-false (b - r.start.0) r.size e in sym (le-ltb b (span_end r) (omega arith))

module _ (r : Region) (at low : ℕ) (e : low ≡ at - r.start.0) where
  pub low_is : (len : ℕ) → len ≡ min r.length low → record { kind = r.kind; start = r.start; size = low; flags = r.flags; fork = r.fork; per_thread = r.per_thread; pins = r.pins; file = r.file; offset = r.offset; length = len; ranged = r.ranged; range = r.range } ≡ low_part r at
  unfolding low_part
  low_is len f = λ k. record { kind = r.kind; start = r.start; size = e k; flags = r.flags; fork = r.fork; per_thread = r.per_thread; pins = r.pins; file = r.file; offset = r.offset; length = (f ∙ ap (λ (n : ℕ). min r.length n) e) k; ranged = r.ranged; range = r.range }

  pub high_is : (size from len : ℕ) → size ≡ r.size - low → from ≡ r.offset + one (is_file r) * low → len ≡ r.length - low → record { kind = r.kind; start = record { 0 = at }; size = size; flags = r.flags; fork = r.fork; per_thread = r.per_thread; pins = r.pins; file = r.file; offset = from; length = len; ranged = r.ranged; range = r.range } ≡ high_part r at
  unfolding high_part
  high_is size from len f g h = λ k. record { kind = r.kind; start = record { 0 = at }; size = (f ∙ ap (λ (n : ℕ). r.size - n) e) k; flags = r.flags; fork = r.fork; per_thread = r.per_thread; pins = r.pins; file = r.file; offset = (g ∙ ap (λ (n : ℕ). r.offset + one (is_file r) * n) e) k; length = (h ∙ ap (λ (n : ℕ). r.length - n) e) k; ranged = r.ranged; range = r.range }
