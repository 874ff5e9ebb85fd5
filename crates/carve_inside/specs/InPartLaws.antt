-- A region against a range, test by test, with no sum that could be too large.
use Rattle.std.specs.Prelude.{◌≡◌, refl, Bool, true, false, ◌&&◌, not, ℕ, ◌-◌, ◌≤◌, ◌<◌, ltb, leb}
use Rattle.std.proofs.Common.{ap, sym, ◌∙◌, arith, ltb-true, ltb-false, leb-true, leb-false, lt-ltb, le-ltb, le-leb}
use Rattle.std.proofs.lemmas.Bool.{lt-leb}
use Rattle.model.specs.declared.Region.{Region}
use Rattle.model.specs.Lookup.{overlaps, lies_inside, span_end}
use Rattle.carve_inside.specs.InPart.{in_part}

and_false : (b : Bool) → (b && false) ≡ false
and_false true = refl
and_false false = refl

and_true : (b : Bool) → (b && true) ≡ b
and_true true = refl
and_true false = refl

module _ (r : Region) (a e : ℕ) where
  pub over_past : e ≤ r.start.0 → false ≡ overlaps r a e
  over_past h = sym (ap (λ (b : Bool). ltb a (span_end r) && b) (le-ltb r.start.0 e h) ∙ and_false (ltb a (span_end r)))

  pub over_start : r.start.0 < e → a < r.start.0 → true ≡ overlaps r a e
  over_start h k = rw (lt-ltb a (span_end r) (omega arith), lt-ltb r.start.0 e h) refl

  pub over_by : r.start.0 < e → r.start.0 ≤ a → ltb (a - r.start.0) r.size ≡ overlaps r a e
  over_by h k = go (ltb (a - r.start.0) r.size) refl ∙ sym (and_true (ltb a (span_end r))) ∙ ap (λ (b : Bool). ltb a (span_end r) && b) (sym (lt-ltb r.start.0 e h))
    where
      go : (b : Bool) → ltb (a - r.start.0) r.size ≡ b → b ≡ ltb a (span_end r)
      go true p = let l = ltb-true (a - r.start.0) r.size p in sym (lt-ltb a (span_end r) (omega arith))
      go false p = let l = ltb-false (a - r.start.0) r.size p in sym (le-ltb a (span_end r) (omega arith))

  pub inside_low : r.start.0 < a → false ≡ lies_inside r a e
  inside_low h = rw (lt-leb a r.start.0 h) refl

  pub inside_high : a ≤ r.start.0 → e < r.start.0 → false ≡ lies_inside r a e
  inside_high h k = rw (le-leb a r.start.0 h, lt-leb (span_end r) e (omega arith)) refl

  pub inside_by : a ≤ r.start.0 → r.start.0 ≤ e → leb r.size (e - r.start.0) ≡ lies_inside r a e
  inside_by h k = rw (le-leb a r.start.0 h) (go (leb r.size (e - r.start.0)) refl)
    where
      go : (b : Bool) → leb r.size (e - r.start.0) ≡ b → b ≡ leb (span_end r) e
      go true p = let l = leb-true r.size (e - r.start.0) p in sym (le-leb (span_end r) e (omega arith))
      go false p = let l = leb-false r.size (e - r.start.0) p in sym (lt-leb (span_end r) e (omega arith))

  pub part_not : overlaps r a e ≡ false → false ≡ in_part r a e
  part_not h = ap (λ (b : Bool). b && not (lies_inside r a e)) (sym h)

  pub part_by : (b : Bool) → overlaps r a e ≡ true → b ≡ lies_inside r a e → not b ≡ in_part r a e
  part_by b h k = ap not k ∙ ap (λ (x : Bool). x && not (lies_inside r a e)) (sym h)
