-- A carriage return at a line's end, and the ways through gathering a line.
use Rattle.std.specs.Prelude.{◌≡◌, ℕ, ◌-◌, ◌<◌, ◌≤◌, Bool, true, false, cond, ◌&&◌, List, [], ◌∷◌, length, take, drop, ◌==◌, nat_eq, slice_index, refl}
use Rattle.std.specs.Cmp.Lexicographic.{pointwise}
use Rattle.std.proofs.Common.{suc, sym, ◌∙◌, true≢false, arith, drop_of_length-le, drop-cons}
use Rattle.std.proofs.Math.Seq.{take-length}
use borrow.Author.Tests.{ne_eqb, eqb-true, eqb-false, lt-ltb, le-ltb}
use Rattle.text.specs.declared.lines.Held.{Held}
use Rattle.text.specs.Lines.{without_return, Gathered}
use Rattle.text.specs.Write.{Put}
use Rattle.text.specs.WriteLaws.{up_to_end}

-- ---- a carriage return

module _ (s : List ℕ) where
  ends_with : (0 < length s) → pointwise nat_eq (drop (length s - 1) s) (13 ∷ []) ≡ (slice_index s (length s - 1) == 13)
  ends_with some =
      rw (drop-cons s (length s - 1) 0 (omega arith), drop_of_length-le s {i = suc (length s - 1)} (omega arith)) (go (slice_index s (length s - 1) == 13))
    where
      go : (t : Bool) → (t && true) ≡ t
      go true = refl
      go false = refl

  pub return_left : pointwise nat_eq (drop (length s - 1) s) (13 ∷ []) ≡ true → 0 < length s → without_return s ≡ length s - 1
  unfolding without_return
  return_left e some = rw (ne_eqb (length s) 0 (omega arith), sym (ends_with some) ∙ e)

  pub no_return : pointwise nat_eq (drop (length s - 1) s) (13 ∷ []) ≡ false → without_return s ≡ length s
  unfolding without_return
  no_return e = go (length s == 0) refl
    where
      go : (t : Bool) → (length s == 0) ≡ t → cond (length s == 0) 0 (cond (slice_index s (length s - 1) == 13) (length s - 1) (length s)) ≡ length s
      go true z = rw z (omega (arith, eqb-true (length s) 0 z))
      go false z = rw (z, sym (ends_with (omega (arith, eqb-false (length s) 0 z))) ∙ e)

  pub nothing_taken : pointwise nat_eq (drop (length s - 1) s) (13 ∷ []) ≡ false → take (without_return s) s ≡ s
  nothing_taken e = rw (no_return e) (take-length s)

-- ---- gathering

module _ (line : List ℕ) (held : Held) (part : List ℕ) (fits : held.len ≤ length line) where
  pub stays_long : held.long ≡ true → Gathered line held part line held
  stays_long e = record {
    is = rw e;
    within = fits;
    holds = λ f. absurd (true≢false (sym e ∙ f));
  }

  pub gets_long : held.long ≡ false → length line - held.len < length part
      → Gathered line held part line (record { len = held.len; long = true })
  gets_long e h = record {
    is = rw (e, lt-ltb (length line - held.len) (length part) h);
    within = fits;
    holds = λ f. absurd (true≢false f);
  }

  pub gathers : held.long ≡ false → length part ≤ length line - held.len → (new : List ℕ) (r : ℕ) → Put line held.len part new r
      → Gathered line held part new (record { len = r; long = false })
  gathers e h new r put = record {
    is = rw (e, le-ltb (length line - held.len) (length part) h, put.next);
    within = omega (arith, put.next);
    holds = λ _. up_to_end line held.len part (omega arith) new r put;
  }
