-- Reading a form, letter after letter.
use Rattle.std.specs.Prelude.{◌≡◌, List, ℕ, ◌+◌, ◌≤◌, ◌<◌, length, get_or, drop, Ok, Err}
use Rattle.std.proofs.Common.{drop_of_length-le, drop-cons}
use Rattle.std.proofs.Math.Numerals.{add-one}
use Rattle.call_text.specs.declared.asked.Fault.{Fault}
use Rattle.call_text.specs.declared.values.Values.{Values}
use Rattle.call_text.specs.Values.{with_operand, values_in}

-- ---- the loop: with the operands that are left, the values are the same

module _ (s : List ℕ) (form : List ℕ) (i : ℕ) (v : Values) where
  module _ (inside : i < length form) where
    pub values_more : (w : Values) → with_operand s v (get_or form i 0) ≡ Ok w → values_in s w (drop (i + 1) form) ≡ values_in s v (drop i form)
    unfolding values_in
    values_more w e = rw (drop-cons form i 0 inside, add-one i, e)

    pub values_fail : (fault : Fault) → with_operand s v (get_or form i 0) ≡ Err fault → Err fault ≡ values_in s v (drop i form)
    unfolding values_in
    values_fail fault e = rw (drop-cons form i 0 inside, e)

  pub values_end : length form ≤ i → Ok v ≡ values_in s v (drop i form)
  unfolding values_in
  values_end h = rw (drop_of_length-le form h)
