-- The ways from a line to what it asks for.
use Rattle.std.specs.Prelude.{◌≡◌, Bool, List, ℕ, ◌-◌, ◌≤◌, get_or, take, Option, Result}
use Rattle.std.proofs.Math.Path.{refl, sym, ap}
use Rattle.std.proofs.Common.{take-take, ap, ◌∙◌, ◌∙◌, arith}
use Rattle.std.proofs.Math.Bool.{true, false, cond}
use Rattle.std.proofs.Math.Dec.{ltb}
use Rattle.std.proofs.Math.ListN.{get_or-eq_default}
use borrow.Author.Tests.{ltb-false}
use Rattle.model.specs.declared.Call.{Call}
use Rattle.text.specs.declared.lines.Held.{Held}
use Rattle.text.specs.declared.words.Word.{Word}
use Rattle.text.specs.Lines.{without_return}
use Rattle.call_words.specs.CallOf.{call_of}
use Rattle.call_text.specs.declared.asked.Asked.{Asked}
use Rattle.call_text.specs.declared.asked.Asked.TheVariants as asked
use Rattle.call_text.specs.declared.asked.Fault.{Fault}
use Rattle.call_text.specs.declared.asked.Why.TheVariants as why
use Rattle.call_text.specs.Faults.{whole_fault}
use Rattle.call_text.specs.Parse.{machine_of, number_of, others, asked_of, call_in, held_call, told}
use Rattle.call_text.specs.WordListLaws.{Missed, past}

-- ---- what values ask for

module _ (name : Word) (v : List ℕ) (place : ℕ) (r : Result Asked Fault) where
  pub asked_machine : Missed 4 9 place → (n : ℕ) → n ≡ number_of place → (q : Option Call) → q ≡ call_of n v → r ≡ machine_of name q → r ≡ asked_of name place v
  unfolding asked_of
  asked_machine m n e q p t = t ∙ ap (machine_of name) (p ∙ ap (λ (x : ℕ). call_of x v) e) ∙ go (ltb place 4) refl
    where
      go : (b : Bool) → ltb place 4 ≡ b
          → machine_of name (call_of (number_of place) v)
          ≡ cond b (machine_of name (call_of (number_of place) v)) (get_or (others (get_or v 0 0) (get_or v 1 0) (get_or v 2 0)) (place - 4) (machine_of name (call_of (number_of place) v)))
      go true h = refl
      go false h =
          let l = past 4 9 place (ltb-false place 4 h) m in
          sym (get_or-eq_default (others (get_or v 0 0) (get_or v 1 0) (get_or v 2 0)) (machine_of name (call_of (number_of place) v)) {n = place - 4} (omega arith))

-- ---- the line that is held

module _ (s : List ℕ) (held : Held) where
  pub too_long : held.long ≡ true → asked.Bad (whole_fault why.LongLine) ≡ held_call s held
  unfolding held_call
  too_long e = rw e

  pub held_whole : held.long ≡ false → (t : List ℕ) → t ≡ take (without_return (take held.len s)) (take held.len s)
      → without_return (take held.len s) ≤ held.len → (k : Result Asked Fault) → k ≡ call_in t → told k ≡ held_call s held
  unfolding held_call
  held_whole e t p l k h = rw e (ap told h ∙ ap (λ (x : List ℕ). told (call_in x)) (p ∙ take-take (without_return (take held.len s)) held.len s l))
