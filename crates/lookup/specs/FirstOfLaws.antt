-- Refusals test by test: the first test that is true gives its refusal; and the test for an open process.
use Rattle.std.specs.Prelude.{◌≡◌, refl, Bool, true, false, not, cond, List, [], ◌∷◌, ◌++◌, ℕ, ◌≤◌, ◌<◌, get_or, eqb, ltb, Result, Ok, Err, ⊤}
use Rattle.std.proofs.Common.{ap, sym, ◌∙◌, ltb-true, ltb-false}
use Rattle.std.proofs.lemmas.Bool.{false≢true}
use Rattle.std.proofs.Math.ListN.{get_or-eq_default}
use Rattle.laws.specs.ResultLaws.{ok_not_err}
use Rattle.answers.specs.declared.Refusal.{Refusal}
use Rattle.model.specs.declared.Process.{Process}
use Rattle.model.specs.Layout.{machine}
use Rattle.model.specs.Machine.{no_process}
use Rattle.model.specs.Lookup.{is_open}
use Rattle.model.specs.Answers.{first_of}
use Rattle.model.specs.VisitLaws.{first_yes}
use Rattle.lookup.specs.LookupsLaws.{processes_length}

-- the first test is true, or it is not and the others decide
pub first_here : (b : Bool) (r : Refusal) (l : List (Bool × Refusal)) → b ≡ true → Err r ≡ first_of ((b, r) ∷ l)
unfolding first_of
first_here b r l p = rw p refl

pub first_later : (b : Bool) (r : Refusal) (l : List (Bool × Refusal)) (d : Result ⊤ Refusal) → b ≡ false → d ≡ first_of l → d ≡ first_of ((b, r) ∷ l)
unfolding first_of
first_later b r l d p e = rw p e

pub first_none : Ok tt ≡ first_of []
unfolding first_of
first_none = refl

pub not_no : (b : Bool) → b ≡ false → not b ≡ true
not_no b p = rw p refl

pub not_yes : (b : Bool) → b ≡ true → not b ≡ false
not_yes b p = rw p refl

-- where nothing refuses, the first test is false and nothing else refuses
pub first_passed : (b : Bool) (r : Refusal) (l : List (Bool × Refusal)) → Ok tt ≡ first_of ((b, r) ∷ l) → (b ≡ false) × (Ok tt ≡ first_of l)
first_passed b r l e = let p = first_yes b r l (sym e) in (p.0, sym p.1)

-- tests before others, and after others

pub first_before : (l k : List (Bool × Refusal)) (q : Refusal) → Err q ≡ first_of l → Err q ≡ first_of (l ++ k)
unfolding first_of
first_before [] k q e = absurd (ok_not_err (sym e))
first_before (t ∷ l) k q e = go t.0 e (first_before l k q)
  where
    go : (b : Bool) → Err q ≡ cond b (Err t.1) (first_of l) → (Err q ≡ first_of l → Err q ≡ first_of (l ++ k)) → Err q ≡ cond b (Err t.1) (first_of (l ++ k))
    go true f ih = f
    go false f ih = ih f

pub first_after : (l k : List (Bool × Refusal)) → Ok tt ≡ first_of l → first_of k ≡ first_of (l ++ k)
unfolding first_of
first_after [] k e = refl
first_after (t ∷ l) k e = go t.0 e (first_after l k)
  where
    go : (b : Bool) → Ok tt ≡ cond b (Err t.1) (first_of l) → (Ok tt ≡ first_of l → first_of k ≡ first_of (l ++ k)) → first_of k ≡ cond b (Err t.1) (first_of (l ++ k))
    go true f ih = absurd (ok_not_err f)
    go false f ih = ih f

-- ---- an open process

pub open_row : (w : List ℕ) (p : ℕ) (q : Process) (b : Bool) → q ≡ get_or (machine w).processes p no_process → b ≡ eqb q.opened 1 → b ≡ is_open (machine w) p
open_row w p q b e f = f ∙ ap (λ (x : Process). eqb x.opened 1) e

pub closed_past : (w : List ℕ) (p : ℕ) → 8 ≤ p → false ≡ is_open (machine w) p
closed_past w p h = ap (λ (x : Process). eqb x.opened 1) (sym (get_or-eq_default (machine w).processes no_process {n = p} (rw processes_length h)))

pub open_small : (w : List ℕ) (p : ℕ) → is_open (machine w) p ≡ true → p < 8
open_small w p e = go (ltb p 8) refl
  where
    go : (b : Bool) → ltb p 8 ≡ b → p < 8
    go true q = ltb-true p 8 q
    go false q = absurd (false≢true (closed_past w p (ltb-false p 8 q) ∙ e))
