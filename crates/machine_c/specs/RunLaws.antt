-- Laws of `Called`: machine_call on an `out` of zeros gives one row of machine_run, and leaves what its call leaves there.
use Rattle.std.specs.Prelude.{◌≡◌, refl, Bool, true, false, List, ◌∷◌, ℕ, drop, replicate, Option, Some, None}
use Rattle.std.proofs.Common.{ap, sym, subst, ◌∙◌, inr}
use Rattle.std.proofs.lemmas.Bool.{false≢true}
use Rattle.model.specs.declared.Call.{Call}
use Rattle.call_rows.specs.Asked.{call_in, starts_with}
use Rattle.call_rows.specs.AskedLaws.{started_is}
use Rattle.call_runs.specs.OneLaws.{one_none, one_ran, start_told}
use Rattle.call_runs.specs.RunAll.{row_of, RanOne}
use Rattle.machine_c.specs.Called.{CallTold}

pub called_one : (asked w f b w' f' out : List ℕ) (r : ℕ) → CallTold asked w f b (replicate 65 0) w' f' out r → RanOne asked w f b w' f' (r ∷ out)
unfolding row_of
called_one asked w f b w' f' out r told = go (starts_with asked) refl (call_in asked) refl
  where
    starting : starts_with asked ≡ true → RanOne asked w f b w' f' (r ∷ out)
    starting e =
        let t = told.starts refl (drop 1 asked) (started_is asked e) in
        let row : r ∷ out ≡ r ∷ replicate 65 0 = ap (λ (l : List ℕ). r ∷ l) t.1.1 in
        let number = ap (λ (n : ℕ). n ∷ replicate 65 0) t.0.number in
        subst (λ (x : List ℕ). RanOne asked w f b w' x (r ∷ out)) (sym t.1.0) (start_told asked w f b e w' (r ∷ out) t.0.answer t.0.starts (row ∙ number))

    go : (x : Bool) → starts_with asked ≡ x → (n : Option Call) → call_in asked ≡ n → RanOne asked w f b w' f' (r ∷ out)
    go true e n i = starting e
    go false e (Some c) i =
        let t = told.told refl c i in
        one_ran asked w f b c e (sym i) w' f' (r ∷ out) (λ k. t.0 k ∷ t.1.0 k) t.1.1
    go false e None i =
        let t = told.none (inr (i, λ rows j. false≢true (sym e ∙ ap starts_with j))) in
        let row : r ∷ out ≡ 1 ∷ replicate 65 0 = λ k. t.0 k ∷ t.1.1.1 k in
        subst (λ (x : List ℕ). RanOne asked w f b x f' (r ∷ out)) (sym t.1.0) (subst (λ (x : List ℕ). RanOne asked w f b w x (r ∷ out)) (sym t.1.1.0) (one_none asked w f b e (sym i) (r ∷ out) row))
