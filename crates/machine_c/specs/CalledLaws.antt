-- Laws of `Called`: what a call in words tells.
use Rattle.std.specs.Prelude.{◌≡◌, refl, Bool, true, false, List, [], ◌∷◌, ℕ, length, set, drop, replicate, Option, Some, None, Result, ⊤}
use Rattle.std.proofs.Common.{sym, ap, subst, ◌∙◌, true≢false, ⊎_elim, arith}
use Rattle.answers.specs.declared.Refusal.{Refusal}
use Rattle.laws.specs.Lists.{pad}
use Rattle.model.specs.declared.Answer.{Answer}
use Rattle.model.specs.declared.Call.{Call}
use Rattle.model.specs.Answers.{Reply, of_done}
use Rattle.model.specs.Meant.{meant, reply}
use Rattle.model.specs.Run.{call}
use Rattle.process.specs.Start.{Starts}
use Rattle.call_rows.specs.Asked.{call_in, starts_with}
use Rattle.call_rows.specs.AskedLaws.{started_is, behind_started, starts_no_call}
use Rattle.call_rows.specs.BehindLaws.{behind, with_behind, set_with_behind}
use Rattle.call_rows.specs.Told.{first_value}
use Rattle.call_rows.specs.ToldLaws.{told_list, number_alone}
use Rattle.calls.specs.Answered.{Leaves}
use Rattle.calls.specs.Ran.{Ran, reply_on}
use Rattle.machine_c.specs.Called.{CallTold}
use Rattle.machine_c.specs.Out.{StartTold}

-- ---- what a call tells

pub zeros_out : (out zeros : List ℕ) → length out ≡ 65 → zeros ≡ replicate 64 0 → set (with_behind out zeros) 0 0 ≡ replicate 65 0
zeros_out [] zeros h e = let z : ◌≡◌ {A = ℕ} 0 65 = h in absurd (omega arith)
zeros_out (x ∷ l) zeros h e = set_with_behind x l zeros 0 ∙ ap (λ (t : List ℕ). 0 ∷ t) e

module _ (c : Call) (w f b w' f' : List ℕ) where
  abbrev pub RunTold : ℕ → List ℕ → Type 0
  RunTold n out' = (n ≡ (reply_on c w f b).number) × ((out' ≡ pad 65 0 (reply_on c w f b).values) × Leaves (λ s. call (meant c) s) w f b w' f')

  pub run_out : (zeros starts : List ℕ) (x : Answer) (n : ℕ) (out' : List ℕ) → zeros ≡ replicate 65 0
      → Ran c w f b (behind zeros) w' f' starts x → length starts ≡ length (behind zeros) → n ≡ (reply x []).number → out' ≡ set (with_behind zeros starts) 0 (first_value x)
      → RunTold n out'
  run_out zeros starts x n out' e ran k p q =
      let is : Ran c w f b (replicate 64 0) w' f' starts x = subst (λ (t : List ℕ). Ran c w f b (behind t) w' f' starts x) e ran in
      let long : length starts ≡ 64 = k ∙ ap (λ (t : List ℕ). length (behind t)) e in
      let front : set (with_behind zeros starts) 0 (first_value x) ≡ first_value x ∷ starts =
      ap (λ (t : List ℕ). set (with_behind t starts) 0 (first_value x)) e ∙ set_with_behind 0 (replicate 64 0) starts (first_value x) in (
        p ∙ (number_alone x starts ∙ ap (λ (y : Reply). y.number) (is.answer refl)),
        (q ∙ (front ∙ (told_list x starts long is.others ∙ ap (λ (y : Reply). pad 65 0 y.values) (is.answer refl))), is.leaves refl),
      )

pub start_told : (l w f b w' : List ℕ) (r : Result ⊤ Refusal) (n : ℕ) → starts_with l ≡ true → Starts w f b (behind l) w' r → n ≡ (of_done r).number → StartTold w f b (drop 1 l) w' n
start_told l w f b w' r n e s p = record { answer = r; number = p; starts = subst (λ (rows : List ℕ). Starts w f b rows w' r) (behind_started l e) s }

-- ---- the whole

is_not_none : (c : Call) → Some c ≡ None → ⊥
is_not_none c e = true≢false (ap named e)
  where
    named : Option Call → Bool
    named (Some c) = true
    named None = false

same_call : (c d : Call) → Some c ≡ Some d → c ≡ d
same_call c d e = ap the_call e
  where
    the_call : Option Call → Call
    the_call (Some x) = x
    the_call None = c

module _ (asked w f b out : List ℕ) where
  pub call_short : (length out ≡ 65 → ⊥) → CallTold asked w f b out w f out 1
  call_short k = record { told = λ h. absurd (k h); starts = λ h. absurd (k h); none = λ _. (refl, (refl, (refl, refl))) }

  pub call_starts : length out ≡ 65 → starts_with asked ≡ true → (w' out' : List ℕ) (r : ℕ) → StartTold w f b (drop 1 asked) w' r → out' ≡ replicate 65 0 → CallTold asked w f b out w' f out' r
  call_starts h e w' out' r s z =
      record {
        told = λ _ c i. absurd (is_not_none c (sym i ∙ (ap call_in (started_is asked e) ∙ starts_no_call (drop 1 asked))));
        starts = λ _ rows i. (subst (λ (l : List ℕ). StartTold w f b (drop 1 l) w' r) i s, (refl, z));
        none = λ k. ⊎_elim (λ g. absurd (g h)) (λ g. absurd (g.1 (drop 1 asked) (started_is asked e))) k;
      }

  pub call_none : length out ≡ 65 → starts_with asked ≡ false → None ≡ call_in asked → CallTold asked w f b out w f out 1
  call_none h e i =
      record {
        told = λ _ c j. absurd (is_not_none c (sym j ∙ sym i));
        starts = λ _ rows j. absurd (true≢false (sym (ap starts_with j) ∙ e));
        none = λ _. (refl, (refl, (refl, refl)));
      }

  pub call_runs : length out ≡ 65 → starts_with asked ≡ false → (c : Call) → Some c ≡ call_in asked → (w' f' out' : List ℕ) (r : ℕ) → RunTold c w f b w' f' r out' → CallTold asked w f b out w' f' out' r
  call_runs h e c i w' f' out' r t =
      record {
        told = λ _ d j. subst (λ (x : Call). RunTold x w f b w' f' r out') (same_call c d (i ∙ j)) t;
        starts = λ _ rows j. absurd (true≢false (sym (ap starts_with j) ∙ e));
        none = λ k. ⊎_elim (λ g. absurd (g h)) (λ g. absurd (is_not_none c (i ∙ g.0))) k;
      }
