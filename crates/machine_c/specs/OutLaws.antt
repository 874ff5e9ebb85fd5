-- Laws of `Out`: what an exported call returns and writes: number and values (RULES E, O1); where `out` is of another length, 1 and nothing written.
use Rattle.std.specs.Prelude.{◌≡◌, refl, List, [], ◌∷◌, ℕ, length, set, Result, Err}
use Rattle.std.proofs.Common.{ap, subst, ◌∙◌, arith}
use Rattle.answers.specs.declared.Refusal.{Refusal}
use Rattle.address.specs.declared.VirtAddr.{VirtAddr}
use Rattle.model.specs.Machine.{State}
use Rattle.model.specs.declared.Answer.TheVariants as says
use Rattle.model.specs.declared.Call.{Call}
use Rattle.model.specs.declared.Counted.{Counted}
use Rattle.model.specs.Answers.{After, Reply, of_done, of_placed}
use Rattle.model.specs.Meant.{meant, reply}
use Rattle.model.specs.Run.{call}
use Rattle.calls.specs.Answered.{answer_on, Leaves}
use Rattle.calls.specs.Ran.{Ran, reply_on}
use Rattle.call_rows.specs.BehindLaws.{behind, with_behind, behind_all, set_with_behind}
use Rattle.machine_c.specs.Out.{Told, LeavesOut}

module _ (reply : Reply) (n r : ℕ) (out out' : List ℕ) where
  pub told_all : length out ≡ n → r ≡ reply.number → out' ≡ reply.values → Told reply n r out out'
  told_all h e f = record { told = λ _. (e, f); kept = λ k. absurd (k h) }

pub told_nothing : (reply : Reply) (n : ℕ) (out : List ℕ) → (length out ≡ n → ⊥) → Told reply n 1 out out
told_nothing reply n out k = record { told = λ h. absurd (k h); kept = λ _. (refl, refl) }

module _ {A : Type 0} (call : State → After A) (n : ℕ) (out w f b : List ℕ) where
  pub left_out : length out ≡ n → (w' f' : List ℕ) → Leaves call w f b w' f' → LeavesOut call n out w f b w' f'
  left_out h w' f' l = record { machine = λ _. l; other = λ k. absurd (k h) }

  pub left_alone : (length out ≡ n → ⊥) → LeavesOut call n out w f b w f
  left_alone k = record { machine = λ h. absurd (k h); other = λ _. (refl, refl) }

-- creation by what was worked out first: its place, its fork policy
module _ {A : Type 0} (call : A → State → After (Result VirtAddr Refusal)) (w f b : List ℕ) where
  pub placed_out :
      (pl pl' : A)
      → pl ≡ pl'
      → (x : Result VirtAddr Refusal) (n : ℕ) (out out' w' f' : List ℕ)
      → length out ≡ 1
      → x ≡ answer_on Err (call pl) w f b
      → Leaves (call pl) w f b w' f'
      → n ≡ (of_placed x).number
      → out' ≡ (of_placed x).values
      → Told (of_placed (answer_on Err (call pl') w f b)) 1 n out out' × LeavesOut (call pl') 1 out w f b w' f'
  placed_out pl pl' e x n out out' w' f' h a l p q =
      subst (λ (y : A). Told (of_placed (answer_on Err (call y) w f b)) 1 n out out' × LeavesOut (call y) 1 out w f b w' f') e
      (told_all _ _ _ _ _ h (p ∙ ap (λ (z : Result VirtAddr Refusal). (of_placed z).number) a) (q ∙ ap (λ (z : Result VirtAddr Refusal). (of_placed z).values) a), left_out _ _ _ _ _ _ h _ _ l)

-- a list, whose starts stand behind the count
pub listed_out : (c : Call) (w f b w' f' out starts : List ℕ) (r : Counted) (n : ℕ) (out' : List ℕ) → length out ≡ 65
    → Ran c w f b (behind out) w' f' starts (says.Counted r) → n ≡ (of_done r.done).number → out' ≡ set (with_behind out starts) 0 r.count
    → Told (reply_on c w f b) 65 n out out' × LeavesOut (λ s. call (meant c) s) 65 out w f b w' f'
unfolding reply
listed_out c w f b w' f' [] starts r n out' h ran e q = let z : ◌≡◌ {A = ℕ} 0 65 = h in absurd (omega arith)
listed_out c w f b w' f' (x ∷ l) starts r n out' h ran e q =
    let long : length l ≡ 64 = omega (arith, h) in
    let sized : length (behind (x ∷ l)) ≡ 64 = ap (λ (t : List ℕ). length t) (behind_all x l) ∙ long in
    let is = ran.answer sized in
    (told_all _ _ _ _ _ h (e ∙ ap (λ (y : Reply). y.number) is) (q ∙ (set_with_behind x l starts r.count ∙ ap (λ (y : Reply). y.values) is)), left_out _ _ _ _ _ _ h _ _ (ran.leaves sized))
