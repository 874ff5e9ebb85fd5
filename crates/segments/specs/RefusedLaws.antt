-- A refused call leaves the manager exactly as it was, whatever the manager, sound or not.
use Rattle.std.specs.Prelude.{◌≡◌, ℕ, Err}
use Rattle.std.proofs.Common.{sym, ap, ◌∙◌, ⊎_elim}
use Rattle.answers.specs.declared.Refusal.{Refusal}
use Rattle.laws.specs.ResultLaws.{ok_not_err}
use Rattle.address.specs.declared.VirtAddr.{VirtAddr}
use Rattle.segment.specs.declared.Segment.{Segment}
use Rattle.segments.specs.declared.table.VirtualMemoryManager.{VirtualMemoryManager}
use Rattle.segments.specs.Table.{empty}
use Rattle.segments.specs.Calls.{new_call, reserve_call, mark_call, release_call, split_call}
use Rattle.segments.specs.CallWayLaws.{new_ways, reserve_ways, mark_ways, release_ways, split_ways}

pub new_refused : (why : Refusal) (start : VirtAddr) (size : ℕ) → (new_call start size).answer ≡ Err why → (new_call start size).manager ≡ empty (record { 0 = 0 }) 0
new_refused why start size e = ⊎_elim (λ w. ap (λ a. a.manager) w.1) (λ w. absurd (ok_not_err (sym (ap (λ a. a.answer) w.1) ∙ e))) (new_ways start size)

module _ (m : VirtualMemoryManager) (why : Refusal) where
  pub reserve_refused : (len : ℕ) → (reserve_call m len).answer ≡ Err why → (reserve_call m len).manager ≡ m
  reserve_refused len e = ⊎_elim (λ w. ap (λ a. a.manager) w.1) (λ w. absurd (ok_not_err (sym (ap (λ a. a.answer) w.is) ∙ e))) (reserve_ways m len)

  pub mark_refused : (s : Segment) → (mark_call m s).answer ≡ Err why → (mark_call m s).manager ≡ m
  mark_refused s e = ⊎_elim (λ w. ap (λ a. a.manager) w.1) (⊎_elim (λ w. ap (λ a. a.manager) w) (λ w. absurd (ok_not_err (sym (ap (λ a. a.answer) w.is) ∙ e)))) (mark_ways m s)

  pub release_refused : (s : Segment) → (release_call m s).answer ≡ Err why → (release_call m s).manager ≡ m
  release_refused s e = ⊎_elim (λ w. ap (λ a. a.manager) w.1) (⊎_elim (λ w. ap (λ a. a.manager) w) (λ w. absurd (ok_not_err (sym (ap (λ a. a.answer) w.is) ∙ e)))) (release_ways m s)

  pub split_refused : (s : Segment) (at : VirtAddr) → (split_call m s at).answer ≡ Err why → (split_call m s at).manager ≡ m
  split_refused s at e = ⊎_elim (λ w. ap (λ a. a.manager) w.1) (λ w. absurd (ok_not_err (sym (ap (λ a. a.answer) w.is) ∙ e))) (split_ways m s at)
