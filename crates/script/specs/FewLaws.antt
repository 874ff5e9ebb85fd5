-- A list of segments has 64 rows at most, so that its answer fits the room that is kept.
use Rattle.std.specs.Prelude.{◌≡◌, ℕ, ◌≤◌, Bool, true, false, refl, Ok, Err}
use Rattle.std.proofs.Common.{subst, arith}
use Rattle.segments.specs.declared.table.VirtualMemoryManager.{VirtualMemoryManager}
use Rattle.segments.specs.declared.manager.ListAnswer.{ListAnswer}
use Rattle.segments.specs.Table.{soundb}
use Rattle.segments.specs.Calls.{list_call}
use Rattle.segments.specs.CallLaws.{sound_most}

listed : (m : VirtualMemoryManager) (n : ℕ) → (list_call m).answer ≡ Ok n → n ≤ 64
unfolding list_call
listed m n e = go (soundb m) refl
  where
    go : (t : Bool) → soundb m ≡ t → n ≤ 64
    go true s =
        let q : Ok m.count ≡ Ok n = rw s at e in
        let p : m.count ≡ n = cc in
        omega (arith, sound_most m s)
    go false s =
        let q : Err _ ≡ Ok n = rw s at e in
        let z : ◌≡◌ {A = ℕ} 0 1 = cc in
        omega arith

-- as the code takes the answer apart
pub few : (m : VirtualMemoryManager) (r : ListAnswer) (n : ℕ) → r ≡ list_call m → r.answer ≡ Ok n → n ≤ 64
few m r n e h = listed m n (subst (λ (x : ListAnswer). x.answer ≡ Ok n) e h)
