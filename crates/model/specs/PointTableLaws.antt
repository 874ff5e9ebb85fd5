-- What the test of a row tells: the row holds.
use Rattle.std.specs.Prelude.{◌≡◌, refl, true, List, [], ◌∷◌, ℕ, eqb}
use Rattle.std.proofs.Common.{ap, ◌∙◌, eqb-true}
use Rattle.std.proofs.lemmas.Bool.{false≢true}
use Rattle.laws.specs.BoolLaws.{both_true}
use Rattle.model.specs.Answers.{Reply}
use Rattle.model.specs.Run.{call}
use Rattle.segments.specs.Run as managers
use Rattle.model.specs.PointTable.{Event, does, sees, manages, holding, World, Holds, ends, called, seen, managing, held, look, same_list, same_reply, holdsb}

pub list_told : (l m : List ℕ) → same_list l m ≡ true → l ≡ m
unfolding same_list
list_told [] [] e = refl
list_told [] (y ∷ m) e = absurd (false≢true e)
list_told (x ∷ l) [] e = absurd (false≢true e)
list_told (x ∷ l) (y ∷ m) e = ap (λ z. z ∷ l) (eqb-true x y (both_true (eqb x y) _ e).0) ∙ ap (λ t. y ∷ t) (list_told l m (both_true (eqb x y) _ e).1)

pub reply_told : (r q : Reply) → same_reply r q ≡ true → r ≡ q
unfolding same_reply
reply_told r q e =
    let n = eqb-true r.number q.number (both_true _ _ e).0 in
    let v = list_told r.values q.values (both_true (eqb r.number q.number) _ e).1 in
    λ k. record { number = n k; values = v k }

pub holds_told : (l : List Event) (w : World) → holdsb l w ≡ true → Holds l w
unfolding holdsb
holds_told [] w e = ends
holds_told (does c r ∷ l) w e = called (reply_told _ r (both_true _ _ e).0) (holds_told l _ (both_true (same_reply (call c w.state).answer r) _ e).1)
holds_told (sees k v ∷ l) w e = seen (list_told _ v (both_true _ _ e).0) (holds_told l w (both_true (same_list (look k w.state.machine) v) _ e).1)
holds_told (manages c r ∷ l) w e = managing (list_told _ r (both_true _ _ e).0) (holds_told l _ (both_true (same_list (managers.run c w.manager).answer r) _ e).1)
holds_told (holding v ∷ l) w e = held (list_told _ v (both_true _ _ e).0) (holds_told l w (both_true (same_list (managers.table w.manager) v) _ e).1)
