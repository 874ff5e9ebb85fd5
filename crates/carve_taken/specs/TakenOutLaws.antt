-- The slots of regions that a range cuts, found and taken out of list order.
use Rattle.std.specs.Prelude.{◌≡◌, Bool, true, false, not, List, [], ◌∷◌, ℕ, ◌+◌, ◌≤◌, length, set}
use Rattle.std.proofs.Common.{ap, sym, subst, ◌∙◌, arith}
use Rattle.std.proofs.lemmas.List.Edits.{sets}
use Rattle.model.specs.declared.Region.{Region}
use Rattle.laws.specs.Lists.{keep}
use Rattle.model.specs.Machine.{Machine, region_at}
use Rattle.model.specs.Carve.{partial}
use Rattle.rows.specs.With.{with_order_table}
use Rattle.regions.specs.PickedLaws.{Picked, picked_all}
use Rattle.regions.specs.DetachedLaws.{leaves, stays, keeps, KeptAt, place_leaves, place_stays}
use Rattle.carve_inside.specs.InPart.{in_part}
use Rattle.carve_taken.specs.TakenOut.{whole}

-- k slots are put, r with slot t, if it passes a test
abbrev pub SlotPut : (ℕ → Bool) → ℕ → List ℕ → ℕ → List ℕ → ℕ → Type 0
SlotPut f t out k new r = (r ≡ k + length (keep f (t ∷ []))) × (new ≡ sets out k (keep f (t ∷ [])))

module _ (m : Machine) (p a e s t : ℕ) (slot : s ≡ t) (r : Region) (read : r ≡ region_at m p s) where
  cut_is : (b : Bool) → b ≡ in_part r a e → partial m p a e s ≡ b
  cut_is b h = sym (h ∙ ap (λ (x : Region). in_part x a e) read)

  cut_there : (b : Bool) → b ≡ in_part r a e → partial m p a e t ≡ b
  cut_there b h = ap (λ (j : ℕ). partial m p a e j) (sym slot) ∙ cut_is b h

  -- ---- a slot that is found

  pub slot_not : (out : List ℕ) (k : ℕ) → false ≡ in_part r a e → SlotPut (partial m p a e) t out k out k
  slot_not out k h =
      let none = leaves (partial m p a e) t (cut_there false h) in
      let same : k ≡ k + 0 = omega arith in
      (same ∙ ap (λ (l : List ℕ). k + length l) (sym none), ap (λ (l : List ℕ). sets out k l) (sym none))

  pub slot_put : (out : List ℕ) (k : ℕ) → true ≡ in_part r a e → SlotPut (partial m p a e) t out k (set out k s) (k + 1)
  slot_put out k h =
      let one = stays (partial m p a e) t (cut_there true h) in
      (ap (λ (l : List ℕ). k + length l) (sym one), ap (λ (x : ℕ). set out k x) slot ∙ ap (λ (l : List ℕ). sets out k l) (sym one))

  -- ---- a place of list order

  pub cut_leaves : (at kept : ℕ) → true ≡ in_part r a e → KeptAt m m at (whole m p a e) t kept kept
  cut_leaves at kept h = place_leaves m at (whole m p a e) t kept s slot (ap not (cut_is true h))

  pub whole_stays : (at kept : ℕ) (n : Machine) → false ≡ in_part r a e → n ≡ with_order_table m (set m.order at s) → KeptAt m n at (whole m p a e) t kept (kept + 1)
  whole_stays at kept n h z = place_stays m at (whole m p a e) t kept s slot n (ap not (cut_is false h)) z

pub slots_all : (f : ℕ → Bool) (l : List ℕ) (n : ℕ) → n ≡ length l → n ≤ 64 → (out new : List ℕ) (k i : ℕ) → Picked (keep f) l n out 0 new k i → n ≤ i
    → (k ≡ length (keep f l)) × ((k ≤ 64) × (new ≡ sets out 0 (keep f l)))
slots_all f l n sized most out new k i s h =
    let all = picked_all (keep f) (keeps f) l n sized out 0 new k i s h in
    let few = s.0.1 in
    let low = s.0.0 in
    (all.0, (omega arith, all.1))

-- the tables that the test reads are as they were
pub same_test : (m n : Machine) (l : List ℕ) (p a e : ℕ) (o : Machine) (at t kept r : ℕ) → n ≡ with_order_table m l → KeptAt n o at (whole n p a e) t kept r → KeptAt n o at (whole m p a e) t kept r
same_test m n l p a e o at t kept r h k = subst (λ (x : Machine). KeptAt n o at (whole x p a e) t kept r) h k
