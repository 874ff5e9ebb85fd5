-- Where a slot is free, list order has a place left: its slots are in use, and none stands there twice.
use Rattle.std.specs.Prelude.{◌≢◌, ◌≡◌, Bool, not, cond, get_or, drop, Option, Some}
use Rattle.std.proofs.Math.Path.{refl, ap}
use Rattle.std.proofs.Common.{sym, subst, ◌∙◌, not-suc-le-zero}
use Rattle.std.proofs.Math.Bool.{true, false}
use mathlib.Core.List.{List, [], ◌∷◌}
use Prim.Native.Nat.{ℕ, zero, suc, ◌+◌, ◌*◌, ◌≤◌, ◌<◌, zero-le, suc-le-suc}
use native.Mathlib.Omega.{arith}
use Rattle.std.proofs.Math.ListN.{length, length-take}
use Rattle.std.proofs.Math.Dec.{eqb}
use borrow.Author.Tests.{eqb-true, eqb-false, ne_eqb}
use Rattle.model.specs.declared.Process.{Process}
use Rattle.model.specs.declared.Region.{Region}
use Rattle.laws.specs.Lists.{part, keep}
use Rattle.laws.specs.Tests.{Pairs}
use Rattle.model.specs.Machine.{Machine, process_at, order_of, region_at, no_region}
use Rattle.model.specs.Lookup.{regions_of, free_slot, row_found}
use Rattle.model.specs.Create.{add_region}
use Rattle.model.specs.Sound.{Ordered}
use Rattle.lookup.specs.LookupsLaws.{free_region}
use Rattle.laws.specs.ListsLaws.{part_length, part_at}
use Rattle.model.specs.FoundRowLaws.{first_found}
use Rattle.regions.specs.Added.{with_added}
use Rattle.regions.specs.AddedLaws.{added_free}
use Rattle.regions.specs.Detached.{other}

-- ---- numbers below n, none twice

Each : (ℕ → Type 0) → List ℕ → Type 0
Each P [] = Unit {0}
Each P (x ∷ l) = P x × Each P l

Once : List ℕ → Type 0
Once [] = Unit {0}
Once (x ∷ l) = Each (λ y. x ≢ y) l × Once l

each_of : (P : ℕ → Type 0) (l : List ℕ) → ((i : ℕ) → i < length l → P (get_or l i 0)) → Each P l
unfolding Each
each_of P [] h = tt
each_of P (x ∷ l) h = (h zero (suc-le-suc zero-le), each_of P l (λ i k. h (suc i) (suc-le-suc k)))

once_of : (l : List ℕ) → Pairs 0 l (λ s. Unit {0}) (λ s t. s ≢ t) → Once l
unfolding Once
once_of [] h = tt
once_of (x ∷ l) h = (each_of (λ y. x ≢ y) l (λ i k. h zero (suc i) (suc-le-suc zero-le) (suc-le-suc k) tt), once_of l (λ i j k n u. h (suc i) (suc j) (suc-le-suc k) (suc-le-suc n) u))

module _ (f : ℕ → Bool) where
  each_keep : (P : ℕ → Type 0) (l : List ℕ) → Each P l → Each P (keep f l)
  unfolding Each keep
  each_keep P [] h = h
  each_keep P (x ∷ l) h = go (f x) (each_keep P l h.1)
    where
      go : (b : Bool) → Each P (keep f l) → Each P (cond b (x ∷ keep f l) (keep f l))
      go true k = (h.0, k)
      go false k = k

  once_keep : (l : List ℕ) → Once l → Once (keep f l)
  unfolding Once keep
  once_keep [] h = h
  once_keep (x ∷ l) h = go (f x) (each_keep (λ y. x ≢ y) l h.0) (once_keep l h.1)
    where
      go : (b : Bool) → Each (λ y. x ≢ y) (keep f l) → Once (keep f l) → Once (cond b (x ∷ keep f l) (keep f l))
      go true e k = (e, k)
      go false e k = k

module _ (n : ℕ) where
  -- where n is not in a list, nothing leaves with it
  keep_same : (l : List ℕ) → Each (λ y. n ≢ y) l → keep (other n) l ≡ l
  unfolding Each keep
  keep_same [] h = refl
  keep_same (x ∷ l) h = rw (ne_eqb x n (λ e. h.0 (sym e))) (ap (λ t. x ∷ t) (keep_same l h.1))

  -- else one does
  keep_fewer : (l : List ℕ) → Once l → length l ≤ suc (length (keep (other n) l))
  unfolding Once keep
  keep_fewer [] h = zero-le
  keep_fewer (x ∷ l) h = go (eqb x n) refl (keep_fewer l h.1)
    where
      go : (b : Bool) → eqb x n ≡ b → length l ≤ suc (length (keep (other n) l)) → suc (length l) ≤ suc (length (cond (not b) (x ∷ keep (other n) l) (keep (other n) l)))
      go true e k = let s = ap (λ t. length t) (keep_same l (subst (λ (z : ℕ). Each (λ y. z ≢ y) l) (eqb-true x n e) h.0)) in omega arith
      go false e k = suc-le-suc k

  keep_below : (l : List ℕ) → Each (λ y. y < suc n) l → Each (λ y. y < n) (keep (other n) l)
  unfolding Each keep
  keep_below [] h = h
  keep_below (x ∷ l) h = go (eqb x n) refl (keep_below l h.1)
    where
      go : (b : Bool) → eqb x n ≡ b → Each (λ y. y < n) (keep (other n) l) → Each (λ y. y < n) (cond (not b) (x ∷ keep (other n) l) (keep (other n) l))
      go true e k = k
      go false e k = let m = eqb-false x n e in let b = h.0 in (omega arith, k)

-- so many numbers are below n
once_most : (n : ℕ) (l : List ℕ) → Each (λ y. y < n) l → Once l → length l ≤ n
unfolding Each
once_most zero [] h o = zero-le
once_most zero (x ∷ l) h o = absurd (not-suc-le-zero h.0)
once_most (suc n) l h o =
    let rest = once_most n (keep (other n) l) (keep_below n l h) (once_keep (other n) l o) in
    let one = keep_fewer n l o in
    omega arith

-- ---- the free slot

module _ (m : Machine) (p s : ℕ) (found : free_slot m p ≡ Some s) where
  free_row : (s < length (regions_of m p)) × (free_region (get_or (regions_of m p) s no_region) ≡ true)
  unfolding free_slot
  free_row = first_found free_region (regions_of m p) s no_region found

  pub free_below : s < 64
  unfolding part
  free_below = let h = free_row.0 in let l = length-take 64 (drop (p * 64) m.regions) in omega arith

  pub free_kind : (region_at m p s).kind ≡ 0
  free_kind = eqb-true (region_at m p s).kind 0 (ap (λ (r : Region). free_region r) (sym (part_at m.regions 64 p s no_region free_below)) ∙ free_row.1)

  -- in a sound machine list order has a place left
  pub room_left : (q : Process) → Ordered m p q → p * 64 + 64 ≤ length m.order → (process_at m p).attached < 64
  unfolding order_of Each Once
  room_left q o inside =
      let most = once_most 64 (s ∷ order_of m p) (free_below, below) (apart, once_of (order_of m p) o.once) in
      let l = length-take (process_at m p).attached (part 64 p m.order) in
      let k = part_length m.order 64 p inside in
      omega arith
    where
      below : Each (λ y. y < 64) (order_of m p)
      below = each_of (λ y. y < 64) (order_of m p) (λ i h. (o.listed i h).0)

      apart : Each (λ y. s ≢ y) (order_of m p)
      apart = each_of (λ y. s ≢ y) (order_of m p) (λ i h e. (o.listed i h).1 (ap (λ (t : ℕ). (region_at m p t).kind) (sym e) ∙ free_kind))

  -- .. and the slot that is put there makes the model's add_region
  pub adds_region : (r : Region) → Ordered m p (process_at m p) → p * 64 + 64 ≤ length m.order → with_added m p s r ≡ add_region m p r
  adds_region r o inside = ap (λ (t : ℕ). with_added m p t r) (ap (λ (f : Option ℕ). row_found f) (sym found)) ∙ added_free m p r inside (room_left (process_at m p) o inside) o.free
