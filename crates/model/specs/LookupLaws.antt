-- What the look-ups find, and that `covered` is RULES V5: every address of the range lies in an attached region.
use Rattle.std.specs.Prelude.{◌≡◌, Bool, ◌||◌, cond, List, [], ◌∷◌, length, eqb, ltb, Option, Some, None}
use Rattle.std.proofs.Math.Path.{refl}
use Rattle.std.proofs.Common.{sym, subst}
use Rattle.std.proofs.Math.Bool.{true, false}
use Rattle.std.proofs.lemmas.Bool.{false≢true}
use Prim.Native.Nat.{ℕ, zero, suc, ◌≤◌, ◌<◌}
use native.Mathlib.Omega.{arith}
use Rattle.std.proofs.Math.Dec.{leb}
use borrow.Author.Tests.{ltb-true, ltb-false, leb-true, leb-false, eqb-true, lt-ltb, le-ltb, le-leb, eq-eqb}
use Rattle.laws.specs.ResultLaws.{none_not_some, some_same}
use Rattle.laws.specs.Tells.{Tells}
use Rattle.laws.specs.TellsLaws.{tells_of}
use Rattle.laws.specs.Lists.{any, among, count}
use Rattle.model.specs.Machine.{Machine, region_at, order_of}
use Rattle.model.specs.Lookup.{first_slot, contains, span_end, region_for, covered_from, covered}
use Rattle.laws.specs.BoolLaws.{clash, both_true, or_right}
use Rattle.laws.specs.CountLaws.{count_least, count_most, count_fewer}

-- ---- the first of some slots that passes a test

pub first_found : (f : ℕ → Bool) (l : List ℕ) (s : ℕ) → first_slot f l ≡ Some s → (f s ≡ true) × (among s l ≡ true)
unfolding first_slot any
first_found f [] s e = absurd (none_not_some e)
first_found f (t ∷ l) s e = go (f t) refl e (first_found f l s)
  where
    go : (b : Bool) → f t ≡ b → cond b (Some t) (first_slot f l) ≡ Some s → (first_slot f l ≡ Some s → (f s ≡ true) × (among s l ≡ true)) → (f s ≡ true) × ((eqb s t || any (eqb s) l) ≡ true)
    go true p q ih = (subst (λ (x : ℕ). f x ≡ true) (some_same q) p, rw (eq-eqb s t (sym (some_same q))) refl)
    go false p q ih = ((ih q).0, or_right (eqb s t) _ (ih q).1)

pub first_none : (f : ℕ → Bool) (l : List ℕ) → first_slot f l ≡ None → (s : ℕ) → among s l ≡ true → f s ≡ false
unfolding first_slot any
first_none f [] e s h = absurd (false≢true h)
first_none f (t ∷ l) e s h = go (f t) refl e (eqb s t) refl h (first_none f l)
  where
    go : (b : Bool) → f t ≡ b → cond b (Some t) (first_slot f l) ≡ None → (c : Bool) → eqb s t ≡ c → (c || any (eqb s) l) ≡ true → (first_slot f l ≡ None → (r : ℕ) → among r l ≡ true → f r ≡ false) → f s ≡ false
    go true p q c i k ih = absurd (none_not_some (sym q))
    go false p q true i k ih = subst (λ (x : ℕ). f x ≡ false) (sym (eqb-true s t i)) p
    go false p q false i k ih = ih q s k

-- ---- covers

-- an address lies in an attached region
pub record Attached (m : Machine) (p x : ℕ) : Type 0 where
  pub slot : ℕ
  pub listed : among slot (order_of m p) ≡ true
  pub inside : contains (region_at m p slot) x ≡ true

-- every address from start up to end lies in an attached region (RULES V5)
abbrev pub Covered : Machine → ℕ → ℕ → ℕ → Type 0
Covered m p a e = (x : ℕ) → a ≤ x → x < e → Attached m p x

module _ (m : Machine) (p e : ℕ) where
  abbrev end_of : ℕ → ℕ
  end_of s = span_end (region_at m p s)

  inside_of : (s x : ℕ) → (region_at m p s).start.0 ≤ x → x < end_of s → contains (region_at m p s) x ≡ true
  inside_of s x h k = rw (le-leb (region_at m p s).start.0 x h) (lt-ltb x (end_of s) k)

  bounds_of : (s x : ℕ) → contains (region_at m p s) x ≡ true → ((region_at m p s).start.0 ≤ x) × (x < end_of s)
  bounds_of s x h = let b = both_true _ _ h in (leb-true _ _ b.0, ltb-true _ _ b.1)

  yes_covers : (n a : ℕ) → covered_from n m p a e ≡ true → Covered m p a e
  unfolding covered_from region_for
  yes_covers zero a h x l k = let y = leb-true e a h in absurd (omega arith)
  yes_covers (suc n) a h x l k = go (leb e a) refl (region_for m p a) refl h (λ s. yes_covers n (end_of s))
    where
      go : (b : Bool) → leb e a ≡ b → (r : Option ℕ) → region_for m p a ≡ r → (b || elim r [ None ↦ false | Some s ↦ covered_from n m p (end_of s) e ]) ≡ true → ((s : ℕ) → covered_from n m p (end_of s) e ≡ true → Covered m p (end_of s) e) → Attached m p x
      go true i r j y ih = let z = leb-true e a i in absurd (omega arith)
      go false i None j y ih = absurd (false≢true y)
      go false i (Some s) j y ih = past (ltb x (end_of s)) refl
        where
          found : (contains (region_at m p s) a ≡ true) × (among s (order_of m p) ≡ true)
          found = first_found _ (order_of m p) s j

          past : (b : Bool) → ltb x (end_of s) ≡ b → Attached m p x
          past true q = let c = bounds_of s a found.0 in record { slot = s; listed = found.1; inside = inside_of s x (omega arith) (ltb-true _ _ q) }
          past false q = ih s y x (ltb-false _ _ q) k

  abbrev later : ℕ → ℕ → Bool
  later a s = ltb a (end_of s)

  covers_yes : (n a : ℕ) → count (later a) (order_of m p) ≤ n → Covered m p a e → covered_from n m p a e ≡ true
  unfolding covered_from region_for
  covers_yes zero a few c = go (leb e a) refl
    where
      go : (b : Bool) → leb e a ≡ b → b ≡ true
      go true i = refl
      go false i =
          let here = c a (omega arith) (leb-false e a i) in
          let one = count_least (later a) (order_of m p) here.slot here.listed (lt-ltb _ _ (bounds_of here.slot a here.inside).1) in
          absurd (omega arith)
  covers_yes (suc n) a few c = go (leb e a) refl (region_for m p a) refl (λ s. covers_yes n (end_of s))
    where
      go : (b : Bool) → leb e a ≡ b → (r : Option ℕ) → region_for m p a ≡ r → ((s : ℕ) → count (later (end_of s)) (order_of m p) ≤ n → Covered m p (end_of s) e → covered_from n m p (end_of s) e ≡ true) → (b || elim r [ None ↦ false | Some s ↦ covered_from n m p (end_of s) e ]) ≡ true
      go true i r j ih = refl
      go false i None j ih =
          let here = c a (omega arith) (leb-false e a i) in
          clash here.inside (first_none _ (order_of m p) j here.slot here.listed)
      go false i (Some s) j ih =
          let found = first_found _ (order_of m p) s j in
          let ends = bounds_of s a found.0 in
          let fewer = count_fewer (later (end_of s)) (later a) (λ t q. lt-ltb _ _ (further t q ends.1)) (order_of m p) s found.1 (lt-ltb _ _ ends.1) (le-ltb _ _ (same s)) in
          ih s (omega arith) (λ x l k. c x (omega arith) k)
        where
          further : (t : ℕ) → later (end_of s) t ≡ true → a < end_of s → a < end_of t
          further t q h = let y = ltb-true (end_of s) (end_of t) q in omega arith

          same : (t : ℕ) → end_of t ≤ end_of t
          same t = omega arith

  -- covers says yes exactly when every address of the range lies in an attached region
  pub covered_tells : (a : ℕ) → Tells (covered m p a e) (Covered m p a e)
  unfolding covered
  covered_tells a = tells_of _ (yes_covers (length (order_of m p)) a) (covers_yes (length (order_of m p)) a (count_most (later a) (order_of m p)))
