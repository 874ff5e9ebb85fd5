-- Holders counted row by row, and counted again once a row is another.
use Rattle.std.specs.Prelude.{◌≡◌, refl, ◌≢◌, Bool, ◌&&◌, not, List, [], ◌∷◌, map, ℕ, zero, suc, ◌+◌, ◌<◌, length, get_or, set, eqb}
use Rattle.std.proofs.Common.{ap, ◌∙◌, le_of_suc-le-suc, not-suc-le-zero, eq-eqb, ne_eqb}
use Rattle.std.proofs.Math.Bool.{true, false, cond}
use native.Mathlib.Omega.{arith}
use Rattle.model.specs.declared.Entry.{Entry}
use Rattle.model.specs.declared.Region.{Region}
use Rattle.laws.specs.Lists.{keep, count}
use Rattle.model.specs.Machine.{Machine}
use Rattle.model.specs.Sound.{Hold, holds, entry_holds, range_holds, holders_of, Used}
use Rattle.laws.specs.CountLaws.{count_append}
use Rattle.model.specs.Holders.{one_if, holding, weight, entry_taken, entry_hold, range_taken, range_hold, entries_hold, ranges_hold}

-- rows that hold where u says so, each as g says
module _ {A : Type 0} (u : A → Bool) (g : A → Hold) (f : ℕ) where
  -- row by row
  pub holding_cons : (x : A) (l : List A) → holding u g f (x ∷ l) ≡ weight u g f x + holding u g f l
  unfolding count keep
  holding_cons x l = go (u x)
    where
      counted : (b : Bool) → cond b (holding u g f l + 1) (holding u g f l) ≡ one_if b + holding u g f l
      counted true = omega arith
      counted false = omega arith

      go : (b : Bool) → count (λ h. eqb h.frame f) (map g (cond b (x ∷ keep u l) (keep u l))) ≡ cond b (one_if (eqb (g x).frame f)) 0 + holding u g f l
      go true = counted (eqb (g x).frame f)
      go false = omega arith

  -- a row is another: what it added goes, what the other adds comes
  pub holding_put : (d : A) (l : List A) (i : ℕ) (x : A) → i < length l → holding u g f (set l i x) + weight u g f (get_or l i d) ≡ holding u g f l + weight u g f x
  holding_put d [] i x h = absurd (not-suc-le-zero h)
  holding_put d (y ∷ l) zero x h = let was = holding_cons y l in let is = holding_cons x l in omega arith
  holding_put d (y ∷ l) (suc i) x h =
      let was = holding_cons y l in
      let is = holding_cons y (set l i x) in
      let rest = holding_put d l i x (le_of_suc-le-suc h) in
      omega arith

-- the holders of a backing are its entries and its ranges
pub holders_split : (m : Machine) (f : ℕ) → holders_of m f ≡ entries_hold m.entries f + ranges_hold m.regions f
unfolding holders_of holds entry_holds range_holds
holders_split m f = count_append (λ h. eqb h.frame f) (map entry_hold (keep entry_taken m.entries)) (map range_hold (keep range_taken m.regions))

-- ---- what a row weighs

pub weight_unused : (f : ℕ) (r : Region) → r.kind ≡ 0 → weight range_taken range_hold f r ≡ 0
weight_unused f r z = ap (λ (b : Bool). cond (not b && eqb r.ranged 1) (one_if (eqb r.range.0 f)) 0) (eq-eqb r.kind 0 z)

pub weight_unranged : (f : ℕ) (r : Region) → r.ranged ≢ 1 → weight range_taken range_hold f r ≡ 0
weight_unranged f r z =
    ap (λ (b : Bool). cond (not (eqb r.kind 0) && b) (one_if (eqb r.range.0 f)) 0) (ne_eqb r.ranged 1 z) ∙ none (not (eqb r.kind 0))
  where
    none : (b : Bool) → cond (b && false) (one_if (eqb r.range.0 f)) 0 ≡ 0
    none true = refl
    none false = refl

pub weight_ranged : (f : ℕ) (r : Region) → Used r → r.ranged ≡ 1 → weight range_taken range_hold f r ≡ one_if (eqb r.range.0 f)
weight_ranged f r u e = λ t. cond (not (ne_eqb r.kind 0 u t) && eq-eqb r.ranged 1 e t) (one_if (eqb r.range.0 f)) 0

pub weight_free : (f : ℕ) (e : Entry) → e.owner ≡ 0 → weight entry_taken entry_hold f e ≡ 0
weight_free f e z = ap (λ (b : Bool). cond (not b) (one_if (eqb e.frame.0 f)) 0) (eq-eqb e.owner 0 z)

pub weight_taken : (f : ℕ) (e : Entry) → e.owner ≢ 0 → weight entry_taken entry_hold f e ≡ one_if (eqb e.frame.0 f)
weight_taken f e z = ap (λ (b : Bool). cond (not b) (one_if (eqb e.frame.0 f)) 0) (ne_eqb e.owner 0 z)
