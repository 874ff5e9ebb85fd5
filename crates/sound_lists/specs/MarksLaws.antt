-- Laws of `Marks`: marks of the slots that a list names: after i places they are of the first i, so a slot has one already exactly if it is listed before.
use Rattle.std.specs.Prelude.{◌≡◌, refl, ◌≢◌, Bool, true, false, not, ◌||◌, ◌&&◌, List, [], ◌∷◌, ◌++◌, ℕ, zero, suc, ◌+◌, ◌≤◌, ◌<◌, length, get_or, set, take, replicate, eqb, ltb}
use Rattle.std.proofs.Common.{ap, sym, subst, ◌∙◌, true≢false, le_of_suc-le-suc, not-suc-le-zero, arith, add-one, length-set, get_or-set_same, get_or-set_other, take-suc, get_or-take, length-take-le}
use Rattle.std.proofs.Math.Bool.{or-true, or-false, or_assoc}
use Rattle.std.proofs.Math.Decide.{ℕ_discrete}
use Rattle.std.proofs.lemmas.List.{get_or-replicate}
use borrow.Author.Tests.{ltb-true, lt-ltb, le-ltb, eq-eqb, ne_eqb}
use Rattle.laws.specs.TellsLaws.{tells_same, tells_both}
use Rattle.model.specs.declared.Region.{Region}
use Rattle.laws.specs.Lists.{any, among}
use Rattle.model.specs.Machine.{Machine, region_at}
use Rattle.laws.specs.Tests.{all_rows, all_pairs, Rows, Pairs}
use Rattle.laws.specs.TestLaws.{tells_eq, tells_not, tells_bool, tells_as, tells_rows, tells_pairs}
use Rattle.model.specs.SoundLaws.{tells_unit}
use Rattle.model.proofs.PopulateSoundLaws.{place_of}
use Rattle.model.specs.SoundTest.{listedb}
use Rattle.sound_lists.specs.Marks.{marked}

-- there is a mark for each slot, and those that are set are of the slots that a list names
abbrev pub Marked : List ℕ → List ℕ → Type 0
Marked marks l = (length marks ≡ 64) × ((s : ℕ) → s < 64 → marked marks s ≡ among s l)

-- ---- marks

pub marked_none : Marked (replicate 64 0) []
unfolding any
marked_none = (refl, λ s h. ap (λ (x : ℕ). not (eqb x 0)) (get_or-replicate 64 s 0 0 h))

among_last : (s : ℕ) (l : List ℕ) (x : ℕ) → among s (l ++ (x ∷ [])) ≡ (among s l || eqb s x)
unfolding any
among_last s [] x = or-false (eqb s x)
among_last s (y ∷ l) x = ap (λ b. eqb s y || b) (among_last s l x) ∙ sym (or_assoc (eqb s y) (among s l) (eqb s x))

-- a mark more, for the slot at place i
pub marked_more : (marks new l : List ℕ) (i x : ℕ) → Marked marks (take i l) → i < length l → x ≡ get_or l i 0 → x < 64 → new ≡ set marks x 1 → Marked new (take (i + 1) l)
marked_more marks new l i x old h e small put = subst (λ y. Marked y (take (i + 1) l)) (sym put) (length-set marks x 1 ∙ old.0, λ s low. go s low (ℕ_discrete s x) ∙ sym (among_last s (take i l) x) ∙ ap (λ t. among s t) next)
  where
    next : take i l ++ (x ∷ []) ≡ take (i + 1) l
    next = ap (λ (y : ℕ). take i l ++ (y ∷ [])) e ∙ sym (take-suc l i 0 h) ∙ ap (λ (j : ℕ). take j l) (sym (add-one i))

    go : (s : ℕ) → s < 64 → Dec (s ≡ x) → marked (set marks x 1) s ≡ (among s (take i l) || eqb s x)
    go s low (yes q) = ap (λ (y : ℕ). not (eqb y 0)) (ap (λ (z : ℕ). get_or (set marks x 1) z 0) q ∙ get_or-set_same marks x 1 0 (rw old.0 small)) ∙ sym (or-true (among s (take i l))) ∙ ap (λ b. among s (take i l) || b) (sym (eq-eqb s x q))
    go s low (no n) = ap (λ (y : ℕ). not (eqb y 0)) (get_or-set_other marks x s 1 0 n) ∙ old.1 s low ∙ sym (or-false (among s (take i l))) ∙ ap (λ b. among s (take i l) || b) (sym (ne_eqb s x n))

-- ---- a listed slot

module _ (m : Machine) (p s : ℕ) (b : Bool) where
  pub listed_past : 64 ≤ s → false ≡ (listedb m p s && b)
  unfolding listedb
  listed_past h = rw (le-ltb s 64 h)

  module _ (low : s < 64) (r : Region) (read : r ≡ region_at m p s) where
    pub listed_free : r.kind ≡ 0 → false ≡ (listedb m p s && b)
    unfolding listedb
    listed_free e = rw (lt-ltb s 64 low, eq-eqb (region_at m p s).kind 0 (ap (λ (x : Region). x.kind) (sym read) ∙ e))

    pub listed_used : r.kind ≢ 0 → b ≡ (listedb m p s && b)
    unfolding listedb
    listed_used n = rw (lt-ltb s 64 low, ne_eqb (region_at m p s).kind 0 (λ e. n (ap (λ (x : Region). x.kind) read ∙ e)))

-- a slot that passes is below 64
pub listed_low : (m : Machine) (p s : ℕ) (b : Bool) → true ≡ (listedb m p s && b) → s < 64
unfolding listedb
listed_low m p s b e = go (ltb s 64) refl e
  where
    go : (x : Bool) → ltb s 64 ≡ x → true ≡ ((x && not (eqb (region_at m p s).kind 0)) && b) → s < 64
    go true q e = ltb-true s 64 q
    go false q e = absurd (true≢false e)

-- ---- none twice

-- a slot passes a test, and is not among those before it
abbrev pub fresh : (ℕ → Bool) → List ℕ → ℕ → ℕ → Bool
fresh g l i s = g s && not (among s (take i l))

-- a slot without a mark is fresh
pub unmarked_fresh : (m : Machine) (p : ℕ) (marks l : List ℕ) (i s : ℕ) → Marked marks (take i l) → (listedb m p s && not (marked marks s)) ≡ fresh (listedb m p) l i s
unfolding listedb
unmarked_fresh m p marks l i s old = go (ltb s 64) refl
  where
    go : (b : Bool) → ltb s 64 ≡ b → (listedb m p s && not (marked marks s)) ≡ fresh (listedb m p) l i s
    go true e = ap (λ b. listedb m p s && not b) (old.1 s (ltb-true s 64 e))
    go false e = rw e

among_at : (l : List ℕ) (i s : ℕ) → i < length l → s ≡ get_or l i 0 → among s l ≡ true
unfolding any
among_at [] i s h e = absurd (not-suc-le-zero h)
among_at (x ∷ l) zero s h e = rw (eq-eqb s x e)
among_at (x ∷ l) (suc i) s h e = ap (λ b. eqb s x || b) (among_at l i s (le_of_suc-le-suc h) e) ∙ or-true (eqb s x)

module _ (g : ℕ → Bool) (l : List ℕ) where
  abbrev Fresh : Type 0
  Fresh = Rows 0 l (λ i s. (g s ≡ true) × (among s (take i l) ≡ true → ⊥))

  abbrev Once : Type 0
  Once = Rows 0 l (λ i s. g s ≡ true) × Pairs 0 l (λ s. Unit {0}) (λ s t. s ≢ t)

  fresh_once : Fresh → Once
  fresh_once r = (λ i h. (r i h).0, λ i j h k u e. (r j k).1 (before i j h k (sym e)))
    where
      before : (i j : ℕ) → i < j → j < length l → get_or l j 0 ≡ get_or l i 0 → among (get_or l j 0) (take j l) ≡ true
      before i j h k e = among_at (take j l) i (get_or l j 0) (rw (length-take-le j l (omega arith)) h) (e ∙ sym (get_or-take j l i 0 h))

  once_fresh : Once → Fresh
  once_fresh o i h = (o.0 i h, alone)
    where
      alone : among (get_or l i 0) (take i l) ≡ true → ⊥
      alone e =
          let q = place_of (get_or l i 0) (take i l) e in
          let k : q.at < i = rw (length-take-le i l (omega arith)) at q.inside in
          o.1 q.at i k h tt (sym (get_or-take i l q.at 0 k) ∙ q.is)

  -- all are fresh exactly if all pass the test and no two are the same
  pub fresh_rows : all_rows (fresh g l) 0 l ≡ (all_rows (λ i s. g s) 0 l && all_pairs (λ s. true) (λ s t. not (eqb s t)) l)
  fresh_rows =
      tells_same
      (tells_rows 0 (fresh g l) (λ i s. (g s ≡ true) × (among s (take i l) ≡ true → ⊥)) (λ i s. tells_both (tells_bool (g s)) (tells_not (tells_bool (among s (take i l))))) l)
      (tells_as once_fresh fresh_once (tells_both (tells_rows 0 (λ i s. g s) (λ i s. g s ≡ true) (λ i s. tells_bool (g s)) l) (tells_pairs 0 (λ s. true) (λ s. Unit {0}) (λ s t. not (eqb s t)) (λ s t. s ≢ t) (λ s. tells_unit) (λ s t. tells_not (tells_eq s t)) l)))
