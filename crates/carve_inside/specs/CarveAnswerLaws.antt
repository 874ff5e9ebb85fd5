-- The starts of the regions inside a range, put one after the other, and the whole answer.
use Rattle.std.specs.Prelude.{◌≡◌, refl, Bool, true, false, List, [], ◌∷◌, ◌++◌, ℕ, ◌+◌, ◌≤◌, length, set, drop, replicate, Result, Ok, Err, ⊤}
use Rattle.std.proofs.Math.Path.{ap}
use Rattle.std.proofs.Common.{sym, ◌∙◌, arith}
use Rattle.std.proofs.Math.Bool.{cond}
use Rattle.std.proofs.lemmas.List.{map-append, length-replicate, length-map}
use Rattle.std.proofs.lemmas.List.Edits.{sets, sets-eq}
use Rattle.answers.specs.declared.Refusal.{Refusal}
use Rattle.answers.specs.declared.Refusal.TheVariants.{InUse}
use Rattle.model.specs.declared.Region.{Region}
use Rattle.model.specs.declared.Listed.{Listed}
use Rattle.laws.specs.Lists.{keep, pad, any}
use Rattle.laws.specs.ListsLaws.{keep_append, keep_most, fill_pad}
use Rattle.model.specs.Machine.{Machine, region_at, order_of}
use Rattle.model.specs.Lookup.{lies_inside, is_pinned, starts_of}
use Rattle.model.specs.Answers.{listing, not_listed}
use Rattle.model.specs.Carve.{inside_of, carve_answer}
use Rattle.regions.specs.PickedLaws.{Picks, Picked, picked_all}
use Rattle.regions.specs.DetachedLaws.{leaves, stays}
use Rattle.regions.specs.Starts.{with_starts}
use Rattle.carve_inside.specs.CarveAnswer.{starts_in}

-- ---- one place

-- k starts are put, r with that of the region in slot t, if it lies inside
abbrev pub StartPut : Machine → ℕ → ℕ → ℕ → ℕ → List ℕ → ℕ → List ℕ → ℕ → Type 0
StartPut m p a e t out k new r = (r ≡ k + length (starts_in m p a e (t ∷ []))) × (new ≡ sets out k (starts_in m p a e (t ∷ [])))

module _ (m : Machine) (p a e s t : ℕ) (slot : s ≡ t) (r : Region) (read : r ≡ region_at m p s) (out : List ℕ) (k : ℕ) where
  there : r ≡ region_at m p t
  there = read ∙ ap (λ (j : ℕ). region_at m p j) slot

  abbrev lies : ℕ → Bool
  lies j = lies_inside (region_at m p j) a e

  test : (b : Bool) → lies_inside r a e ≡ b → lies t ≡ b
  test b h = ap (λ (x : Region). lies_inside x a e) (sym there) ∙ h

  pub start_not : lies_inside r a e ≡ false → StartPut m p a e t out k out k
  start_not h =
      let none : starts_in m p a e (t ∷ []) ≡ [] = ap (λ l. starts_of m p l) (leaves lies t (test false h)) in
      let same : k ≡ k + 0 = omega arith in
      (same ∙ ap (λ (l : List ℕ). k + length l) (sym none), ap (λ (l : List ℕ). sets out k l) (sym none))

  pub start_put : lies_inside r a e ≡ true → StartPut m p a e t out k (set out k r.start.0) (k + 1)
  start_put h =
      let one : starts_in m p a e (t ∷ []) ≡ (region_at m p t).start.0 ∷ [] = ap (λ l. starts_of m p l) (stays lies t (test true h)) in
      (ap (λ (l : List ℕ). k + length l) (sym one), ap (λ (x : Region). set out k x.start.0) there ∙ ap (λ (l : List ℕ). sets out k l) (sym one))

-- ---- all

pub starts_picked : (m : Machine) (p a e : ℕ) → Picks (starts_in m p a e)
unfolding keep
starts_picked m p a e = record {
  joins = λ l k. ap (λ t. starts_of m p t) (keep_append lies l k) ∙ map-append (λ s. (region_at m p s).start.0) (keep lies l) (keep lies k);
  few = λ l. rw length-map (keep_most lies l);
  none = refl;
}
  where
    lies : ℕ → Bool
    lies j = lies_inside (region_at m p j) a e

sets_zeros : (n : ℕ) (l : List ℕ) → length l ≤ n → sets (replicate n 0) 0 l ≡ pad n 0 l
sets_zeros n l h = sets-eq l (replicate n 0) 0 (rw length-replicate (omega arith)) ∙ ap (λ (j : ℕ). l ++ drop j (replicate n 0)) (let e : 0 + length l ≡ length l = omega arith in e) ∙ fill_pad n 0 l h

pub starts_all : (m : Machine) (p a e n : ℕ) → n ≡ length (order_of m p) → n ≤ 64 → (out new : List ℕ) → out ≡ replicate 64 0 → (k i : ℕ)
    → Picked (starts_in m p a e) (order_of m p) n out 0 new k i → n ≤ i → with_starts (record { done = Ok tt; count = k }) new ≡ listing (starts_of m p (inside_of m p a e))
unfolding listing inside_of
starts_all m p a e n sized most out new zeros k i s h =
    let all = picked_all (starts_in m p a e) (starts_picked m p a e) (order_of m p) n sized out 0 new k i s h in
    let c = all.0 in
    let few = s.0.1 in
    let low = s.0.0 in
    let starts = all.1 ∙ ap (λ l. sets l 0 (starts_in m p a e (order_of m p))) zeros ∙ sets_zeros 64 (starts_in m p a e (order_of m p)) (omega arith) in
    λ q. record { done = Ok tt; count = all.0 q; starts = starts q }

-- ---- the answer

module _ (m : Machine) (p a e : ℕ) (d : Result ⊤ Refusal) (out : List ℕ) where
  pub answer_refused : (r : Refusal) → d ≡ Err r → out ≡ replicate 64 0 → with_starts (record { done = Err r; count = 0 }) out ≡ carve_answer m p a e d
  unfolding carve_answer not_listed
  answer_refused r told zeros = ap (λ l. with_starts (record { done = Err r; count = 0 }) l) zeros ∙ ap (λ (t : Result ⊤ Refusal). carve_answer m p a e t) (sym told)

  module _ (told : d ≡ Ok tt) where
    pub answer_pinned : true ≡ any (λ s. is_pinned (region_at m p s)) (inside_of m p a e) → out ≡ replicate 64 0 → with_starts (record { done = Err InUse; count = 0 }) out ≡ carve_answer m p a e d
    unfolding carve_answer not_listed
    answer_pinned h zeros =
        ap (λ l. with_starts (record { done = Err InUse; count = 0 }) l) zeros
        ∙ ap (λ (b : Bool). cond b (not_listed InUse) (listing (starts_of m p (inside_of m p a e)))) h
        ∙ ap (λ (t : Result ⊤ Refusal). carve_answer m p a e t) (sym told)

    pub answer_listed : false ≡ any (λ s. is_pinned (region_at m p s)) (inside_of m p a e) → (l : Listed) → l ≡ listing (starts_of m p (inside_of m p a e)) → l ≡ carve_answer m p a e d
    unfolding carve_answer
    answer_listed h l g = g ∙ ap (λ (b : Bool). cond b (not_listed InUse) (listing (starts_of m p (inside_of m p a e)))) h ∙ ap (λ (t : Result ⊤ Refusal). carve_answer m p a e t) (sym told)
