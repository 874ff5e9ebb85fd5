-- The walk over the regions that are taken out.
use Rattle.std.specs.Prelude.{◌≡◌, refl, true, false, List, ◌∷◌, ◌++◌, ℕ, ◌+◌, ◌≤◌, ◌<◌, length, get_or, Result, Ok, Err, ⊤, is_err}
use Rattle.std.proofs.Math.Path.{ap, sym}
use Rattle.std.proofs.Common.{subst, ◌∙◌, true≢false, arith}
use Rattle.std.proofs.lemmas.Bool.{false≢true}
use Rattle.answers.specs.declared.Refusal.{Refusal}
use Rattle.model.specs.Machine.{Machine, with_order, order_of}
use Rattle.model.specs.Layout.{machine}
use Rattle.model.specs.Answers.{first_of}
use Rattle.model.specs.Carve.{split_at_bounds, split_refusals, carve_each}
use Rattle.keeping.specs.GuardedKept.{Passed, passed}
use Rattle.keeping.specs.Owing.{nothing}
use Rattle.keeping.specs.CarveKept.{Carving, Passes, told, bounds_passed}
use Rattle.split.specs.SplitBound.{Bounded}
use Rattle.carve_cut.specs.CarvedOne.{carved_one}
use Rattle.carve.specs.PutBack.{slice, push_all, Rooms}
use Rattle.carve.specs.PutBackLaws.{slice_cons, slice_none}
use Rattle.carve.specs.ListedRoomLaws.{appended, rooms_behind, pushed_all}
use Rattle.carve.specs.SplitReadyLaws.{any_steps, out_small, shorter, bounded}
use Rattle.carve.specs.CarveWalk.{Anything, Ready}

module _ (p a e : ℕ) (m : Machine) (s : ℕ) (rest : List ℕ) (k : Ready p a e m (s ∷ rest)) where
  abbrev x : Machine
  x = k.passes.x

  abbrev l : List ℕ
  l = k.passes.l

  abbrev c : Carving nothing p k.passes.x k.passes.l (s ∷ rest)
  c = k.passes.carving

  pub ready_small : s < 64
  ready_small = out_small p x l s rest c

  tells : Ok tt ≡ first_of (split_refusals m p s a e) → Passed (split_refusals (with_order x p l) p s a e)
  tells h = passed _ (sym (h ∙ ap (λ (z : Machine). first_of (split_refusals z p s a e)) k.passes.machine))

  pub ready_bounds : Ok tt ≡ first_of (split_refusals m p s a e) → Bounded m p s a e
  ready_bounds h =
      let w = told nothing Anything p (any_steps p) a e k.low k.high x l s (tells h) in
      subst (λ (z : Machine). Bounded z p s a e) (sym k.passes.machine) (bounded p a e rest x l s c w.0 k.low k.high w.1)

  pub ready_next : Ok tt ≡ first_of (split_refusals m p s a e) → Ready p a e (split_at_bounds m p s a e) rest
  ready_next h =
      let w = told nothing Anything p (any_steps p) a e k.low k.high x l s (tells h) in
      record { low = k.low; high = k.high; passes = subst (λ (z : Machine). Passes nothing Anything p (split_at_bounds z p s a e) rest) (sym k.passes.machine) (bounds_passed nothing Anything p (any_steps p) a e rest x l s c w.0 tt k.low k.high w.1) }

  pub ready_rooms : Rooms p (s ∷ rest) m
  ready_rooms = subst (λ (z : Machine). Rooms p (s ∷ rest) z) (sym k.passes.machine) (rooms_behind x p c.inside c.room (s ∷ rest) l c.few)

  pub ready_back : push_all p (s ∷ rest) m ≡ with_order m p (order_of m p ++ (s ∷ rest))
  ready_back =
      let short = shorter p x l s rest c in
      ap (λ (z : Machine). push_all p (s ∷ rest) z) k.passes.machine
      ∙ pushed_all x p c.inside c.room (s ∷ rest) l c.few
      ∙ sym (appended x p c.inside c.room l (s ∷ rest) (omega arith))
      ∙ ap (λ (z : Machine). with_order z p (order_of z p ++ (s ∷ rest))) (sym k.passes.machine)

-- ---- one after the other

each_on : (s : ℕ) (l : List ℕ) (m : Machine) (p a e : ℕ) → Ok tt ≡ first_of (split_refusals m p s a e) → carve_each (s ∷ l) m p a e ≡ carve_each l (split_at_bounds m p s a e) p a e
unfolding carve_each
each_on s l m p a e h = ap (λ (t : Result ⊤ Refusal). elim t as (λ z. Machine × Result ⊤ Refusal) [ Ok tt ↦ carve_each l (split_at_bounds m p s a e) p a e | Err r ↦ (with_order m p (order_of m p ++ (s ∷ l)), Err r) ]) (sym h)

each_stops : (s : ℕ) (l : List ℕ) (m : Machine) (p a e : ℕ) (r : Refusal) → Err r ≡ first_of (split_refusals m p s a e) → carve_each (s ∷ l) m p a e ≡ (with_order m p (order_of m p ++ (s ∷ l)), Err r)
unfolding carve_each
each_stops s l m p a e r h = ap (λ (t : Result ⊤ Refusal). elim t as (λ z. Machine × Result ⊤ Refusal) [ Ok tt ↦ carve_each l (split_at_bounds m p s a e) p a e | Err r ↦ (with_order m p (order_of m p ++ (s ∷ l)), Err r) ]) (sym h)

-- those before place i are split
abbrev pub Walked : List ℕ → List ℕ → ℕ → ℕ → ℕ → ℕ → List ℕ → ℕ → Type 0
Walked w out n p a e v i = (i ≤ n) × ((length v ≡ length w) × (Ready p a e (machine v) (slice out i n) × (carve_each (slice out i n) (machine v) p a e ≡ carve_each (slice out 0 n) (machine w) p a e)))

module _ (w out : List ℕ) (n p a e : ℕ) (most : n ≤ length out) where
  pub walk_first : Ready p a e (machine w) (slice out 0 n) → Walked w out n p a e w 0
  walk_first k = (omega arith, (refl, (k, refl)))

  module _ (v : List ℕ) (i : ℕ) (s : Walked w out n p a e v i) where
    pub walk_all : n ≤ i → (Ok tt ≡ (carve_each (slice out 0 n) (machine w) p a e).1) × (machine v ≡ (carve_each (slice out 0 n) (machine w) p a e).0)
    unfolding carve_each
    walk_all h = let same = sym (ap (λ l. carve_each l (machine v) p a e) (slice_none out i n h)) ∙ s.1.1.1 in (ap (λ (z : Machine × Result ⊤ Refusal). z.1) same, ap (λ (z : Machine × Result ⊤ Refusal). z.0) same)

    module _ (h : i < n) where
      here : slice out i n ≡ get_or out i 0 ∷ slice out (i + 1) n
      here = slice_cons out i n h most

      now_ready : Ready p a e (machine v) (get_or out i 0 ∷ slice out (i + 1) n)
      now_ready = subst (λ l. Ready p a e (machine v) l) here s.1.1.0

      pub walk_small : get_or out i 0 < 64
      walk_small = ready_small p a e (machine v) (get_or out i 0) (slice out (i + 1) n) now_ready

      pub walk_bounds : Ok tt ≡ first_of (split_refusals (machine v) p (get_or out i 0) a e) → Bounded (machine v) p (get_or out i 0) a e
      walk_bounds y = ready_bounds p a e (machine v) (get_or out i 0) (slice out (i + 1) n) now_ready y

      module _ (d : Result ⊤ Refusal) (told_d : d ≡ first_of (split_refusals (machine v) p (get_or out i 0) a e)) (u : List ℕ) (left : machine u ≡ carved_one d (machine v) p (get_or out i 0) a e) where
        -- it was split
        pub walk_more : length u ≡ length v → is_err d ≡ false → Walked w out n p a e u (i + 1)
        walk_more long y = go d told_d left y
          where
            go : (t : Result ⊤ Refusal) → t ≡ first_of (split_refusals (machine v) p (get_or out i 0) a e) → machine u ≡ carved_one t (machine v) p (get_or out i 0) a e → is_err t ≡ false → Walked w out n p a e u (i + 1)
            go (Err r) q g z = absurd (true≢false z)
            go (Ok tt) q g z =
                (omega arith, (long ∙ s.1.0, (subst (λ (m : Machine). Ready p a e m (slice out (i + 1) n)) (sym g) (ready_next p a e (machine v) (get_or out i 0) (slice out (i + 1) n) now_ready q), ap (λ (m : Machine). carve_each (slice out (i + 1) n) m p a e) g ∙ sym (each_on (get_or out i 0) (slice out (i + 1) n) (machine v) p a e q) ∙ ap (λ l. carve_each l (machine v) p a e) (sym here) ∙ s.1.1.1)))

        -- it was refused: nothing changed
        pub walk_same : is_err d ≡ true → machine u ≡ machine v
        walk_same y = go d left y
          where
            go : (t : Result ⊤ Refusal) → machine u ≡ carved_one t (machine v) p (get_or out i 0) a e → is_err t ≡ true → machine u ≡ machine v
            go (Err r) g z = g
            go (Ok tt) g z = absurd (false≢true z)

        pub walk_rooms : is_err d ≡ true → Rooms p (slice out i n) (machine u)
        walk_rooms y = subst (λ (m : Machine). Rooms p (slice out i n) m) (sym (walk_same y)) (subst (λ l. Rooms p l (machine v)) (sym here) (ready_rooms p a e (machine v) (get_or out i 0) (slice out (i + 1) n) now_ready))

        pub walk_stops : is_err d ≡ true → (t : List ℕ) → machine t ≡ push_all p (slice out i n) (machine u) → (d ≡ (carve_each (slice out 0 n) (machine w) p a e).1) × (machine t ≡ (carve_each (slice out 0 n) (machine w) p a e).0)
        walk_stops y t put = go d told_d y
          where
            back : machine t ≡ with_order (machine v) p (order_of (machine v) p ++ (get_or out i 0 ∷ slice out (i + 1) n))
            back = put ∙ (λ q. push_all p (here q) (walk_same y q)) ∙ ready_back p a e (machine v) (get_or out i 0) (slice out (i + 1) n) now_ready

            go : (f : Result ⊤ Refusal) → f ≡ first_of (split_refusals (machine v) p (get_or out i 0) a e) → is_err f ≡ true → (f ≡ (carve_each (slice out 0 n) (machine w) p a e).1) × (machine t ≡ (carve_each (slice out 0 n) (machine w) p a e).0)
            go (Ok tt) q z = absurd (false≢true z)
            go (Err r) q z =
                let whole = sym (each_stops (get_or out i 0) (slice out (i + 1) n) (machine v) p a e r q) ∙ ap (λ l. carve_each l (machine v) p a e) (sym here) ∙ s.1.1.1 in
                (ap (λ (z : Machine × Result ⊤ Refusal). z.1) whole, back ∙ ap (λ (z : Machine × Result ⊤ Refusal). z.0) whole)
