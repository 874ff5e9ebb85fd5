-- Slots taken out of list order by any test: those that are kept are put one after the other, and zeros after them.
use Rattle.std.specs.Prelude.{◌≡◌, refl, Bool, true, false, List, [], ◌∷◌, ℕ, ◌+◌, ◌-◌, ◌*◌, ◌≤◌, ◌<◌, length, get_or, set, take, replicate}
use Rattle.std.proofs.Common.{ap, sym, ◌∙◌, arith}
use Rattle.std.proofs.lemmas.List.{length-replicate, replicate-append-replicate}
use Rattle.std.proofs.lemmas.List.Edits.{sets}
use Rattle.laws.specs.Lists.{keep, pad, put_part}
use Rattle.model.specs.Machine.{Machine, process_at, attached_of, with_processes, with_order, order_of}
use Rattle.model.specs.Layout.{machine}
use Rattle.laws.specs.ListsLaws.{pad_length, keep_append, keep_most, pad_rest, sets_append, sets_after, sets_part}
use Rattle.rows.specs.With.{with_order_table}
use Rattle.lookup.specs.AttachedLaws.{order_slot}
use Rattle.regions.specs.PickedLaws.{Picks, Picked, picked_first, picked_more, picked_all}

-- ---- one place

pub leaves : (f : ℕ → Bool) (t : ℕ) → f t ≡ false → keep f (t ∷ []) ≡ []
unfolding keep
leaves f t e = rw e refl

pub stays : (f : ℕ → Bool) (t : ℕ) → f t ≡ true → keep f (t ∷ []) ≡ t ∷ []
unfolding keep
stays f t e = rw e refl

pub keeps : (f : ℕ → Bool) → Picks (keep f)
unfolding keep
keeps f = record { joins = keep_append f; few = keep_most f; none = refl }

-- what stands at a place is put at place a of the order, if it is kept, and is counted
abbrev pub KeptAt : Machine → Machine → ℕ → (ℕ → Bool) → ℕ → ℕ → ℕ → Type 0
KeptAt m n a f t kept r = (r ≡ kept + length (keep f (t ∷ []))) × (n ≡ with_order_table m (sets m.order a (keep f (t ∷ []))))

module _ (m : Machine) (a : ℕ) (f : ℕ → Bool) (t kept x : ℕ) (read : x ≡ t) where
  pub place_leaves : f x ≡ false → KeptAt m m a f t kept kept
  place_leaves e =
      let none = leaves f t (ap f (sym read) ∙ e) in
      (let z : kept ≡ kept + 0 = omega arith in z ∙ ap (λ (l : List ℕ). kept + length l) (sym none), ap (λ (l : List ℕ). with_order_table m (sets m.order a l)) (sym none))

  pub place_stays : (n : Machine) → f x ≡ true → n ≡ with_order_table m (set m.order a x) → KeptAt m n a f t kept (kept + 1)
  place_stays n e z =
      let one = stays f t (ap f (sym read) ∙ e) in
      (ap (λ (l : List ℕ). kept + length l) (sym one), z ∙ ap (λ (y : ℕ). with_order_table m (set m.order a y)) read ∙ ap (λ (l : List ℕ). with_order_table m (sets m.order a l)) (sym one))

-- ---- one place after the other

-- of the words w those of the first i places of list order that are kept are put, `kept` of them
abbrev pub Retained : List ℕ → ℕ → (ℕ → Bool) → ℕ → List ℕ → ℕ → ℕ → Type 0
Retained w p f n v kept i =
    Picked (keep f) (order_of (machine w) p) n (machine w).order (p * 64) (machine v).order kept i
    × ((length v ≡ length w) × (machine v ≡ with_order_table (machine w) (machine v).order))

module _ (w : List ℕ) (p : ℕ) (f : ℕ → Bool) (n : ℕ) (sized : n ≡ length (order_of (machine w) p)) (most : n ≤ 64) where
  pub retain_first : Retained w p f n w 0 0
  retain_first = (picked_first (keep f) (keeps f) (order_of (machine w) p) n sized (machine w).order (p * 64), (refl, refl))

  module _ (v : List ℕ) (kept i : ℕ) (s : Retained w p f n v kept i) where
    pub retain_more : i < n → (u : List ℕ) (r : ℕ) → length u ≡ length v → KeptAt (machine v) (machine u) (p * 64 + kept) f (get_or (machine v).order (p * 64 + i) 0) kept r → Retained w p f n u r (i + 1)
    retain_more h u r long put = (picked_more (keep f) (keeps f) (order_of (machine w) p) n sized (machine w).order (p * 64) (machine v).order kept i s.0 h 0 t here (machine u).order r put.0 order, (long ∙ s.1.0, table))
      where
        t : ℕ
        t = get_or (machine v).order (p * 64 + i) 0

        fit : p * 64 + length (keep f (take i (order_of (machine w) p))) ≤ p * 64 + i
        fit = let c = s.0.1.0 in let k = s.0.0.1 in omega arith

        here : t ≡ get_or (order_of (machine w) p) i 0
        here = ap (λ x. get_or x (p * 64 + i) 0) s.0.1.1 ∙ sets_after (machine w).order (p * 64) (keep f (take i (order_of (machine w) p))) (p * 64 + i) 0 fit ∙ order_slot w p n sized most i (get_or (machine w).order (p * 64 + i) 0) h refl

        order : (machine u).order ≡ sets (machine v).order (p * 64 + kept) (keep f (t ∷ []))
        order = ap (λ (m : Machine). m.order) put.1

        table : machine u ≡ with_order_table (machine w) (machine u).order
        table = put.1 ∙ ap (λ (m : Machine). with_order_table m (sets (machine v).order (p * 64 + kept) (keep f (t ∷ [])))) s.1.1 ∙ ap (λ x. with_order_table (machine w) x) (sym order)

    pub retain_all : n ≤ i → (kept ≡ length (keep f (order_of (machine w) p))) × ((kept ≤ 64) × (machine v ≡ with_order_table (machine w) (sets (machine w).order (p * 64) (keep f (order_of (machine w) p)))))
    retain_all h =
        let all = picked_all (keep f) (keeps f) (order_of (machine w) p) n sized (machine w).order (p * 64) (machine v).order kept i s.0 h in
        let low = s.0.0.0 in
        let few = s.0.0.1 in
        (all.0, (omega arith, s.1.1 ∙ ap (λ x. with_order_table (machine w) x) all.1))

-- ---- zeros after them

-- one zero more behind k of them
pub zeros_more : (l : List ℕ) (a k : ℕ) → set (sets l a (replicate k 0)) (a + k) 0 ≡ sets l a (replicate (k + 1) 0)
zeros_more l a k =
    ap (λ (j : ℕ). set (sets l a (replicate k 0)) (a + j) 0) (sym (length-replicate k 0))
    ∙ sym (sets_append l a (replicate k 0) (0 ∷ []))
    ∙ ap (λ x. sets l a x) (replicate-append-replicate k 1 0)

-- of the words w places a to i of list order are 0
abbrev pub Cleared : List ℕ → ℕ → ℕ → List ℕ → ℕ → Type 0
Cleared w p a v i = ((a ≤ i) × (i ≤ 64)) × ((length v ≡ length w) × (machine v ≡ with_order_table (machine w) (sets (machine w).order (p * 64 + a) (replicate (i - a) 0))))

module _ (w : List ℕ) (p a : ℕ) where
  pub clear_first : a ≤ 64 → Cleared w p a w a
  clear_first h = ((omega arith, h), (refl, ap (λ (k : ℕ). with_order_table (machine w) (sets (machine w).order (p * 64 + a) (replicate k 0))) (let e : 0 ≡ a - a = omega arith in e)))

  module _ (v : List ℕ) (i : ℕ) (s : Cleared w p a v i) where
    pub clear_more : i < 64 → (u : List ℕ) → length u ≡ length v → machine u ≡ with_order_table (machine v) (set (machine v).order (p * 64 + i) 0) → Cleared w p a u (i + 1)
    clear_more h u long z = ((omega arith, omega arith), (long ∙ s.1.0, z ∙ ap (λ (m : Machine). with_order_table m (set m.order (p * 64 + i) 0)) s.1.1 ∙ ap (λ x. with_order_table (machine w) x) one_more))
      where
        one_more : set (sets (machine w).order (p * 64 + a) (replicate (i - a) 0)) (p * 64 + i) 0 ≡ sets (machine w).order (p * 64 + a) (replicate (i + 1 - a) 0)
        one_more =
            ap (λ (j : ℕ). set (sets (machine w).order (p * 64 + a) (replicate (i - a) 0)) j 0) (let e : p * 64 + i ≡ p * 64 + a + (i - a) = omega arith in e)
            ∙ zeros_more (machine w).order (p * 64 + a) (i - a)
            ∙ ap (λ (k : ℕ). sets (machine w).order (p * 64 + a) (replicate k 0)) (let e : i - a + 1 ≡ i + 1 - a = omega arith in e)

    pub clear_all : 64 ≤ i → machine v ≡ with_order_table (machine w) (sets (machine w).order (p * 64 + a) (replicate (64 - a) 0))
    clear_all h = s.1.1 ∙ ap (λ (j : ℕ). with_order_table (machine w) (sets (machine w).order (p * 64 + a) (replicate (j - a) 0))) (let e : i ≡ 64 = omega arith in e)

-- ---- the list replaced

pub puts_list :
    (m a b c : Machine) (p : ℕ) (l : List ℕ) (k : ℕ)
    → p * 64 + 64 ≤ length m.order
    → k ≡ length l
    → k ≤ 64
    → a ≡ with_order_table m (sets m.order (p * 64) l)
    → b ≡ with_order_table a (sets a.order (p * 64 + k) (replicate (64 - k) 0))
    → c ≡ with_processes b (set b.processes p (attached_of (process_at b p) k))
    → c ≡ with_order m p l
unfolding with_order
puts_list m a b c p l k inside sized most x y z =
    z
    ∙ ap (λ (n : Machine). with_processes n (set n.processes p (attached_of (process_at n p) k))) (y ∙ ap (λ (n : Machine). with_order_table n (sets n.order (p * 64 + k) (replicate (64 - k) 0))) x)
    ∙ ap (λ (j : ℕ). with_processes (with_order_table m (sets (sets m.order (p * 64) l) (p * 64 + j) (replicate (64 - j) 0))) (set m.processes p (attached_of (process_at m p) j))) sized
    ∙ ap (λ t. with_processes (with_order_table m t) (set m.processes p (attached_of (process_at m p) (length l)))) whole
  where
    whole : sets (sets m.order (p * 64) l) (p * 64 + length l) (replicate (64 - length l) 0) ≡ put_part 64 p (pad 64 0 l) m.order
    whole =
        sym (sets_append m.order (p * 64) l (replicate (64 - length l) 0))
        ∙ ap (λ t. sets m.order (p * 64) t) (pad_rest 64 0 l (let e = sized in omega arith))
        ∙ sets_part 64 p (pad 64 0 l) m.order (pad_length 64 0 l) inside
