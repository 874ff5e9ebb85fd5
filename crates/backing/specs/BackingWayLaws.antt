-- One lemma for each way through a function: what it was told makes its answer the one that its contract names.
use Rattle.std.specs.Prelude.{◌≡◌, ℕ, ◌+◌, ◌-◌, ◌%◌, ◌^◌, ◌<◌, ◌≤◌, Bool, true, false, cond, List, [], ◌∷◌, length, take, min, ◌==◌, slice_index_or, refl, Some, None}
use Rattle.std.proofs.Math.Path.{ap}
use Rattle.std.proofs.Common.{sym, ◌∙◌, arith, length-take, get_or-take}
use borrow.Author.Tests.{lt-ltb, le-ltb, le-leb, lt-leb, ne_eqb}
use Rattle.model.specs.declared.Backing.{Backing}
use Rattle.model.specs.declared.Pool.{Pool}
use Rattle.lookup.specs.LookupsLaws.{backings_length}
use Rattle.model.specs.Layout.{machine}
use Rattle.model.specs.Machine.{Machine, no_backing, with_pool}
use Rattle.model.specs.Backing.{backing_at, run_from}
use Rattle.backing.specs.BackingSteps.{framed, lowest_free, lowest_fit, taken_from, given_back, put_row, claimed, held, released, next_frame, with_next_taken}

-- ---- the pass

pub rows_min : (w : List ℕ) (n : ℕ) → n ≡ (machine w).frame_count → (r : ℕ) → r ≡ min n 256 → r ≡ length (framed (machine w))
rows_min w n read r e = let k = backings_length w in let t = length-take (machine w).frame_count (machine w).backings in omega (arith, e, read, k, t)

-- row i of the machine's frames
pub framed_row : (m : Machine) (i : ℕ) (b : Backing) → i < length (framed m) → b ≡ slice_index_or m.backings i no_backing → b ≡ slice_index_or (framed m) i no_backing
framed_row m i b h e = let few = simp length-take at h in e ∙ sym (get_or-take m.frame_count m.backings i no_backing (omega arith))

-- no run of no frames
no_fit : (f k : ℕ) (l : List ℕ) → run_from 0 f k l ≡ None
unfolding run_from
no_fit f k [] = refl
no_fit f k (x ∷ l) = go (x == f + k) (no_fit f (k + 1) l) (no_fit x 1 l)
  where
    go : (b : Bool) → run_from 0 f (k + 1) l ≡ None → run_from 0 x 1 l ≡ None → cond b (cond (k + 1 == 0) (Some f) (run_from 0 f (k + 1) l)) (cond (0 == 1) (Some x) (run_from 0 x 1 l)) ≡ None
    go true p q = rw (ne_eqb (k + 1) 0 (λ e. omega arith)) p
    go false p q = q

pub fit_none : (l : List Backing) (n : ℕ) → n ≡ 0 → None ≡ lowest_fit l n
unfolding lowest_fit
fit_none l n z = rw z (sym (no_fit 0 0 _))

-- ---- rows and the pool put

module _ (m : Machine) (f : ℕ) where
  -- the machine with row f put, and its pool as it was
  abbrev put : ℕ → ℕ → Machine
  put n h = with_pool m (put_row m f n h) m.pool

  pub claim_left : (n : ℕ) (q : Pool) → q ≡ m.pool → (one : Machine) → one ≡ put n 1 → (next : ℕ) → next ≡ lowest_free q.next.0 (framed one) → (two : Machine) → two ≡ with_pool one one.backings (taken_from q n next) → two ≡ claimed m f n
  unfolding claimed
  claim_left n q e one a next b two d =
      d ∙ ap (λ (x : Machine). with_pool x x.backings (taken_from q n next)) a ∙ ap (with_pool m (put_row m f n 1)) (ap (taken_from q n) (b ∙ ap (λ (x : Machine). lowest_free q.next.0 (framed x)) a) ∙ ap (λ (p : Pool). taken_from p n (lowest_free p.next.0 (take m.frame_count (put_row m f n 1)))) e)

  module _ (b : Backing) (read : b ≡ slice_index_or m.backings f no_backing) where
    pub hold_left : (h : ℕ) → h ≡ (b.holders + 1) % 2 ^ 64 → (one : Machine) → one ≡ put b.len h → one ≡ held m f
    unfolding held
    hold_left h s one e = e ∙ ap (put b.len) s ∙ ap (λ (x : Backing). put x.len ((x.holders + 1) % 2 ^ 64)) read

    pub fewer_left : 1 < b.holders → (one : Machine) → one ≡ put b.len (b.holders - 1) → one ≡ released m f
    unfolding released
    fewer_left h one e = let same = ap (λ (x : Backing). x.holders) read in rw (lt-leb (backing_at m f).holders 1 (omega arith)) (e ∙ ap (λ (x : Backing). put x.len (x.holders - 1)) read)

    pub freed_left : b.holders ≤ 1 → (q : Pool) → q ≡ m.pool → (one : Machine) → one ≡ put 0 0 → (two : Machine) → two ≡ with_pool one one.backings (given_back q f b.len) → two ≡ released m f
    unfolding released
    freed_left h q e one a two d =
        let same = ap (λ (x : Backing). x.holders) read in
        rw (le-leb (backing_at m f).holders 1 (omega arith))
        (d ∙ ap (λ (x : Machine). with_pool x x.backings (given_back q f b.len)) a ∙ ap (with_pool m (put_row m f 0 0)) (ap (λ (p : Pool). given_back p f b.len) e ∙ ap (λ (x : Backing). given_back m.pool f x.len) read))

-- ---- the next frame taken

module _ (m : Machine) (q : Pool) (read : q ≡ m.pool) (n : ℕ) (sized : n ≡ length (framed m)) where
  same_next : q.next.0 ≡ m.pool.next.0
  same_next = ap (λ (p : Pool). p.next.0) read

  pub next_taken : q.next.0 < n → (one : Machine) → one ≡ claimed m q.next.0 1 → (Some q.next.0 ≡ next_frame m) × (one ≡ with_next_taken m)
  unfolding next_frame with_next_taken
  next_taken h one e =
      let same = same_next in
      let low = lt-ltb m.pool.next.0 (length (framed m)) (omega arith) in
      (rw low (ap (λ (x : ℕ). Some x) same), rw low (e ∙ ap (λ (x : ℕ). claimed m x 1) same))

  pub none_taken : n ≤ q.next.0 → (None ≡ next_frame m) × (m ≡ with_next_taken m)
  unfolding next_frame with_next_taken
  none_taken h = let same = same_next in let high = le-ltb m.pool.next.0 (length (framed m)) (omega arith) in (rw high, rw high)
