-- On a machine whose pool is right the calls are the model's, and leave such a machine: claim, hold, release, and what the searches find.
use Rattle.std.specs.Prelude.{◌≡◌, ℕ, zero, suc, ◌+◌, ◌-◌, ◌%◌, ◌^◌, ◌<◌, ◌≤◌, Bool, true, false, cond, not, ◌≢◌, List, [], ◌∷◌, length, get_or, nat_le, nat_lt, slice_index_or, slice_set, Some, None}
use Rattle.std.proofs.Math.Path.{refl, ap, subst}
use Rattle.std.proofs.Common.{sym, ◌∙◌, true≢false, length-take, length-take-le, get_or-take, get_or-set_other}
use native.Mathlib.Omega.{arith}
use Rattle.std.proofs.Math.Decide.{ℕ_discrete}
use Rattle.std.proofs.Math.ListN.{length-set}
use Rattle.std.proofs.Math.Seq.{get_or-set_same, take-set-lt}
use borrow.Author.Tests.{ltb-true, ltb-false, leb-true, leb-false, not-true}
use Rattle.laws.specs.ResultLaws.{none_not_some, some_same}
use Rattle.laws.specs.TellsLaws.{told, not_told, tells_both}
use Rattle.model.specs.declared.Backing.{Backing}
use Rattle.model.specs.Layout.{machine}
use Rattle.laws.specs.Lists.{keep, up_from}
use Rattle.laws.specs.TestLaws.{tells_le, tells_lt}
use Rattle.model.specs.Machine.{Machine, State, no_backing, with_pool}
use Rattle.model.specs.Backing.{backing_at, in_some, free_frames, pool_of, with_backings, lowest_run, claim, hold, let_go}
use Rattle.model.specs.Sound.{Sound, free_of}
use Rattle.backing.specs.BackingSteps.{framed, in_run, lowest_fit, given_back, put_row, claimed, held, released, next_frame, with_next_taken}
use Rattle.backing.specs.FreeSearchLaws.{All, Run, run_of}
use Rattle.backing.specs.CoveredLaws.{tells_covers}
use Rattle.backing.specs.FreeRunLaws.{first_passes, first_none}
use Rattle.lookup.specs.LookupsLaws.{backings_length}
use Rattle.backing.specs.PoolsLaws.{Right, kept_pool, taken_pool, given_pool}
use Rattle.backing.specs.Ready.{Ready}
use Rattle.model.specs.RuleUseLaws.{backing_within}

pub sound_ready : {s : State} → Sound s → Ready s.machine
sound_ready sound = record { r2 = sound.r2; rows = sound.r6.sized.backings; few = sound.r6.sized.frame_count }

-- n frames of a machine from f on, at least one, all free
pub record FreeRun (m : Machine) (f n : ℕ) : Type 0 where
  pub some : 1 ≤ n
  pub inside : f + n ≤ m.frame_count
  pub free : (x : ℕ) → f ≤ x → x < f + n → in_some x 0 (framed m) ≡ false

above_zero : {n : ℕ} → n ≢ 0 → 1 ≤ n
above_zero {n = zero} z = absurd (z refl)
above_zero {n = suc n} z = omega arith

run_told : (f n x : ℕ) → in_run f n x ≡ true → (f ≤ x) × (x < f + n)
run_told f n x e = (tells_both (tells_le f x) (tells_lt x (f + n))).yes e

-- ---- what a search finds

all_kept : (P : ℕ → Type 0) (p : ℕ → Bool) (a k : ℕ) → ((x : ℕ) → x < a + k → p x ≡ true → P x) → All P (keep p (up_from a k))
unfolding keep up_from
all_kept P p a zero h = tt
all_kept P p a (suc k) h = go (p a) refl (all_kept P p (a + 1) k (λ x l. h x (omega arith)))
  where
    go : (b : Bool) → p a ≡ b → All P (keep p (up_from (a + 1) k)) → All P (cond b (a ∷ keep p (up_from (a + 1) k)) (keep p (up_from (a + 1) k)))
    go true e r = (h a (omega arith) e, r)
    go false e r = r

-- a frame that has a row and is in no backing
abbrev IsFree : List Backing → ℕ → Type 0
IsFree l x = (x < length l) × (in_some x 0 l ≡ false)

-- every frame of a run that was found is such a one
fit_run : (l : List Backing) (n f : ℕ) → lowest_fit l n ≡ Some f → Run (IsFree l) f n
unfolding lowest_fit free_frames
fit_run l n f e =
    let free : ℕ → Bool = λ x. not (in_some x 0 l) in
    let all = all_kept (IsFree l) free 0 (length l) (λ x p q. (omega arith, not-true (in_some x 0 l) q)) in
    run_of (IsFree l) n 0 0 (keep free (up_from 0 (length l))) f all (λ x p q. absurd (omega arith)) e

fit_inside : (l : List Backing) (n f : ℕ) → lowest_fit l n ≡ Some f → f + n ≤ length l
fit_inside l n f e =
    let found = fit_run l n f e in
    let some = found.some in
    let last = (found.each (f + (n - 1)) (omega arith) (omega arith)).0 in
    omega arith

framed_most : (w : List ℕ) → length (framed (machine w)) ≤ 256
framed_most w = simp length-take (omega (arith, backings_length w))

-- of any words: a frame that was found has a row
pub next_low : (w : List ℕ) (f : ℕ) → next_frame (machine w) ≡ Some f → f < 256
unfolding next_frame
next_low w f e = go (nat_lt (machine w).pool.next.0 (length (framed (machine w)))) refl e
  where
    go : (t : Bool) → nat_lt (machine w).pool.next.0 (length (framed (machine w))) ≡ t → cond t (Some (machine w).pool.next.0) None ≡ Some f → f < 256
    go true q z =
        let low = ltb-true (machine w).pool.next.0 (length (framed (machine w))) q in
        let most = framed_most w in
        let same = some_same z in
        omega arith
    go false q z = absurd (none_not_some z)

module _ (m : Machine) (ready : Ready m) where
  pub framed_length : length (framed m) ≡ m.frame_count
  framed_length = let k = ready.rows in let s = ready.few in length-take-le m.frame_count m.backings (omega arith)

  -- the search for a run is the model's
  pub fit_is : (n : ℕ) → lowest_fit (framed m) n ≡ lowest_run m n
  unfolding lowest_fit lowest_run
  fit_is n = rw framed_length

  -- a run is the lowest that fits (RULES C7): its frames are free
  pub run_free : (n f : ℕ) → lowest_run m n ≡ Some f → FreeRun m f n
  run_free n f e =
      let found = fit_run (framed m) n f (fit_is n ∙ e) in
      let size = framed_length in
      let low = fit_inside (framed m) n f (fit_is n ∙ e) in
      record { some = found.some; inside = omega arith; free = λ x p q. (found.each x p q).1 }

  right : Right m.pool m.frame_count (framed m)
  right = record { free = ready.r2.free; next = ready.r2.next }

  -- the pool's next frame is free where it is one of the machine's
  pub next_free : m.pool.next.0 < m.frame_count → FreeRun m m.pool.next.0 1
  unfolding free_frames
  next_free h = record { some = omega arith; inside = omega arith; free = λ x p q. let here : m.pool.next.0 ≡ x = omega arith in subst (λ (y : ℕ). in_some y 0 (framed m) ≡ false) here lowest }
    where
      free : ℕ → Bool
      free x = not (in_some x 0 (framed m))

      lowest : in_some m.pool.next.0 0 (framed m) ≡ false
      lowest = let is = ready.r2.next in not-true _ (subst (λ (y : ℕ). free y ≡ true) (sym is) (first_passes free m.frame_count 0 m.frame_count (omega arith)))

  -- .. and where it is not, none is free
  pub next_none : m.frame_count ≤ m.pool.next.0 → free_of m ≡ []
  unfolding free_frames
  next_none h = let is = ready.r2.next in first_none (λ x. not (in_some x 0 (framed m))) m.frame_count 0 m.frame_count (omega arith) (omega arith)

  -- ---- rows and what they cover

  at_frame : (j : ℕ) → j < m.frame_count → slice_index_or (framed m) j no_backing ≡ backing_at m j
  at_frame j h = get_or-take m.frame_count m.backings j no_backing h

  -- a frame of a backing is in one
  in_backing : (j x : ℕ) → j < m.frame_count → j ≤ x → x < j + (backing_at m j).len → in_some x 0 (framed m) ≡ true
  in_backing j x h p q =
      let size = framed_length in
      let same = ap (λ (b : Backing). b.len) (at_frame j h) in
      told (tells_covers x 0 (framed m)) (record { row = j; inside = omega arith; from = omega arith; until = omega arith })

  -- a backing lies in the machine's frames
  pub used_inside : (f : ℕ) → (backing_at m f).len ≢ 0 → f + (backing_at m f).len ≤ m.frame_count
  used_inside f used = backing_within m f used ready.r2

  pub used_low : (f : ℕ) → (backing_at m f).len ≢ 0 → f < m.frame_count
  used_low f used = let inside = used_inside f used in let some = above_zero used in omega arith

  -- two backings in use, one after the other
  used_apart : (f g : ℕ) → f < g → (backing_at m f).len ≢ 0 → (backing_at m g).len ≢ 0 → f + (backing_at m f).len ≤ g
  used_apart f g h p q =
      let a = used_inside f p in
      let b = used_inside g q in
      let k = ready.rows in
      let s = ready.few in
      let some = above_zero q in
      ready.r2.apart f (omega arith) p g (omega arith) h q

  -- a row that a machine with a right pool can have
  record Fits (f : ℕ) (b : Backing) : Type 0 where
    inside : f + b.len ≤ m.frame_count
    below : (j : ℕ) → j < f → (backing_at m j).len ≢ 0 → j + (backing_at m j).len ≤ f
    above : (j : ℕ) → f < j → (backing_at m j).len ≢ 0 → f + b.len ≤ j

  -- the row put, and the pool counted afresh
  put_ready : (f : ℕ) (b : Backing) → f < m.frame_count → (b.len ≢ 0 → Fits f b) → Ready (with_backings m (slice_set m.backings f b))
  unfolding with_backings pool_of
  put_ready f b h fits = record { r2 = record { apart = apart; within = within; free = refl; next = refl }; rows = length-set m.backings f b ∙ ready.rows; few = ready.few }
    where
      here : (i : ℕ) → i ≡ f → slice_index_or (slice_set m.backings f b) i no_backing ≡ b
      here i p = let k = ready.rows in let s = ready.few in ap (λ (j : ℕ). get_or (slice_set m.backings f b) j no_backing) p ∙ get_or-set_same m.backings f b no_backing (omega arith)

      there : (i : ℕ) → i ≢ f → slice_index_or (slice_set m.backings f b) i no_backing ≡ backing_at m i
      there i p = get_or-set_other m.backings f i b no_backing p

      moved : {x y : Backing} → x ≡ y → x.len ≢ 0 → y.len ≢ 0
      moved e n = subst (λ (z : Backing). z.len ≢ 0) e n

      within : (i : ℕ) → i < length (slice_set m.backings f b) → (get_or (slice_set m.backings f b) i no_backing).len ≢ 0 → i + (get_or (slice_set m.backings f b) i no_backing).len ≤ m.frame_count
      within i s used = go (ℕ_discrete i f)
        where
          go : Dec (i ≡ f) → i + (get_or (slice_set m.backings f b) i no_backing).len ≤ m.frame_count
          go (yes p) = let e = here i p in let len = ap (λ (z : Backing). z.len) e in let k = (fits (moved e used)).inside in omega arith
          go (no p) = let e = there i p in let len = ap (λ (z : Backing). z.len) e in let k = used_inside i (moved e used) in omega arith

      apart : (i : ℕ) → i < length (slice_set m.backings f b) → (get_or (slice_set m.backings f b) i no_backing).len ≢ 0 → (g : ℕ) → g < length (slice_set m.backings f b) → i < g → (get_or (slice_set m.backings f b) g no_backing).len ≢ 0 → i + (get_or (slice_set m.backings f b) i no_backing).len ≤ g
      apart i s used g t lt other = go (ℕ_discrete i f) (ℕ_discrete g f)
        where
          go : Dec (i ≡ f) → Dec (g ≡ f) → i + (get_or (slice_set m.backings f b) i no_backing).len ≤ g
          go (yes p) (yes q) = absurd (omega arith)
          go (yes p) (no q) = let e = here i p in let len = ap (λ (z : Backing). z.len) e in let k = (fits (moved e used)).above g (omega arith) (moved (there g q) other) in omega arith
          go (no p) (yes q) = let e = there i p in let len = ap (λ (z : Backing). z.len) e in let k = (fits (moved (here g q) other)).below i (omega arith) (moved e used) in omega arith
          go (no p) (no q) = let e = there i p in let len = ap (λ (z : Backing). z.len) e in let k = used_apart i g lt (moved e used) (moved (there g q) other) in omega arith

  -- ---- claim: frames that were free

  module _ (f n : ℕ) (run : FreeRun m f n) where
    free_row : (get_or (framed m) f no_backing).len ≡ 0
    free_row = go (get_or (framed m) f no_backing).len refl
      where
        go : (k : ℕ) → (get_or (framed m) f no_backing).len ≡ k → k ≡ 0
        go zero e = refl
        go (suc k) e =
            let r = run in
            let len = ap (λ (b : Backing). b.len) (at_frame f (omega arith)) in
            absurd (true≢false (sym (in_backing f f (omega arith) (omega arith) (omega arith)) ∙ run.free f (omega arith) (omega arith)))

    pub claim_is : claimed m f n ≡ claim m f n
    unfolding claimed claim with_backings
    claim_is =
        let r = run in
        let taken = taken_pool m.frame_count (framed m) framed_length m.pool right f (omega arith) (record { len = n; holders = 1 }) free_row r.some r.inside (λ x e. r.free x (run_told f n x e).0 (run_told f n x e).1) in
        ap (with_pool m (put_row m f n 1)) (rw (take-set-lt m.frame_count m.backings f (record { len = n; holders = 1 }) (omega arith)) taken)

    pub claim_ready : Ready (claim m f n)
    unfolding claim
    claim_ready = let r = run in put_ready f (record { len = n; holders = 1 }) (omega arith) (λ z. record { inside = r.inside; below = below; above = above })
      where
        below : (j : ℕ) → j < f → (backing_at m j).len ≢ 0 → j + (backing_at m j).len ≤ f
        below j h used = go (nat_le (j + (backing_at m j).len) f) refl
          where
            go : (b : Bool) → nat_le (j + (backing_at m j).len) f ≡ b → j + (backing_at m j).len ≤ f
            go true e = leb-true (j + (backing_at m j).len) f e
            go false e = let r = run in let past = leb-false (j + (backing_at m j).len) f e in absurd (true≢false (sym (in_backing j f (omega arith) (omega arith) past) ∙ r.free f (omega arith) (omega arith)))

        above : (j : ℕ) → f < j → (backing_at m j).len ≢ 0 → f + n ≤ j
        above j h used = go (nat_le (f + n) j) refl
          where
            go : (b : Bool) → nat_le (f + n) j ≡ b → f + n ≤ j
            go true e = leb-true (f + n) j e
            go false e = let r = run in let past = leb-false (f + n) j e in let some = above_zero used in absurd (true≢false (sym (in_backing j j (omega arith) (omega arith) (omega arith)) ∙ r.free j (omega arith) past))

  -- ---- hold and release: a backing in use

  module _ (f : ℕ) (used : (backing_at m f).len ≢ 0) where
    same_len : (backing_at m f).len ≡ (get_or (framed m) f no_backing).len
    same_len = ap (λ (b : Backing). b.len) (sym (at_frame f (used_low f used)))

    -- holders change, and nothing of the pool
    holders_is : (h : ℕ) → with_pool m (put_row m f (backing_at m f).len h) m.pool ≡ with_backings m (put_row m f (backing_at m f).len h)
    unfolding with_backings
    holders_is h = ap (with_pool m (put_row m f (backing_at m f).len h)) (rw (take-set-lt m.frame_count m.backings f (record { len = (backing_at m f).len; holders = h }) (used_low f used)) (kept_pool m.frame_count (framed m) framed_length m.pool right f (used_low f used) (record { len = (backing_at m f).len; holders = h }) same_len))

    holders_ready : (h : ℕ) → Ready (with_backings m (put_row m f (backing_at m f).len h))
    holders_ready h = put_ready f (record { len = (backing_at m f).len; holders = h }) (used_low f used) (λ z. record { inside = used_inside f used; below = λ j l u. used_apart j f l u used; above = λ j l u. used_apart f j l used u })

    pub hold_is : (backing_at m f).holders + 1 < 2 ^ 64 → held m f ≡ hold m f
    unfolding held hold
    hold_is h = let word : ((backing_at m f).holders + 1) % 2 ^ 64 ≡ (backing_at m f).holders + 1 = omega arith in ap (λ (n : ℕ). with_pool m (put_row m f (backing_at m f).len n) m.pool) word ∙ holders_is ((backing_at m f).holders + 1)

    pub hold_ready : Ready (hold m f)
    unfolding hold
    hold_ready = holders_ready ((backing_at m f).holders + 1)

    -- its frames are in no other backing
    alone : (x : ℕ) → in_run f (get_or (framed m) f no_backing).len x ≡ true → in_some x 0 (slice_set (framed m) f no_backing) ≡ false
    alone x e = not_told (tells_covers x 0 (slice_set (framed m) f no_backing)) (λ k. in_other k.row k.inside k.from k.until)
      where
        in_other : (j : ℕ) → j < length (slice_set (framed m) f no_backing) → 0 + j ≤ x → x < 0 + j + (get_or (slice_set (framed m) f no_backing) j no_backing).len → ⊥
        in_other j h p q = go (ℕ_discrete j f)
          where
            go : Dec (j ≡ f) → ⊥
            go (yes z) =
                let size = framed_length in
                let l = used_low f used in
                let none = ap (λ (b : Backing). b.len) (ap (λ (i : ℕ). get_or (slice_set (framed m) f no_backing) i no_backing) z ∙ get_or-set_same (framed m) f no_backing no_backing (omega arith)) in
                omega arith
            go (no z) =
                let size = length-set (framed m) f no_backing ∙ framed_length in
                let same = ap (λ (b : Backing). b.len) (get_or-set_other (framed m) f j no_backing no_backing z ∙ at_frame j (omega arith)) in
                let run = run_told f (get_or (framed m) f no_backing).len x e in
                let from = run.0 in
                let until = run.1 in
                side (nat_lt j f) refl same from until
              where
                in_use : (n k : ℕ) → n ≡ k → x < 0 + j + n → 0 + j ≤ x → k ≢ 0
                in_use n k a b c d = omega arith

                side : (t : Bool) → nat_lt j f ≡ t → (get_or (slice_set (framed m) f no_backing) j no_backing).len ≡ (backing_at m j).len → f ≤ x → x < f + (get_or (framed m) f no_backing).len → ⊥
                side true t same from until = let l = ltb-true j f t in let a = used_apart j f l (in_use _ _ same q p) used in omega arith
                side false t same from until = let l = ltb-false j f t in let mine = same_len in let a = used_apart f j (omega arith) used (in_use _ _ same q p) in omega arith

    freed_is : with_pool m (put_row m f 0 0) (given_back m.pool f (backing_at m f).len) ≡ with_backings m (put_row m f 0 0)
    unfolding with_backings
    freed_is =
        let len = same_len in
        let some = above_zero used in
        let a = used_inside f used in
        ap (with_pool m (put_row m f 0 0)) (rw (take-set-lt m.frame_count m.backings f no_backing (used_low f used), len) (given_pool m.frame_count (framed m) framed_length m.pool right f (used_low f used) (omega arith) (omega arith) ready.few alone))

    pub release_is : released m f ≡ let_go m f
    unfolding released let_go
    release_is = go (nat_le (backing_at m f).holders 1)
      where
        go : (t : Bool) → cond t (with_pool m (put_row m f 0 0) (given_back m.pool f (backing_at m f).len)) (with_pool m (put_row m f (backing_at m f).len ((backing_at m f).holders - 1)) m.pool) ≡ cond t (with_backings m (put_row m f 0 0)) (with_backings m (put_row m f (backing_at m f).len ((backing_at m f).holders - 1)))
        go true = freed_is
        go false = holders_is ((backing_at m f).holders - 1)

    pub release_ready : Ready (let_go m f)
    unfolding let_go
    release_ready = go (nat_le (backing_at m f).holders 1)
      where
        go : (t : Bool) → Ready (cond t (with_backings m (put_row m f 0 0)) (with_backings m (put_row m f (backing_at m f).len ((backing_at m f).holders - 1))))
        go true = put_ready f no_backing (used_low f used) (λ z. absurd (z refl))
        go false = holders_ready ((backing_at m f).holders - 1)

-- ---- the lowest free frame taken

-- what take_frame answers and leaves
pub record Taken (m : Machine) (f : ℕ) : Type 0 where
  pub lowest : f ≡ m.pool.next.0
  pub run : FreeRun m f 1
  pub leaves : with_next_taken m ≡ claim m f 1

module _ (m : Machine) (ready : Ready m) where
  pub taken_at : (f : ℕ) → next_frame m ≡ Some f → Taken m f
  unfolding next_frame with_next_taken
  taken_at f e = go (nat_lt m.pool.next.0 (length (framed m))) refl e
    where
      is_next : (x : ℕ) → x ≡ m.pool.next.0 → x < m.frame_count → FreeRun m x 1
      is_next x p h = subst (λ (y : ℕ). FreeRun m y 1) (sym p) (next_free m ready (omega arith))

      go : (t : Bool) → nat_lt m.pool.next.0 (length (framed m)) ≡ t → cond t (Some m.pool.next.0) None ≡ Some f → Taken m f
      go true q w =
          let same = some_same w in
          let size = framed_length m ready in
          let low = ltb-true m.pool.next.0 (length (framed m)) q in
          let run = is_next f (sym same) (omega arith) in
          record { lowest = sym same; run = run; leaves = ap (λ t. cond t (claimed m m.pool.next.0 1) m) q ∙ ap (λ (x : ℕ). claimed m x 1) same ∙ claim_is m ready f 1 run }
      go false q w = absurd (none_not_some w)

  pub taken_none : next_frame m ≡ None → (free_of m ≡ []) × (with_next_taken m ≡ m)
  unfolding next_frame with_next_taken
  taken_none e = go (nat_lt m.pool.next.0 (length (framed m))) refl e
    where
      go : (t : Bool) → nat_lt m.pool.next.0 (length (framed m)) ≡ t → cond t (Some m.pool.next.0) None ≡ None → (free_of m ≡ []) × (with_next_taken m ≡ m)
      go true q w = absurd (none_not_some (sym w))
      go false q w = let size = framed_length m ready in let high = ltb-false m.pool.next.0 (length (framed m)) q in (next_none m ready (omega arith), ap (λ t. cond t (claimed m m.pool.next.0 1) m) q)
