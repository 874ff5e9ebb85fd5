-- A pool that is right for some rows, and right again once one row is claimed, kept or freed.
use Rattle.std.specs.Prelude.{◌≡◌, ℕ, ◌+◌, ◌-◌, ◌%◌, ◌^◌, ◌<◌, ◌≤◌, Bool, true, false, not, ◌||◌, List, length, drop, slice_index_or, slice_set}
use Rattle.std.proofs.Math.Path.{refl, ap, sym}
use Rattle.std.proofs.Common.{subst, ◌∙◌, true≢false, length-set, get_or-set_other}
use native.Mathlib.Omega.{arith}
use borrow.Author.Tests.{not-true}
use Rattle.laws.specs.ListsLaws.{keep_most, up_length}
use Rattle.laws.specs.TellsLaws.{told}
use Rattle.model.specs.declared.Backing.{Backing}
use Rattle.model.specs.declared.Pool.{Pool}
use Rattle.laws.specs.Lists.{keep, up_from, first}
use Rattle.model.specs.Machine.{no_backing}
use Rattle.model.specs.Backing.{in_some, free_frames, pool_of}
use Rattle.backing.specs.PassLaws.{keep_same}
use Rattle.backing.specs.BackingSteps.{in_run, free_above, lowest_free, taken_from, given_back, lower}
use Rattle.backing.specs.CoveredLaws.{tells_covers, covers_row, covers_kept, covers_more, covers_drop}
use Rattle.backing.specs.FreeRunLaws.{in_run_is, first_most, first_passes, keep_skip, few_many, count_split, given_first}

-- the pool's free frames are those in no backing (RULES R2)
pub record Right (q : Pool) (n : ℕ) (l : List Backing) : Type 0 where
  pub free : q.free ≡ length (free_frames n l)
  pub next : q.next.0 ≡ first n (free_frames n l)

-- a word holds any count of a machine's frames
word_holds : (a : ℕ) → a ≤ 256 → a % 2 ^ 64 ≡ a
word_holds a h = omega arith

module _ (n : ℕ) (l : List Backing) (sized : length l ≡ n) (q : Pool) (right : Right q n l) (f : ℕ) (inside : f < n) where
  -- a row that keeps its length leaves the pool right
  pub kept_pool : (b : Backing) → b.len ≡ (slice_index_or l f no_backing).len → q ≡ pool_of n (slice_set l f b)
  unfolding pool_of free_frames
  kept_pool b e =
      let same = keep_same (λ x. not (in_some x 0 l)) (λ x. not (in_some x 0 (slice_set l f b))) 0 n (λ x h. ap not (sym (covers_kept x f l (omega arith) b e))) in
      λ t. record { free = (right.free ∙ ap length same) t; next = record { 0 = (right.next ∙ ap (first n) same) t } }

  -- a backing claimed of frames that were free
  module _ (b : Backing) (none : (slice_index_or l f no_backing).len ≡ 0) (some : 1 ≤ b.len) (fits : f + b.len ≤ n) (free : (x : ℕ) → in_run f b.len x ≡ true → in_some x 0 l ≡ false) where
    parts : (x : ℕ) → in_some x 0 (slice_set l f b) ≡ (in_run f b.len x || in_some x 0 l)
    parts x = covers_more x f l (omega arith) b none

    fewer : q.free - b.len ≡ length (free_frames n (slice_set l f b))
    unfolding free_frames
    fewer = let split = count_split (λ x. in_some x 0 (slice_set l f b)) (λ x. in_some x 0 l) f b.len parts free n fits in let was = right.free in omega arith

    -- the pool's next frame is not past the claimed ones, and it was free
    next_low : q.next.0 ≤ f
    unfolding free_frames
    next_low = let is = right.next in let low = first_most (λ x. not (in_some x 0 l)) n 0 n f (omega arith) (omega arith) (ap not (free f (in_run_is f b.len f (omega arith) (omega arith)))) in omega arith

    next_free : in_some q.next.0 0 l ≡ false
    unfolding free_frames
    next_free = let is = right.next in let low = next_low in not-true _ (subst (λ (x : ℕ). not (in_some x 0 l) ≡ true) (sym is) (first_passes (λ x. not (in_some x 0 l)) n 0 n (omega arith)))

    -- below it none is free, before and after
    none_below : (x : ℕ) → x < q.next.0 → not (in_some x 0 (slice_set l f b)) ≡ false
    unfolding free_frames
    none_below x h = go (not (in_some x 0 (slice_set l f b))) refl
      where
        go : (t : Bool) → not (in_some x 0 (slice_set l f b)) ≡ t → t ≡ false
        go true e = let is = right.next in let low = next_low in let most = first_most (λ y. not (in_some y 0 l)) n 0 n x (omega arith) (omega arith) (few_many (λ y. in_some y 0 (slice_set l f b)) (λ y. in_some y 0 l) f b.len parts free x e) in absurd (omega arith)
        go false e = refl

    -- a backing that starts below it ends there or before
    ends_below : (x : ℕ) → q.next.0 ≤ x → (j : ℕ) → j < q.next.0 → x < j + (slice_index_or (slice_set l f b) j no_backing).len → ⊥
    ends_below x h j lt past =
        let low = next_low in
        let same = ap (λ (r : Backing). r.len) (get_or-set_other l f j b no_backing (λ e. omega arith)) in
        true≢false (sym (told (tells_covers q.next.0 0 l) (record { row = j; inside = omega arith; from = omega arith; until = omega arith })) ∙ next_free)

    lowest : lowest_free q.next.0 (slice_set l f b) ≡ first n (free_frames n (slice_set l f b))
    unfolding lowest_free free_above free_frames
    lowest =
        let low = next_low in
        let test : ℕ → Bool = λ x. not (in_some x 0 (slice_set l f b)) in
        ap (λ (k : ℕ). first k (keep (λ x. not (in_some x q.next.0 (drop q.next.0 (slice_set l f b)))) (up_from q.next.0 (k - q.next.0)))) (length-set l f b ∙ sized)
        ∙ ap (first n) (keep_same _ test q.next.0 (n - q.next.0) (λ x h. ap not (covers_drop x q.next.0 (slice_set l f b) (ends_below x h) h)) ∙ sym (keep_skip test 0 q.next.0 q.next.0 (n - q.next.0) n (omega arith) (omega arith) (λ x p h. none_below x h)))

    pub taken_pool : taken_from q b.len (lowest_free q.next.0 (slice_set l f b)) ≡ pool_of n (slice_set l f b)
    unfolding pool_of
    taken_pool = λ t. record { free = fewer t; next = record { 0 = lowest t } }

  -- a backing freed whose frames are in no other
  module _ (some : 1 ≤ (slice_index_or l f no_backing).len) (fits : f + (slice_index_or l f no_backing).len ≤ n) (few : n ≤ 256) (apart : (x : ℕ) → in_run f (slice_index_or l f no_backing).len x ≡ true → in_some x 0 (slice_set l f no_backing) ≡ false) where
    more : (q.free + (slice_index_or l f no_backing).len) % 2 ^ 64 ≡ length (free_frames n (slice_set l f no_backing))
    unfolding free_frames
    more =
        let split = count_split (λ x. in_some x 0 l) (λ x. in_some x 0 (slice_set l f no_backing)) f (slice_index_or l f no_backing).len (λ x. covers_row x f l (omega arith)) apart n fits in
        let was = right.free in
        let most = keep_most (λ x. not (in_some x 0 (slice_set l f no_backing))) (up_from 0 n) in
        let all = up_length 0 n in
        let word = word_holds (q.free + (slice_index_or l f no_backing).len) (omega arith) in
        omega arith

    lowered : lower q.next.0 f ≡ first n (free_frames n (slice_set l f no_backing))
    unfolding free_frames
    lowered = ap (λ (k : ℕ). lower k f) right.next ∙ sym (given_first (λ x. in_some x 0 l) (λ x. in_some x 0 (slice_set l f no_backing)) f (slice_index_or l f no_backing).len (λ x. covers_row x f l (omega arith)) apart n some fits)

    pub given_pool : given_back q f (slice_index_or l f no_backing).len ≡ pool_of n (slice_set l f no_backing)
    unfolding pool_of
    given_pool = λ t. record { free = more t; next = record { 0 = lowered t } }
