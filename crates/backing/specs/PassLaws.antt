-- Laws of `Pass`: the free frames by one pass over the rows of backings: how many frames from a row on are in a backing.
use Rattle.std.specs.Prelude.{◌≡◌, ℕ, zero, suc, ◌+◌, ◌-◌, ◌<◌, ◌≤◌, Bool, true, false, cond, not, ◌&&◌, ◌||◌, List, [], ◌∷◌, length, ◌==◌, nat_le, nat_lt, refl}
use Rattle.std.proofs.Common.{ap, sym, ◌∙◌, arith, ltb-true, ltb-false, lt-ltb, le-ltb, le-leb, ne_eqb}
use Rattle.std.proofs.Math.Bool.{or_assoc, or-false}
use Rattle.std.proofs.lemmas.Bool.{lt-leb}
use Rattle.laws.specs.TellsLaws.{tells_same}
use Rattle.model.specs.declared.Backing.{Backing}
use Rattle.laws.specs.Lists.{keep, up_from}
use Rattle.laws.specs.TestLaws.{tells_lt, tells_as}
use Rattle.model.specs.Backing.{in_some, free_frames}
use Rattle.backing.specs.Pass.{cover}

-- the free frames g, g + 1, .., one for each row; k frames from g - 1 on are in a backing that starts before g
unfoldable pub free_from : ℕ → ℕ → List Backing → List ℕ
free_from k g [] = []
free_from k g (b ∷ l) = let rest = free_from (cover k b.len) (g + 1) l in cond (cover k b.len == 0) (g ∷ rest) rest

-- two tests of one comparison
same_lt : (a b c d : ℕ) → (a < b → c < d) → (c < d → a < b) → nat_lt a b ≡ nat_lt c d
same_lt a b c d f g = tells_same (tells_as f g (tells_lt a b)) (tells_lt c d)

below_cover : (x k n : ℕ) → nat_lt x (cover k n) ≡ (nat_lt x (k - 1) || nat_lt x n)
below_cover x k n = go (nat_lt (k - 1) n) refl (nat_lt x (k - 1)) refl
  where
    go : (s : Bool) → nat_lt (k - 1) n ≡ s → (t : Bool) → nat_lt x (k - 1) ≡ t → nat_lt x (cond s n (k - 1)) ≡ (t || nat_lt x n)
    go true e true f = let p = ltb-true (k - 1) n e in let q = ltb-true x (k - 1) f in lt-ltb x n (omega arith)
    go true e false f = refl
    go false e true f = f
    go false e false f = let p = ltb-false (k - 1) n e in let q = ltb-false x (k - 1) f in f ∙ sym (le-ltb x n (omega arith))

no_cover : (c : ℕ) → not (nat_lt 0 c) ≡ (c == 0)
no_cover zero = refl
no_cover (suc c) = ap not (lt-ltb 0 (suc c) (omega arith)) ∙ sym (ne_eqb (suc c) 0 (λ e. omega arith))

-- no backing that starts past a frame holds it
none_later : (x g : ℕ) (l : List Backing) → x < g → in_some x g l ≡ false
unfolding in_some
none_later x g [] h = refl
none_later x g (b ∷ l) h = rw (lt-leb g x h) (none_later x (g + 1) l (omega arith))

-- a frame from g on: whether it is in a backing that starts before g + 1, by what the pass knows at g
through : (x g k n : ℕ) (i : Bool) → g ≤ x → (nat_lt (x + 1) (g + k) || ((nat_le g x && nat_lt x (g + n)) || i)) ≡ (nat_lt (x - g) (cover k n) || i)
through x g k n i h =
    let a = same_lt (x + 1) (g + k) (x - g) (k - 1) (λ p. omega arith) (λ p. omega arith) in
    let b = same_lt x (g + n) (x - g) n (λ p. omega arith) (λ p. omega arith) in
    rw (le-leb g x h, a, b) (sym (or_assoc (nat_lt (x - g) (k - 1)) (nat_lt (x - g) n) i) ∙ ap (λ t. t || i) (sym (below_cover (x - g) k n)))

-- tests that agree from a on keep the same
pub keep_same : (p q : ℕ → Bool) (a n : ℕ) → ((x : ℕ) → a ≤ x → p x ≡ q x) → keep p (up_from a n) ≡ keep q (up_from a n)
unfolding keep up_from
keep_same p q a zero h = refl
keep_same p q a (suc n) h = rw (h a (omega arith), keep_same p q (a + 1) n (λ x k. h x (omega arith)))

-- the pass keeps the frames that are neither in a backing before g nor in one of the rows
pub pass : (k g : ℕ) (l : List Backing) → free_from k g l ≡ keep (λ x. not (nat_lt (x + 1) (g + k) || in_some x g l)) (up_from g (length l))
unfolding free_from keep up_from in_some
pass k g [] = refl
pass k g (b ∷ l) = sym (ap (λ t. cond t (g ∷ keep test (up_from (g + 1) (length l))) (keep test (up_from (g + 1) (length l)))) here ∙ ap (λ r. cond (c == 0) (g ∷ r) r) (later ∙ sym (pass c (g + 1) l)))
  where
    c : ℕ
    c = cover k b.len

    test : ℕ → Bool
    test x = not (nat_lt (x + 1) (g + k) || ((nat_le g x && nat_lt x (g + b.len)) || in_some x (g + 1) l))

    here : test g ≡ (c == 0)
    here =
        let zero_off : g - g ≡ 0 = omega arith in
        ap not (through g g k b.len (in_some g (g + 1) l) (omega arith)) ∙ ap (λ (n : ℕ). not (nat_lt n c || in_some g (g + 1) l)) zero_off
        ∙ ap (λ t. not (nat_lt 0 c || t)) (none_later g (g + 1) l (omega arith)) ∙ ap not (or-false (nat_lt 0 c)) ∙ no_cover c

    later : keep test (up_from (g + 1) (length l)) ≡ keep (λ x. not (nat_lt (x + 1) (g + 1 + c) || in_some x (g + 1) l)) (up_from (g + 1) (length l))
    later = keep_same _ _ (g + 1) (length l) (λ x h. ap not (through x g k b.len (in_some x (g + 1) l) (omega arith)) ∙ ap (λ t. not (t || in_some x (g + 1) l)) (same_lt (x - g) c (x + 1) (g + 1 + c) (λ p. omega arith) (λ p. omega arith)))

-- a pass that starts anew at g knows of no backing before
pub pass_anew : (g : ℕ) (l : List Backing) → free_from 0 g l ≡ keep (λ x. not (in_some x g l)) (up_from g (length l))
pass_anew g l = pass 0 g l ∙ keep_same _ _ g (length l) (λ x h. ap (λ t. not (t || in_some x g l)) (le-ltb (x + 1) (g + 0) (omega arith)))

-- the pass from the first row on finds the free frames
pub free_pass : (l : List Backing) → free_from 0 0 l ≡ free_frames (length l) l
unfolding free_frames
free_pass l = pass_anew 0 l
