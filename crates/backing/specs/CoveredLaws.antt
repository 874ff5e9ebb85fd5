-- Which frames are in a backing, and what changing one row changes of that.
use Rattle.std.specs.Prelude.{◌≡◌, ℕ, zero, suc, ◌+◌, ◌-◌, ◌<◌, ◌≤◌, Bool, true, false, ◌&&◌, ◌||◌, ◌⊎◌, List, [], ◌∷◌, length, get_or, drop, nat_le, nat_lt, slice_index_or, slice_set, refl}
use Rattle.std.proofs.Common.{ap, sym, ◌∙◌, inl, inr, zero-le, suc-le-suc, le_of_suc-le-suc, not-suc-le-zero, arith, length-drop, get_or-drop, le-ltb, leb-true, ltb-true, ltb-false}
use Rattle.std.proofs.lemmas.Bool.{false≢true}
use Rattle.std.proofs.lemmas.List.{set-get_or}
use Rattle.laws.specs.Tells.{Tells}
use Rattle.laws.specs.TellsLaws.{tells_same, tells_both}
use Rattle.model.specs.declared.Backing.{Backing}
use Rattle.laws.specs.TestLaws.{tells_le, tells_lt, tells_or, tells_as}
use Rattle.model.specs.Machine.{no_backing}
use Rattle.model.specs.Backing.{in_some}
use Rattle.backing.specs.BackingSteps.{in_run}
use Rattle.laws.specs.BoolLaws.{or_swap}

-- a frame lies in the backing of a row, where the rows are those of frames g, g + 1, ..
pub record Covers (x g : ℕ) (l : List Backing) : Type 0 where
  pub row : ℕ
  pub inside : row < length l
  pub from : g + row ≤ x
  pub until : x < g + row + (get_or l row no_backing).len

pub tells_covers : (x g : ℕ) (l : List Backing) → Tells (in_some x g l) (Covers x g l)
unfolding in_some
tells_covers x g [] = record { yes = λ e. absurd (false≢true e); no = λ e k. not-suc-le-zero k.inside }
tells_covers x g (b ∷ l) = tells_as join part (tells_or (tells_both (tells_le g x) (tells_lt x (g + b.len))) (tells_covers x (g + 1) l))
  where
    join : ((g ≤ x) × (x < g + b.len)) ⊎ Covers x (g + 1) l → Covers x g (b ∷ l)
    join (inl p) = let low = p.0 in let high = p.1 in record { row = zero; inside = suc-le-suc zero-le; from = omega arith; until = omega arith }
    join (inr k) = let low = k.from in let high = k.until in record { row = suc k.row; inside = suc-le-suc k.inside; from = omega arith; until = omega arith }

    at : (r : ℕ) → r < length (b ∷ l) → g + r ≤ x → x < g + r + (get_or (b ∷ l) r no_backing).len → ((g ≤ x) × (x < g + b.len)) ⊎ Covers x (g + 1) l
    at zero h p q = inl (omega arith, omega arith)
    at (suc r) h p q = inr (record { row = r; inside = le_of_suc-le-suc h; from = omega arith; until = omega arith })

    part : Covers x g (b ∷ l) → ((g ≤ x) × (x < g + b.len)) ⊎ Covers x (g + 1) l
    part k = at k.row k.inside k.from k.until

-- a run of no frames has none
no_run : (f x : ℕ) → in_run f 0 x ≡ false
no_run f x = go (nat_le f x) refl
  where
    go : (b : Bool) → nat_le f x ≡ b → (b && nat_lt x (f + 0)) ≡ false
    go true e = let p = leb-true f x e in le-ltb x (f + 0) (omega arith)
    go false e = refl

-- the frames in a backing are those of row i and those of the other rows
covers_set : (x g i : ℕ) (b : Backing) (l : List Backing) → i < length l → in_some x g (slice_set l i b) ≡ (in_run (g + i) b.len x || in_some x g (slice_set l i no_backing))
unfolding in_some
covers_set x g i b [] h = absurd (not-suc-le-zero h)
covers_set x g zero b (c ∷ l) h = let here : g + 0 ≡ g = omega arith in ap (λ (f : ℕ). in_run f b.len x || in_some x (g + 1) l) (sym here) ∙ ap (λ t. in_run (g + 0) b.len x || (t || in_some x (g + 1) l)) (sym (no_run g x))
covers_set x g (suc i) b (c ∷ l) h =
    let there : g + 1 + i ≡ g + suc i = omega arith in
    ap (λ t. in_run g c.len x || t) (covers_set x (g + 1) i b l (le_of_suc-le-suc h))
    ∙ or_swap (in_run g c.len x) (in_run (g + 1 + i) b.len x) (in_some x (g + 1) (slice_set l i no_backing))
    ∙ ap (λ (f : ℕ). in_run f b.len x || (in_run g c.len x || in_some x (g + 1) (slice_set l i no_backing))) there

module _ (x i : ℕ) (l : List Backing) (h : i < length l) where
  -- another row
  covers_put : (b : Backing) → in_some x 0 (slice_set l i b) ≡ (in_run i b.len x || in_some x 0 (slice_set l i no_backing))
  covers_put b = let here : 0 + i ≡ i = omega arith in covers_set x 0 i b l h ∙ ap (λ (f : ℕ). in_run f b.len x || in_some x 0 (slice_set l i no_backing)) here

  -- the row as it is
  pub covers_row : in_some x 0 l ≡ (in_run i (get_or l i no_backing).len x || in_some x 0 (slice_set l i no_backing))
  covers_row = ap (in_some x 0) (sym (set-get_or l i no_backing)) ∙ covers_put (slice_index_or l i no_backing)

  -- a row that keeps its length
  pub covers_kept : (b : Backing) → b.len ≡ (get_or l i no_backing).len → in_some x 0 (slice_set l i b) ≡ in_some x 0 l
  covers_kept b e = covers_put b ∙ ap (λ (n : ℕ). in_run i n x || in_some x 0 (slice_set l i no_backing)) e ∙ sym covers_row

  -- a backing in a row that had none
  pub covers_more : (b : Backing) → (get_or l i no_backing).len ≡ 0 → in_some x 0 (slice_set l i b) ≡ (in_run i b.len x || in_some x 0 l)
  covers_more b e = covers_put b ∙ ap (λ t. in_run i b.len x || t) (sym (covers_row ∙ ap (λ (n : ℕ). in_run i n x || in_some x 0 (slice_set l i no_backing)) e ∙ ap (λ t. t || in_some x 0 (slice_set l i no_backing)) (no_run i x)))

-- where no row before s covers a frame, the rows from s on tell whether any does
pub covers_drop : (x s : ℕ) (l : List Backing) → ((j : ℕ) → j < s → x < j + (get_or l j no_backing).len → ⊥) → s ≤ x → in_some x s (drop s l) ≡ in_some x 0 l
covers_drop x s l none h = tells_same (tells_as wider narrower (tells_covers x s (drop s l))) (tells_covers x 0 l)
  where
    wider : Covers x s (drop s l) → Covers x 0 l
    wider k =
        let size = length-drop s l in
        let inside = k.inside in
        let low = k.from in
        let high = k.until in
        let same = ap (λ (b : Backing). b.len) (get_or-drop s l k.row no_backing) in
        record { row = s + k.row; inside = omega arith; from = omega arith; until = omega arith }

    at : (r : ℕ) → r < length l → 0 + r ≤ x → x < 0 + r + (get_or l r no_backing).len → (t : Bool) → nat_lt r s ≡ t → Covers x s (drop s l)
    at r i p q true e = absurd (none r (ltb-true r s e) (omega arith))
    at r i p q false e =
        let size = length-drop s l in
        let past = ltb-false r s e in
        let here : s + (r - s) ≡ r = omega arith in
        let same = ap (λ (b : Backing). b.len) (get_or-drop s l (r - s) no_backing ∙ ap (λ (j : ℕ). get_or l j no_backing) here) in
        record { row = r - s; inside = omega arith; from = omega arith; until = omega arith }

    narrower : Covers x 0 l → Covers x s (drop s l)
    narrower k = at k.row k.inside k.from k.until (nat_lt k.row s) refl
