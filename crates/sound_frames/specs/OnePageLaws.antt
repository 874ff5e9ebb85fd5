-- Laws of `OnePage`: all that hold a frame are alike exactly if each is alike the first.
use Rattle.std.specs.Prelude.{◌≡◌, ◌⊎◌, ◌≢◌, Bool, true, false, List, ℕ, ◌+◌, ◌-◌, ◌≤◌, ◌<◌, get_or, set, replicate, eqb}
use Rattle.std.proofs.Common.{ap, sym, subst, ◌∙◌, inl, inr, arith, length-set, get_or-set_same, get_or-set_other, eq-eqb, ne_eqb}
use Rattle.std.proofs.Math.Decide.{ℕ_discrete}
use Rattle.std.proofs.lemmas.List.{length-replicate, get_or-replicate}
use Rattle.laws.specs.Tells.{Tells}
use Rattle.laws.specs.TellsLaws.{told, not_told, tells_both}
use Rattle.laws.specs.TestLaws.{tells_eq}
use Rattle.sound_frames.specs.declared.held.Held.{Held}
use Rattle.sound_frames.specs.OnePage.{alike_held, first_mark, Same, row_at, Firsts, Alike, Compared}

module _ (x y v : Held) (read : v ≡ x) where
  pub other_page : y.page ≢ v.page → false ≡ alike_held x y
  other_page n = rw (ne_eqb y.page x.page (λ e. n (e ∙ ap (λ (z : Held). z.page) (sym read))))

  pub same_page : y.page ≡ v.page → eqb y.shared v.shared ≡ alike_held x y
  same_page p = rw (eq-eqb y.page x.page (p ∙ ap (λ (z : Held). z.page) read)) (ap (λ (z : Held). eqb y.shared z.shared) read)

alike_tells : (x y : Held) → Tells (alike_held x y) (Same x y)
alike_tells x y = tells_both (tells_eq y.page x.page) (tells_eq y.shared x.shared)

pub new_mark : (mark number : ℕ) → mark ≡ 0 → number ≡ first_mark mark number
new_mark mark number p = rw (eq-eqb mark 0 p)

pub old_mark : (mark number : ℕ) → mark ≢ 0 → mark ≡ first_mark mark number
old_mark mark number n = rw (ne_eqb mark 0 n)

pub firsts_none : (l : List Held) → Firsts l (replicate 256 0) 0
firsts_none l = record {
  low = omega arith;
  sized = length-replicate {A = ℕ} 256 0;
  few = λ f h. let z = get_or-replicate {A = ℕ} 256 f 0 0 h in omega arith;
  first = λ f h n. absurd (n (get_or-replicate {A = ℕ} 256 f 0 0 (omega arith)));
  same = λ j h. absurd (omega arith);
}

pub firsts_all : (l : List Held) (marks : List ℕ) (k : ℕ) → Firsts l marks k → 1024 ≤ k → Alike l
firsts_all l marks k so h i j p q a b e = (x.0 ∙ z.0 ∙ sym y.0, x.1 ∙ z.1 ∙ sym y.1)
  where
    first : ℕ → Held
    first f = row_at l (get_or marks f 0 - 1)

    x : Same (first (row_at l i).frame) (row_at l i)
    x = (so.same i (omega arith) a).1

    y : Same (first (row_at l j).frame) (row_at l j)
    y = (so.same j (omega arith) b).1

    z : ((first (row_at l i).frame).page ≡ (first (row_at l j).frame).page) × ((first (row_at l i).frame).shared ≡ (first (row_at l j).frame).shared)
    z = (ap (λ (f : ℕ). (first f).page) e, ap (λ (f : ℕ). (first f).shared) e)

module _ (l : List Held) (marks : List ℕ) (k : ℕ) (r : Bool) (c : Compared l marks k r) where
  pub compared_alike : r ≡ true → Firsts l marks k
  compared_alike e = subst (λ (b : Bool). Compared l marks k b) e c

  pub compared_unlike : r ≡ false → Alike l → ⊥
  compared_unlike e = subst (λ (b : Bool). Compared l marks k b) e c

-- all holders are passed: what was told is whether they are alike
pub compared_tells : (l : List Held) (marks : List ℕ) (r b : Bool) → Compared l marks 1024 r → Tells b (Alike l) → r ≡ b
compared_tells l marks true b c t = sym (told t (firsts_all l marks 1024 c (omega arith)))
compared_tells l marks false b c t = sym (not_told t c)

pub firsts_to : (l : List Held) (marks : List ℕ) (k n : ℕ) → Firsts l marks k → k ≡ n → Firsts l marks n
firsts_to l marks k n so e = subst (λ (j : ℕ). Firsts l marks j) e so

-- a mark is the one there was, or that of holder k
mark_is : (mark k t : ℕ) → t ≡ first_mark mark (k + 1) → ((mark ≡ 0) × (t ≡ k + 1)) ⊎ ((mark ≢ 0) × (t ≡ mark))
mark_is mark k t e = go (ℕ_discrete mark 0)
  where
    go : Dec (mark ≡ 0) → ((mark ≡ 0) × (t ≡ k + 1)) ⊎ ((mark ≢ 0) × (t ≡ mark))
    go (yes z) = inl (z, e ∙ sym (new_mark mark (k + 1) z))
    go (no z) = inr (z, e ∙ sym (old_mark mark (k + 1) z))

pub mark_bounds : (mark k t : ℕ) → mark ≤ k → t ≡ first_mark mark (k + 1) → (1 ≤ t) × (t ≤ k + 1)
mark_bounds mark k t h e = go (mark_is mark k t e)
  where
    go : ((mark ≡ 0) × (t ≡ k + 1)) ⊎ ((mark ≢ 0) × (t ≡ mark)) → (1 ≤ t) × (t ≤ k + 1)
    go (inl p) = let q = p.1 in (omega arith, omega arith)
    go (inr p) = let n = p.0 in let q = p.1 in (omega arith, omega arith)

-- holder k holds no frame
pub firsts_skip : (l : List Held) (marks : List ℕ) (k : ℕ) → Firsts l marks k → k < 1024 → (x : Held) → x ≡ row_at l k → x.frame ≡ 256 → Firsts l marks (k + 1)
firsts_skip l marks k so h x read none = record {
  low = omega arith;
  sized = so.sized;
  few = λ f i. let b = so.few f i in omega arith;
  first = so.first;
  same = λ j i. go j i (ℕ_discrete j k);
}
  where
    go : (j : ℕ) → j < k + 1 → Dec (j ≡ k) → (row_at l j).frame < 256 → (get_or marks (row_at l j).frame 0 ≢ 0) × Same (row_at l (get_or marks (row_at l j).frame 0 - 1)) (row_at l j)
    go j i (yes q) held = let frame = ap (λ (v : Held). v.frame) (read ∙ ap (λ (n : ℕ). row_at l n) (sym q)) in absurd (omega arith)
    go j i (no q) held = so.same j (omega arith) held

-- holder k, and its frame's mark t
module _
    (l : List Held) (marks : List ℕ) (k : ℕ) (so : Firsts l marks k) (h : k < 1024)
    (x : Held) (read : x ≡ row_at l k) (low : x.frame < 256)
    (t : ℕ) (e : t ≡ first_mark (get_or marks x.frame 0) (k + 1))
  where
    bounds : (1 ≤ t) × (t ≤ k + 1)
    bounds = mark_bounds (get_or marks x.frame 0) k t (so.few x.frame low) e

    -- the first holder holds the frame
    first_holds : (row_at l (t - 1)).frame ≡ x.frame
    first_holds = go (mark_is (get_or marks x.frame 0) k t e)
      where
        go : ((get_or marks x.frame 0 ≡ 0) × (t ≡ k + 1)) ⊎ ((get_or marks x.frame 0 ≢ 0) × (t ≡ get_or marks x.frame 0)) → (row_at l (t - 1)).frame ≡ x.frame
        go (inl p) = let q = p.1 in let z : t - 1 ≡ k = omega arith in ap (λ (j : ℕ). (row_at l j).frame) z ∙ sym (ap (λ (v : Held). v.frame) read)
        go (inr p) = ap (λ (j : ℕ). (row_at l (j - 1)).frame) p.1 ∙ so.first x.frame low p.0

    -- it is holder k itself, or one before it
    pub firsts_fail : alike_held (row_at l (t - 1)) x ≡ false → Alike l → ⊥
    firsts_fail p all_Alike = (alike_tells (row_at l (t - 1)) x).no p (go (ℕ_discrete (t - 1) k))
      where
        go : Dec (t - 1 ≡ k) → Same (row_at l (t - 1)) x
        go (yes z) = let same : x ≡ row_at l (t - 1) = read ∙ ap (λ (j : ℕ). row_at l j) (sym z) in (ap (λ (v : Held). v.page) same, ap (λ (v : Held). v.shared) same)
        go (no z) =
            let few = bounds.1 in
            let here = first_holds in
            let frame = ap (λ (v : Held). v.frame) read in
            let both = all_Alike (t - 1) k (omega arith) h (omega arith) (omega arith) (omega arith) in
            (ap (λ (v : Held). v.page) read ∙ sym both.0, ap (λ (v : Held). v.shared) read ∙ sym both.1)

    marks_here : (f : ℕ) → f ≡ x.frame → get_or (set marks x.frame t) f 0 ≡ t
    marks_here f p = ap (λ (j : ℕ). get_or (set marks x.frame t) j 0) p ∙ get_or-set_same marks x.frame t 0 (let s = so.sized in omega arith)

    marks_else : (f : ℕ) → f ≢ x.frame → get_or (set marks x.frame t) f 0 ≡ get_or marks f 0
    marks_else f n = get_or-set_other marks x.frame f t 0 n

    -- a mark that was there stays
    mark_kept : (f : ℕ) → get_or marks f 0 ≢ 0 → get_or (set marks x.frame t) f 0 ≡ get_or marks f 0
    mark_kept f n = go (ℕ_discrete f x.frame)
      where
        go : Dec (f ≡ x.frame) → get_or (set marks x.frame t) f 0 ≡ get_or marks f 0
        go (no d) = marks_else f d
        go (yes p) = let old = ap (λ (j : ℕ). get_or marks j 0) p in marks_here f p ∙ e ∙ sym (old_mark (get_or marks x.frame 0) (k + 1) (λ z. n (old ∙ z))) ∙ sym old

    pub firsts_more : alike_held (row_at l (t - 1)) x ≡ true → Firsts l (set marks x.frame t) (k + 1)
    firsts_more p = record {
      low = omega arith;
      sized = length-set marks x.frame t ∙ so.sized;
      few = λ f i. few_now f i (ℕ_discrete f x.frame);
      first = λ f i n. first_now f i n (ℕ_discrete f x.frame);
      same = λ j i. same_now j i (ℕ_discrete j k);
    }
      where
        few_now : (f : ℕ) → f < 256 → Dec (f ≡ x.frame) → get_or (set marks x.frame t) f 0 ≤ k + 1
        few_now f i (yes q) = let a = marks_here f q in let b = bounds.1 in omega arith
        few_now f i (no q) = let a = marks_else f q in let b = so.few f i in omega arith

        first_now : (f : ℕ) → f < 256 → get_or (set marks x.frame t) f 0 ≢ 0 → Dec (f ≡ x.frame) → (row_at l (get_or (set marks x.frame t) f 0 - 1)).frame ≡ f
        first_now f i n (yes q) = ap (λ (j : ℕ). (row_at l (j - 1)).frame) (marks_here f q) ∙ first_holds ∙ sym q
        first_now f i n (no q) = ap (λ (j : ℕ). (row_at l (j - 1)).frame) (marks_else f q) ∙ so.first f i (λ z. n (marks_else f q ∙ z))

        Marked : Held → ℕ → Type 0
        Marked v n = (n ≢ 0) × Same (row_at l (n - 1)) v

        here : Marked x t
        here = let b = bounds.0 in ((λ z. absurd (omega arith)), (alike_tells (row_at l (t - 1)) x).yes p)

        same_now : (j : ℕ) → j < k + 1 → Dec (j ≡ k) → (row_at l j).frame < 256 → Marked (row_at l j) (get_or (set marks x.frame t) (row_at l j).frame 0)
        same_now j i (yes q) held =
            let same : x ≡ row_at l j = read ∙ ap (λ (n : ℕ). row_at l n) (sym q) in
            let frame = ap (λ (v : Held). v.frame) same in
            subst (λ (n : ℕ). Marked (row_at l j) n) (sym (marks_here (row_at l j).frame (sym frame))) (subst (λ (v : Held). Marked v t) same here)
        same_now j i (no q) held = let old = so.same j (omega arith) held in subst (λ (n : ℕ). Marked (row_at l j) n) (sym (mark_kept (row_at l j).frame old.0)) old
