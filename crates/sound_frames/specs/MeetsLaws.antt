-- The backings' rows met so far tell R2: they lie apart, within the frames, and what they leave is free.
use Rattle.std.specs.Prelude.{◌≡◌, ◌≢◌, Bool, ◌&&◌, List, [], ◌∷◌, ℕ, ◌+◌, ◌-◌, ◌≤◌, ◌<◌, get_or, take, eqb}
use Rattle.std.proofs.Math.Path.{refl, ap, sym}
use Rattle.std.proofs.Common.{subst, ◌∙◌, eq-eqb, ne_eqb, ltb-true, ltb-false, leb-true, leb-false}
use Rattle.std.proofs.Math.Bool.{true, false, not, cond}
use native.Mathlib.Omega.{arith}
use Rattle.std.proofs.Math.Decide.{ℕ_discrete}
use Rattle.std.proofs.Math.ListN.{length}
use Rattle.std.proofs.Math.Dec.{ltb, leb}
use Rattle.laws.specs.TellsLaws.{not_told, tells_same, tells_both}
use Rattle.model.specs.declared.Backing.{Backing}
use Rattle.laws.specs.Lists.{keep, up_from, first}
use Rattle.model.specs.Machine.{Machine, no_backing}
use Rattle.laws.specs.TestLaws.{tells_eq, tells_as}
use Rattle.model.specs.Backing.{in_some, free_frames}
use Rattle.model.specs.Sound.{free_of, R2}
use Rattle.model.specs.SoundTest.{r2b}
use Rattle.model.specs.SoundLaws.{r2_tells}
use Rattle.sound_frames.specs.declared.backings.Met.{Met}
use Rattle.sound_frames.specs.Met.{may_start, with_free, with_row}
use Rattle.sound_frames.specs.MetLaws.{may_start_tells}
use Rattle.sound_frames.specs.FreeFramesLaws.{len_at, In, free_from, no_more, past_same, free_not, free_here}

-- the rows below f are met
pub record Meets (l : List Backing) (n f : ℕ) (s : Met) : Type 0 where
  low : f ≤ 256
  inside : s.end ≤ n
  pub few : s.free ≤ f
  apart : (g h : ℕ) → g < h → h < f → len_at l g ≢ 0 → len_at l h ≢ 0 → g + len_at l g ≤ h
  ends : (g : ℕ) → g < f → len_at l g ≢ 0 → g + len_at l g ≤ s.end
  -- where the last backing ends
  last : s.end ≢ 0 → (g : ℕ) × ((g < f) × ((len_at l g ≢ 0) × (g + len_at l g ≡ s.end)))
  free : length (free_from n l 0) ≡ s.free + length (free_from n l f)
  next : first n (free_from n l 0) ≡ cond (eqb s.free 0) (first n (free_from n l f)) s.next
  none : s.free ≡ 0 → s.next ≡ n

pub meets_first : (l : List Backing) (n : ℕ) → Meets l n 0 (record { end = 0; free = 0; next = n })
meets_first l n = record {
  low = omega arith;
  inside = omega arith;
  few = omega arith;
  apart = λ g h p q. absurd (omega arith);
  ends = λ g p. absurd (omega arith);
  last = λ z. absurd (z refl);
  free = omega arith;
  next = refl;
  none = λ e. refl;
}

module _ (l : List Backing) (n f : ℕ) (s : Met) (met : Meets l n f s) (h : f < 256) (b : Backing) (read : b ≡ get_or l f no_backing) where
  len_is : b.len ≡ len_at l f
  len_is = ap (λ (x : Backing). x.len) read

  -- a row that may not start breaks R2's first or second part
  may_not : may_start s.end f b.len n ≡ false → ((g h : ℕ) → g < h → h < 256 → len_at l g ≢ 0 → len_at l h ≢ 0 → g + len_at l g ≤ h) → (len_at l f ≢ 0 → f + len_at l f ≤ n) → ⊥
  may_not p apart within = (may_start_tells s.end f b.len n).no p starts
    where
      starts : b.len ≢ 0 → (s.end ≤ f) × (f + b.len ≤ n)
      starts some = (past (ℕ_discrete s.end 0), let e = len_is in let w = within (λ z. some (len_is ∙ z)) in omega arith)
        where
          past : Dec (s.end ≡ 0) → s.end ≤ f
          past (yes z) = omega arith
          past (no z) = let g = met.last z in let below = g.1.0 in let is = g.1.1.1 in let a = apart g.0 f below h g.1.1.0 (λ q. some (len_is ∙ q)) in omega arith

  module _ (may : may_start s.end f b.len n ≡ true) where
    starts : len_at l f ≢ 0 → (s.end ≤ f) × (f + len_at l f ≤ n)
    starts some = let p = (may_start_tells s.end f b.len n).yes may (λ z. some (sym len_is ∙ z)) in let e = len_is in let x = p.0 in let y = p.1 in (omega arith, omega arith)

    apart_more : (g k : ℕ) → g < k → k < f + 1 → len_at l g ≢ 0 → len_at l k ≢ 0 → g + len_at l g ≤ k
    apart_more g k p q x y = go (ℕ_discrete k f)
      where
        go : Dec (k ≡ f) → g + len_at l g ≤ k
        go (yes e) = let z = (starts (subst (λ (i : ℕ). len_at l i ≢ 0) e y)).0 in let w = met.ends g (omega arith) x in omega arith
        go (no m) = met.apart g k p (omega arith) x y

    -- the row is no backing
    module _ (empty : b.len ≡ 0) where
      ends_same : (g : ℕ) → g < f + 1 → len_at l g ≢ 0 → g + len_at l g ≤ s.end
      ends_same g p x = go (ℕ_discrete g f)
        where
          go : Dec (g ≡ f) → g + len_at l g ≤ s.end
          go (yes e) = absurd (x (ap (λ (i : ℕ). len_at l i) e ∙ sym len_is ∙ empty))
          go (no m) = met.ends g (omega arith) x

      last_same : s.end ≢ 0 → (g : ℕ) × ((g < f + 1) × ((len_at l g ≢ 0) × (g + len_at l g ≡ s.end)))
      last_same z = let p = met.last z in let below = p.1.0 in (p.0, (omega arith, (p.1.1.0, p.1.1.1)))

      covered : f < s.end → In l f
      covered p = let q = met.last (λ z. absurd (omega arith)) in let below = q.1.0 in let is = q.1.1.1 in (q.0, (omega arith, omega arith))

      uncovered : s.end ≤ f → In l f → ⊥
      uncovered p (g, (x, y)) = let some : len_at l g ≢ 0 = λ z. absurd (omega arith) in go (ℕ_discrete g f) some
        where
          go : Dec (g ≡ f) → len_at l g ≢ 0 → ⊥
          go (yes e) some = some (ap (λ (i : ℕ). len_at l i) e ∙ sym len_is ∙ empty)
          go (no m) some = let w = met.ends g (omega arith) some in omega arith

      meets_same : free_from n l f ≡ free_from n l (f + 1) → Meets l n (f + 1) s
      meets_same same = let few = met.few in record {
        low = omega arith;
        inside = met.inside;
        few = omega arith;
        apart = apart_more;
        ends = ends_same;
        last = last_same;
        free = met.free ∙ ap (λ x. s.free + length x) same;
        next = met.next ∙ ap (λ x. cond (eqb s.free 0) (first n x) s.next) same;
        none = met.none;
      }

      meets_free : s.end ≤ f → f < n → Meets l n (f + 1) (with_free f s)
      unfolding with_free
      meets_free p q =
          let few = met.few in
          let here : free_from n l f ≡ f ∷ free_from n l (f + 1) = free_here n l f q (uncovered p) in
          let so = met.free ∙ ap (λ x. s.free + length x) here in
          record {
            low = omega arith;
            inside = met.inside;
            few = omega arith;
            apart = apart_more;
            ends = ends_same;
            last = last_same;
            free = omega arith;
            next = met.next ∙ ap (λ x. cond (eqb s.free 0) (first n x) s.next) here ∙ sym (ap (λ b. cond b (first n (free_from n l (f + 1))) (cond (eqb s.free 0) f s.next)) (ne_eqb (s.free + 1) 0 (omega arith)));
            none = λ z. absurd (omega arith);
          }

    meets_backing : b.len ≢ 0 → Meets l n (f + 1) (record { end = f + b.len; free = s.free; next = s.next })
    meets_backing some =
        let few = met.few in
        let e = len_is in
        let x = (starts (λ z. some (len_is ∙ z))).0 in
        let y = (starts (λ z. some (len_is ∙ z))).1 in
        let same : free_from n l f ≡ free_from n l (f + 1) = free_not n l f (omega arith) (f, (omega arith, omega arith)) in
        record {
          low = omega arith;
          inside = omega arith;
          few = omega arith;
          apart = apart_more;
          ends = λ g p z. ends_here g p z (ℕ_discrete g f);
          last = λ z. (f, (omega arith, ((λ q. some (len_is ∙ q)), omega arith)));
          free = met.free ∙ ap (λ x. s.free + length x) same;
          next = met.next ∙ ap (λ x. cond (eqb s.free 0) (first n x) s.next) same;
          none = met.none;
        }
      where
        ends_here : (g : ℕ) → g < f + 1 → len_at l g ≢ 0 → Dec (g ≡ f) → g + len_at l g ≤ f + b.len
        ends_here g p z (yes e) = let i = ap (λ (k : ℕ). len_at l k) e in let j = len_is in omega arith
        ends_here g p z (no m) = let w = met.ends g (omega arith) z in let x = (starts (λ q. some (len_is ∙ q))).0 in omega arith

    meets_row : Meets l n (f + 1) (with_row n f b.len s)
    unfolding with_row
    meets_row = go (ℕ_discrete b.len 0) (leb s.end f) refl (ltb f n) refl
      where
        go : Dec (b.len ≡ 0) → (p : Bool) → leb s.end f ≡ p → (q : Bool) → ltb f n ≡ q → Meets l n (f + 1) (cond (eqb b.len 0) (cond (leb s.end f && ltb f n) (with_free f s) s) (record { end = f + b.len; free = s.free; next = s.next }))
        go (no some) p x q y = rw (ne_eqb b.len 0 some) (meets_backing some)
        go (yes none) true x true y = rw (eq-eqb b.len 0 none, x, y) (meets_free none (leb-true _ _ x) (ltb-true _ _ y))
        go (yes none) true x false y = rw (eq-eqb b.len 0 none, x, y) (meets_same none (past_same n l f (ltb-false f n y)))
        go (yes none) false x true y = rw (eq-eqb b.len 0 none, x) (meets_same none (free_not n l f (ltb-true _ _ y) (covered none (leb-false _ _ x))))
        go (yes none) false x false y = rw (eq-eqb b.len 0 none, x) (meets_same none (past_same n l f (ltb-false f n y)))

    -- a row that may start leads on
    pub meets_more : (t : Met) → t ≡ with_row n f b.len s → Meets l n (f + 1) t
    meets_more t e = subst (λ (x : Met). Meets l n (f + 1) x) (sym e) meets_row

-- ---- R2

module _ (m : Machine) (sized : length m.backings ≡ 256) (n : ℕ) (is : n ≡ m.frame_count) (f : ℕ) (s : Met) (met : Meets m.backings n f s) where
  -- a row may not start where it does
  pub fit_fails : f < 256 → (b : Backing) → b ≡ get_or m.backings f no_backing → may_start s.end f b.len n ≡ false → false ≡ r2b m
  fit_fails h b read p = sym (not_told (r2_tells m) (λ r. may_not m.backings n f s met h b read p (λ g k q i x y. r.apart g (omega arith) x k (omega arith) q y) (λ x. let w = r.within f (omega arith) x in omega arith)))

  -- all are met: the pool has what they leave
  pub fit_all : n ≤ 256 → 256 ≤ f → (r : Bool) → r ≡ (eqb m.pool.free s.free && eqb m.pool.next.0 s.next) → r ≡ r2b m
  unfolding free_from free_frames
  fit_all few h r e = e ∙ tells_same (tells_as to from (tells_both (tells_eq m.pool.free s.free) (tells_eq m.pool.next.0 s.next))) (r2_tells m)
    where
      whole : free_from n m.backings 0 ≡ free_of m
      whole = let z : n - 0 ≡ n = omega arith in ap (λ (k : ℕ). keep (λ x. not (in_some x 0 (take n m.backings))) (up_from 0 k)) z ∙ ap (λ (k : ℕ). free_frames k (take k m.backings)) is

      rest : free_from n m.backings f ≡ []
      rest = no_more n m.backings f (omega arith)

      free_is : length (free_of m) ≡ s.free
      free_is = let a = ap (λ x. length x) whole in let b = ap (λ x. length x) rest in let c = met.free in omega arith

      none_or : Dec (s.free ≡ 0) → cond (eqb s.free 0) n s.next ≡ s.next
      none_or (yes z) = rw (eq-eqb s.free 0 z) (sym (met.none z))
      none_or (no z) = rw (ne_eqb s.free 0 z)

      next_is : first m.frame_count (free_of m) ≡ s.next
      next_is = ap (λ (k : ℕ). first k (free_of m)) (sym is) ∙ ap (λ x. first n x) (sym whole) ∙ met.next ∙ ap (λ x. cond (eqb s.free 0) (first n x) s.next) rest ∙ none_or (ℕ_discrete s.free 0)

      to : (m.pool.free ≡ s.free) × (m.pool.next.0 ≡ s.next) → R2 m
      to p = record {
        apart = λ g i x k j q y. met.apart g k q (omega arith) x y;
        within = λ g i x. let e = met.ends g (omega arith) x in let w = met.inside in omega arith;
        free = p.0 ∙ sym free_is;
        next = p.1 ∙ sym next_is;
      }

      from : R2 m → (m.pool.free ≡ s.free) × (m.pool.next.0 ≡ s.next)
      from r = (r.free ∙ free_is, r.next ∙ next_is)
