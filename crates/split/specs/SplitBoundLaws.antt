-- A region split at a bound, and at both: what the code needs, and that it leaves what the model says.
use Rattle.std.specs.Prelude.{◌≡◌, refl, Bool, ℕ, ◌+◌, ◌-◌, ◌^◌, ◌<◌, set, Some, None}
use Rattle.std.proofs.Math.Path.{ap, subst}
use Rattle.std.proofs.Common.{sym, ◌∙◌}
use Rattle.std.proofs.Math.Bool.{true, false}
use Rattle.std.proofs.lemmas.Bool.{false≢true}
use Rattle.model.specs.declared.Region.{Region}
use Rattle.model.specs.Machine.{Machine, region_at, row_of, with_region, with_regions}
use Rattle.model.specs.Lookup.{free_slot, is_found, row_found}
use Rattle.model.specs.Carve.{strictly_inside, low_part, high_part, give_entries, split_at, push, Rest, split_bound, split_at_bounds}
use Rattle.split.specs.ListRoom.{Room}
use Rattle.split.specs.SplitBound.{cut_at, from, Splittable, Bounded}

-- ---- the cut

pub cuts : (m a b c : Machine) (p s t at : ℕ) (r x y : Region) → r ≡ region_at m p s → x ≡ low_part r at → y ≡ high_part r at → a ≡ with_regions m (set m.regions (row_of p s) x) → b ≡ with_regions a (set a.regions (row_of p t) y) → c ≡ give_entries b (row_of p s) at (row_of p t) → c ≡ cut_at m p s t at
unfolding cut_at
cuts m a b c p s t at r x y read low high f g h =
    h
    ∙ ap (λ (n : Machine). give_entries n (row_of p s) at (row_of p t)) (g ∙ ap (λ (n : Machine). with_regions n (set n.regions (row_of p t) y)) f)
    ∙ (λ k. give_entries (with_region (with_region m p s ((low ∙ ap (λ (z : Region). low_part z at) read) k)) p t ((high ∙ ap (λ (z : Region). high_part z at) read) k)) (row_of p s) at (row_of p t))

pub sum_read : (m : Machine) (p s at : ℕ) (r : Region) → r ≡ region_at m p s → (region_at m p s).offset + (at - (region_at m p s).start.0) < 2 ^ 64 → r.offset + (at - r.start.0) < 2 ^ 64
sum_read m p s at r e h = subst (λ (z : Region). z.offset + (at - z.start.0) < 2 ^ 64) (sym e) h

-- ---- a bound

abbrev pub Bounds : Machine → ℕ → ℕ → ℕ → Machine → ℕ → Type 0
Bounds m p s b n r = (r ≡ (split_bound p b (from m s)).slot) × (n ≡ (split_bound p b (from m s)).machine)

module _ (m : Machine) (p s b : ℕ) (r : Region) (read : r ≡ region_at m p s) where
  inside_is : (x : Bool) → x ≡ strictly_inside r b → strictly_inside (region_at m p s) b ≡ x
  inside_is x e = ap (λ (z : Region). strictly_inside z b) (sym read) ∙ sym e

  pub bound_outside : false ≡ strictly_inside r b → Bounds m p s b m s
  unfolding split_bound
  bound_outside e = let f = inside_is false e in rw f (refl, refl)

  module _ (k : Splittable m p s b) (inside : true ≡ strictly_inside r b) where
    pub bound_found : is_found (free_slot m p) ≡ true
    bound_found = k.found (inside_is true inside)

    pub bound_sum : (region_at m p s).offset + (b - (region_at m p s).start.0) < 2 ^ 64
    bound_sum = k.sum (inside_is true inside)

    pub bound_none : None ≡ free_slot m p → (n : Machine) (x : ℕ) → Bounds m p s b n x
    bound_none e n x = absurd (false≢true (ap is_found e ∙ bound_found))

    -- the list is as it was
    pub bound_room : (t : ℕ) (n : Machine) → n ≡ cut_at m p s t b → Room n p
    unfolding cut_at give_entries
    bound_room t n e = subst (λ (z : Machine). Room z p) (sym e) (let q = k.room (inside_is true inside) in record { few = q.few; free = q.free })

    pub bound_split : (t : ℕ) → Some t ≡ free_slot m p → (n o : Machine) → n ≡ cut_at m p s t b → o ≡ push n p s → Bounds m p s b o t
    unfolding split_bound split_at cut_at
    bound_split t f n o e g =
        let i = inside_is true inside in
        let row : t ≡ row_found (free_slot m p) = ap row_found f in
        rw i (row, g ∙ ap (λ (z : Machine). push z p s) (e ∙ ap (λ (j : ℕ). cut_at m p s j b) row))

-- ---- both bounds

module _ (m : Machine) (p s a e : ℕ) (k : Bounded m p s a e) (n : Machine) (t : ℕ) (first : Bounds m p s a n t) where
  pub second_ready : Splittable n p t e
  second_ready = subst (λ (z : Rest). Splittable z.machine p z.slot e) (sym (λ i. record { machine = first.1 i; slot = first.0 i })) k.high

  module _ (o : Machine) (u : ℕ) (second : Bounds n p t e o u) where
    both_are : from o u ≡ split_bound p e (split_bound p a (from m s))
    both_are = (λ i. record { machine = second.1 i; slot = second.0 i }) ∙ (λ i. split_bound p e (record { machine = first.1 i; slot = first.0 i }))

    pub last_room : Room o p
    last_room = subst (λ (z : Rest). Room z.machine p) (sym both_are) k.room

    pub bounds_done : (v : Machine) → v ≡ push o p u → v ≡ split_at_bounds m p s a e
    unfolding split_at_bounds
    bounds_done v g = g ∙ ap (λ (z : Rest). push z.machine p z.slot) both_are
