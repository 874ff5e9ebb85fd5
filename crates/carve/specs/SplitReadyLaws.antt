-- A region that is taken out and not refused can be split at both bounds: what the code needs, from keeping's laws.
use Rattle.std.specs.Prelude.{◌≡◌, Bool, true, ◌&&◌, List, [], ◌∷◌, ◌++◌, ℕ, ◌+◌, ◌-◌, ◌%◌, ◌^◌, ◌≤◌, ◌<◌, length, ltb}
use Rattle.std.proofs.Math.Path.{refl, ap, subst}
use Rattle.std.proofs.Common.{sym, ◌∙◌, inl, arith, length-append}
use Rattle.std.proofs.Math.Bool.{false, not, true≢false}
use Rattle.std.proofs.Math.Decide.{ℕ_discrete}
use Rattle.std.proofs.Math.Dec.{eqb}
use borrow.Author.Tests.{ltb-true, ne_eqb, not-false}
use Rattle.model.specs.declared.Region.{Region}
use Rattle.model.specs.Machine.{Machine, with_order, region_at, row_of}
use Rattle.model.specs.Lookup.{span_end, free_slot, free_slots, row_found, is_found}
use Rattle.laws.specs.BoolLaws.{both_true}
use Rattle.model.specs.Create.{one}
use Rattle.model.specs.Sound.{Used, Limits}
use Rattle.model.specs.Carve.{strictly_inside, split_at, push, Rest, split_bound, slots_needed}
use Rattle.laws.specs.In.{In}
use Rattle.laws.specs.InLaws.{in_right}
use Rattle.keeping.specs.Owing.{nothing}
use Rattle.keeping.specs.OwingLaws.{open_low}
use Rattle.keeping.specs.CarveKept.{Carving, Whole, Steps, Next, split_carving, bound_is, pushed, found_again, spare_found, both}
use Rattle.split.specs.ListRoom.{Room}
use Rattle.split.specs.SplitBound.{Splittable, Bounded, from}
use Rattle.carve.specs.ListedRoomLaws.{room_behind, reads}
use Rattle.carve.specs.CarveWalk.{Anything}

pub any_steps : (p : ℕ) → Steps nothing p Anything
any_steps p x l s out k b w c g f u = tt

-- ---- a region that is still out

module _ (p : ℕ) (x : Machine) (l : List ℕ) (s : ℕ) (out : List ℕ) (k : Carving nothing p x l (s ∷ out)) where
  pub shorter : length l < 64
  shorter = let f = k.few in let e : length (l ++ (s ∷ out)) ≡ length l + length (s ∷ out) = length-append l (s ∷ out) in omega arith

  low : p < 8
  low = open_low (with_order x p (l ++ (s ∷ out))) k.owing p k.opened

  is : (s < 64) × Used (region_at x p s)
  unfolding with_order
  is = k.owing.listed p s low (subst (λ y. In s y) (sym (reads x p k.inside k.room (l ++ (s ∷ out)) k.few)) (in_right s l (s ∷ out) (inl refl)))

  pub out_small : s < 64
  out_small = is.0

  limits : Limits (with_order x p (l ++ (s ∷ out))) (region_at x p s)
  unfolding with_order
  limits = (k.owing.regions (row_of p s)).used is.1

  sum_fits : (b : ℕ) → strictly_inside (region_at x p s) b ≡ true → (region_at x p s).offset + (b - (region_at x p s).start.0) < 2 ^ 64
  sum_fits b e = go (ℕ_discrete r.kind 2)
    where
      r : Region
      r = region_at x p s

      h : (r.start.0 < b) × (b < span_end r)
      h = let q = both_true (ltb r.start.0 b) (ltb b (span_end r)) e in (ltb-true r.start.0 b q.0, ltb-true b (span_end r) q.1)

      go : Dec (r.kind ≡ 2) → r.offset + (b - r.start.0) < 2 ^ 64
      go (yes z) = let a = h.0 in let c = h.1 in let g = (limits.file z).1.0 in omega arith
      go (no z) = let a = h.0 in let c = h.1 in let g = (limits.no_file z).1.0 in let u = limits.user_segment in omega arith

  pub splittable : (b : ℕ) → (strictly_inside (region_at x p s) b ≡ true → not (is_found (free_slot x p)) ≡ false) → Splittable (with_order x p l) p s b
  unfolding with_order free_slot
  splittable b found = record { small = out_small; found = λ e. not-false _ (found e); sum = sum_fits b; room = λ e. room_behind x p k.inside k.room l shorter }

-- what is left of a region has room behind the parts that are listed
next_room : (p : ℕ) (rest : Rest) (out : List ℕ) → Next nothing Anything p rest out → Room rest.machine p
next_room p rest out n = subst (λ (m : Machine). Room m p) (sym n.machine) (room_behind n.x p n.carving.inside n.carving.room n.l (shorter p n.x n.l n.s out n.carving))

-- ---- both bounds

module _ (p a e : ℕ) (out : List ℕ) (x : Machine) (l : List ℕ) (s : ℕ) (k : Carving nothing p x l (s ∷ out)) (whole : Whole (region_at x p s)) (page_a : a % 4096 ≡ 0) (page_e : e % 4096 ≡ 0) (enough : slots_needed (region_at x p s) a e ≤ free_slots x p) where
  abbrev r : Region
  r = region_at x p s

  found_a : strictly_inside r a ≡ true → not (is_found (free_slot x p)) ≡ false
  unfolding slots_needed
  found_a y = let n : one (strictly_inside r a) ≡ 1 = ap one y in spare_found x p (omega arith)

  found_e : strictly_inside r a ≡ false → strictly_inside r e ≡ true → not (is_found (free_slot x p)) ≡ false
  unfolding slots_needed
  found_e n y =
      let differ : eqb a e ≡ false = ne_eqb a e (λ z. true≢false (sym y ∙ ap (λ (b : ℕ). strictly_inside r b) (sym z) ∙ n)) in
      let c : one (strictly_inside r a) + one (strictly_inside r e && not (eqb a e)) ≡ 1 = rw (n, y, differ) refl in
      spare_found x p (omega arith)

  after : strictly_inside r a ≡ true → Splittable (push (split_at (with_order x p l) p s a) p s) p (row_found (free_slot (with_order x p l) p)) e
  unfolding with_order free_slot
  after y =
      subst (λ (m : Machine). Splittable m p (row_found (free_slot x p)) e) (sym (pushed nothing Anything p (any_steps p) a out x l s k whole tt page_a))
      (splittable p (split_at x p s a) (l ++ (s ∷ [])) (row_found (free_slot x p)) out (split_carving nothing p x l s out k a whole y page_a (found_a y)) e (found_again nothing Anything p (any_steps p) a e out x l s k whole tt page_a page_e enough y))

  second : (c : Bool) → strictly_inside r a ≡ c → Splittable (split_bound p a (from (with_order x p l) s)).machine p (split_bound p a (from (with_order x p l) s)).slot e
  second true y = subst (λ (z : Rest). Splittable z.machine p z.slot e) (sym (bound_is nothing Anything p (any_steps p) a e out x l s k whole tt page_a page_e enough true y)) (after y)
  second false y = subst (λ (z : Rest). Splittable z.machine p z.slot e) (sym (bound_is nothing Anything p (any_steps p) a e out x l s k whole tt page_a page_e enough false y)) (splittable p x l s out k e (found_e y))

  pub bounded : Bounded (with_order x p l) p s a e
  bounded = record { low = splittable p x l s out k a found_a; high = second (strictly_inside r a) refl; room = next_room p _ out (both nothing Anything p (any_steps p) a e out x l s k whole tt page_a page_e enough) }
