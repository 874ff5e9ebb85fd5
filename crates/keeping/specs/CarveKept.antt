-- Carve keeps a machine sound. Regions that are taken out count as listed until their parts are: the machine with the list so far and the rest is sound.
use Rattle.std.specs.Prelude.{◌≡◌, ◌⊎◌, ◌≢◌, ◌&&◌, ◌||◌, ℕ, ◌+◌, ◌-◌, ◌*◌, ◌%◌, ◌≤◌, ◌<◌, ltb, Result, Ok, Err, ⊤}
use Rattle.std.proofs.Math.Path.{refl, ap, subst}
use Rattle.std.proofs.Common.{sym, ◌∙◌, inl, inr, arith, length-append}
use Rattle.std.proofs.Math.Bool.{Bool, true, false, not, cond, true≢false}
use mathlib.Core.List.{List, [], ◌∷◌, ◌++◌, append_assoc, append-nil}
use Rattle.std.proofs.Math.ListN.{length, set, length-set}
use Rattle.std.proofs.Math.Seq.{get_or-set_same, get_or-set_other}
use Rattle.std.proofs.Math.Dec.{eqb}
use borrow.Author.Tests.{eqb-true, eqb-false, eq-eqb, ne_eqb, ltb-true, ltb-false, lt-ltb, not-true, not-false}
use Rattle.answers.specs.declared.Refusal.{Refusal}
use Rattle.address.specs.Pages.{aligned}
use Rattle.model.specs.declared.Region.{Region}
use Rattle.laws.specs.Lists.{part, keep, pad, count}
use Rattle.model.specs.Machine.{Machine, State, with_order, process_at, region_at, row_of, order_of, no_region, attached_of, no_process}
use Rattle.model.specs.Answers.{first_of}
use Rattle.model.specs.Lookup.{is_shared, is_ranged, span_end, free_slot, free_slots, row_found, is_found, regions_of}
use Rattle.model.specs.Create.{one}
use Rattle.model.specs.Carve.{bad_bounds, strictly_inside, low_part, high_part, give_entries, split_at, push, Rest, split_bound, split_at_bounds, slots_needed, split_refusals, carve_each, partial, carve_splits, core_carve}
use Rattle.model.specs.Refusals.{carve_refusals}
use Rattle.model.specs.Calls as calls
use Rattle.model.specs.Run.{Call, call, step}
use Rattle.model.specs.Sound.{Sound, Used}
use Rattle.laws.specs.BoolLaws.{both_true, or_none}
use Rattle.model.specs.MachineLaws.{order_put}
use Rattle.laws.specs.ListsLaws.{pad_length, part_at, part_length, put_part_again}
use Rattle.laws.specs.SetLaws.{set_twice}
use Rattle.laws.specs.In.{In, Once}
use Rattle.laws.specs.InLaws.{in_left, in_right, in_either, once_insert, once_join}
use Rattle.laws.specs.InListsLaws.{in_keep, keep_in, once_keep, few_below}
use Rattle.laws.specs.PartLaws.{part_set}
use Rattle.laws.specs.CountLaws.{count_put, count_still}
use Rattle.model.specs.FoundRowLaws.{count_found}
use Rattle.keeping.specs.Owing.{row_at, Owing, nothing}
use Rattle.keeping.specs.OwingLaws.{open_low, listed_open, slot_pinned}
use Rattle.keeping.specs.OrderKept.{order_kept, opened_same}
use Rattle.keeping.specs.GuardedKept.{Passed, passed, guarded_kept}
use Rattle.keeping.specs.ArgumentLaws.{open_by_test}
use Rattle.keeping.specs.CoreKept.{Lends, lends_then, machine_kept}
use Rattle.keeping.specs.AddedKept.{free_slot_found}
use Rattle.keeping.specs.SplitKept.{Splits, split_kept}

-- put twice: the last list counts
pub order_again : (m : Machine) (p : ℕ) (k l : List ℕ) → p * 64 + 64 ≤ length m.order → with_order (with_order m p k) p l ≡ with_order m p l
unfolding with_order
order_again m p k l room = λ t. record {
  processes = set_twice no_process (λ q. attached_of q (length k)) (λ q. attached_of q (length l)) (λ q. attached_of q (length l)) (λ q. refl) m.processes p t;
  regions = m.regions;
  order = put_part_again 64 p (pad 64 0 k) (pad 64 0 l) m.order (pad_length 64 0 k) room t;
  mapped = m.mapped;
  entries = m.entries;
  backings = m.backings;
  pool = m.pool;
  files = m.files;
  frame_count = m.frame_count;
  file_count = m.file_count;
}

-- ---- the machine so far: X with the list l; what is out still counts as listed

-- sound with what is out listed behind what is in
pub record Carving (d : ℕ → ℕ) (p : ℕ) (x : Machine) (l out : List ℕ) : Type 0 where
  pub owing : Owing d (with_order x p (l ++ out))
  pub inside : p < length x.processes
  pub room : p * 64 + 64 ≤ length x.order
  pub few : length (l ++ out) ≤ 64
  pub opened : (process_at (with_order x p (l ++ out)) p).opened ≡ 1

module _ (d : ℕ → ℕ) (p : ℕ) (x : Machine) (l out : List ℕ) (k : Carving d p x l out) where
  order_is : order_of (with_order x p (l ++ out)) p ≡ l ++ out
  order_is = let r = k.room in order_put x p k.inside (l ++ out) (omega arith) k.few

  -- the list so far
  pub list_is : order_of (with_order x p l) p ≡ l
  list_is = let r = k.room in let f = k.few in let e = length-append l out in order_put x p k.inside l (omega arith) (omega arith)

  low : p < 8
  low = open_low (with_order x p (l ++ out)) k.owing p k.opened

-- one of them listed
listed_next : (d : ℕ → ℕ) (p : ℕ) (x : Machine) (l : List ℕ) (s : ℕ) (out : List ℕ) → Carving d p x l (s ∷ out) → Carving d p x (l ++ (s ∷ [])) out
listed_next d p x l s out k = record {
  owing = subst (λ t. Owing d (with_order x p t)) same k.owing;
  inside = k.inside;
  room = k.room;
  few = subst (λ t. length t ≤ 64) same k.few;
  opened = subst (λ t. (process_at (with_order x p t) p).opened ≡ 1) same k.opened;
}
  where
    same : l ++ (s ∷ out) ≡ (l ++ (s ∷ [])) ++ out
    same = sym (append_assoc l (s ∷ []) out)

-- a region that can be split
pub record Whole (r : Region) : Type 0 where
  pub unranged : r.ranged ≢ 1
  pub unshared : r.kind ≢ 3
  pub unpinned : r.pins ≡ 0

-- ---- one split

module _ (d : ℕ → ℕ) (p : ℕ) (x : Machine) (l : List ℕ) (s : ℕ) (out : List ℕ) (k : Carving d p x l (s ∷ out)) (b : ℕ) (whole : Whole (region_at x p s))
    (cut : strictly_inside (region_at x p s) b ≡ true) (page : b % 4096 ≡ 0) (found : not (is_found (free_slot x p)) ≡ false) where
  -- the machine with all listed
  abbrev pub w : Machine
  w = with_order x p (l ++ (s ∷ out))

  abbrev t : ℕ
  t = row_found (free_slot x p)

  -- the new list: what was listed, the region, its high part, the rest that is out
  abbrev list : List ℕ
  list = (l ++ (s ∷ [])) ++ (t ∷ out)

  w_order : order_of w p ≡ l ++ (s ∷ out)
  w_order = order_is d p x l (s ∷ out) k

  pub w_low : p < 8
  w_low = low d p x l (s ∷ out) k

  -- the slot for the high part
  pub is_free : (t < 64) × ((region_at x p t).kind ≡ 0)
  unfolding with_order free_slot
  is_free = free_slot_found d w k.owing p w_low found

  new : In t (order_of w p) → ⊥
  unfolding with_order
  new i = (k.owing.listed p t w_low i).1 is_free.1

  joined : (l ++ (s ∷ [])) ++ out ≡ l ++ (s ∷ out)
  joined = append_assoc l (s ∷ []) out

  list_once : Once list
  list_once =
      once_insert t (l ++ (s ∷ [])) out (subst Once (sym joined) (subst Once w_order (k.owing.once p w_low)))
      (λ i. new (subst (λ y. In t y) (sym w_order) (subst (λ y. In t y) joined i)))

  list_only : (j : ℕ) → In j list → (j ≡ t) ⊎ In j (order_of w p)
  list_only j i = go (in_either j (l ++ (s ∷ [])) (t ∷ out) i)
    where
      old : In j ((l ++ (s ∷ [])) ++ out) → In j (order_of w p)
      old q = subst (λ y. In j y) (sym w_order) (subst (λ y. In j y) joined q)

      go : In j (l ++ (s ∷ [])) ⊎ In j (t ∷ out) → (j ≡ t) ⊎ In j (order_of w p)
      go (inl q) = inr (old (in_left j (l ++ (s ∷ [])) out q))
      go (inr (inl e)) = inl e
      go (inr (inr q)) = inr (old (in_right j (l ++ (s ∷ [])) out q))

  -- none is lost
  pub list_has : (j : ℕ) → In j (order_of w p) → In j list
  list_has j i = go (in_either j (l ++ (s ∷ [])) out (subst (λ y. In j y) (sym joined) (subst (λ y. In j y) w_order i)))
    where
      go : In j (l ++ (s ∷ [])) ⊎ In j out → In j list
      go (inl q) = in_left j (l ++ (s ∷ [])) (t ∷ out) q
      go (inr q) = in_right j (l ++ (s ∷ [])) (t ∷ out) (inr q)

  -- none too many
  pub list_few : length list ≤ 64
  list_few = few_below 64 list list_once (λ j i. go j (list_only j i))
    where
      go : (j : ℕ) → (j ≡ t) ⊎ In j (order_of w p) → j < 64
      go j (inl e) = subst (λ (y : ℕ). y < 64) (sym e) is_free.0
      go j (inr q) = (k.owing.listed p j w_low q).0

  -- the region can be split there
  pub splits : Splits w p s b
  unfolding with_order free_slot
  splits =
      let e = both_true (ltb (region_at x p s).start.0 b) (ltb b (span_end (region_at x p s))) cut in
      record {
        listed = subst (λ y. In s y) (sym w_order) (in_right s l (s ∷ out) (inl refl));
        unranged = whole.unranged;
        unshared = whole.unshared;
        unpinned = whole.unpinned;
        above = ltb-true _ _ e.0;
        below = ltb-true _ _ e.1;
        page = page;
        slot = found;
      }

  -- the split machine with the new list keeps the rules
  pub split_owing : Owing d (with_order (split_at x p s b) p list)
  unfolding with_order split_at give_entries free_slot
  split_owing =
      subst (Owing d) (order_again (split_at x p s b) p (l ++ (s ∷ out)) list k.room)
      (split_kept d w k.owing p s b splits list list_once list_few list_has (in_right t (l ++ (s ∷ [])) (t ∷ out) (inl refl)) list_only)

  -- so the carve goes on with the high part still out
  pub split_carving : Carving d p (split_at x p s b) (l ++ (s ∷ [])) (t ∷ out)
  unfolding split_at give_entries
  split_carving = record {
    owing = split_owing;
    inside = k.inside;
    room = k.room;
    few = list_few;
    opened = listed_open d _ split_owing p t (subst (λ y. In t y)
        (sym (order_put (split_at x p s b) p k.inside list (let r = k.room in omega arith) list_few)) (in_right t (l ++ (s ∷ [])) (t ∷ out) (inl refl)));
  }

  -- which is in the new slot
  pub row_t : region_at (split_at x p s b) p t ≡ high_part (region_at x p s) b
  unfolding split_at give_entries with_order
  row_t =
      let a = k.owing.sizes.regions in
      let c = is_free.0 in
      let h = w_low in
      get_or-set_same (set x.regions (row_of p s) (low_part (region_at x p s) b)) (row_of p t) (high_part (region_at x p s) b) no_region (rw length-set (omega arith))

  -- and can be split again
  pub high_whole : Whole (high_part (region_at x p s) b)
  unfolding high_part
  high_whole = record { unranged = whole.unranged; unshared = whole.unshared; unpinned = whole.unpinned }

  -- the region that is split
  pub s_is : (s < 64) × Used (region_at x p s)
  unfolding with_order
  s_is = k.owing.listed p s w_low (subst (λ y. In s y) (sym w_order) (in_right s l (s ∷ out) (inl refl)))

  -- one slot less
  pub fewer : free_slots (split_at x p s b) p + 1 ≡ free_slots x p
  unfolding free_slots split_at give_entries with_order low_part high_part
  fewer =
      let size = k.owing.sizes.regions in
      let c = is_free.0 in
      let h = w_low in
      let a = s_is.0 in
      let free : Region → Bool = λ r. eqb r.kind 0 in
      let low_row : Region = low_part (region_at x p s) b in
      let first : List Region = set x.regions (row_of p s) low_row in
      let long : length (part 64 p first) ≡ 64 = part_length first 64 p (rw length-set (omega arith)) in
      let other_row = get_or-set_other x.regions (row_of p s) (row_of p t) low_row no_region (λ z. s_is.1 (ap (λ (j : ℕ). (row_at x j).kind) (sym z) ∙ is_free.1)) in
      let was_free = ap free (part_at first 64 p t no_region c ∙ other_row) ∙ eq-eqb _ 0 is_free.1 in
      let now_used = ne_eqb (region_at x p s).kind 0 s_is.1 in
      let high_put = count_put free no_region (part 64 p first) t (high_part (region_at x p s) b) (omega arith) was_free now_used in
      let low_put = count_still free no_region (part 64 p x.regions) s low_row (ap free (sym (part_at x.regions 64 p s no_region a))) in
      ap (λ y. count free y + 1) (part_set 64 p t first (high_part (region_at x p s) b) c)
      ∙ high_put
      ∙ ap (λ y. count free y) (part_set 64 p s x.regions low_row a)
      ∙ low_put

-- ---- both bounds

-- what else each split keeps
abbrev pub Steps : (ℕ → ℕ) → ℕ → (Machine → Type 0) → Type 0
Steps d p P =
    (x : Machine) (l : List ℕ) (s : ℕ) (out : List ℕ) (k : Carving d p x l (s ∷ out)) (b : ℕ) → Whole (region_at x p s)
    → strictly_inside (region_at x p s) b ≡ true → b % 4096 ≡ 0 → not (is_found (free_slot x p)) ≡ false
    → P (with_order x p (l ++ (s ∷ out))) → P (with_order (split_at x p s b) p ((l ++ (s ∷ [])) ++ (row_found (free_slot x p) ∷ out)))

-- a region that is out, between the bounds: the machine is X with the list l
pub record Next (d : ℕ → ℕ) (P : Machine → Type 0) (p : ℕ) (rest : Rest) (out : List ℕ) : Type 0 where
  pub x : Machine
  pub l : List ℕ
  pub s : ℕ
  pub machine : rest.machine ≡ with_order x p l
  pub slot : rest.slot ≡ s
  pub carving : Carving d p x l (s ∷ out)
  pub whole : Whole (region_at x p s)
  pub so_far : P (with_order x p (l ++ (s ∷ out)))

-- a bound, where a slot is free if it is needed
module _ (d : ℕ → ℕ) (P : Machine → Type 0) (p : ℕ) (steps : Steps d p P) (b : ℕ) (out : List ℕ) (x : Machine) (l : List ℕ) (s : ℕ)
    (k : Carving d p x l (s ∷ out)) (whole : Whole (region_at x p s)) (so : P (with_order x p (l ++ (s ∷ out)))) (page : b % 4096 ≡ 0) where
  -- as the model begins
  abbrev begun : Rest
  begun = record { machine = with_order x p l; slot = s }

  -- the low part goes last into the list
  pub pushed : push (split_at (with_order x p l) p s b) p s ≡ with_order (split_at x p s b) p (l ++ (s ∷ []))
  unfolding with_order split_at give_entries free_slot order_of
  pushed =
      ap (λ y. with_order (with_order (split_at x p s b) p l) p (y ++ (s ∷ []))) (list_is d p x l (s ∷ out) k)
      ∙ order_again (split_at x p s b) p l (l ++ (s ∷ [])) k.room

  bound_split : strictly_inside (region_at x p s) b ≡ true → not (is_found (free_slot x p)) ≡ false
      → Next d P p (record { machine = push (split_at (with_order x p l) p s b) p s; slot = row_found (free_slot (with_order x p l) p) }) out
  unfolding with_order split_at give_entries free_slot order_of
  bound_split e f = record {
    x = split_at x p s b;
    l = l ++ (s ∷ []);
    s = row_found (free_slot x p);
    machine = pushed;
    slot = refl;
    carving = split_carving d p x l s out k b whole e page f;
    whole = subst Whole (sym (row_t d p x l s out k b whole e page f)) (high_whole d p x l s out k b whole e page f);
    so_far = steps x l s out k b whole e page f so;
  }

  -- one bound, inside or not
  pub bound_kept : (strictly_inside (region_at x p s) b ≡ true → not (is_found (free_slot x p)) ≡ false) → Next d P p (split_bound p b begun) out
  unfolding split_bound with_order
  bound_kept found = go (strictly_inside (region_at x p s) b) refl
    where
      go : (c : Bool) → strictly_inside (region_at x p s) b ≡ c
          → Next d P p (cond c (record { machine = push (split_at (with_order x p l) p s b) p s; slot = row_found (free_slot (with_order x p l) p) }) begun) out
      go true e = bound_split e (found e)
      go false e = record { x = x; l = l; s = s; machine = refl; slot = refl; carving = k; whole = whole; so_far = so }

-- a free slot is found where one is counted
pub spare_found : (x : Machine) (p : ℕ) → 1 ≤ free_slots x p → not (is_found (free_slot x p)) ≡ false
unfolding free_slots free_slot
spare_found x p h = count_found (λ r. eqb r.kind 0) (regions_of x p) 0 h

-- what splitting at both bounds leaves
pub record Passes (d : ℕ → ℕ) (P : Machine → Type 0) (p : ℕ) (m : Machine) (out : List ℕ) : Type 0 where
  pub x : Machine
  pub l : List ℕ
  pub machine : m ≡ with_order x p l
  pub carving : Carving d p x l out
  pub so_far : P (with_order x p (l ++ out))

-- what is left after both bounds goes last
pub pass : (d : ℕ → ℕ) (P : Machine → Type 0) (p : ℕ) (rest : Rest) (out : List ℕ) → Next d P p rest out
    → Passes d P p (push rest.machine p rest.slot) out
pass d P p rest out n = record {
  x = n.x;
  l = n.l ++ (n.s ∷ []);
  machine = (λ i. push (n.machine i) p (n.slot i)) ∙ ap (λ y. with_order (with_order n.x p n.l) p (y ++ (n.s ∷ [])))
      (list_is d p n.x n.l (n.s ∷ out) n.carving) ∙ order_again n.x p n.l (n.l ++ (n.s ∷ [])) n.carving.room;
  carving = listed_next d p n.x n.l n.s out n.carving;
  so_far = subst (λ y. P (with_order n.x p y)) (sym (append_assoc n.l (n.s ∷ []) out)) n.so_far;
}

module _ (d : ℕ → ℕ) (P : Machine → Type 0) (p : ℕ) (steps : Steps d p P) (a e : ℕ) (out : List ℕ) (x : Machine) (l : List ℕ) (s : ℕ)
    (k : Carving d p x l (s ∷ out)) (whole : Whole (region_at x p s)) (so : P (with_order x p (l ++ (s ∷ out)))) (page_a : a % 4096 ≡ 0) (page_e : e % 4096 ≡ 0)
    (enough : slots_needed (region_at x p s) a e ≤ free_slots x p) where
  abbrev r : Region
  r = region_at x p s

  -- the first bound is not inside
  one_bound : strictly_inside r a ≡ false → Next d P p (split_bound p e (record { machine = with_order x p l; slot = s })) out
  unfolding slots_needed
  one_bound not_a = bound_kept d P p steps e out x l s k whole so page_e (λ yes_e. spare_found x p (need yes_e))
    where
      differ : strictly_inside r e ≡ true → eqb a e ≡ false
      differ y = ne_eqb a e (λ z. true≢false (sym y ∙ ap (λ (b : ℕ). strictly_inside r b) (sym z) ∙ not_a))

      need : strictly_inside r e ≡ true → 1 ≤ free_slots x p
      need y = let n : one (strictly_inside r a) + one (strictly_inside r e && not (eqb a e)) ≡ 1 = rw (not_a, y, differ y) refl in omega arith

  -- it is
  module _ (yes_a : strictly_inside r a ≡ true) where
    f : not (is_found (free_slot x p)) ≡ false
    unfolding slots_needed
    f = let n : one (strictly_inside r a) ≡ 1 = ap one yes_a in spare_found x p (omega arith)

    abbrev t1 : ℕ
    t1 = row_found (free_slot x p)

    abbrev x1 : Machine
    x1 = split_at x p s a

    left_one : free_slots x1 p + 1 ≡ free_slots x p
    left_one = fewer d p x l s out k a whole yes_a page_a f

    -- the high part is in the slot that was free
    pub high_row : region_at x1 p t1 ≡ high_part r a
    high_row = row_t d p x l s out k a whole yes_a page_a f

    -- a second bound inside the high part was inside the whole
    pub also_inside : strictly_inside (high_part r a) e ≡ true → (strictly_inside r e ≡ true) × (eqb a e ≡ false)
    unfolding high_part
    also_inside q =
        let b = both_true (ltb a e) (ltb e (a + (r.size - (a - r.start.0)))) q in
        let c = both_true (ltb r.start.0 a) (ltb a (span_end r)) yes_a in
        let b0 = ltb-true a e b.0 in
        let b1 = ltb-true e (a + (r.size - (a - r.start.0))) b.1 in
        let c0 = ltb-true r.start.0 a c.0 in
        let c1 = ltb-true a (r.start.0 + r.size) c.1 in
        (rw (lt-ltb r.start.0 e (omega arith), lt-ltb e (r.start.0 + r.size) (omega arith)) refl, ne_eqb a e (λ z. omega arith))

    -- a second slot, where a second bound is inside
    pub found_again : strictly_inside (region_at x1 p t1) e ≡ true → not (is_found (free_slot x1 p)) ≡ false
    unfolding slots_needed
    found_again q =
        let y = also_inside (subst (λ (z : Region). strictly_inside z e ≡ true) high_row q) in
        let n : one (strictly_inside r a) + one (strictly_inside r e && not (eqb a e)) ≡ 2 = rw (yes_a, y.0, y.1) refl in
        let c = left_one in
        spare_found x1 p (omega arith)

    two_bounds : Next d P p
        (split_bound p e (record { machine = push (split_at (with_order x p l) p s a) p s; slot = row_found (free_slot (with_order x p l) p) })) out
    unfolding free_slot with_order
    two_bounds =
        subst (λ (m : Machine). Next d P p (split_bound p e (record { machine = m; slot = t1 })) out) (sym (pushed d P p steps a out x l s k whole so page_a))
        (bound_kept d P p steps e out x1 (l ++ (s ∷ [])) t1 (split_carving d p x l s out k a whole yes_a page_a f)
        (subst Whole (sym high_row) (high_whole d p x l s out k a whole yes_a page_a f)) (steps x l s out k a whole yes_a page_a f so) page_e found_again)

  -- the model picks by the same test
  pub bound_is : (c : Bool) → strictly_inside r a ≡ c
      → split_bound p a (record { machine = with_order x p l; slot = s }) ≡ cond c
      (record { machine = push (split_at (with_order x p l) p s a) p s; slot = row_found (free_slot (with_order x p l) p) })
      (record { machine = with_order x p l; slot = s })
  unfolding split_bound with_order
  bound_is c y =
      ap (λ (z : Bool). cond z (record { machine = push (split_at (with_order x p l) p s a) p s; slot = row_found (free_slot (with_order x p l) p) })
      (record { machine = with_order x p l; slot = s })) y

  -- both bounds
  pub both : Next d P p (split_bound p e (split_bound p a (record { machine = with_order x p l; slot = s }))) out
  both = go (strictly_inside r a) refl
    where
      go : (c : Bool) → strictly_inside r a ≡ c → Next d P p (split_bound p e (split_bound p a (record { machine = with_order x p l; slot = s }))) out
      go true y = subst (λ (z : Rest). Next d P p (split_bound p e z) out) (sym (bound_is true y)) (two_bounds y)
      go false y = subst (λ (z : Rest). Next d P p (split_bound p e z) out) (sym (bound_is false y)) (one_bound y)

-- as the model writes it
pub bounds_passed : (d : ℕ → ℕ) (P : Machine → Type 0) (p : ℕ) → Steps d p P
    → (a e : ℕ) (out : List ℕ) (x : Machine) (l : List ℕ) (s : ℕ) (k : Carving d p x l (s ∷ out)) → Whole (region_at x p s) → P (with_order x p (l ++ (s ∷ out)))
    → a % 4096 ≡ 0 → e % 4096 ≡ 0 → slots_needed (region_at x p s) a e ≤ free_slots x p → Passes d P p (split_at_bounds (with_order x p l) p s a e) out
unfolding split_at_bounds
bounds_passed d P p steps a e out x l s k whole so f g h = pass d P p _ out (both d P p steps a e out x l s k whole so f g h)

-- ---- one region after the other

module _ (d : ℕ → ℕ) (P : Machine → Type 0) (p : ℕ) (steps : Steps d p P) (a e : ℕ) (page_a : a % 4096 ≡ 0) (page_e : e % 4096 ≡ 0) where
  -- sound, and what else is kept
  abbrev Both : Machine → Type 0
  Both m = Owing d m × P m

  -- what the tests of a split leave
  pub told : (x : Machine) (l : List ℕ) (s : ℕ) → Passed (split_refusals (with_order x p l) p s a e)
      → Whole (region_at x p s) × (slots_needed (region_at x p s) a e ≤ free_slots x p)
  unfolding split_refusals with_order free_slots
  told x l s k = (
    record {
      unranged = eqb-false _ 1 (alone (is_ranged (region_at x p s)) (is_shared (region_at x p s)) k.0 k.1.0);
      unshared = eqb-false _ 3 k.1.0;
      unpinned = let z = ltb-false 0 (region_at x p s).pins k.1.1.0 in omega arith;
    },
    ltb-false _ _ k.1.1.1.0,
  )
    where
      alone : (y z : Bool) → (y && not z) ≡ false → z ≡ false → y ≡ false
      alone true z u v = absurd (true≢false (sym (ap not v) ∙ u))
      alone false z u v = refl

  each_carved : (rest : List ℕ) (x : Machine) (l : List ℕ) → Carving d p x l rest → P (with_order x p (l ++ rest))
      → Both (carve_each rest (with_order x p l) p a e).0
  unfolding carve_each
  each_carved [] x l k so = subst (λ y. Both (with_order x p y)) (append-nil l) (k.owing, so)
  each_carved (s ∷ rest) x l k so = go (first_of (split_refusals (with_order x p l) p s a e)) refl (λ y z c v. each_carved rest y z c v)
    where
      moved : (m : Machine) → Passes d P p m rest
          → ((y : Machine) (z : List ℕ) → Carving d p y z rest → P (with_order y p (z ++ rest)) → Both (carve_each rest (with_order y p z) p a e).0)
          → Both (carve_each rest m p a e).0
      moved m q more = subst (λ (n : Machine). Both (carve_each rest n p a e).0) (sym q.machine) (more q.x q.l q.carving q.so_far)

      left : Result ⊤ Refusal → Machine × Result ⊤ Refusal
      left t = elim t [
        | Ok tt ↦ carve_each rest (split_at_bounds (with_order x p l) p s a e) p a e
        | Err r ↦ (with_order (with_order x p l) p (order_of (with_order x p l) p ++ (s ∷ rest)), Err r)
      ]

      go : (t : Result ⊤ Refusal) → first_of (split_refusals (with_order x p l) p s a e) ≡ t
          → ((y : Machine) (z : List ℕ) → Carving d p y z rest → P (with_order y p (z ++ rest)) → Both (carve_each rest (with_order y p z) p a e).0)
          → Both (left t).0
      go (Ok tt) q more =
          let w = told x l s (passed _ q) in
          moved (split_at_bounds (with_order x p l) p s a e) (bounds_passed d P p steps a e rest x l s k w.0 so page_a page_e w.1) more
      go (Err y) q more = subst Both (sym (ap (λ z. with_order (with_order x p l) p (z ++ (s ∷ rest))) (list_is d p x l (s ∷ rest) k)
          ∙ order_again x p l (l ++ (s ∷ rest)) k.room)) (k.owing, so)

-- ---- what is lent

bound_lends : (p b : ℕ) (rest : Rest) → Lends rest.machine (split_bound p b rest).machine
unfolding split_bound split_at give_entries with_order
bound_lends p b rest = go (strictly_inside (region_at rest.machine p rest.slot) b)
  where
    go : (c : Bool)
        → Lends rest.machine
        (cond c (record {
          machine = push (split_at rest.machine p rest.slot b) p rest.slot;
          slot = row_found (free_slot rest.machine p);
        }) rest).machine
    go true = record { files = refl; file_count = refl; frame_count = refl }
    go false = record { files = refl; file_count = refl; frame_count = refl }

bounds_lend : (m : Machine) (p s a e : ℕ) → Lends m (split_at_bounds m p s a e)
unfolding split_at_bounds with_order
bounds_lend m p s a e =
    lends_then (bound_lends p a (record { machine = m; slot = s }))
    (lends_then (bound_lends p e (split_bound p a (record { machine = m; slot = s }))) (record { files = refl; file_count = refl; frame_count = refl }))

each_lends : (l : List ℕ) (m : Machine) (p a e : ℕ) → Lends m (carve_each l m p a e).0
unfolding carve_each with_order
each_lends [] m p a e = record { files = refl; file_count = refl; frame_count = refl }
each_lends (s ∷ l) m p a e = go (first_of (split_refusals m p s a e)) (each_lends l (split_at_bounds m p s a e) p a e)
  where
    left : Result ⊤ Refusal → Machine × Result ⊤ Refusal
    left t = elim t [
      | Ok tt ↦ carve_each l (split_at_bounds m p s a e) p a e
      | Err r ↦ (with_order m p (order_of m p ++ (s ∷ l)), Err r)
    ]

    go : (t : Result ⊤ Refusal) → Lends (split_at_bounds m p s a e) (carve_each l (split_at_bounds m p s a e) p a e).0 → Lends m (left t).0
    go (Ok tt) k = lends_then (bounds_lend m p s a e) k
    go (Err r) k = record { files = refl; file_count = refl; frame_count = refl }

pub carve_lends : (m : Machine) (p a e : ℕ)
    → Lends m (carve_each (keep (partial m p a e) (order_of m p)) (with_order m p (keep (λ t. not (partial m p a e t)) (order_of m p))) p a e).0
unfolding with_order
carve_lends m p a e =
    let k = each_lends (keep (partial m p a e) (order_of m p)) (with_order m p (keep (λ t. not (partial m p a e t)) (order_of m p))) p a e in
    record { files = k.files; file_count = k.file_count; frame_count = k.frame_count }

-- ---- the whole carve

module _ (d : ℕ → ℕ) (m : Machine) (o : Owing d m) (p : ℕ) (opened : (process_at m p).opened ≡ 1) (f : ℕ → Bool) where
  -- those that stay listed
  abbrev stay : List ℕ
  stay = keep (λ s. not (f s)) (order_of m p)

  -- those that are taken out
  abbrev leave : List ℕ
  leave = keep f (order_of m p)

  p_low : p < 8
  p_low = open_low m o p opened

  all_once : Once (stay ++ leave)
  all_once =
      once_join stay leave (once_keep (λ s. not (f s)) (order_of m p) (o.once p p_low)) (once_keep f (order_of m p) (o.once p p_low))
      (λ x i j. true≢false (sym (in_keep f x (order_of m p) j).1 ∙ not-true (f x) (in_keep (λ s. not (f s)) x (order_of m p) i).1))

  all_of : (x : ℕ) → In x (stay ++ leave) → In x (order_of m p)
  all_of x i = go (in_either x stay leave i)
    where
      go : In x stay ⊎ In x leave → In x (order_of m p)
      go (inl j) = (in_keep (λ s. not (f s)) x (order_of m p) j).0
      go (inr j) = (in_keep f x (order_of m p) j).0

  all_in : (x : ℕ) → In x (order_of m p) → In x (stay ++ leave)
  all_in x i = go (f x) refl
    where
      go : (c : Bool) → f x ≡ c → In x (stay ++ leave)
      go true e = in_right x stay leave (keep_in f x (order_of m p) i e)
      go false e = in_left x stay leave (keep_in (λ s. not (f s)) x (order_of m p) i (ap not e))

  all_few : length (stay ++ leave) ≤ 64
  all_few = few_below 64 (stay ++ leave) all_once (λ x i. (o.listed p x p_low (all_of x i)).0)

  all_pinned : (j : ℕ) → j < 64 → Used (region_at m p j) → In j (stay ++ leave) ⊎ (1 ≤ (region_at m p j).pins)
  all_pinned j h u = go (slot_pinned m o p j h u)
    where
      go : In j (order_of m p) ⊎ (1 ≤ (region_at m p j).pins) → In j (stay ++ leave) ⊎ (1 ≤ (region_at m p j).pins)
      go (inl i) = inl (all_in j i)
      go (inr i) = inr i

  -- before the first region
  pub begins : Carving d p m stay leave
  begins = record {
    owing = order_kept d m o p opened (stay ++ leave) all_few all_once (λ x i. o.listed p x p_low (all_of x i)) all_pinned
        (λ x i q. all_in q.slot q.listed);
    inside = let a = o.sizes.processes in let h = p_low in omega arith;
    room = let a = o.sizes.order in let h = p_low in omega arith;
    few = all_few;
    opened = opened_same d m o p opened (stay ++ leave) p ∙ opened;
  }

module _ (m : Machine) (o : Owing nothing m) (p a e : ℕ) (opened : (process_at m p).opened ≡ 1) (bad : bad_bounds a e ≡ false) (P : Machine → Type 0)
    (steps : Steps nothing p P) where
  -- those that do not straddle a bound
  abbrev pub stays : List ℕ
  stays = keep (λ t. not (partial m p a e t)) (order_of m p)

  -- those that do
  abbrev pub leaves : List ℕ
  leaves = keep (partial m p a e) (order_of m p)

  -- carve keeps the rules, and whatever each split keeps
  pub carve_with : P (with_order m p (stays ++ leaves))
      → Owing nothing (carve_each leaves (with_order m p stays) p a e).0 × P (carve_each leaves (with_order m p stays) p a e).0
  carve_with so =
      let b1 = or_none (not (aligned a) || not (aligned e) || ltb e a) _ bad in
      let b2 = or_none (not (aligned a) || not (aligned e)) (ltb e a) b1.0 in
      let b3 = or_none (not (aligned a)) (not (aligned e)) b2.0 in
      each_carved nothing P p steps a e (eqb-true (a % 4096) 0 (not-false _ b3.0)) (eqb-true (e % 4096) 0 (not-false _ b3.1)) leaves m stays
      (begins nothing m o p opened (partial m p a e)) so

  pub carve_begins : Carving nothing p m stays leaves
  carve_begins = begins nothing m o p opened (partial m p a e)

pub carve_kept : (s : State) → Sound s → (p a e : ℕ) → Sound (step (Call.carve p a e) s)
unfolding step call calls.carve carve_refusals core_carve carve_splits
carve_kept s sound p a e =
    guarded_kept s _ _ _ sound (λ k. machine_kept s _ sound (carve_lends s.machine p a e)
    (λ o. (carve_with s.machine o p a e (open_by_test s.machine p k.0) k.1.0 (λ m. Unit {0}) (λ x l s out k b w c g f u. tt) tt).0))
