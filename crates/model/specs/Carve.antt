-- Carve: regions that cross a bound of a range are split there. The Rust's carve, split_at_bounds, check_split and split.
use Rattle.std.specs.Prelude.{Bool, ◌&&◌, ◌||◌, not, cond, List, [], ◌∷◌, ◌++◌, map, ℕ, ◌+◌, ◌-◌, ◌*◌, ◌/◌, min, eqb, ltb, leb, Result, Ok, Err, ⊤}
use Rattle.address.specs.Pages.{aligned}
use Rattle.answers.specs.declared.Refusal.{Refusal}
use Rattle.answers.specs.declared.Refusal.TheVariants.{EagerBacking, Shared, InUse, TableFull}
use Rattle.model.specs.declared.Region.{Region}
use Rattle.model.specs.declared.Listed.{Listed}
use Rattle.laws.specs.Lists.{keep, any}
use Rattle.model.specs.Machine.{Machine, State, with_machine, with_entries, with_region, with_order, order_of, region_at, row_of, user_end}
use Rattle.model.specs.Answers.{After, leaving, first_of, listing, not_listed}
use Rattle.model.specs.Lookup.{is_file, is_shared, is_ranged, is_pinned, overlaps, lies_inside, span_end, starts_of, free_slot, free_slots, row_found}
use Rattle.model.specs.Create.{one}

-- RULES V1: bounds are multiples of 4,096, start at most end, end at most 2^47
abbrev pub bad_bounds : ℕ → ℕ → Bool
bad_bounds a e = not (aligned a) || not (aligned e) || ltb e a || ltb user_end e

-- a bound that the Rust splits at: above the start, below the exact end
abbrev pub strictly_inside : Region → ℕ → Bool
strictly_inside r b = ltb r.start.0 b && ltb b (span_end r)

-- the Rust's split of the three kinds: "Each part keeps the flags, the fork policy and the pages of its own addresses", and reads its own bytes of the file
unfoldable pub low_part : Region → ℕ → Region
low_part r at = record { kind = r.kind; start = r.start; size = at - r.start.0; flags = r.flags; fork = r.fork; per_thread = r.per_thread; pins = r.pins; file = r.file; offset = r.offset; length = min r.length (at - r.start.0); ranged = r.ranged; range = r.range }

unfoldable pub high_part : Region → ℕ → Region
high_part r at = record { kind = r.kind; start = record { 0 = at }; size = r.size - (at - r.start.0); flags = r.flags; fork = r.fork; per_thread = r.per_thread; pins = r.pins; file = r.file; offset = r.offset + one (is_file r) * (at - r.start.0); length = r.length - (at - r.start.0); ranged = r.ranged; range = r.range }

-- the page entries from `at` on go to another row
unfoldable pub give_entries : Machine → ℕ → ℕ → ℕ → Machine
give_entries m row at new = with_entries m (map (λ e. cond (eqb e.owner (row + 1) && leb (at / 4096) e.page.0) (record { owner = new + 1; page = e.page; frame = e.frame }) e) m.entries)

-- the low part keeps the slot, the high part takes the lowest free one
unfoldable pub split_at : Machine → ℕ → ℕ → ℕ → Machine
split_at m p s at =
    let t = row_found (free_slot m p) in
    let r = region_at m p s in
    give_entries (with_region (with_region m p s (low_part r at)) p t (high_part r at)) (row_of p s) at (row_of p t)

abbrev pub push : Machine → ℕ → ℕ → Machine
push m p s = with_order m p (order_of m p ++ (s ∷ []))

-- what is left to split, and the machine with the parts before it at the end of the list
pub record Rest : Type 0 where
  pub machine : Machine
  pub slot : ℕ

unfoldable pub split_bound : ℕ → ℕ → Rest → Rest
split_bound p b x =
    let split : Rest = record { machine = push (split_at x.machine p x.slot b) p x.slot; slot = row_found (free_slot x.machine p) } in
    cond (strictly_inside (region_at x.machine p x.slot) b) split x

-- the Rust's split_at_bounds: split at the bounds, and the parts added at the end (RULES V2), in address order
unfoldable pub split_at_bounds : Machine → ℕ → ℕ → ℕ → ℕ → Machine
split_at_bounds m p s a e = let x = split_bound p e (split_bound p a (record { machine = m; slot = s })) in push x.machine p x.slot

-- how many slots the parts need besides the region's own
unfoldable pub slots_needed : Region → ℕ → ℕ → ℕ
slots_needed r a e = one (strictly_inside r a) + one (strictly_inside r e && not (eqb a e))

-- the Rust's check_split and try_unwrap; regions taken out still count against the slots (RULES O6)
unfoldable pub split_refusals : Machine → ℕ → ℕ → ℕ → ℕ → List (Bool × Refusal)
split_refusals m p s a e =
    let r = region_at m p s in
    (is_ranged r && not (is_shared r), EagerBacking) ∷ (is_shared r, Shared) ∷ (is_pinned r, InUse) ∷ (ltb (free_slots m p) (slots_needed r a e), TableFull) ∷ []

-- RULES O6: a carve meets its regions one by one; V3: after the first error the rest go back whole
unfoldable pub carve_each : List ℕ → Machine → (p a e : ℕ) → Machine × Result ⊤ Refusal
carve_each [] m p a e = (m, Ok tt)
carve_each (s ∷ l) m p a e =
    elim (first_of (split_refusals m p s a e)) [
      | Ok tt ↦ carve_each l (split_at_bounds m p s a e) p a e
      | Err r ↦ (with_order m p (order_of m p ++ (s ∷ l)), Err r)
    ]

-- RULES V2: regions that overlap the range without lying inside it are taken out in list order
abbrev pub partial : Machine → ℕ → ℕ → ℕ → ℕ → Bool
partial m p a e s = overlaps (region_at m p s) a e && not (lies_inside (region_at m p s) a e)

unfoldable pub carve_splits : Machine → ℕ → ℕ → ℕ → Machine × Result ⊤ Refusal
carve_splits m p a e = carve_each (keep (partial m p a e) (order_of m p)) (with_order m p (keep (λ s. not (partial m p a e s)) (order_of m p))) p a e

-- the slots of the regions inside the range, in list order
unfoldable pub inside_of : Machine → ℕ → ℕ → ℕ → List ℕ
inside_of m p a e = keep (λ s. lies_inside (region_at m p s) a e) (order_of m p)

-- RULES V4: InUse if a region inside is pinned, else the list of regions inside
unfoldable pub carve_answer : Machine → ℕ → ℕ → ℕ → Result ⊤ Refusal → Listed
carve_answer m p a e (Err r) = not_listed r
carve_answer m p a e (Ok tt) = cond (any (λ s. is_pinned (region_at m p s)) (inside_of m p a e)) (not_listed InUse) (listing (starts_of m p (inside_of m p a e)))

-- the Rust's carve; the splits are kept in any case
unfoldable pub core_carve : State → ℕ → ℕ → ℕ → After Listed
core_carve s p a e = let x = carve_splits s.machine p a e in leaving (carve_answer x.0 p a e x.1) (with_machine s x.0)
