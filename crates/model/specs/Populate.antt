-- Populate and eager populate: faults over many pages, in rising order.
use Rattle.std.specs.Prelude.{Bool, true, false, ◌&&◌, ◌||◌, not, cond, List, [], ◌∷◌, map, ℕ, zero, suc, ◌+◌, ◌-◌, ◌/◌, ◌^◌, eqb, ltb, leb, Option, Some, None}
use Rattle.address.specs.Canonical.{canonical, user}
use Rattle.model.specs.declared.Region.{Region}
use Rattle.model.specs.Machine.{Machine, State, region_at, order_of, mapped_of, pages, slots}
use Rattle.model.specs.Answers.{Try, fine, and_then}
use Rattle.model.specs.Lookup.{region_for, is_private}
use Rattle.model.specs.Paging.{page_start, translate, well_mapped, is_user, is_writable}
use Rattle.model.specs.Fault.{handle_fault}

-- the lowest of some numbers that is above n, with one number more
abbrev pub lower : ℕ → ℕ → Option ℕ → Option ℕ
lower n x None = cond (ltb n x) (Some x) None
lower n x (Some y) = cond (ltb n x && ltb x y) (Some x) (Some y)

unfoldable pub lowest_above : ℕ → List ℕ → Option ℕ
lowest_above n [] = None
lowest_above n (x ∷ l) = lower n x (lowest_above n l)

-- the next page above a page at which an attached region starts: the pages between lie in no region
unfoldable pub next_start : Machine → ℕ → ℕ → Option ℕ
next_start m p page = lowest_above page (map (λ s. (region_at m p s).start.0 / 4096) (order_of m p))

-- one page: skipped if mapped well enough (RULES U1)
unfoldable pub populate_page : State → ℕ → ℕ → ℕ → Bool → Try
populate_page s p slot page w =
    let fault = handle_fault s p slot page w in
    cond (well_mapped (translate (mapped_of s.machine p) page) w) (fine s) fault

-- what populate means: n pages from `page` on, each in turn; a page in no region is skipped
abbrev pub page_in : Option ℕ → State → (p page : ℕ) → Bool → Try
page_in (Some slot) s p page w = populate_page s p slot page w
page_in None s p page w = fine s

abbrev pub one_page : State → (p page : ℕ) → Bool → Try
one_page s p page w = page_in (region_for s.machine p (page_start page)) s p page w

unfoldable pub every_page : ℕ → State → (p page : ℕ) → Bool → Try
every_page zero s p page w = fine s
every_page (suc n) s p page w = and_then (one_page s p page w) (λ t. every_page n t p (page + 1) w)

-- the same, in steps that can be counted, since a range may have 2^35 pages (PopulateLaws: visit-every)
-- RULES U1, rising order, pages in no region skipped: at most n pages or gaps from `page` to `last`
unfoldable pub visit : ℕ → State → (p page last : ℕ) → Bool → Try
visit zero s p page last w = fine s
visit (suc n) s p page last w =
    elim (ltb last page) [
      | true ↦ fine s
      | false ↦ elim (region_for s.machine p (page_start page)) [
        | Some slot ↦ and_then (populate_page s p slot page w) (λ t. visit n t p (page + 1) last w)
        | None ↦ elim (next_start s.machine p page) [
          | Some next ↦ visit n s p next last w
          | None ↦ fine s
        ]
      ]
    ]

-- every page that is visited and does not end the walk is mapped afterwards, so there are at most 128 of them; every gap but
-- the last ends at another region's start, so there are at most 64 and one; one page refuses, one is past the last
abbrev pub visits : ℕ
visits = pages + 1 + slots + 1 + 1

-- the last address: start plus length less 1
abbrev pub last_address : ℕ → ℕ → ℕ
last_address a len = a + (len - 1)

-- RULES U2: length 0, a sum past 2^64 - 1 or a last address not canonical: success, nothing done
unfoldable pub nothing_to_do : ℕ → ℕ → Bool
nothing_to_do a len = eqb len 0 || leb (2 ^ 64) (last_address a len) || not (canonical (last_address a len))

-- RULES U3: a last address in the upper half is BadRange
unfoldable pub upper_last : ℕ → ℕ → Bool
upper_last a len = not (nothing_to_do a len) && not (user (last_address a len))

-- the Rust's populate
unfoldable pub core_populate : State → ℕ → ℕ → ℕ → Bool → Try
core_populate s p a len w =
    let walk = visit visits s p (a / 4096) (last_address a len / 4096) w in
    cond (nothing_to_do a len) (fine s) walk

-- RULES U4 (request 2026-02): eager populate visits every Private CopyEager region with user access,
abbrev pub eager_region : Region → Bool
eager_region r = (is_private r && eqb r.fork 1) && is_user r.flags.0

-- .. for writing where it is writable, for reading where it is not
abbrev pub eager_access : Region → Bool
eager_access r = is_writable r.flags.0

unfoldable pub eagerly : State → ℕ → ℕ → Try
eagerly s p slot =
    let r = region_at s.machine p slot in
    let all = core_populate s p r.start.0 r.size (eager_access r) in
    cond (eager_region r) all (fine s)

unfoldable pub eagerly_each : List ℕ → State → ℕ → Try
eagerly_each [] s p = fine s
eagerly_each (slot ∷ l) s p = and_then (eagerly s p slot) (λ t. eagerly_each l t p)

-- the Rust's populate_eager_copies, in list order
unfoldable pub core_populate_eager_copies : State → ℕ → Try
core_populate_eager_copies s p = eagerly_each (order_of s.machine p) s p
