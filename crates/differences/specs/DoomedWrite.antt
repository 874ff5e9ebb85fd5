-- Request 2026-01: which way the Rust goes at a fault, and the one case in which a fault goes another way.
use Rattle.std.specs.Prelude.{Bool, false, not, ◌&&◌, cond, ℕ, Option, Some, None}
use Rattle.model.specs.declared.Mapping.{Mapping}
use Rattle.answers.specs.declared.Refusal.TheVariants.{NotAccessible}
use Rattle.model.specs.declared.Region.{Region}
use Rattle.model.specs.declared.Backed.{Backed}
use Rattle.model.specs.declared.Backed.TheVariants.{ByEntry, ByRange, Unbacked}
use Rattle.model.specs.declared.Way.{Way}
use Rattle.model.specs.declared.Way.TheVariants.{Refuse, Already, Fill}
use Rattle.model.specs.Machine.{Machine, State, mapped_of, region_at}
use Rattle.model.specs.Answers.{Try, fine, first_of, unless}
use Rattle.model.specs.Lookup.{is_shared}
use Rattle.model.specs.Paging.{is_writable, is_user, translate, well_mapped}
use Rattle.model.specs.Backing.{backing}
use Rattle.model.specs.Fault.{backed_way, mapped_way, shared_way, way_refusals, go_way}

-- ---- the Rust's way: a page that nothing backs is filled, whatever the access

abbrev rust_unmapped : Region → Backed → Bool → Way
rust_unmapped r (ByEntry i f n) w = backed_way r f n w
rust_unmapped r (ByRange f n) w = backed_way r f n w
rust_unmapped r Unbacked w = Fill

abbrev pub rust_translated : Region → Option Mapping → Backed → Bool → Way
rust_translated r (Some x) b w = cond (well_mapped (Some x) w) Already (mapped_way r b)
rust_translated r None b w = rust_unmapped r b w

unfoldable pub rust_way : Machine → ℕ → ℕ → ℕ → Bool → Way
rust_way m p s page w =
    let r = region_at m p s in
    let t = translate (mapped_of m p) page in
    cond (is_shared r) (shared_way t (backing m p s page)) (cond (is_user r.flags.0) (rust_translated r t (backing m p s page) w) (Refuse NotAccessible))

-- the Rust's handle_fault
unfoldable pub rust_fault : State → ℕ → ℕ → ℕ → Bool → Try
rust_fault s p slot page w =
    let way = rust_way s.machine p slot page w in
    unless (first_of (way_refusals s.machine p slot page way)) s (fine (go_way s p slot page way))

-- ---- the doomed write: not mapped, not backed, a region with user access and without WRITABLE that is not Shared, a write

abbrev pub doomed_page : Region → Option Mapping → Backed → Bool → Bool
doomed_page r (Some x) b w = false
doomed_page r None (ByEntry i f n) w = false
doomed_page r None (ByRange f n) w = false
doomed_page r None Unbacked w = not (is_writable r.flags.0) && w

unfoldable pub doomed : Machine → ℕ → ℕ → ℕ → Bool → Bool
doomed m p s page w =
    let r = region_at m p s in
    not (is_shared r) && (is_user r.flags.0 && doomed_page r (translate (mapped_of m p) page) (backing m p s page) w)
