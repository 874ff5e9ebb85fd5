-- The soundness test: R1 to R6 as a test that computes, field by field as in Sound.
use Rattle.std.specs.Prelude.{Bool, true, false, ◌&&◌, ◌||◌, not, List, ℕ, ◌+◌, ◌-◌, ◌*◌, ◌^◌, length, get_or, drop, eqb, ltb, leb, Option, Some, None}
use Rattle.address.specs.Flags.{good_flags, read_only}
use Rattle.address.specs.Pages.{aligned}
use Rattle.model.specs.declared.Process.{Process}
use Rattle.model.specs.declared.Region.{Region}
use Rattle.model.specs.declared.Mapping.{Mapping}
use Rattle.model.specs.declared.Entry.{Entry}
use Rattle.model.specs.declared.Backing.{Backing}
use Rattle.model.specs.declared.File.{File}
use Rattle.laws.specs.Lists.{part, among, first}
use Rattle.laws.specs.Tests.{all_rows, all_pairs}
use Rattle.model.specs.Machine.{Machine, State, region_at, order_of, mapped_of, no_region, user_end, most_pins, process_rows, entry_rows, file_rows, frame_rows}
use Rattle.model.specs.Lookup.{regions_of, contains, segment_end, pages_for, is_used}
use Rattle.model.specs.Paging.{page_start, is_writable, all_four}
use Rattle.model.specs.Backing.{backing, backing_at}
use Rattle.model.specs.Protect.{holders_by}
use Rattle.model.specs.Sound.{free_of, holds, holders_of, home_of, frame_by, Hold}

-- every process, with its number
abbrev pub each_process : Machine → (ℕ → Process → Bool) → Bool
each_process m f = all_rows f 0 m.processes

unfoldable pub apartb : Region → Region → Bool
apartb r x = eqb x.kind 0 || (leb (segment_end r) x.start.0 || leb (segment_end x) r.start.0)

unfoldable pub r1b : Machine → Bool
r1b m = each_process m (λ p q. all_pairs is_used apartb (regions_of m p))

unfoldable pub ends_before : ℕ → Backing → ℕ → Backing → Bool
ends_before f b g c = not (ltb f g) || (eqb c.len 0 || leb (f + b.len) g)

unfoldable pub backing_apart : Machine → ℕ → Backing → Bool
backing_apart m f b = eqb b.len 0 || all_rows (ends_before f b) 0 m.backings

unfoldable pub r2b : Machine → Bool
r2b m =
    all_rows (backing_apart m) 0 m.backings
    && (all_rows (λ f b. eqb b.len 0 || leb (f + b.len) m.frame_count) 0 m.backings
    && (eqb m.pool.free (length (free_of m)) && eqb m.pool.next.0 (first m.frame_count (free_of m))))

unfoldable pub counted : Machine → ℕ → Backing → Bool
counted m f b = eqb b.holders (holders_of m f) && leb 1 b.holders

unfoldable pub r3b : Machine → Bool
r3b m = all_rows (λ f b. eqb b.len 0 || counted m f b) 0 m.backings

abbrev pub same_found : Option ℕ → Option ℕ → Bool
same_found None None = true
same_found None (Some j) = false
same_found (Some i) None = false
same_found (Some i) (Some j) = eqb i j

-- a test of what was found
abbrev pub when_found : Bool → (ℕ → Bool) → Option ℕ → Bool
when_found b f None = b
when_found b f (Some i) = f i

unfoldable pub homedb : Machine → ℕ → Mapping → Bool
homedb m p x = when_found false (λ s. same_found (frame_by (backing m p s x.page.0)) (Some x.frame.0)) (home_of m p x)

unfoldable pub r4b : Machine → Bool
r4b m = each_process m (λ p q. all_rows (λ i x. homedb m p x) 0 (mapped_of m p))

unfoldable pub flaggedb : Region → ℕ → ℕ → Bool
flaggedb r flags n =
    (eqb r.kind 3 || (eqb flags r.flags.0 || eqb flags (read_only r.flags.0)))
    && ((eqb r.kind 3 || (not (is_writable flags) || eqb n 1)) && (not (eqb r.kind 3) || eqb flags all_four))

unfoldable pub flags_fit : Machine → ℕ → Mapping → Bool
flags_fit m p x = when_found true (λ s. flaggedb (region_at m p s) x.flags.0 (holders_by (backing m p s x.page.0))) (home_of m p x)

unfoldable pub r5b : Machine → Bool
r5b m = each_process m (λ p q. all_rows (λ i x. flags_fit m p x) 0 (mapped_of m p))

-- free rows: the sum of the words is 0
abbrev pub free_process : Process → Bool
free_process q = eqb (q.opened + q.start.0 + q.size + q.attached + q.mapped) 0

abbrev pub free_region : Region → Bool
free_region r = eqb (r.kind + r.start.0 + r.size + r.flags.0 + r.fork + r.per_thread + r.pins + r.file + r.offset + r.length + r.ranged + r.range.0) 0

abbrev pub free_mapping : Mapping → Bool
free_mapping x = eqb (x.page.0 + x.frame.0 + x.flags.0) 0

abbrev pub free_entry_row : Entry → Bool
free_entry_row e = eqb (e.owner + e.page.0 + e.frame.0) 0

abbrev pub free_file : File → Bool
free_file f = eqb (f.readable + f.offset + f.len) 0

unfoldable pub sizedb : State → Bool
sizedb s =
    let m = s.machine in
    eqb (length m.processes) process_rows && (eqb (length m.regions) 512 && (eqb (length m.order) 512 && (eqb (length m.mapped) 1024
    && (eqb (length m.entries) entry_rows && (eqb (length m.backings) frame_rows && (eqb (length m.files) file_rows
    && (leb m.frame_count frame_rows && (leb m.file_count file_rows && eqb (length s.frames) (m.frame_count * 4096)))))))))

unfoldable pub file_fits : State → ℕ → File → Bool
file_fits s i f = (not (ltb i s.machine.file_count) || (leb f.readable 1 && leb (f.offset + f.len) (length s.bytes))) && (not (leb s.machine.file_count i) || free_file f)

unfoldable pub empty_process : Machine → ℕ → Process → Bool
empty_process m p q = free_process q && all_rows (λ s r. eqb r.kind 0) 0 (regions_of m p)

unfoldable pub process_fits : Machine → ℕ → Process → Bool
process_fits m p q =
    (eqb q.opened 1 || empty_process m p q)
    && (aligned q.start.0 && (aligned q.size && (ltb q.start.0 user_end && (leb (q.start.0 + q.size) user_end && (leb q.attached 64 && leb q.mapped 128)))))

unfoldable pub listedb : Machine → ℕ → ℕ → Bool
listedb m p s = ltb s 64 && not (eqb (region_at m p s).kind 0)

unfoldable pub pinned_if_detached : List ℕ → ℕ → Region → Bool
pinned_if_detached l s r = eqb r.kind 0 || (among s l || leb 1 r.pins)

unfoldable pub orderedb : Machine → ℕ → Process → Bool
orderedb m p q =
    all_rows (λ i s. listedb m p s) 0 (order_of m p) && (all_rows (λ i s. eqb s 0) 0 (drop q.attached (part 64 p m.order))
    && (all_pairs (λ s. true) (λ s t. not (eqb s t)) (order_of m p) && all_rows (pinned_if_detached (order_of m p)) 0 (regions_of m p)))

unfoldable pub pagedb : Machine → ℕ → Process → Bool
pagedb m p q = all_pairs (λ x. true) (λ x y. ltb x.page.0 y.page.0) (mapped_of m p) && all_rows (λ i x. free_mapping x) 0 (drop q.mapped (part 128 p m.mapped))

unfoldable pub limitsb : Machine → Region → Bool
limitsb m r =
    leb r.kind 3 && (aligned r.start.0 && (leb 1 r.size && (leb (segment_end r) user_end && (leb r.pins most_pins
    && ((eqb r.kind 3 || (good_flags r.flags.0 && (leb r.fork 1 && leb r.per_thread 1)))
    && ((not (eqb r.kind 3) || (eqb r.flags.0 0 && (eqb r.fork 0 && (eqb r.per_thread 0 && eqb r.ranged 1))))
    && ((not (eqb r.kind 2) || (ltb r.file m.file_count && (leb (r.offset + r.size) (2 ^ 48) && (leb r.length r.size && eqb r.ranged 0))))
    && ((eqb r.kind 2 || (eqb r.file 0 && (eqb r.offset 0 && eqb r.length 0)))
    && ((not (eqb r.ranged 1) || eqb (backing_at m r.range.0).len (pages_for r.size))
    && (eqb r.ranged 1 || (eqb r.ranged 0 && eqb r.range.0 0)))))))))))

unfoldable pub region_fits : Machine → Region → Bool
region_fits m r = (not (eqb r.kind 0) || free_region r) && (eqb r.kind 0 || limitsb m r)

unfoldable pub enteredb : Machine → Entry → Bool
enteredb m e =
    let r = get_or m.regions (e.owner - 1) no_region in
    leb e.owner 512 && (not (eqb r.kind 0) && (not (eqb r.kind 3) && (contains r (page_start e.page.0) && eqb (backing_at m e.frame.0).len 1)))

unfoldable pub entry_fits : Machine → Entry → Bool
entry_fits m e = (not (eqb e.owner 0) || free_entry_row e) && (eqb e.owner 0 || enteredb m e)

unfoldable pub other_page : Entry → Entry → Bool
other_page e f = not (eqb e.owner f.owner) || not (eqb e.page.0 f.page.0)

unfoldable pub alike : Hold → Hold → Bool
alike h k = not (eqb h.frame k.frame) || (eqb h.page k.page && eqb h.shared k.shared)

unfoldable pub r6b : State → Bool
r6b s =
    let m = s.machine in
    sizedb s && (all_rows (file_fits s) 0 m.files && (each_process m (process_fits m) && (each_process m (orderedb m) && (each_process m (pagedb m)
    && (all_rows (λ i r. region_fits m r) 0 m.regions && (all_rows (λ i e. entry_fits m e) 0 m.entries
    && (all_pairs (λ e. not (eqb e.owner 0)) other_page m.entries
    && (all_pairs (λ h. true) alike (holds m) && all_rows (λ f b. not (eqb b.len 0) || eqb b.holders 0) 0 m.backings))))))))

-- the soundness test
unfoldable pub soundb : State → Bool
soundb s = r1b s.machine && (r2b s.machine && (r3b s.machine && (r4b s.machine && (r5b s.machine && r6b s))))
