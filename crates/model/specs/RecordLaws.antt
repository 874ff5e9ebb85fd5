-- The soundness test tells R6, and with it all rules.
use Rattle.std.specs.Prelude.{◌≡◌, ◌⊎◌, ◌≢◌, true, not, ◌||◌, List, ℕ, ◌+◌, ◌≤◌, ◌<◌, drop, eqb}
use Rattle.std.proofs.Common.{arith}
use Rattle.laws.specs.Tells.{Tells}
use Rattle.laws.specs.TellsLaws.{tells_both}
use Rattle.model.specs.declared.Process.{Process}
use Rattle.model.specs.declared.Region.{Region}
use Rattle.model.specs.declared.Mapping.{Mapping}
use Rattle.model.specs.declared.Entry.{Entry}
use Rattle.model.specs.declared.File.{File}
use Rattle.laws.specs.Lists.{part, among}
use Rattle.laws.specs.Tests.{Rows, Pairs, all_rows, all_pairs}
use Rattle.laws.specs.TestLaws.{tells_eq, tells_le, tells_lt, tells_bool, tells_not, tells_or, tells_if, tells_unless, tells_as, tells_rows, tells_pairs}
use Rattle.model.specs.Machine.{Machine, State, region_at, order_of, mapped_of, no_process, no_region, no_mapping, no_entry, no_backing, no_file}
use Rattle.model.specs.Lookup.{regions_of}
use Rattle.model.specs.Sound.{Used, R6, Sound, Sized, FileFits, ProcessFits, Ordered, Paged, Limits, RegionFits, Entered, EntryFits, Hold, no_hold, holds}
use Rattle.model.specs.SoundTest.{free_process, free_region, free_mapping, free_entry_row, free_file, sizedb, file_fits, empty_process, process_fits, listedb, pinned_if_detached, orderedb, pagedb, limitsb, region_fits, enteredb, entry_fits, other_page, alike, r6b, soundb}
use Rattle.model.specs.SoundLaws.{tells_unit, tells_processes, backings_tell, r1_tells, r2_tells, r3_tells, r4_tells, r5_tells}

-- ---- free rows: words whose sum is 0 are all 0

free_process_tells : (q : Process) → Tells (free_process q) (q ≡ no_process)
free_process_tells q = tells_as zeros (λ e. rw e) (tells_eq _ 0)
  where
    zeros : q.opened + q.start.0 + q.size + q.attached + q.mapped ≡ 0 → q ≡ no_process
    zeros h =
        let a : q.opened ≡ 0 = omega arith in
        let b : q.start.0 ≡ 0 = omega arith in
        let c : q.size ≡ 0 = omega arith in
        let d : q.attached ≡ 0 = omega arith in
        let e : q.mapped ≡ 0 = omega arith in
        λ k. record { opened = a k; start = record { 0 = b k }; size = c k; attached = d k; mapped = e k }

free_region_tells : (r : Region) → Tells (free_region r) (r ≡ no_region)
free_region_tells r = tells_as zeros (λ e. rw e) (tells_eq _ 0)
  where
    zeros : r.kind + r.start.0 + r.size + r.flags.0 + r.fork + r.per_thread + r.pins + r.file + r.offset + r.length + r.ranged + r.range.0 ≡ 0 → r ≡ no_region
    zeros h =
        let a : r.kind ≡ 0 = omega arith in
        let b : r.start.0 ≡ 0 = omega arith in
        let c : r.size ≡ 0 = omega arith in
        let d : r.flags.0 ≡ 0 = omega arith in
        let e : r.fork ≡ 0 = omega arith in
        let f : r.per_thread ≡ 0 = omega arith in
        let g : r.pins ≡ 0 = omega arith in
        let i : r.file ≡ 0 = omega arith in
        let j : r.offset ≡ 0 = omega arith in
        let l : r.length ≡ 0 = omega arith in
        let m : r.ranged ≡ 0 = omega arith in
        let n : r.range.0 ≡ 0 = omega arith in
        λ k. record { kind = a k; start = record { 0 = b k }; size = c k; flags = record { 0 = d k }; fork = e k; per_thread = f k; pins = g k; file = i k; offset = j k; length = l k; ranged = m k; range = record { 0 = n k } }

free_mapping_tells : (x : Mapping) → Tells (free_mapping x) (x ≡ no_mapping)
free_mapping_tells x = tells_as zeros (λ e. rw e) (tells_eq _ 0)
  where
    zeros : x.page.0 + x.frame.0 + x.flags.0 ≡ 0 → x ≡ no_mapping
    zeros h =
        let a : x.page.0 ≡ 0 = omega arith in
        let b : x.frame.0 ≡ 0 = omega arith in
        let c : x.flags.0 ≡ 0 = omega arith in
        λ k. record { page = record { 0 = a k }; frame = record { 0 = b k }; flags = record { 0 = c k } }

free_entry : (e : Entry) → Tells (free_entry_row e) (e ≡ no_entry)
free_entry e = tells_as zeros (λ p. rw p) (tells_eq _ 0)
  where
    zeros : e.owner + e.page.0 + e.frame.0 ≡ 0 → e ≡ no_entry
    zeros h =
        let a : e.owner ≡ 0 = omega arith in
        let b : e.page.0 ≡ 0 = omega arith in
        let c : e.frame.0 ≡ 0 = omega arith in
        λ k. record { owner = a k; page = record { 0 = b k }; frame = record { 0 = c k } }

free_file_tells : (f : File) → Tells (free_file f) (f ≡ no_file)
free_file_tells f = tells_as zeros (λ p. rw p) (tells_eq _ 0)
  where
    zeros : f.readable + f.offset + f.len ≡ 0 → f ≡ no_file
    zeros h =
        let a : f.readable ≡ 0 = omega arith in
        let b : f.offset ≡ 0 = omega arith in
        let c : f.len ≡ 0 = omega arith in
        λ k. record { readable = a k; offset = b k; len = c k }

-- ---- R6, field by field

sized_tells : (s : State) → Tells (sizedb s) (Sized s)
unfolding sizedb
sized_tells s =
    tells_as
    (λ p. record { processes = p.0; regions = p.1.0; order = p.1.1.0; mapped = p.1.1.1.0; entries = p.1.1.1.1.0; backings = p.1.1.1.1.1.0; files = p.1.1.1.1.1.1.0; frame_count = p.1.1.1.1.1.1.1.0; file_count = p.1.1.1.1.1.1.1.1.0; frames = p.1.1.1.1.1.1.1.1.1 })
    (λ r. (r.processes, (r.regions, (r.order, (r.mapped, (r.entries, (r.backings, (r.files, (r.frame_count, (r.file_count, r.frames))))))))))
    (tells_both (tells_eq _ _) (tells_both (tells_eq _ _) (tells_both (tells_eq _ _) (tells_both (tells_eq _ _) (tells_both (tells_eq _ _) (tells_both (tells_eq _ _) (tells_both (tells_eq _ _) (tells_both (tells_le _ _) (tells_both (tells_le _ _) (tells_eq _ _))))))))))

file_tells : (s : State) (i : ℕ) (f : File) → Tells (file_fits s i f) (FileFits s i f)
unfolding file_fits
file_tells s i f =
    tells_as (λ p. record { inside = p.0; free = p.1 }) (λ r. (r.inside, r.free))
    (tells_both (tells_if (tells_lt _ _) (tells_both (tells_le _ _) (tells_le _ _))) (tells_if (tells_le _ _) (free_file_tells f)))

empty_tells : (m : Machine) (p : ℕ) (q : Process) → Tells (empty_process m p q) ((q ≡ no_process) × Rows no_region (regions_of m p) (λ s r. r.kind ≡ 0))
unfolding empty_process
empty_tells m p q = tells_both (free_process_tells q) (tells_rows no_region _ _ (λ s r. tells_eq r.kind 0) (regions_of m p))

pub process_tells : (m : Machine) (p : ℕ) (q : Process) → Tells (process_fits m p q) (ProcessFits m p q)
unfolding process_fits
process_tells m p q =
    tells_as
    (λ t. record { closed = t.0; aligned_start = t.1.0; aligned_size = t.1.1.0; user_start = t.1.1.1.0; user_last = t.1.1.1.1.0; attached = t.1.1.1.1.1.0; mapped = t.1.1.1.1.1.1 })
    (λ r. (r.closed, (r.aligned_start, (r.aligned_size, (r.user_start, (r.user_last, (r.attached, r.mapped)))))))
    (tells_both (tells_unless (tells_eq _ _) (empty_tells m p q)) (tells_both (tells_bool _) (tells_both (tells_bool _) (tells_both (tells_lt _ _) (tells_both (tells_le _ _) (tells_both (tells_le _ _) (tells_le _ _)))))))

listed_tells : (m : Machine) (p s : ℕ) → Tells (listedb m p s) ((s < 64) × Used (region_at m p s))
unfolding listedb
listed_tells m p s = tells_both (tells_lt _ _) (tells_not (tells_eq _ _))

detached_tells : (l : List ℕ) (s : ℕ) (r : Region) → Tells (pinned_if_detached l s r) (Used r → (among s l ≡ true) ⊎ (1 ≤ r.pins))
unfolding pinned_if_detached
detached_tells l s r = tells_unless (tells_eq _ _) (tells_or (tells_bool _) (tells_le _ _))

pub ordered_tells : (m : Machine) (p : ℕ) (q : Process) → Tells (orderedb m p q) (Ordered m p q)
unfolding orderedb
ordered_tells m p q =
    tells_as (λ t. record { listed = t.0; free = t.1.0; once = t.1.1.0; detached = t.1.1.1 }) (λ r. (r.listed, (r.free, (r.once, r.detached))))
    (tells_both (tells_rows 0 _ _ (λ i s. listed_tells m p s) (order_of m p))
    (tells_both (tells_rows 0 _ _ (λ i s. tells_eq s 0) (drop q.attached (part 64 p m.order)))
    (tells_both (tells_pairs 0 _ (λ s. Unit {0}) _ (λ s t. s ≢ t) (λ s. tells_unit) (λ s t. tells_not (tells_eq s t)) (order_of m p))
    (tells_rows no_region _ _ (detached_tells (order_of m p)) (regions_of m p)))))

pub paged_tells : (m : Machine) (p : ℕ) (q : Process) → Tells (pagedb m p q) (Paged m p q)
unfolding pagedb
paged_tells m p q =
    tells_as (λ t. record { rising = t.0; free = t.1 }) (λ r. (r.rising, r.free))
    (tells_both (tells_pairs no_mapping _ (λ x. Unit {0}) _ (λ x y. x.page.0 < y.page.0) (λ x. tells_unit) (λ x y. tells_lt x.page.0 y.page.0) (mapped_of m p))
    (tells_rows no_mapping _ _ (λ i x. free_mapping_tells x) (drop q.mapped (part 128 p m.mapped))))

limits_tell : (m : Machine) (r : Region) → Tells (limitsb m r) (Limits m r)
unfolding limitsb
limits_tell m r =
    tells_as
    (λ t. record { kind = t.0; aligned_start = t.1.0; some = t.1.1.0; user_segment = t.1.1.1.0; pins = t.1.1.1.1.0; flags = t.1.1.1.1.1.0; shared = t.1.1.1.1.1.1.0; file = t.1.1.1.1.1.1.1.0; no_file = t.1.1.1.1.1.1.1.1.0; ranged = t.1.1.1.1.1.1.1.1.1.0; unranged = t.1.1.1.1.1.1.1.1.1.1 })
    (λ l. (l.kind, (l.aligned_start, (l.some, (l.user_segment, (l.pins, (l.flags, (l.shared, (l.file, (l.no_file, (l.ranged, l.unranged)))))))))))
    (tells_both (tells_le _ _) (tells_both (tells_bool _) (tells_both (tells_le _ _) (tells_both (tells_le _ _) (tells_both (tells_le _ _)
    (tells_both (tells_unless (tells_eq _ _) (tells_both (tells_bool _) (tells_both (tells_le _ _) (tells_le _ _))))
    (tells_both (tells_if (tells_eq _ _) (tells_both (tells_eq _ _) (tells_both (tells_eq _ _) (tells_both (tells_eq _ _) (tells_eq _ _)))))
    (tells_both (tells_if (tells_eq _ _) (tells_both (tells_lt _ _) (tells_both (tells_le _ _) (tells_both (tells_le _ _) (tells_eq _ _)))))
    (tells_both (tells_unless (tells_eq _ _) (tells_both (tells_eq _ _) (tells_both (tells_eq _ _) (tells_eq _ _))))
    (tells_both (tells_if (tells_eq _ _) (tells_eq _ _))
    (tells_unless (tells_eq _ _) (tells_both (tells_eq _ _) (tells_eq _ _)))))))))))))

pub region_tells : (m : Machine) (r : Region) → Tells (region_fits m r) (RegionFits m r)
unfolding region_fits
region_tells m r =
    tells_as (λ t. record { free = t.0; used = t.1 }) (λ f. (f.free, f.used))
    (tells_both (tells_if (tells_eq _ _) (free_region_tells r)) (tells_unless (tells_eq _ _) (limits_tell m r)))

entered_tells : (m : Machine) (e : Entry) → Tells (enteredb m e) (Entered m e)
unfolding enteredb
entered_tells m e =
    tells_as (λ t. record { owner = t.0; used = t.1.0; unshared = t.1.1.0; inside = t.1.1.1.0; frame = t.1.1.1.1 }) (λ r. (r.owner, (r.used, (r.unshared, (r.inside, r.frame)))))
    (tells_both (tells_le _ _) (tells_both (tells_not (tells_eq _ _)) (tells_both (tells_not (tells_eq _ _)) (tells_both (tells_bool _) (tells_eq _ _)))))

pub entry_tells : (m : Machine) (e : Entry) → Tells (entry_fits m e) (EntryFits m e)
unfolding entry_fits
entry_tells m e =
    tells_as (λ t. record { free = t.0; used = t.1 }) (λ f. (f.free, f.used))
    (tells_both (tells_if (tells_eq _ _) (free_entry e)) (tells_unless (tells_eq _ _) (entered_tells m e)))

other_page_tells : (e f : Entry) → Tells (other_page e f) (e.owner ≡ f.owner → e.page.0 ≢ f.page.0)
unfolding other_page
other_page_tells e f = tells_if (tells_eq _ _) (tells_not (tells_eq _ _))

alike_tells : (h k : Hold) → Tells (alike h k) (h.frame ≡ k.frame → (h.page ≡ k.page) × (h.shared ≡ k.shared))
unfolding alike
alike_tells h k = tells_if (tells_eq _ _) (tells_both (tells_eq _ _) (tells_eq _ _))

pub once_a_page_tells : (m : Machine) → Tells (all_pairs (λ e. not (eqb e.owner 0)) other_page m.entries) (Pairs no_entry m.entries (λ e. e.owner ≢ 0) (λ e f. e.owner ≡ f.owner → e.page.0 ≢ f.page.0))
once_a_page_tells m = tells_pairs no_entry _ (λ e. e.owner ≢ 0) other_page (λ e f. e.owner ≡ f.owner → e.page.0 ≢ f.page.0) (λ e. tells_not (tells_eq e.owner 0)) other_page_tells m.entries

pub one_page_tells : (m : Machine) → Tells (all_pairs (λ h. true) alike (holds m)) (Pairs no_hold (holds m) (λ h. Unit {0}) (λ h k. h.frame ≡ k.frame → (h.page ≡ k.page) × (h.shared ≡ k.shared)))
one_page_tells m = tells_pairs no_hold _ (λ h. Unit {0}) alike (λ h k. h.frame ≡ k.frame → (h.page ≡ k.page) × (h.shared ≡ k.shared)) (λ h. tells_unit) alike_tells (holds m)

pub free_backing_tells : (m : Machine) → Tells (all_rows (λ f b. not (eqb b.len 0) || eqb b.holders 0) 0 m.backings) (Rows no_backing m.backings (λ f b. b.len ≡ 0 → b.holders ≡ 0))
free_backing_tells m = backings_tell m _ _ (λ f b. tells_if (tells_eq b.len 0) (tells_eq b.holders 0))

pub r6_tells : (s : State) → Tells (r6b s) (R6 s)
unfolding r6b
r6_tells s =
    tells_as
    (λ t. record { sized = t.0; files = t.1.0; processes = t.1.1.0; ordered = t.1.1.1.0; paged = t.1.1.1.1.0; regions = t.1.1.1.1.1.0; entries = t.1.1.1.1.1.1.0; once_a_page = t.1.1.1.1.1.1.1.0; one_page = t.1.1.1.1.1.1.1.1.0; free_backings = t.1.1.1.1.1.1.1.1.1 })
    (λ r. (r.sized, (r.files, (r.processes, (r.ordered, (r.paged, (r.regions, (r.entries, (r.once_a_page, (r.one_page, r.free_backings))))))))))
    (tells_both (sized_tells s) (tells_both (tells_rows no_file _ _ (file_tells s) s.machine.files)
    (tells_both (tells_processes s.machine _ _ (process_tells s.machine)) (tells_both (tells_processes s.machine _ _ (ordered_tells s.machine)) (tells_both (tells_processes s.machine _ _ (paged_tells s.machine))
    (tells_both (tells_rows no_region _ _ (λ i r. region_tells s.machine r) s.machine.regions) (tells_both (tells_rows no_entry _ _ (λ i e. entry_tells s.machine e) s.machine.entries)
    (tells_both (once_a_page_tells s.machine) (tells_both (one_page_tells s.machine) (free_backing_tells s.machine))))))))))

-- the soundness test is true exactly on the machines that keep R1 to R6
pub sound_tells : (s : State) → Tells (soundb s) (Sound s)
unfolding soundb
sound_tells s =
    tells_as (λ t. record { r1 = t.0; r2 = t.1.0; r3 = t.1.1.0; r4 = t.1.1.1.0; r5 = t.1.1.1.1.0; r6 = t.1.1.1.1.1 }) (λ r. (r.r1, (r.r2, (r.r3, (r.r4, (r.r5, r.r6))))))
    (tells_both (r1_tells s.machine) (tells_both (r2_tells s.machine) (tells_both (r3_tells s.machine) (tells_both (r4_tells s.machine) (tells_both (r5_tells s.machine) (r6_tells s))))))
