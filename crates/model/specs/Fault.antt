-- Page faults: which way a fault goes, what it needs, what it does. The Rust's handle_fault of the three kinds, map_and_fill.
use Rattle.std.specs.Prelude.{Bool, true, false, ◌&&◌, not, cond, List, [], ◌∷◌, ℕ, ◌+◌, ◌-◌, min, get_or, set, take, drop, replicate, eqb, ltb, leb, Option, Some, None}
use Rattle.model.specs.declared.Mapping.{Mapping}
use Rattle.address.specs.declared.PhysFrame.{PhysFrame}
use Rattle.address.specs.Flags.{read_only}
use Rattle.answers.specs.declared.Refusal.{Refusal}
use Rattle.answers.specs.declared.Refusal.TheVariants.{NotAccessible, NotWritable, OutOfMemory, ReadFailed, MapFailed, TableFull}
use Rattle.model.specs.declared.Region.{Region}
use Rattle.model.specs.declared.File.{File}
use Rattle.model.specs.declared.Backed.{Backed}
use Rattle.model.specs.declared.Backed.TheVariants.{ByEntry, ByRange, Unbacked}
use Rattle.model.specs.declared.Way.{Way}
use Rattle.model.specs.declared.Way.TheVariants.{Refuse, Already, Restore, Map, Copy, Fill}
use Rattle.laws.specs.Lists.{pad}
use Rattle.model.specs.Machine.{Machine, State, with_machine, with_frames, with_mapped, with_entries, mapped_of, process_at, region_at, row_of, pages, no_file}
use Rattle.model.specs.Answers.{Try, fine, first_of, unless}
use Rattle.model.specs.Lookup.{is_shared, is_file, free_entry, is_found}
use Rattle.model.specs.Paging.{page_start, mapping, is_writable, is_user, all_four, translate, map_page, unmap_page, remap_where, well_mapped}
use Rattle.model.specs.Backing.{backing, claim, let_go, add_entry, frame_bytes, put_frame}

-- RULES T3 to T5: mapped, write: a read-only region is NotWritable; one holder gets the region's flags; more holders get a copied frame
abbrev pub mapped_way : Region → Backed → Way
mapped_way r (ByEntry i f n) = cond (is_writable r.flags.0) (cond (eqb n 1) Restore (Copy f)) (Refuse NotWritable)
mapped_way r (ByRange f n) = cond (is_writable r.flags.0) (cond (eqb n 1) Restore (Copy f)) (Refuse NotWritable)
mapped_way r Unbacked = cond (is_writable r.flags.0) (Refuse MapFailed) (Refuse NotWritable)

-- RULES T6 to T9: unmapped, backed: a read-only region maps or says NotWritable; one holder maps with full flags; a read with more holders maps without WRITABLE; a write copies
abbrev pub backed_way : Region → PhysFrame → ℕ → Bool → Way
backed_way r f n w = cond (is_writable r.flags.0) (cond (eqb n 1) (Map f r.flags) (cond w (Copy f) (Map f (record { 0 = read_only r.flags.0 })))) (cond w (Refuse NotWritable) (Map f r.flags))

-- RULES T10 (request 2026-01): unmapped, unbacked: a write to a read-only region is NotWritable; else a filled new frame is mapped with the region's flags
abbrev pub unbacked_way : Region → Bool → Way
unbacked_way r w = cond (is_writable r.flags.0) Fill (cond w (Refuse NotWritable) Fill)

abbrev pub unmapped_way : Region → Backed → Bool → Way
unmapped_way r (ByEntry i f n) w = backed_way r f n w
unmapped_way r (ByRange f n) w = backed_way r f n w
unmapped_way r Unbacked w = unbacked_way r w

abbrev pub translated_way : Region → Option Mapping → Backed → Bool → Way
translated_way r (Some x) b w = cond (well_mapped (Some x) w) Already (mapped_way r b)
translated_way r None b w = unmapped_way r b w

-- RULES T1, T2: NotAccessible first; already mapped well enough: success
unfoldable pub private_way : Region → Option Mapping → Backed → Bool → Way
private_way r t b w = cond (is_user r.flags.0) (translated_way r t b w) (Refuse NotAccessible)

-- RULES T11: Shared is mapped with all four flags; an unmapped page of it is always backed, by its range
unfoldable pub shared_way : Option Mapping → Backed → Way
shared_way (Some x) b = Already
shared_way None (ByEntry i f n) = Map f (record { 0 = all_four })
shared_way None (ByRange f n) = Map f (record { 0 = all_four })
shared_way None Unbacked = Refuse MapFailed

unfoldable pub fault_way : Machine → ℕ → ℕ → ℕ → Bool → Way
fault_way m p s page w =
    let r = region_at m p s in
    let t = translate (mapped_of m p) page in
    cond (is_shared r) (shared_way t (backing m p s page)) (private_way r t (backing m p s page) w)

-- no frame free; 128 pages mapped already; no free page entry
abbrev pub no_frame : Machine → Bool
no_frame m = eqb m.pool.free 0

abbrev pub no_room : Machine → ℕ → Bool
no_room m p = leb pages (process_at m p).mapped

abbrev pub no_entry_left : Machine → Bool
no_entry_left m = not (is_found (free_entry m))

abbrev pub is_mapped : Option Mapping → Bool
is_mapped (Some x) = true
is_mapped None = false

-- a copy of a range's page needs a new entry, that of an entry's page does not
abbrev pub by_entry : Backed → Bool
by_entry (ByEntry i f n) = true
by_entry (ByRange f n) = false
by_entry Unbacked = false

-- bytes of a page that come from the file: up to the region's file length
abbrev pub from_file : Region → ℕ → ℕ
from_file r page = min (r.length - (page_start page - r.start.0)) 4096

-- RULES E15: unreadable file, page start below the region's file length
unfoldable pub read_fails : Machine → Region → ℕ → Bool
read_fails m r page = is_file r && ltb 0 (from_file r page) && eqb (get_or m.files r.file no_file).readable 0

-- what each way needs, in the order of the numbers
unfoldable pub way_refusals : Machine → ℕ → ℕ → ℕ → Way → List (Bool × Refusal)
way_refusals m p s page (Refuse r) = (true, r) ∷ []
way_refusals m p s page Already = []
way_refusals m p s page Restore = []
way_refusals m p s page (Map f flags) = (no_room m p, MapFailed) ∷ []
way_refusals m p s page (Copy f) =
    (no_frame m, OutOfMemory) ∷ (not (is_mapped (translate (mapped_of m p) page)) && no_room m p, MapFailed)
    ∷ (not (by_entry (backing m p s page)) && no_entry_left m, TableFull) ∷ []
way_refusals m p s page Fill =
    (no_frame m, OutOfMemory) ∷ (read_fails m (region_at m p s) page, ReadFailed) ∷ (no_room m p, MapFailed) ∷ (no_entry_left m, TableFull) ∷ []

-- RULES B2: bytes from the file up to the file length, zeros after it and after the file's end
unfoldable pub file_page : List ℕ → File → Region → ℕ → List ℕ
file_page bytes file r page =
    let at = r.offset + (page_start page - r.start.0) in
    pad 4096 0 (take (min (from_file r page) (file.len - at)) (drop (file.offset + at) bytes))

-- what a new page holds: zeros, or the file's bytes
unfoldable pub fill_of : State → Region → ℕ → List ℕ
fill_of s r page = cond (is_file r) (file_page s.bytes (get_or s.machine.files r.file no_file) r page) (replicate 4096 0)

-- the page entry of a copied page: the old one with the new frame, its old backing let go; or a new one, which shadows the range
unfoldable pub re_entry : Machine → ℕ → ℕ → Backed → ℕ → Machine
re_entry m row page (ByEntry i f n) new = with_entries (let_go m f.0) (set m.entries i (record { owner = row + 1; page = record { 0 = page }; frame = record { 0 = new } }))
re_entry m row page (ByRange f n) new = add_entry m row page new
re_entry m row page Unbacked new = add_entry m row page new

-- a frame of its own for a page, with some bytes, mapped with the region's flags: map_and_fill, and the copy of handle_fault
unfoldable pub own_frame : State → ℕ → ℕ → ℕ → List ℕ → State
own_frame s p slot page content =
    let m = s.machine in
    let new = m.pool.next.0 in
    let entered = re_entry (claim m new 1) (row_of p slot) page (backing m p slot page) new in
    with_machine (with_frames s (put_frame s.frames new content)) (with_mapped entered p (map_page (unmap_page (mapped_of m p) page) (mapping page new (region_at m p slot).flags.0)))

-- what each way does
unfoldable pub go_way : State → ℕ → ℕ → ℕ → Way → State
go_way s p slot page (Refuse r) = s
go_way s p slot page Already = s
go_way s p slot page Restore = with_machine s (with_mapped s.machine p (remap_where (λ x. eqb x.page.0 page) (λ x. (region_at s.machine p slot).flags.0) (mapped_of s.machine p)))
go_way s p slot page (Map f flags) = with_machine s (with_mapped s.machine p (map_page (mapped_of s.machine p) (mapping page f.0 flags.0)))
go_way s p slot page (Copy f) = own_frame s p slot page (frame_bytes s.frames f.0)
go_way s p slot page Fill = own_frame s p slot page (fill_of s (region_at s.machine p slot) page)

-- the Rust's handle_fault
unfoldable pub handle_fault : State → ℕ → ℕ → ℕ → Bool → Try
handle_fault s p slot page w =
    let way = fault_way s.machine p slot page w in
    unless (first_of (way_refusals s.machine p slot page way)) s (fine (go_way s p slot page way))
