-- Backings and frames: the pool, who holds what, and the bytes of frames.
use Rattle.std.specs.Prelude.{Bool, false, ◌&&◌, ◌||◌, not, cond, List, [], ◌∷◌, ◌++◌, ℕ, ◌+◌, ◌-◌, ◌*◌, ◌/◌, length, get_or, set, take, drop, replicate, eqb, ltb, leb, Option, Some, None}
use Rattle.model.specs.declared.Region.{Region}
use Rattle.model.specs.declared.Backing.{Backing}
use Rattle.model.specs.declared.Pool.{Pool}
use Rattle.model.specs.declared.Backed.{Backed}
use Rattle.model.specs.declared.Backed.TheVariants.{ByEntry, ByRange, Unbacked}
use Rattle.laws.specs.Lists.{keep, first, up_from, each}
use Rattle.model.specs.Machine.{Machine, with_entries, with_pool, region_at, row_of, no_backing, no_entry}
use Rattle.model.specs.Lookup.{first_row, is_ranged, free_entry, row_found}

abbrev pub backing_at : Machine → ℕ → Backing
backing_at m f = get_or m.backings f no_backing

-- whether a frame lies in one of the backings that start at frames g, g + 1, ..
unfoldable pub in_some : ℕ → ℕ → List Backing → Bool
in_some f g [] = false
in_some f g (b ∷ l) = leb g f && ltb f (g + b.len) || in_some f (g + 1) l

-- a frame is free exactly if in no backing (RULES R2): the free frames, lowest first
unfoldable pub free_frames : ℕ → List Backing → List ℕ
free_frames n l = keep (λ f. not (in_some f 0 l)) (up_from 0 n)

-- the pool, free count and next free frame (RULES J10): next is the number of frames where none is free
unfoldable pub pool_of : ℕ → List Backing → Pool
pool_of n l = record { free = length (free_frames n l); next = record { 0 = first n (free_frames n l) } }

-- backings changed, and the pool with them
unfoldable pub with_backings : Machine → List Backing → Machine
with_backings m l = with_pool m l (pool_of m.frame_count (take m.frame_count l))

abbrev pub with_backing : Machine → ℕ → ℕ → ℕ → Machine
with_backing m f n h = with_backings m (set m.backings f (record { len = n; holders = h }))

-- the start of the lowest n free frames in a row; `k` frames from `f` on are free so far
unfoldable pub run_from : ℕ → ℕ → ℕ → List ℕ → Option ℕ
run_from n f k [] = None
run_from n f k (x ∷ l) =
    let more = run_from n f (k + 1) l in
    let anew = run_from n x 1 l in
    cond (eqb x (f + k)) (cond (eqb (k + 1) n) (Some f) more) (cond (eqb n 1) (Some x) anew)

-- a run is the lowest that fits (RULES C7)
unfoldable pub lowest_run : Machine → ℕ → Option ℕ
lowest_run m n = run_from n 0 0 (free_frames m.frame_count (take m.frame_count m.backings))

-- a new backing of n frames at f, with one holder
unfoldable pub claim : Machine → ℕ → ℕ → Machine
claim m f n = with_backing m f n 1

-- one holder more: the Rust's Arc::clone
unfoldable pub hold : Machine → ℕ → Machine
hold m f = with_backing m f (backing_at m f).len ((backing_at m f).holders + 1)

-- one holder less: the Rust's drop of an Arc; at the last its frames are free again
unfoldable pub let_go : Machine → ℕ → Machine
let_go m f = let fewer = with_backing m f (backing_at m f).len ((backing_at m f).holders - 1) in let none = with_backing m f 0 0 in cond (leb (backing_at m f).holders 1) none fewer

-- the page entry of a region's page
unfoldable pub entry_for : Machine → ℕ → ℕ → Option ℕ
entry_for m row page = first_row (λ e. eqb e.owner (row + 1) && eqb e.page.0 page) m.entries 0

-- the Rust's PrivateRegionState::backing. The page entry if any, else the range (RULES B1)
unfoldable pub backing : Machine → ℕ → ℕ → ℕ → Backed
backing m p s page = entry_else (entry_for m (row_of p s) page)
  where
    r : Region
    r = region_at m p s

    offset : ℕ
    offset = page - r.start.0 / 4096

    entry_else : Option ℕ → Backed
    entry_else (Some i) = let f = (get_or m.entries i no_entry).frame in ByEntry i f (backing_at m f.0).holders
    entry_else None = cond (is_ranged r && ltb offset (backing_at m r.range.0).len) (ByRange (record { 0 = r.range.0 + offset }) (backing_at m r.range.0).holders) Unbacked

-- a new entry takes the lowest free row
unfoldable pub add_entry : Machine → ℕ → ℕ → ℕ → Machine
add_entry m row page f = with_entries m (set m.entries (row_found (free_entry m)) (record { owner = row + 1; page = record { 0 = page }; frame = record { 0 = f } }))

-- the bytes of a frame, and the frames with one frame's bytes replaced
unfoldable pub frame_bytes : List ℕ → ℕ → List ℕ
frame_bytes l f = take 4096 (drop (f * 4096) l)

unfoldable pub put_frame : List ℕ → ℕ → List ℕ → List ℕ
put_frame l f new = take (f * 4096) l ++ (new ++ drop (f * 4096 + 4096) l)

-- n frames from f on, zeroed (RULES C6)
unfoldable pub zero_frames : ℕ → ℕ → List ℕ → List ℕ
zero_frames f n l = each (λ g t. put_frame t g (replicate 4096 0)) (up_from f n) l
