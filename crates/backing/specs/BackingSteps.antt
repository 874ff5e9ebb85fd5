-- What each call leaves, as the code does it: the pool's row changed by the frames that were taken or given back.
use Rattle.std.specs.Prelude.{ℕ, ◌+◌, ◌-◌, ◌%◌, ◌^◌, Bool, cond, not, ◌&&◌, List, length, take, drop, nat_le, nat_lt, slice_set, Option, Some, None}
use Rattle.address.specs.declared.PhysFrame.{PhysFrame}
use Rattle.model.specs.declared.Backing.{Backing}
use Rattle.model.specs.declared.Pool.{Pool}
use Rattle.laws.specs.Lists.{keep, up_from, first}
use Rattle.model.specs.Machine.{Machine, with_pool}
use Rattle.model.specs.Backing.{backing_at, in_some, free_frames, run_from}

-- the rows of the machine's frames
abbrev pub framed : Machine → List Backing
framed m = take m.frame_count m.backings

-- the frames from g on that are in no backing that starts at g or later
unfoldable pub free_above : ℕ → List Backing → List ℕ
free_above g l = keep (λ x. not (in_some x g (drop g l))) (up_from g (length l - g))

-- the lowest of them, the number of rows where there is none
unfoldable pub lowest_free : ℕ → List Backing → ℕ
lowest_free g l = first (length l) (free_above g l)

-- a frame that was found, as its row among the backings
abbrev pub found_frame : Option PhysFrame → Option ℕ
found_frame (Some f) = Some f.0
found_frame None = None

-- the lowest n free frames in a row
unfoldable pub lowest_fit : List Backing → ℕ → Option ℕ
lowest_fit l n = run_from n 0 0 (free_frames (length l) l)

-- whether a frame is one of the n from f on
abbrev pub in_run : ℕ → ℕ → ℕ → Bool
in_run f n x = nat_le f x && nat_lt x (f + n)

abbrev pub taken_from : Pool → ℕ → ℕ → Pool
taken_from q n next = record { free = q.free - n; next = record { 0 = next } }

abbrev pub lower : ℕ → ℕ → ℕ
lower a b = cond (nat_lt b a) b a

-- the count is a word
abbrev pub given_back : Pool → ℕ → ℕ → Pool
given_back q f n = record { free = (q.free + n) % 2 ^ 64; next = record { 0 = lower q.next.0 f } }

abbrev pub put_row : Machine → ℕ → ℕ → ℕ → List Backing
put_row m f n h = slice_set m.backings f (record { len = n; holders = h })

-- the lowest free frame is no lower than it was
unfoldable pub claimed : Machine → ℕ → ℕ → Machine
claimed m f n = with_pool m (put_row m f n 1) (taken_from m.pool n (lowest_free m.pool.next.0 (take m.frame_count (put_row m f n 1))))

-- the lowest free frame, by the pool
unfoldable pub next_frame : Machine → Option ℕ
next_frame m = cond (nat_lt m.pool.next.0 (length (framed m))) (Some m.pool.next.0) None

unfoldable pub with_next_taken : Machine → Machine
with_next_taken m = let one = claimed m m.pool.next.0 1 in cond (nat_lt m.pool.next.0 (length (framed m))) one m

-- the count of holders is a word
unfoldable pub held : Machine → ℕ → Machine
held m f = with_pool m (put_row m f (backing_at m f).len (((backing_at m f).holders + 1) % 2 ^ 64)) m.pool

unfoldable pub released : Machine → ℕ → Machine
released m f =
    let freed = with_pool m (put_row m f 0 0) (given_back m.pool f (backing_at m f).len) in
    let fewer = with_pool m (put_row m f (backing_at m f).len ((backing_at m f).holders - 1)) m.pool in
    cond (nat_le (backing_at m f).holders 1) freed fewer
