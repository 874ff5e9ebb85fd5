-- The frames' bytes keep their length, whatever a page is filled with.
use Rattle.std.specs.Prelude.{◌≡◌, refl, Bool, true, false, cond, List, ℕ, zero, suc, ◌+◌, ◌*◌, ◌≤◌, ◌<◌, length, get_or, replicate}
use Rattle.std.proofs.Common.{◌∙◌, arith, length-append, length-take, length-drop}
use Rattle.std.proofs.lemmas.List.{length-replicate}
use Rattle.model.specs.declared.Region.{Region}
use Rattle.laws.specs.Lists.{each, up_from}
use Rattle.model.specs.Machine.{State, with_frames, no_file}
use Rattle.model.specs.Lookup.{is_file}
use Rattle.model.specs.Backing.{frame_bytes, put_frame, zero_frames}
use Rattle.model.specs.Fault.{fill_of, file_page}
use Rattle.laws.specs.ListsLaws.{pad_length}
use Rattle.keeping.specs.Owing.{Lent}

-- a frame read is a page of bytes
pub bytes_length : (l : List ℕ) (f n : ℕ) → length l ≡ n * 4096 → f < n → length (frame_bytes l f) ≡ 4096
unfolding frame_bytes
bytes_length l f n e h = simp (length-take, length-drop) (omega arith)

-- a frame written
pub put_length : (l : List ℕ) (f n : ℕ) (new : List ℕ) → length l ≡ n * 4096 → f < n → length new ≡ 4096 → length (put_frame l f new) ≡ length l
unfolding put_frame
put_length l f n new e h k = simp (length-append, length-take, length-drop) (omega arith)

zeros : (n : ℕ) → length {A = ℕ} (replicate n 0) ≡ n
zeros n = length-replicate {A = ℕ} n 0

file_length : (s : State) (r : Region) (page : ℕ) → length (file_page s.bytes (get_or s.machine.files r.file no_file) r page) ≡ 4096
unfolding file_page
file_length s r page = pad_length 4096 0 _

-- what a page is filled with is a page of bytes
pub fill_length : (s : State) (r : Region) (page : ℕ) → length (fill_of s r page) ≡ 4096
unfolding fill_of
fill_length s r page = go (is_file r)
  where
    go : (b : Bool) → length (cond b (file_page s.bytes (get_or s.machine.files r.file no_file) r page) (replicate 4096 0)) ≡ 4096
    go true = file_length s r page
    go false = zeros 4096

-- other bytes in the frames
pub lent_frames : (s : State) (l : List ℕ) → length l ≡ length s.frames → Lent s → Lent (with_frames s l)
lent_frames s l e k = record { frames = e ∙ k.frames; files = λ i h. record { inside = (k.files i h).inside; free = (k.files i h).free } }

zeroed : (n f k : ℕ) (l : List ℕ) → length l ≡ n * 4096 → f + k ≤ n → length (each (λ g t. put_frame t g (replicate 4096 0)) (up_from f k) l) ≡ length l
unfolding each up_from
zeroed n f zero l e h = refl
zeroed n f (suc k) l e h =
    let one = put_length l f n (replicate 4096 0) e (omega arith) (zeros 4096) in
    zeroed n (f + 1) k (put_frame l f (replicate 4096 0)) (one ∙ e) (omega arith) ∙ one

-- a run of frames zeroed
pub zero_length : (f k n : ℕ) (l : List ℕ) → length l ≡ n * 4096 → f + k ≤ n → length (zero_frames f k l) ≡ length l
unfolding zero_frames
zero_length f k n l e h = zeroed n f k l e h
