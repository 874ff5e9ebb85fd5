-- What bytes put at a frame's place come to: the model's definitions of frames zeroed, copied and filled.
use Rattle.std.specs.Prelude.{◌≡◌, refl, List, [], ◌∷◌, ◌++◌, ℕ, zero, suc, ◌+◌, ◌-◌, ◌*◌, ◌≤◌, length, take, drop, replicate}
use Rattle.std.proofs.Common.{sym, ap, ◌∙◌, le_of_suc-le-suc, arith}
use Rattle.std.proofs.Math.Numerals.{unary_clauses}
use Rattle.std.proofs.lemmas.List.{length-replicate, replicate-append-replicate}
use Rattle.laws.specs.Lists.{pad, each, up_from}
use Rattle.model.specs.Backing.{frame_bytes, put_frame, zero_frames}
use Rattle.frames.specs.PutBytes.{put_at}
use Rattle.frames.specs.PutBytesLaws.{no_bytes, put_put, length_put_at, length_part}

-- a frame's worth of bytes, put at its place
pub put_frame_is : (l : List ℕ) (f : ℕ) (new : List ℕ) → length new ≡ 4096 → put_at l (f * 4096) new ≡ put_frame l f new
unfolding put_at put_frame
put_frame_is l f new e = rw e

abbrev zeros : ℕ → List ℕ
zeros n = replicate n 0

-- zeros put: the length stays, and zeros behind zeros are zeros
module _ (l : List ℕ) (at m : ℕ) (room : at + m ≤ length l) where
  fits : at + length (zeros m) ≤ length l
  fits = rw length-replicate room

  length_zeros : length (put_at l at (zeros m)) ≡ length l
  length_zeros = length_put_at l at (zeros m) fits

  zeros_zeros : (n : ℕ) → put_at (put_at l at (zeros m)) (at + m) (zeros n) ≡ put_at l at (zeros (m + n))
  zeros_zeros n =
      ap (λ (k : ℕ). put_at (put_at l at (zeros m)) (at + k) (zeros n)) (sym (length-replicate {A = ℕ} m 0))
      ∙ put_put l at (zeros m) (zeros n) fits
      ∙ ap (put_at l at) (replicate-append-replicate m n 0)

-- a run of zeros is each frame of it zeroed
pub zero_run : (n f : ℕ) (l : List ℕ) → f * 4096 + n * 4096 ≤ length l → put_at l (f * 4096) (replicate (n * 4096) 0) ≡ zero_frames f n l
unfolding zero_frames each up_from
zero_run zero f l h = sym (no_bytes l (f * 4096))
zero_run (suc n) f l h =
    let room : f * 4096 + 4096 ≤ length l = omega arith in
    let zeroed : List ℕ = put_frame l f (zeros 4096) in
    let one : put_at l (f * 4096) (zeros 4096) ≡ zeroed = put_frame_is l f (zeros 4096) (length-replicate {A = ℕ} 4096 0) in
    let kept : length zeroed ≡ length l = ap length (sym one) ∙ length_zeros l (f * 4096) 4096 room in
    let rest : (f + 1) * 4096 + n * 4096 ≤ length zeroed = omega arith in
    let more : suc n * 4096 ≡ 4096 + n * 4096 = omega arith in
    let next : f * 4096 + 4096 ≡ (f + 1) * 4096 = omega arith in
    ap (λ (k : ℕ). put_at l (f * 4096) (zeros k)) more
    ∙ sym (zeros_zeros l (f * 4096) 4096 room (n * 4096))
    ∙ ap (λ (t : List ℕ). put_at t (f * 4096 + 4096) (zeros (n * 4096))) one
    ∙ ap (λ (k : ℕ). put_at zeroed k (zeros (n * 4096))) next
    ∙ zero_run n (f + 1) zeroed rest

-- the places i and j of two frames
pub copy_is : (l m : List ℕ) (from to i j : ℕ) → i ≡ from * 4096 → j ≡ to * 4096 → from * 4096 + 4096 ≤ length l → m ≡ put_at l j (take 4096 (drop i l)) → m ≡ put_frame l to (frame_bytes l from)
unfolding frame_bytes
copy_is l m from to i j here there h put =
    let part : List ℕ = take 4096 (drop (from * 4096) l) in
    let long : length part ≡ 4096 = length_part l (from * 4096) 4096 (omega arith) in
    put ∙ (λ k. put_at l (there k) (take 4096 (drop (here k) l))) ∙ put_frame_is l to part long

-- the model's padding
pad_is : (n : ℕ) (b : List ℕ) → length b ≤ n → b ++ zeros (n - length b) ≡ pad n 0 b
unfolding pad
pad_is zero [] h = refl
pad_is zero (x ∷ b) h = elim h [ ]
pad_is (suc n) [] h = simp unary_clauses (ap (λ (r : List ℕ). 0 ∷ r) (simp unary_clauses at (pad_is n [] (omega arith))))
pad_is (suc n) (x ∷ b) h = simp unary_clauses (ap (λ (r : List ℕ). x ∷ r) (pad_is n b (le_of_suc-le-suc h)))

length_pad : (n : ℕ) (b : List ℕ) → length (pad n 0 b) ≡ n
unfolding pad
length_pad zero b = refl
length_pad (suc n) [] = ap suc (length_pad n [])
length_pad (suc n) (x ∷ b) = ap suc (length_pad n b)

-- bytes put, and zeros behind them
padded : (l b : List ℕ) (at n : ℕ) → length b ≤ n → at + n ≤ length l → put_at (put_at l at b) (at + length b) (zeros (n - length b)) ≡ put_at l at (pad n 0 b)
padded l b at n short room = put_put l at b (zeros (n - length b)) (omega arith) ∙ ap (put_at l at) (pad_is n b short)

pub fill_is : (l bytes m m' : List ℕ) (f i at count : ℕ) → i ≡ f * 4096 → f * 4096 + 4096 ≤ length l → count ≤ 4096 → count ≤ length bytes - at
    → m ≡ put_at l i (take count (drop at bytes)) → m' ≡ put_at m (i + count) (replicate (4096 - count) 0) → m' ≡ put_frame l f (pad 4096 0 (take count (drop at bytes)))
fill_is l bytes m m' f i at count here h c r put behind =
    let p = put ∙ ap (λ (k : ℕ). put_at l k (take count (drop at bytes))) here in
    let q = behind ∙ ap (λ (k : ℕ). put_at m (k + count) (replicate (4096 - count) 0)) here in
    let part : List ℕ = take count (drop at bytes) in
    let long : length part ≡ count = length_part bytes at count r in
    let short : length part ≤ 4096 = omega arith in
    q
    ∙ ap (λ (t : List ℕ). put_at t (f * 4096 + count) (zeros (4096 - count))) p
    ∙ ap (λ (k : ℕ). put_at (put_at l (f * 4096) part) (f * 4096 + k) (zeros (4096 - k))) (sym long)
    ∙ padded l part (f * 4096) 4096 short h
    ∙ put_frame_is l f (pad 4096 0 part) (length_pad 4096 part)
