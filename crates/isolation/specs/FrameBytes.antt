-- The bytes of a frame: read, put, and those of the other frames.
use Rattle.std.specs.Prelude.{◌≡◌, refl, ◌⊎◌, ◌≢◌, Bool, true, false, List, ◌++◌, ℕ, zero, suc, ◌+◌, ◌-◌, ◌*◌, ◌≤◌, ◌<◌, length, take, replicate, ltb}
use Rattle.std.proofs.Math.Path.{ap}
use Rattle.std.proofs.Common.{sym, ◌∙◌, inl, inr, arith, length-take-le, ltb-true, ltb-false}
use Rattle.std.proofs.Math.ListN.{get_or, drop, get_or-append}
use Rattle.std.proofs.lemmas.List.{length-replicate}
use Rattle.std.proofs.Math.Seq.{get_or-take, get_or-drop, get_or-append-add}
use Rattle.laws.specs.Lists.{each, up_from}
use Rattle.model.specs.Backing.{frame_bytes, put_frame, zero_frames}
use Rattle.keeping.specs.FrameLengthLaws.{put_length}

pub bytes_at : (l : List ℕ) (f o : ℕ) → o < 4096 → get_or (frame_bytes l f) o 0 ≡ get_or l (f * 4096 + o) 0
unfolding frame_bytes
bytes_at l f o h = get_or-take 4096 (drop (f * 4096) l) o 0 h ∙ get_or-drop (f * 4096) l o 0

module _ (l : List ℕ) (f : ℕ) (new : List ℕ) (long : length new ≡ 4096) (inside : f * 4096 + 4096 ≤ length l) where
  front : length (take (f * 4096) l) ≡ f * 4096
  front = length-take-le (f * 4096) l (omega arith)

  pub put_here : (o : ℕ) → o < 4096 → get_or (put_frame l f new) (f * 4096 + o) 0 ≡ get_or new o 0
  unfolding put_frame
  put_here o h =
      let e = front in
      ap (λ (i : ℕ). get_or (take (f * 4096) l ++ (new ++ drop (f * 4096 + 4096) l)) (i + o) 0) (sym e)
      ∙ get_or-append-add (take (f * 4096) l) (new ++ drop (f * 4096 + 4096) l) o 0
      ∙ get_or-append new (drop (f * 4096 + 4096) l) 0 o (omega arith)

  below : (i : ℕ) → i < f * 4096 → get_or (put_frame l f new) i 0 ≡ get_or l i 0
  unfolding put_frame
  below i h = let e = front in get_or-append (take (f * 4096) l) (new ++ drop (f * 4096 + 4096) l) 0 i (omega arith) ∙ get_or-take (f * 4096) l i 0 h

  above : (k : ℕ) → get_or (put_frame l f new) (f * 4096 + (4096 + k)) 0 ≡ get_or l (f * 4096 + 4096 + k) 0
  unfolding put_frame
  above k =
      let e = front in
      ap (λ (i : ℕ). get_or (take (f * 4096) l ++ (new ++ drop (f * 4096 + 4096) l)) (i + (4096 + k)) 0) (sym e)
      ∙ get_or-append-add (take (f * 4096) l) (new ++ drop (f * 4096 + 4096) l) (4096 + k) 0
      ∙ ap (λ (i : ℕ). get_or (new ++ drop (f * 4096 + 4096) l) (i + k) 0) (sym long)
      ∙ get_or-append-add new (drop (f * 4096 + 4096) l) k 0
      ∙ get_or-drop (f * 4096 + 4096) l k 0

  pub put_else : (g o : ℕ) → o < 4096 → g ≢ f → get_or (put_frame l f new) (g * 4096 + o) 0 ≡ get_or l (g * 4096 + o) 0
  put_else g o h z = go (ltb g f) refl
    where
      go : (b : Bool) → ltb g f ≡ b → get_or (put_frame l f new) (g * 4096 + o) 0 ≡ get_or l (g * 4096 + o) 0
      go true e = let k = ltb-true g f e in below (g * 4096 + o) (omega arith)
      go false e =
          let k = ltb-false g f e in
          let more : f < g = omega (arith, z) in
          let there : g * 4096 + o ≡ f * 4096 + (4096 + (g * 4096 + o - (f * 4096 + 4096))) = omega arith in
          let back : f * 4096 + 4096 + (g * 4096 + o - (f * 4096 + 4096)) ≡ g * 4096 + o = omega arith in
          ap (λ (i : ℕ). get_or (put_frame l f new) i 0) there ∙ above (g * 4096 + o - (f * 4096 + 4096)) ∙ ap (λ (i : ℕ). get_or l i 0) back

zeros : length {A = ℕ} (replicate 4096 0) ≡ 4096
zeros = length-replicate {A = ℕ} 4096 0

-- frames outside a run that is zeroed
zeroed_else : (n f k : ℕ) (l : List ℕ) → length l ≡ n * 4096 → f + k ≤ n → (g o : ℕ) → o < 4096 → (g < f) ⊎ (f + k ≤ g) → get_or (each (λ g t. put_frame t g (replicate 4096 0)) (up_from f k) l) (g * 4096 + o) 0 ≡ get_or l (g * 4096 + o) 0
unfolding each up_from
zeroed_else n f zero l e h g o s z = refl
zeroed_else n f (suc k) l e h g o s z =
    let one = put_length l f n (replicate 4096 0) e (omega arith) zeros in
    zeroed_else n (f + 1) k (put_frame l f (replicate 4096 0)) (one ∙ e) (omega arith) g o s (side z) ∙ put_else l f (replicate 4096 0) zeros (omega arith) g o s (other z)
  where
    side : (g < f) ⊎ (f + suc k ≤ g) → (g < f + 1) ⊎ (f + 1 + k ≤ g)
    side (inl a) = inl (omega arith)
    side (inr a) = inr (omega arith)

    other : (g < f) ⊎ (f + suc k ≤ g) → g ≢ f
    other (inl a) y = omega arith
    other (inr a) y = omega arith

pub zero_else : (n f k : ℕ) (l : List ℕ) → length l ≡ n * 4096 → f + k ≤ n → (g o : ℕ) → o < 4096 → (g < f) ⊎ (f + k ≤ g) → get_or (zero_frames f k l) (g * 4096 + o) 0 ≡ get_or l (g * 4096 + o) 0
unfolding zero_frames
zero_else n f k l e h g o s z = zeroed_else n f k l e h g o s z
