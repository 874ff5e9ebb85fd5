-- Laws of bytes put from a place on: one after the other in a loop, one run after another, and the length.
use Rattle.std.specs.Prelude.{◌≡◌, refl, List, [], ◌++◌, ℕ, zero, suc, ◌+◌, ◌-◌, ◌≤◌, take, drop, ◌<◌, get_or, set}
use Rattle.std.proofs.Common.{sym, ap, ◌∙◌, append_assoc, add-zero, take-append-drop, add_assoc, length-append, length-take, length-drop, get_or-take, get_or-drop, take_at, drop_at, drop-drop, zero-le, add-one, length-set}
use native.Mathlib.Omega.{arith}
use Rattle.std.proofs.Math.ListN.{length}
use Rattle.std.proofs.Math.Seq.{paste, take-length, paste-zero, paste-suc}
use Rattle.frames.specs.PutBytes.{put_at}

-- the list after i of the count new bytes were put: what a loop that puts them keeps
abbrev pub Puts : List ℕ → ℕ → List ℕ → ℕ → ℕ → List ℕ → Type 0
Puts l at new count i m = (i ≤ count) × (length m ≡ length l) × (m ≡ paste l at new i)

pub puts_first : (l : List ℕ) (at : ℕ) (new : List ℕ) (count : ℕ) → Puts l at new count 0 l
puts_first l at new count = (zero-le, refl, paste-zero l at new)

module _ (l : List ℕ) (at : ℕ) (new : List ℕ) (count : ℕ) (long : length new ≡ count) where
  pub puts_more : (i : ℕ) (m : List ℕ) (b : ℕ) → at + count ≤ length l → i < count → b ≡ get_or new i 0 → Puts l at new count i m → Puts l at new count (i + 1) (set m (at + i) b)
  puts_more i m b room more e p =
      let fits : at + i < length l = omega arith in
      let there : i < length new = omega arith in
      (omega arith, length-set m (at + i) b ∙ p.1, rw (p.2, e, add-one) (paste-suc l at new i 0 fits there))

  pub puts_all : (i : ℕ) (m : List ℕ) → count ≤ i → Puts l at new count i m → m ≡ put_at l at new
  unfolding put_at
  puts_all i m done p =
      let all : i ≡ length new = omega arith in
      p.2 ∙ rw (all, take-length new) (append_assoc (take at l) new (drop (at + length new) l))

pub no_bytes : (l : List ℕ) (at : ℕ) → l ≡ put_at l at []
unfolding put_at
no_bytes l at = sym (rw add-zero (take-append-drop at l))

pub length_put_at : (l : List ℕ) (at : ℕ) (new : List ℕ) → at + length new ≤ length l → length (put_at l at new) ≡ length l
unfolding put_at
length_put_at l at new h = simp (length-append, length-take, length-drop) (omega arith)

-- a part of a list: how long, and its bytes
pub length_part : (l : List ℕ) (start count : ℕ) → count ≤ length l - start → length (take count (drop start l)) ≡ count
length_part l start count h = simp (length-take, length-drop) (omega arith)

pub part_byte : (l : List ℕ) (start count i : ℕ) → i < count → get_or l (start + i) 0 ≡ get_or (take count (drop start l)) i 0
part_byte l start count i h = sym (get_or-take count (drop start l) i 0 h ∙ get_or-drop start l i 0)

-- bytes copied within one list
pub within_put : (l : List ℕ) (start at count : ℕ) → start + count ≤ length l → paste l at (drop start l) (start + count - start) ≡ put_at l at (take count (drop start l))
unfolding put_at
within_put l start at count h =
    let n : start + count - start ≡ count = omega arith in
    let long = length_part l start count (omega arith) in
    rw (n, long) (append_assoc (take at l) (take count (drop start l)) (drop (at + count) l))

-- what is put behind n first bytes leaves these
behind : (p d b : List ℕ) (n : ℕ) → length p ≡ n → take n (p ++ d) ++ (b ++ drop (n + length b) (p ++ d)) ≡ p ++ (b ++ drop (length b) d)
behind p d b n e = rw (take_at p d n e, ← drop-drop (length b) n (p ++ d), drop_at p d n e)

-- bytes put behind bytes that were put
pub put_put : (l : List ℕ) (at : ℕ) (a b : List ℕ) → at + length a ≤ length l → put_at (put_at l at a) (at + length a) b ≡ put_at l at (a ++ b)
unfolding put_at
put_put l at a b h =
    let d : List ℕ = drop (at + length a) l in
    let long : length (take at l ++ a) ≡ at + length a = simp (length-append, length-take) (omega arith) in
    ap (λ (x : List ℕ). take (at + length a) x ++ (b ++ drop (at + length a + length b) x)) (sym (append_assoc (take at l) a d))
    ∙ behind (take at l ++ a) d b (at + length a) long
    ∙ simp (append_assoc, drop-drop, length-append, add_assoc)
