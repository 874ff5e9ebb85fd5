-- Laws of `Sum`: the sum over a frame's bytes that the state shows: 31 times the sum so far, the byte and 1, in 32 bits.
use Rattle.std.specs.Prelude.{◌≡◌, ℕ, ◌+◌, ◌*◌, ◌%◌, ◌^◌, ◌<◌, ◌≤◌, List, length, drop, slice_index}
use Rattle.std.proofs.Common.{mod-lt, add-one, arith, drop_of_length-le, drop-cons}
use Rattle.state_text.specs.Sum.{sum_from}

pub sum_small : (x : ℕ) → x % (2 ^ 32) < 2 ^ 32
sum_small x = mod-lt x (omega arith)

-- ---- the loop: what is left gives the same sum

pub sum_more : (s x : ℕ) (l : List ℕ) (i : ℕ) → i < length l → x ≡ slice_index l i
    → sum_from ((s * 31 + x + 1) % (2 ^ 32)) (drop (i + 1) l) ≡ sum_from s (drop i l)
unfolding sum_from
sum_more s x l i h e = rw (drop-cons l i 0 h, add-one i, e)

pub sum_all : (s : ℕ) (l : List ℕ) (i : ℕ) → length l ≤ i → sum_from s (drop i l) ≡ sum_from 0 l → s ≡ sum_from 0 l
unfolding sum_from
sum_all s l i past e = rw (drop_of_length-le l past) at e
