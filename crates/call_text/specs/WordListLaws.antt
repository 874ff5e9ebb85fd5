-- How the loops over a list of words find a word's place, and the word at a place.
use Rattle.std.specs.Prelude.{◌≡◌, refl, true, false, List, ℕ, zero, suc, ◌+◌, ◌-◌, ◌≤◌, ◌<◌, Option, Some, None}
use Rattle.std.specs.Option.{option_map}
use Rattle.std.specs.Str.{bytes_eq}
use Rattle.std.proofs.Common.{ap, arith}
use Rattle.text.specs.declared.words.Word.{Word}
use Rattle.text.specs.LineWords.{word_at}
use Rattle.call_text.specs.WordList.{text_of, place_from, nth_from, nth_in}

-- ---- the loop: behind the words passed, the place among those left is the place among all

abbrev pub behind : ℕ → Option ℕ → Option ℕ
behind i o = option_map (λ (k : ℕ). i + k) o

behind_none : (o : Option ℕ) → behind 0 o ≡ o
behind_none None = refl
behind_none (Some k) = ap (λ (x : ℕ). Some x) (omega arith)

behind_one : (i : ℕ) (o : Option ℕ) → behind (i + 1) o ≡ behind i (option_map (λ (k : ℕ). suc k) o)
behind_one i None = refl
behind_one i (Some k) = ap (λ (x : ℕ). Some x) (omega arith)

pub place_start : (list word : List ℕ) (count : ℕ) → behind 0 (place_from (count - 0) list 0 word) ≡ place_from count list 0 word
place_start list word count = let z : count - 0 ≡ count = omega arith in rw z (behind_none (place_from count list 0 word))

module _ (list word : List ℕ) (count i at : ℕ) (inside : i < count) where
  left : count - i ≡ suc (count - (i + 1))
  left = omega arith

  module _ (w : Word) (next : w ≡ word_at list at) where
    pub place_here : bytes_eq word (text_of list w) ≡ true → Some i ≡ behind i (place_from (count - i) list at word)
    unfolding place_from
    place_here e = rw (left, ← next, e) (ap (λ (x : ℕ). Some x) (omega arith))

    pub place_more : bytes_eq word (text_of list w) ≡ false → behind (i + 1) (place_from (count - (i + 1)) list w.to word) ≡ behind i (place_from (count - i) list at word)
    unfolding place_from
    place_more e = rw (left, ← next, e) (behind_one i (place_from (count - (i + 1)) list w.to word))

pub place_none : (list word : List ℕ) (count i at : ℕ) → count ≤ i → None ≡ behind i (place_from (count - i) list at word)
unfolding place_from
place_none list word count i at h = let z : count - i ≡ 0 = omega arith in rw z

-- ---- the loop to a word's place: the word at the places left is the word

pub nth_start : (list : List ℕ) (place : ℕ) → nth_from (place - 0) list 0 ≡ nth_in list place
nth_start list place = let z : place - 0 ≡ place = omega arith in rw z

pub nth_more : (list : List ℕ) (place i at : ℕ) → i < place → (w : Word) → w ≡ word_at list at
    → nth_from (place - (i + 1)) list w.to ≡ nth_from (place - i) list at
unfolding nth_from
nth_more list place i at inside w is = rw (left list list place i at inside, is)

pub nth_here : (list : List ℕ) (place i at : ℕ) → place ≤ i → (w : Word) → w ≡ word_at list at → w ≡ nth_from (place - i) list at
unfolding nth_from
nth_here list place i at h w is = let z : place - i ≡ 0 = omega arith in rw z is

-- ---- a match on a place

-- no arm of k from `first` on is n's
abbrev pub Missed : ℕ → ℕ → ℕ → Type 0
Missed first zero n = Unit {0}
Missed first (suc k) n = Missed first k n × (n ≡ first + k → ⊥)

pub past : (first k n : ℕ) → first ≤ n → Missed first k n → first + k ≤ n
past first zero n h m = omega arith
past first (suc k) n h m =
    let l : first + k ≤ n = past first k n h m.0 in
    let other : n ≡ first + k → ⊥ = m.1 in
    omega arith
