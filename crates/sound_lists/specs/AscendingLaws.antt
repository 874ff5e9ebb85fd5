-- Regions whose segments rise from slot to slot, free slots left out: every two of them are disjoint.
use Rattle.std.specs.Prelude.{◌≡◌, ◌≢◌, true, List, ℕ, ◌+◌, ◌*◌, ◌≤◌, ◌<◌, length, get_or, leb}
use Rattle.std.proofs.Common.{ap, sym, ◌∙◌, arith, leb-true, le-leb}
use Rattle.std.proofs.Math.Decide.{ℕ_discrete}
use Rattle.laws.specs.TellsLaws.{told}
use Rattle.model.specs.declared.Region.{Region}
use Rattle.model.specs.Machine.{no_region}
use Rattle.model.specs.Lookup.{segment_end, pages_for, is_used}
use Rattle.laws.specs.Tests.{all_pairs}
use Rattle.laws.specs.TestLaws.{tells_eq, tells_not, tells_bool, tells_pairs}
use Rattle.model.specs.SoundTest.{apartb}
use Rattle.sound_lists.specs.ApartLaws.{apart_free, apart_below}

abbrev slot : List Region → ℕ → Region
slot l x = get_or l x no_region

-- of the first i slots: the segments of those in use end at the last one's end or before, each before those of later slots
pub record Ascends (l : List Region) (start size i : ℕ) : Type 0 where
  pub most : i ≤ 64
  pub up_to : (x : ℕ) → x < i → (slot l x).kind ≢ 0 → segment_end (slot l x) ≤ start + pages_for size * 4096
  pub apart : (x y : ℕ) → x < y → y < i → (slot l x).kind ≢ 0 → (slot l y).kind ≢ 0 → segment_end (slot l x) ≤ (slot l y).start.0

module _ (l : List Region) where
  pub ascends_first : (start size : ℕ) → Ascends l start size 0
  ascends_first start size = record { most = omega arith; up_to = λ x h. absurd (omega arith); apart = λ x y h k. absurd (omega arith) }

  module _ (start size i : ℕ) (s : Ascends l start size i) (h : i < 64) (r : Region) (read : r ≡ slot l i) where
    here : (x : ℕ) → x ≡ i → slot l x ≡ r
    here x q = ap (λ (j : ℕ). slot l j) q ∙ sym read

    -- a free slot
    pub ascends_free : r.kind ≡ 0 → Ascends l start size (i + 1)
    ascends_free f = record { most = omega arith; up_to = λ x u n. up x u n (ℕ_discrete x i); apart = λ x y u v n o. two x y u v n o (ℕ_discrete y i) }
      where
        free : (x : ℕ) → x ≡ i → (slot l x).kind ≡ 0
        free x q = ap (λ (y : Region). y.kind) (here x q) ∙ f

        up : (x : ℕ) → x < i + 1 → (slot l x).kind ≢ 0 → Dec (x ≡ i) → segment_end (slot l x) ≤ start + pages_for size * 4096
        up x u n (yes q) = absurd (n (free x q))
        up x u n (no q) = s.up_to x (omega arith) n

        two : (x y : ℕ) → x < y → y < i + 1 → (slot l x).kind ≢ 0 → (slot l y).kind ≢ 0 → Dec (y ≡ i) → segment_end (slot l x) ≤ (slot l y).start.0
        two x y u v n o (yes q) = absurd (o (free y q))
        two x y u v n o (no q) = s.apart x y u (omega arith) n o

    -- the next region, which starts at the last one's end or later
    pub ascends_used : leb (start + pages_for size * 4096) r.start.0 ≡ true → Ascends l r.start.0 r.size (i + 1)
    ascends_used b = record { most = omega arith; up_to = λ x u n. up x u n (ℕ_discrete x i); apart = λ x y u v n o. two x y u v n o (ℕ_discrete y i) }
      where
        past : start + pages_for size * 4096 ≤ r.start.0
        past = leb-true (start + pages_for size * 4096) r.start.0 b

        up : (x : ℕ) → x < i + 1 → (slot l x).kind ≢ 0 → Dec (x ≡ i) → segment_end (slot l x) ≤ r.start.0 + pages_for r.size * 4096
        up x u n (yes q) = let e = ap (λ (y : Region). segment_end y) (here x q) in omega arith
        up x u n (no q) = let e = s.up_to x (omega arith) n in let p = past in omega arith

        two : (x y : ℕ) → x < y → y < i + 1 → (slot l x).kind ≢ 0 → (slot l y).kind ≢ 0 → Dec (y ≡ i) → segment_end (slot l x) ≤ (slot l y).start.0
        two x y u v n o (yes q) =
            let e = ap (λ (z : Region). z.start.0) (here y q) in
            let k = s.up_to x (omega arith) n in
            let p = past in
            omega arith
        two x y u v n o (no q) = s.apart x y u (omega arith) n o

  -- all slots are passed
  pub ascends_all : (start size i : ℕ) → length l ≡ 64 → Ascends l start size i → 64 ≤ i → all_pairs is_used apartb l ≡ true
  ascends_all start size i sized s h = told (tells_pairs no_region is_used (λ r. r.kind ≢ 0) apartb (λ r x. apartb r x ≡ true) (λ r. tells_not (tells_eq r.kind 0)) (λ r x. tells_bool (apartb r x)) l) (λ x y u v n. two x y u (omega arith) n (ℕ_discrete (slot l y).kind 0))
    where
      two : (x y : ℕ) → x < y → y < i → (slot l x).kind ≢ 0 → Dec ((slot l y).kind ≡ 0) → apartb (slot l x) (slot l y) ≡ true
      two x y u v n (yes f) = sym (apart_free (slot l x) (slot l y) f)
      two x y u v n (no o) = sym (apart_below (slot l x) (slot l y) o (le-leb (segment_end (slot l x)) (slot l y).start.0 (s.apart x y u v n o)))
