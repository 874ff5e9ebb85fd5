-- Laws of `Tally`: holders counted a mark a frame, and the backings' rows compared with the counts.
use Rattle.std.specs.Prelude.{◌≡◌, refl, ◌≢◌, Bool, true, false, ◌&&◌, ◌||◌, cond, List, ℕ, ◌+◌, ◌≤◌, ◌<◌, get_or, set, replicate, eqb}
use Rattle.std.proofs.Common.{ap, sym, subst, ◌∙◌, arith, length-set, get_or-set_same, get_or-set_other, eq-eqb, ne_eqb, le-leb}
use Rattle.std.proofs.Math.Decide.{ℕ_discrete}
use Rattle.std.proofs.lemmas.List.{length-replicate, get_or-replicate}
use Rattle.std.proofs.lemmas.Bool.{lt-leb}
use Rattle.model.specs.declared.Backing.{Backing}
use Rattle.model.specs.Layout.{machine}
use Rattle.model.specs.Machine.{Machine}
use Rattle.laws.specs.Tests.{all_rows}
use Rattle.model.specs.Sound.{holders_of}
use Rattle.model.specs.SoundTest.{counted, r3b}
use Rattle.laws.specs.Loops.{Counted}
use Rattle.laws.specs.LoopLaws.{counted_first, counted_more, counted_all}
use Rattle.sound_frames.specs.declared.held.Held.{Held}
use Rattle.sound_frames.specs.Held.{no_held, held_rows, at}
use Rattle.sound_frames.specs.HeldLaws.{held_length, holders_counted}
use Rattle.sound_frames.specs.Tally.{Tallied, unheld, free_unheld, held_times, Counts}
use Rattle.laws.specs.TestLaws.{rows_both}

pub counts_first : (w : List ℕ) → Counts w (replicate 256 0) 0
counts_first w = record {
  low = omega arith;
  sized = length-replicate {A = ℕ} 256 0;
  each = λ f h. subst (λ (n : ℕ). Counted (at f) (held_rows (machine w)) 1024 0 n) (sym (get_or-replicate 256 f 0 0 h)) (counted_first (at f) (held_rows (machine w)) 1024 (held_length w));
}

module _ (w counts : List ℕ) (k : ℕ) (so : Counts w counts k) where
  -- no count is too large
  pub counts_few : (f : ℕ) → f < 256 → get_or counts f 0 ≤ k
  counts_few f h = (so.each f h).1.0

  pub counts_more : k < 1024 → (x : Held) → x ≡ get_or (held_rows (machine w)) k no_held → x.frame < 256 → Counts w (set counts x.frame (get_or counts x.frame 0 + 1)) (k + 1)
  counts_more h x read l = record { low = omega arith; sized = length-set counts x.frame (get_or counts x.frame 0 + 1) ∙ so.sized; each = λ f i. go f i (ℕ_discrete f x.frame) }
    where
      more : (f : ℕ) → f < 256 → (t : ℕ) → t ≡ cond (at f x) 1 0 → Counted (at f) (held_rows (machine w)) 1024 (k + 1) (get_or counts f 0 + t)
      more f i t e = counted_more (at f) (held_rows (machine w)) 1024 (held_length w) k (get_or counts f 0) (so.each f i) h no_held x read t e

      go : (f : ℕ) → f < 256 → Dec (f ≡ x.frame) → Counted (at f) (held_rows (machine w)) 1024 (k + 1) (get_or (set counts x.frame (get_or counts x.frame 0 + 1)) f 0)
      go f i (yes e) = subst (λ (n : ℕ). Counted (at f) (held_rows (machine w)) 1024 (k + 1) n) (sym same) (more f i 1 (rw (eq-eqb x.frame f (sym e))))
        where
          same : get_or (set counts x.frame (get_or counts x.frame 0 + 1)) f 0 ≡ get_or counts f 0 + 1
          same = ap (λ (j : ℕ). get_or (set counts x.frame (get_or counts x.frame 0 + 1)) j 0) e ∙ get_or-set_same counts x.frame (get_or counts x.frame 0 + 1) 0 (let s = so.sized in omega arith) ∙ ap (λ (j : ℕ). get_or counts j 0 + 1) (sym e)
      go f i (no n) = subst (λ (a : ℕ). Counted (at f) (held_rows (machine w)) 1024 (k + 1) a) (sym same) (more f i 0 (rw (ne_eqb x.frame f (λ e. n (sym e)))))
        where
          same : get_or (set counts x.frame (get_or counts x.frame 0 + 1)) f 0 ≡ get_or counts f 0 + 0
          same = let o = get_or-set_other counts x.frame f (get_or counts x.frame 0 + 1) 0 n in omega arith

  -- holder k holds no frame
  pub counts_skip : k < 1024 → (x : Held) → x ≡ get_or (held_rows (machine w)) k no_held → x.frame ≡ 256 → Counts w counts (k + 1)
  counts_skip h x read none = record { low = omega arith; sized = so.sized; each = λ f i. subst (λ (n : ℕ). Counted (at f) (held_rows (machine w)) 1024 (k + 1) n) (omega arith) (counted_more (at f) (held_rows (machine w)) 1024 (held_length w) k (get_or counts f 0) (so.each f i) h no_held x read 0 (rw (ne_eqb x.frame f (omega arith)))) }

  pub counts_to : (n : ℕ) → k ≡ n → Counts w counts n
  counts_to n e = subst (λ (j : ℕ). Counts w counts j) e so

  pub counts_all : 1024 ≤ k → Tallied (machine w) counts
  counts_all h f i = counted_all (at f) (held_rows (machine w)) 1024 (held_length w) k (get_or counts f 0) (so.each f (omega arith)) h ∙ sym (holders_counted (machine w) f i)

-- ---- a row's holders

module _ (n : ℕ) (b : Backing) where
  pub no_backing_past : b.len ≡ 0 → eqb b.holders 0 ≡ held_times n b
  no_backing_past p = rw (eq-eqb b.len 0 p)

  module _ (some : b.len ≢ 0) where
    pub no_holder : b.holders ≡ 0 → false ≡ held_times n b
    no_holder p = rw (ne_eqb b.len 0 some, lt-leb 1 b.holders (omega arith)) (go (eqb b.holders n))
      where
        go : (t : Bool) → false ≡ ((t && false) && true)
        go true = refl
        go false = refl

    pub some_holders : b.holders ≢ 0 → eqb b.holders n ≡ held_times n b
    some_holders p = rw (ne_eqb b.len 0 some, le-leb 1 b.holders (omega arith)) (go (eqb b.holders n))
      where
        go : (t : Bool) → t ≡ ((t && true) && true)
        go true = refl
        go false = refl

-- ---- all rows

-- every row of a machine has the holders that hold it
abbrev pub held_in : Machine → ℕ → Backing → Bool
held_in m f b = held_times (holders_of m f) b

pub held_rows_are : (m : Machine) → all_rows (held_in m) 0 m.backings ≡ (r3b m && free_unheld m)
unfolding r3b counted
held_rows_are m = rows_both (λ f b. eqb b.len 0 || counted m f b) (λ f b. unheld b) 0 m.backings

-- the count of a row's frame is the one tested
pub tallied_test : (m : Machine) (counts : List ℕ) → Tallied m counts → (f : ℕ) → f < 256 → (b : Backing) (t r : Bool) → t ≡ held_times (get_or counts f 0) b → t ≡ r → held_in m f b ≡ r
tallied_test m counts so f h b t r e p = ap (λ (n : ℕ). held_times n b) (sym (so f h)) ∙ sym e ∙ p
