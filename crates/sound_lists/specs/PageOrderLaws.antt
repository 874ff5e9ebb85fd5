-- Laws of `PageOrder`: page order: where each page is above the one before it, every two rise; and free rows past the last.
use Rattle.std.specs.Prelude.{◌≡◌, true, false, ◌||◌, ◌≢◌, List, ℕ, zero, suc, ◌+◌, ◌-◌, ◌*◌, ◌<◌, length, get_or, take, drop, eqb}
use Rattle.std.proofs.Math.Path.{ap}
use Rattle.std.proofs.Common.{sym, subst, ◌∙◌, not-suc-le-zero, arith, eq-eqb, ne_eqb}
use Rattle.std.proofs.Math.Decide.{ℕ_discrete}
use Rattle.laws.specs.TellsLaws.{tells_same}
use Rattle.model.specs.declared.Mapping.{Mapping}
use Rattle.laws.specs.Lists.{part, all}
use Rattle.model.specs.Layout.{machine}
use Rattle.model.specs.Machine.{Machine, no_mapping, process_at, mapped_of}
use Rattle.laws.specs.Tests.{all_rows, Rows}
use Rattle.laws.specs.TestLaws.{tells_eq, tells_lt, tells_unless, tells_as, tells_rows, tells_pairs, all_as_rows}
use Rattle.model.specs.SoundLaws.{tells_unit}
use Rattle.model.specs.SoundTest.{free_mapping, pagedb}
use Rattle.laws.specs.ListsLaws.{part_length, part_at}
use Rattle.lookup.specs.LookupsLaws.{mapped_length}
use Rattle.laws.specs.FirstRowsLaws.{taken_at, past_taken}
use Rattle.sound_lists.specs.PageOrder.{below, rising, follows}

-- ---- neighbours

abbrev Below : Mapping → Mapping → Type 0
Below x y = x.page.0 < y.page.0

abbrev Neighbours : List Mapping → Type 0
Neighbours l = Rows no_mapping l (λ i x. (i ≡ 0 → ⊥) → Below (get_or l (i - 1) no_mapping) x)

step : (l : List Mapping) → Neighbours l → (j : ℕ) → suc j < length l → Below (get_or l j no_mapping) (get_or l (suc j) no_mapping)
step l g j h = subst (λ (i : ℕ). Below (get_or l i no_mapping) (get_or l (suc j) no_mapping)) (omega arith) (g (suc j) h (λ e. omega arith))

neighbours_pairs : (l : List Mapping) → Neighbours l → (i j : ℕ) → i < j → j < length l → Below (get_or l i no_mapping) (get_or l j no_mapping)
neighbours_pairs l g i zero h k = absurd (not-suc-le-zero h)
neighbours_pairs l g i (suc j) h k = go (ℕ_discrete i j) (neighbours_pairs l g i j)
  where
    go : Dec (i ≡ j) → (i < j → j < length l → Below (get_or l i no_mapping) (get_or l j no_mapping)) → Below (get_or l i no_mapping) (get_or l (suc j) no_mapping)
    go (yes e) low = subst (λ (x : ℕ). Below (get_or l x no_mapping) (get_or l (suc j) no_mapping)) (sym e) (step l g j k)
    go (no n) low = let a = low (omega arith) (omega arith) in let b = step l g j k in omega arith

pub neighbours_rise : (l : List Mapping) → all_rows (follows l) 0 l ≡ rising l
neighbours_rise l =
    tells_same
    (tells_rows no_mapping (follows l) (λ i x. (i ≡ 0 → ⊥) → Below (get_or l (i - 1) no_mapping) x) (λ i x. tells_unless (tells_eq i 0) (tells_lt _ _)) l)
    (tells_as (λ g i h n. g (i - 1) i (omega arith) h tt) (λ g i j h k u. neighbours_pairs l g i j h k) (tells_pairs no_mapping (λ x. true) (λ x. Unit {0}) below Below (λ x. tells_unit) (λ x y. tells_lt _ _) l))

-- a row among the first c follows as it does among all
follows_taken : (c : ℕ) (l : List Mapping) (i : ℕ) → i < length (take c l) → follows l i (get_or l i no_mapping) ≡ follows (take c l) i (get_or (take c l) i no_mapping)
follows_taken c l i h = ap (λ x. eqb i 0 || below (get_or l (i - 1) no_mapping) x) (sym (taken_at c l i no_mapping h)) ∙ ap (λ x. eqb i 0 || below x (get_or (take c l) i no_mapping)) (sym (taken_at c l (i - 1) no_mapping (omega arith)))

pub first_follows : (l : List Mapping) (i : ℕ) (x : Mapping) → i ≡ 0 → true ≡ follows l i x
first_follows l i x e = rw (eq-eqb i 0 e)

pub next_follows : (w : List ℕ) (p i : ℕ) → i < 128 → (i ≡ 0 → ⊥) → (x y : Mapping) → x ≡ get_or (machine w).mapped (p * 128 + (i - 1)) no_mapping → y ≡ get_or (machine w).mapped (p * 128 + i) no_mapping → below x y ≡ follows (part 128 p (machine w).mapped) i (get_or (part 128 p (machine w).mapped) i no_mapping)
next_follows w p i h n x y e f =
    rw (ne_eqb i 0 n) (ap (λ z. below z y) (e ∙ sym (part_at (machine w).mapped 128 p (i - 1) no_mapping (omega arith))) ∙ ap (λ z. below (get_or (part 128 p (machine w).mapped) (i - 1) no_mapping) z) (f ∙ sym (part_at (machine w).mapped 128 p i no_mapping h)))

-- ---- a process's rows

pub pages_length : (w : List ℕ) (p : ℕ) → p < 8 → length (part 128 p (machine w).mapped) ≡ 128
pages_length w p h = part_length (machine w).mapped 128 p (rw mapped_length (omega arith))

module _ (m : Machine) (p : ℕ) where
  pub page_follows : (i : ℕ) → i < length (mapped_of m p) → follows (part 128 p m.mapped) i (get_or (part 128 p m.mapped) i no_mapping) ≡ follows (mapped_of m p) i (get_or (mapped_of m p) i no_mapping)
  unfolding mapped_of
  page_follows i h = follows_taken (process_at m p).mapped (part 128 p m.mapped) i h

  pub paged_no : rising (mapped_of m p) ≡ false → false ≡ pagedb m p (process_at m p)
  unfolding pagedb
  paged_no e = rw e

  pub paged_if : rising (mapped_of m p) ≡ true → (n : ℕ) → n ≡ length (mapped_of m p) → all free_mapping (drop n (part 128 p m.mapped)) ≡ pagedb m p (process_at m p)
  unfolding pagedb mapped_of
  paged_if e n c = rw e (ap (λ (k : ℕ). all free_mapping (drop k (part 128 p m.mapped))) c ∙ ap (λ x. all free_mapping x) (past_taken (process_at m p).mapped (part 128 p m.mapped)) ∙ all_as_rows free_mapping 0 (drop (process_at m p).mapped (part 128 p m.mapped)))

-- ---- a free row

module _ (x : Mapping) where
  pub paged_row : x.page.0 ≢ 0 → false ≡ free_mapping x
  paged_row n = sym (ne_eqb (x.page.0 + x.frame.0 + x.flags.0) 0 (λ e. n (omega arith)))

  pub framed_row : x.frame.0 ≢ 0 → false ≡ free_mapping x
  framed_row n = sym (ne_eqb (x.page.0 + x.frame.0 + x.flags.0) 0 (λ e. n (omega arith)))

  pub unless_flagged : x.page.0 ≡ 0 → x.frame.0 ≡ 0 → eqb x.flags.0 0 ≡ free_mapping x
  unless_flagged e f = let same : x.flags.0 ≡ x.page.0 + x.frame.0 + x.flags.0 = omega arith in ap (λ (n : ℕ). eqb n 0) same
