-- Laws: what a new page of a region holds, case by case.
use Rattle.std.specs.Prelude.{◌≡◌, Bool, false, ℕ, zero, suc, ◌<◌, ◌≤◌, ◌+◌, ◌-◌, get_or, take, drop, replicate}
use Rattle.std.proofs.Math.Path.{refl, ap, sym}
use Rattle.std.proofs.Common.{subst, ◌∙◌, arith}
use Rattle.std.proofs.Math.Bool.{true}
use mathlib.Core.List.{List, [], ◌∷◌}
use Rattle.std.proofs.Math.ListN.{get_or-eq_default}
use Rattle.std.proofs.Math.Dec.{eqb, ltb}
use borrow.Author.Tests.{eq-eqb, ne_eqb, lt-ltb}
use Rattle.model.specs.declared.Region.{Region}
use Rattle.model.specs.declared.File.{File}
use Rattle.model.specs.Layout.{machine}
use Rattle.model.specs.Machine.{Machine, no_file}
use Rattle.laws.specs.Lists.{pad}
use Rattle.model.specs.Backing.{put_frame}
use Rattle.rows.specs.LentMemory.{state_of}
use Rattle.lookup.specs.LookupsLaws.{files_length}
use Rattle.model.specs.Fault.{from_file, read_fails, file_page, fill_of}
use Rattle.fault_fill.specs.Fill.{past_start, file_bytes, FileReads}

pub file_past : (w : List ℕ) (i : ℕ) → 8 ≤ i → no_file ≡ get_or (machine w).files i no_file
file_past w i h = sym (get_or-eq_default (machine w).files no_file {n = i} (rw files_length h))

module _ (m : Machine) (r : Region) (page : ℕ) where
  pub reads_none : (r.kind ≡ 2 → ⊥) → false ≡ read_fails m r page
  unfolding read_fails
  reads_none n = rw (ne_eqb r.kind 2 n) refl

  module _ (k : r.kind ≡ 2) (n : ℕ) (e : n ≡ from_file r page) where
    pub reads_zeros : n ≡ 0 → false ≡ read_fails m r page
    unfolding read_fails
    reads_zeros z = rw (eq-eqb r.kind 2 k, sym e ∙ z) refl

    pub reads_file : (n ≡ 0 → ⊥) → (f : File) → f ≡ get_or m.files r.file no_file → (b : Bool) → b ≡ eqb f.readable 0 → b ≡ read_fails m r page
    unfolding read_fails
    reads_file z f g b h = h ∙ ap (λ (x : File). eqb x.readable 0) g ∙ rw (eq-eqb r.kind 2 k, some) refl
      where
        some : ltb 0 (from_file r page) ≡ true
        some = lt-ltb 0 (from_file r page) (pos (from_file r page) (λ q. z (e ∙ q)))
          where
            pos : (n : ℕ) → (n ≡ 0 → ⊥) → 0 < n
            pos n h = omega (arith, h)

few_bytes : (f : File) (at n k size : ℕ) → k ≡ file_bytes f at n → (k ≡ 0 → ⊥) → f.offset + f.len ≤ size → (f.offset + at < size) × (k ≤ size - (f.offset + at))
few_bytes f at n k size e z h = (omega (arith, z), omega (arith, z))

most_bytes : (r : Region) (page at : ℕ) (f : File) → file_bytes f at (from_file r page) ≤ 4096
most_bytes r page at f = omega arith

count_most : (r : Region) (page at n k : ℕ) (f : File) → n ≡ from_file r page → k ≡ file_bytes f at n → k ≤ 4096
count_most r page at n k f e g = let a = most_bytes r page at f in let b = g ∙ ap (λ (x : ℕ). file_bytes f at x) e in omega arith

pad_zeros : (n : ℕ) → pad {A = ℕ} n 0 [] ≡ replicate n 0
unfolding pad
pad_zeros zero = refl
pad_zeros (suc n) = ap (λ (l : List ℕ). 0 ∷ l) (pad_zeros n)

module _ (w f b : List ℕ) (r : Region) (page new : ℕ) (g : List ℕ) where
  pub filled_zeros : (r.kind ≡ 2 → ⊥) → g ≡ put_frame f new (replicate 4096 0) → g ≡ put_frame f new (fill_of (state_of w f b) r page)
  unfolding fill_of
  filled_zeros n e = e ∙ ap (λ (l : List ℕ). put_frame f new l) (rw (ne_eqb r.kind 2 n) refl)

  module _ (k : r.kind ≡ 2) (x : File) (file : x ≡ get_or (machine w).files r.file no_file) (past : ℕ) (starts : past ≡ past_start r page) (n : ℕ) (wanted : n ≡ from_file r page) (count : ℕ) (has : count ≡ file_bytes x (r.offset + past) n) where
    whole : put_frame f new (pad 4096 0 (take count (drop (x.offset + (r.offset + past)) b))) ≡ put_frame f new (fill_of (state_of w f b) r page)
    unfolding fill_of file_page
    whole =
        ap (λ (c : ℕ). put_frame f new (pad 4096 0 (take c (drop (x.offset + (r.offset + past)) b)))) (has ∙ ap (λ (c : ℕ). file_bytes x (r.offset + past) c) wanted)
        ∙ ap (λ (c : ℕ). put_frame f new (pad 4096 0 (take (file_bytes x (r.offset + c) (from_file r page)) (drop (x.offset + (r.offset + c)) b)))) starts
        ∙ ap (λ (y : File). put_frame f new (pad 4096 0 (take (file_bytes y (r.offset + past_start r page) (from_file r page)) (drop (y.offset + (r.offset + past_start r page)) b)))) file
        ∙ ap (λ (l : List ℕ). put_frame f new l) (rw (eq-eqb r.kind 2 k) refl)

    pub filled_bytes : g ≡ put_frame f new (pad 4096 0 (take count (drop (x.offset + (r.offset + past)) b))) → g ≡ put_frame f new (fill_of (state_of w f b) r page)
    filled_bytes e = e ∙ whole

    pub filled_none : count ≡ 0 → g ≡ put_frame f new (replicate 4096 0) → g ≡ put_frame f new (fill_of (state_of w f b) r page)
    filled_none z e = e ∙ ap (λ (l : List ℕ). put_frame f new l) (sym (ap (λ (c : ℕ). pad 4096 0 (take c (drop (x.offset + (r.offset + past)) b))) z ∙ pad_zeros 4096)) ∙ whole

file_size : (m : Machine) (i size : ℕ) (x : File) → x ≡ get_or m.files i no_file → (get_or m.files i no_file).offset + (get_or m.files i no_file).len ≤ size → x.offset + x.len ≤ size
file_size m i size x e h = subst (λ (y : File). y.offset + y.len ≤ size) (sym e) h

-- what filling from a file asks
pub fill_fits : (m : Machine) (size : ℕ) (r : Region) (page at n k : ℕ) (x : File) → FileReads m size r page → r.kind ≡ 2 → x ≡ get_or m.files r.file no_file → n ≡ from_file r page → k ≡ file_bytes x at n → (k ≡ 0 → ⊥) → (x.offset + at < size) × ((k ≤ size - (x.offset + at)) × (k ≤ 4096))
fill_fits m size r page at n k x reads kind file wanted has some =
    let few = few_bytes x at n k size has some (file_size m r.file size x file (reads kind).1) in
    (few.0, (few.1, count_most r page at n k x wanted has))
