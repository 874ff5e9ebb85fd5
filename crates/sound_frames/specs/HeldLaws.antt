-- What the holders hold: row by row, and counted.
use Rattle.std.specs.Prelude.{◌≡◌, refl, ◌≢◌, Bool, true, false, not, ◌&&◌, cond, List, [], ◌∷◌, map, ℕ, ◌+◌, ◌-◌, ◌/◌, ◌≤◌, ◌<◌, length, get_or, eqb, ltb}
use Rattle.std.proofs.Math.Path.{ap, sym}
use Rattle.std.proofs.Common.{◌∙◌, arith, length-append}
use Rattle.std.proofs.lemmas.List.{length-map}
use Rattle.std.proofs.Math.ListN.{get_or-append, get_or-map}
use borrow.Author.Tests.{eq-eqb, ne_eqb, lt-ltb, le-ltb, ltb-false}
use Rattle.model.specs.declared.Entry.{Entry}
use Rattle.model.specs.declared.Region.{Region}
use Rattle.laws.specs.Lists.{keep, count}
use Rattle.model.specs.Layout.{machine}
use Rattle.model.specs.Machine.{Machine, no_entry, no_region}
use Rattle.model.specs.Lookup.{is_used, is_ranged, is_shared}
use Rattle.model.specs.Create.{one}
use Rattle.model.specs.Sound.{Hold, entry_holds, range_holds, holds, holders_of}
use Rattle.lookup.specs.LookupsLaws.{entries_length, regions_length}
use Rattle.laws.specs.ListsLaws.{past_append}
use Rattle.laws.specs.CountLaws.{count_append}
use Rattle.sound_frames.specs.declared.held.Held.{Held}
use Rattle.sound_frames.specs.Held.{place_of, entry_held, range_held, no_held, held_rows, at}

-- ---- a row

module _ (b : Bool) (f : ℕ) where
  pub not_held : b ≡ false → 256 ≡ place_of b f
  unfolding place_of
  not_held p = rw p

  module _ (held : b ≡ true) where
    pub held_frame : f < 256 → f ≡ place_of b f
    unfolding place_of
    held_frame h = rw (held, lt-ltb f 256 h)

    pub held_outside : 256 ≤ f → 256 ≡ place_of b f
    unfolding place_of
    held_outside h = rw (held, le-ltb f 256 h)

pub unused_range : (r : Region) → r.kind ≡ 0 → false ≡ (is_used r && is_ranged r)
unused_range r p = rw (eq-eqb r.kind 0 p)

pub used_range : (r : Region) → r.kind ≢ 0 → eqb r.ranged 1 ≡ (is_used r && is_ranged r)
used_range r n = rw (ne_eqb r.kind 0 n)

pub shared_one : (k : ℕ) → k ≡ 3 → 1 ≡ one (eqb k 3)
shared_one k p = rw (eq-eqb k 3 p)

pub unshared_none : (k : ℕ) → k ≢ 3 → 0 ≡ one (eqb k 3)
unshared_none k n = rw (ne_eqb k 3 n)

pub is_entry_held : (e : Entry) (f : ℕ) → f ≡ place_of (not (eqb e.owner 0)) e.frame.0 → ◌≡◌ {A = Held} (record { frame = f; page = e.page.0; shared = 0 }) (entry_held e)
is_entry_held e f p = λ t. record { frame = p t; page = e.page.0; shared = 0 }

pub is_range_held : (r : Region) (b : Bool) → b ≡ (is_used r && is_ranged r) → (f : ℕ) → f ≡ place_of b r.range.0 → (s : ℕ) → s ≡ one (is_shared r) → (g : ℕ) → g ≡ r.start.0 / 4096 → ◌≡◌ {A = Held} (record { frame = f; page = g; shared = s }) (range_held r)
is_range_held r b q f p s o g n = λ t. record { frame = (p ∙ ap (λ (x : Bool). place_of x r.range.0) q) t; page = n t; shared = o t }

-- ---- all rows

entry_rows : (w : List ℕ) → length (map entry_held (machine w).entries) ≡ 512
entry_rows w = length-map (machine w).entries entry_held ∙ entries_length w

pub held_length : (w : List ℕ) → length (held_rows (machine w)) ≡ 1024
unfolding held_rows
held_length w =
    let a = entry_rows w in
    let b = length-map (machine w).regions range_held ∙ regions_length w in
    let c = length-append (map entry_held (machine w).entries) (map range_held (machine w).regions) in
    omega arith

module _ (w : List ℕ) (k : ℕ) (x : Held) where
  pub held_entry : k < 512 → (e : Entry) → e ≡ get_or (machine w).entries k no_entry → x ≡ entry_held e → x ≡ get_or (held_rows (machine w)) k no_held
  unfolding held_rows place_of
  held_entry h e read p =
      p ∙ ap entry_held read ∙ sym (get_or-append (map entry_held (machine w).entries) (map range_held (machine w).regions) no_held k (rw entry_rows h) ∙ get_or-map entry_held (machine w).entries k no_entry)

  pub held_range : 512 ≤ k → (r : Region) → r ≡ get_or (machine w).regions (k - 512) no_region → x ≡ range_held r → x ≡ get_or (held_rows (machine w)) k no_held
  unfolding held_rows place_of
  held_range h r read p =
      p ∙ ap range_held read ∙ sym (past_append (map entry_held (machine w).entries) (map range_held (machine w).regions) k 512 no_held (entry_rows w) h ∙ get_or-map range_held (machine w).regions (k - 512) no_region)

-- ---- counted

-- those that are kept, counted among all
count_kept :
    {A B C : Type 0} (u : A → Bool) (g : A → B) (p : B → Bool) (h : A → C) (q : C → Bool)
    → ((x : A) → (u x && p (g x)) ≡ q (h x))
    → (l : List A)
    → count p (map g (keep u l)) ≡ count q (map h l)
unfolding count keep
count_kept u g p h q same [] = refl
count_kept u g p h q same (x ∷ l) = go (u x) (same x) (count_kept u g p h q same l)
  where
    go : (b : Bool) → (b && p (g x)) ≡ q (h x) → count p (map g (keep u l)) ≡ count q (map h l) → count p (map g (cond b (x ∷ keep u l) (keep u l))) ≡ cond (q (h x)) (count q (map h l) + 1) (count q (map h l))
    go true e rest = ap (λ (t : Bool). cond t (count p (map g (keep u l)) + 1) (count p (map g (keep u l)))) e ∙ ap (λ (n : ℕ). cond (q (h x)) (n + 1) n) rest
    go false e rest = rest ∙ ap (λ (t : Bool). cond t (count q (map h l) + 1) (count q (map h l))) e

-- a frame that is marked is one that is held
marked : (b : Bool) (x f : ℕ) → f < 256 → (b && eqb x f) ≡ eqb (place_of b x) f
unfolding place_of
marked false x f h = sym (ne_eqb 256 f (omega arith))
marked true x f h = go (ltb x 256) refl
  where
    go : (b : Bool) → ltb x 256 ≡ b → eqb x f ≡ eqb (cond b x 256) f
    go true p = refl
    go false p = let l = ltb-false x 256 p in ne_eqb x f (omega arith) ∙ sym (ne_eqb 256 f (omega arith))

pub holders_counted : (m : Machine) (f : ℕ) → f < 256 → holders_of m f ≡ count (at f) (held_rows m)
unfolding holders_of holds entry_holds range_holds held_rows
holders_counted m f h =
    count_append _ (entry_holds m.entries) (range_holds m.regions)
    ∙ ap (λ (n : ℕ). n + count (λ (k : Hold). eqb k.frame f) (range_holds m.regions)) (count_kept _ _ _ entry_held (at f) (λ e. marked _ e.frame.0 f h) m.entries)
    ∙ ap (λ (n : ℕ). count (at f) (map entry_held m.entries) + n) (count_kept _ _ _ range_held (at f) (λ r. marked _ r.range.0 f h) m.regions)
    ∙ sym (count_append (at f) (map entry_held m.entries) (map range_held m.regions))

-- a free slot holds nothing
pub free_holds : (r : Region) → r.kind ≡ 0 → (range_held r).frame ≡ 256
unfolding place_of
free_holds r e = rw (eq-eqb r.kind 0 e)
