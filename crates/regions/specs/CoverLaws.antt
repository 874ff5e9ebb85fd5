-- Laws of `Cover`: attached regions are apart, so the addresses of a range that lie in them can be added up region by region; all of them
-- lie there exactly if the sum is the range's length.
use Rattle.std.specs.Prelude.{◌≡◌, Bool, ◌&&◌, ℕ, zero, suc, ◌+◌, ◌-◌, ◌*◌, ◌^◌, ◌≤◌, ◌<◌, min, get_or, drop, eqb, ltb, leb}
use Rattle.std.proofs.Math.Path.{refl, ap}
use Rattle.std.proofs.Common.{sym, subst, ◌∙◌, inl, inr, add-one, drop_of_length-le, drop-cons, ltb-true, ltb-false, leb-true, leb-false, le-ltb, eq-eqb, ne_eqb}
use Rattle.std.proofs.Math.Bool.{true, false, cond}
use mathlib.Core.List.{List, [], ◌∷◌}
use native.Mathlib.Omega.{arith}
use Rattle.std.proofs.Math.ListN.{length}
use Rattle.model.specs.declared.Region.{Region}
use Rattle.model.specs.Layout.{machine}
use Rattle.model.specs.Machine.{Machine, region_at, order_of, no_region}
use Rattle.model.specs.Lookup.{contains, span_end, covered}
use Rattle.model.specs.LookupLaws.{Covered, covered_tells}
use Rattle.model.specs.RecordLaws.{sound_tells}
use Rattle.laws.specs.BoolLaws.{clash, or_right}
use Rattle.laws.specs.Lists.{any, among, count}
use Rattle.laws.specs.CountLaws.{count_least}
use Rattle.laws.specs.In.{In, Once}
use Rattle.laws.specs.TellsLaws.{told}
use Rattle.laws.specs.Tells.{Tells}
use Rattle.lookup.specs.AttachedLaws.{order_slot}
use Rattle.rows.specs.LentMemory.{state_of, SoundWords}
use Rattle.keeping.specs.Owing.{Owing, nothing}
use Rattle.keeping.specs.OwingOfSound.{sound_owing}
use Rattle.keeping.specs.OwingLaws.{home_one}
use Rattle.regions.specs.Cover.{end_within, start_within, shared_len, shared_all}

-- ---- what the code computes

pub ends_within : (r : Region) (e x : ℕ) → e < 2 ^ 64 → x ≡ min (min (span_end r) (2 ^ 64 - 1)) e → x ≡ end_within r e
ends_within r e x small k = go (ltb (span_end r) e) refl
  where
    go : (b : Bool) → ltb (span_end r) e ≡ b → x ≡ cond b (span_end r) e
    go true q = let h = ltb-true (span_end r) e q in omega arith
    go false q = let h = ltb-false (span_end r) e q in omega arith

pub ends_past : (r : Region) (e : ℕ) → e ≤ span_end r → e ≡ end_within r e
ends_past r e h = rw (le-ltb (span_end r) e h)

pub slot_some : (m : Machine) (p slot : ℕ) (r : Region) → r ≡ region_at m p slot → (a e x : ℕ) → x ≡ shared_len r a e → x ≡ shared_len (region_at m p slot) a e
slot_some m p slot r row a e x k = k ∙ ap (λ (y : Region). shared_len y a e) row

-- of no region there is nothing
pub slot_none : (m : Machine) (p slot : ℕ) → region_at m p slot ≡ no_region → (a e : ℕ) → 0 ≡ shared_len (region_at m p slot) a e
slot_none m p slot none a e = go (ltb 0 e) refl ∙ sym (ap (λ (y : Region). shared_len y a e) none)
  where
    go : (b : Bool) → ltb 0 e ≡ b → 0 ≡ cond b 0 e - start_within no_region a
    go true q = omega arith
    go false q = let k = ltb-false 0 e q in omega arith

-- ---- one region: each address more of the range counts if the region holds it

one : Bool → ℕ
one true = 1
one false = 0

end_at : (r : Region) (e : ℕ) → span_end r ≤ e → end_within r e ≡ span_end r
end_at r e h = go (ltb (span_end r) e) refl
  where
    go : (b : Bool) → ltb (span_end r) e ≡ b → cond b (span_end r) e ≡ span_end r
    go true q = refl
    go false q = let k = ltb-false (span_end r) e q in omega arith

start_least : (r : Region) (a : ℕ) → (r.start.0 ≤ start_within r a) × (a ≤ start_within r a)
start_least r a = go (ltb r.start.0 a) refl
  where
    go : (b : Bool) → ltb r.start.0 a ≡ b → (r.start.0 ≤ cond b a r.start.0) × (a ≤ cond b a r.start.0)
    go true q = let k = ltb-true r.start.0 a q in (omega arith, omega arith)
    go false q = let k = ltb-false r.start.0 a q in (omega arith, omega arith)

start_most : (r : Region) (a e : ℕ) → a ≤ e → r.start.0 ≤ e → start_within r a ≤ e
start_most r a e h k = go (ltb r.start.0 a)
  where
    go : (b : Bool) → cond b a r.start.0 ≤ e
    go true = h
    go false = k

len_none : (r : Region) (a : ℕ) → shared_len r a a ≡ 0
len_none r a = go (ltb (span_end r) a) refl (start_least r a).1
  where
    go : (b : Bool) → ltb (span_end r) a ≡ b → a ≤ start_within r a → cond b (span_end r) a - start_within r a ≡ 0
    go true q h = let k = ltb-true (span_end r) a q in omega arith
    go false q h = omega arith

len_more : (r : Region) (a e : ℕ) → a ≤ e → shared_len r a (e + 1) ≡ shared_len r a e + one (contains r e)
unfolding one
len_more r a e h = go (leb r.start.0 e) refl (ltb e (span_end r)) refl
  where
    go : (b : Bool) → leb r.start.0 e ≡ b → (c : Bool) → ltb e (span_end r) ≡ c → shared_len r a (e + 1) ≡ shared_len r a e + one (b && c)
    go true p true q =
        let k = ltb-true e (span_end r) q in
        let s = start_most r a e h (leb-true r.start.0 e p) in
        let x = ends_past r e (omega arith) in
        let y = ends_past r (e + 1) (omega arith) in
        omega arith
    go true p false q =
        let k = ltb-false e (span_end r) q in
        let x = end_at r e k in
        let y = end_at r (e + 1) (omega arith) in
        omega arith
    go false p true q =
        let k = leb-false r.start.0 e p in
        let l = ltb-true e (span_end r) q in
        let s = (start_least r a).0 in
        let x = ends_past r e (omega arith) in
        let y = ends_past r (e + 1) (omega arith) in
        omega arith
    go false p false q =
        let k = ltb-false e (span_end r) q in
        let x = end_at r e k in
        let y = end_at r (e + 1) (omega arith) in
        omega arith

-- ---- a test that at most one of a list passes

count_none : (f : ℕ → Bool) (l : List ℕ) → ((s : ℕ) → In s l → f s ≡ false) → count f l ≡ 0
unfolding count
count_none f [] k = refl
count_none f (x ∷ l) k = ap (λ (b : Bool). cond b (count f l + 1) (count f l)) (k x (inl refl)) ∙ count_none f l (λ s i. k s (inr i))

count_once : (f : ℕ → Bool) (l : List ℕ) → Once l → ((s t : ℕ) → In s l → In t l → f s ≡ true → f t ≡ true → s ≡ t) → count f l ≤ 1
unfolding count
count_once f [] o k = omega arith
count_once f (x ∷ l) o k = go (f x) refl (count_once f l o.1 (λ s t i j. k s t (inr i) (inr j)))
  where
    other : f x ≡ true → (s : ℕ) → In s l → (b : Bool) → f s ≡ b → b ≡ false
    other e s i true q = absurd (o.0 (rw (k x s (inl refl) (inr i) e q) i))
    other e s i false q = refl

    go : (b : Bool) → f x ≡ b → count f l ≤ 1 → cond b (count f l + 1) (count f l) ≤ 1
    go true e h = let z = count_none f l (λ s i. other e s i (f s) refl) in omega arith
    go false e h = h

-- ---- all regions of a list

module _ (m : Machine) (p a : ℕ) where
  abbrev holds : ℕ → ℕ → Bool
  holds x s = contains (region_at m p s) x

  all_none : (l : List ℕ) → shared_all m p l a a ≡ 0
  unfolding shared_all
  all_none [] = refl
  all_none (s ∷ l) = let x = len_none (region_at m p s) a in let y = all_none l in omega arith

  all_more : (l : List ℕ) (e : ℕ) → a ≤ e → shared_all m p l a (e + 1) ≡ shared_all m p l a e + count (holds e) l
  unfolding shared_all count one
  all_more [] e h = refl
  all_more (s ∷ l) e h = let x = len_more (region_at m p s) a e h in let y = all_more l e h in go (holds e s) x y
    where
      go : (b : Bool) → shared_len (region_at m p s) a (e + 1) ≡ shared_len (region_at m p s) a e + one b → shared_all m p l a (e + 1) ≡ shared_all m p l a e + count (holds e) l
          → shared_len (region_at m p s) a (e + 1) + shared_all m p l a (e + 1) ≡ (shared_len (region_at m p s) a e + shared_all m p l a e) + cond b (count (holds e) l + 1) (count (holds e) l)
      go true x y = omega arith
      go false x y = omega arith

  all_next : (l : List ℕ) (d : ℕ) → shared_all m p l a (a + suc d) ≡ shared_all m p l a (a + d) + count (holds (a + d)) l
  all_next l d = let e : a + suc d ≡ a + d + 1 = omega arith in ap (λ (x : ℕ). shared_all m p l a x) e ∙ all_more l (a + d) (omega arith)

  module _ (l : List ℕ) (few : (x : ℕ) → count (holds x) l ≤ 1) where
    -- never more than there are addresses
    all_most : (d : ℕ) → shared_all m p l a (a + d) ≤ d
    all_most zero = let e : a + zero ≡ a = omega arith in let z = ap (λ (x : ℕ). shared_all m p l a x) e ∙ all_none l in omega arith
    all_most (suc d) = let x = all_most d in let y = all_next l d in let z = few (a + d) in omega arith

    -- as many: every address is held
    all_full : (d : ℕ) → d ≤ shared_all m p l a (a + d) → (x : ℕ) → a ≤ x → x < a + d → 1 ≤ count (holds x) l
    all_full zero h x i j = absurd (omega arith)
    all_full (suc d) h x i j = go (ltb x (a + d)) refl (all_most d) (all_next l d) (few (a + d)) (all_full d)
      where
        go : (b : Bool) → ltb x (a + d) ≡ b → shared_all m p l a (a + d) ≤ d → shared_all m p l a (a + suc d) ≡ shared_all m p l a (a + d) + count (holds (a + d)) l → count (holds (a + d)) l ≤ 1
            → (d ≤ shared_all m p l a (a + d) → (x : ℕ) → a ≤ x → x < a + d → 1 ≤ count (holds x) l) → 1 ≤ count (holds x) l
        go true q k y n more = more (omega arith) x i (ltb-true x (a + d) q)
        go false q k y n more =
            let g = ltb-false x (a + d) q in
            let e : x ≡ a + d = omega arith in
            let z : 1 ≤ count (holds (a + d)) l = omega arith in
            subst (λ (v : ℕ). 1 ≤ count (holds v) l) (sym e) z

    -- every address is held: as many
    full_all : (d : ℕ) → ((x : ℕ) → a ≤ x → x < a + d → 1 ≤ count (holds x) l) → d ≤ shared_all m p l a (a + d)
    full_all zero k = omega arith
    full_all (suc d) k = let x = full_all d (λ y i j. k y i (omega arith)) in let y = all_next l d in let z = k (a + d) (omega arith) (omega arith) in omega arith

-- ---- a process's attached regions, of a sound machine

held_one : (f : ℕ → Bool) (l : List ℕ) → 1 ≤ count f l → (s : ℕ) × ((among s l ≡ true) × (f s ≡ true))
unfolding count any
held_one f [] h = absurd (omega arith)
held_one f (x ∷ l) h = go (f x) refl h (held_one f l)
  where
    go : (b : Bool) → f x ≡ b → 1 ≤ cond b (count f l + 1) (count f l) → (1 ≤ count f l → (s : ℕ) × ((among s l ≡ true) × (f s ≡ true))) → (s : ℕ) × ((among s (x ∷ l) ≡ true) × (f s ≡ true))
    go true e h more = (x, (rw (eq-eqb x x refl) refl, e))
    go false e h more = let k = more h in (k.0, (or_right (eqb k.0 x) _ k.1.0, k.1.1))

module _ (w : List ℕ) (sound : SoundWords w) (p : ℕ) (low : p < 8) where
  abbrev m : Machine
  m = machine w

  abbrev l : List ℕ
  l = order_of m p

  owing : Owing nothing m
  owing = sound_owing (state_of w sound.frames sound.files) ((sound_tells (state_of w sound.frames sound.files)).yes sound.sound)

  apart : (x : ℕ) → count (λ s. contains (region_at m p s) x) l ≤ 1
  apart x = count_once (λ s. contains (region_at m p s) x) l (owing.once p low) (λ s t i j e f. home_one m owing p low x s t i j e f)

  module _ (a e : ℕ) (some : a < e) where
    total : a + (e - a) ≡ e
    total = omega arith

    shared_most : shared_all m p l a e ≤ e - a
    shared_most = subst (λ (x : ℕ). shared_all m p l a x ≤ e - a) total (all_most m p a l apart (e - a))

    -- nothing of the range is left exactly if it is covered
    pub covered_sum : (left : ℕ) → left ≡ (e - a) - shared_all m p l a e → eqb left 0 ≡ covered m p a e
    covered_sum left h = go (covered m p a e) (covered_tells m p e a)
      where
        go : (b : Bool) → Tells b (Covered m p a e) → eqb left 0 ≡ b
        go true t =
            let k = full_all m p a l apart (e - a) (λ x i j. let h = t.yes refl x i (omega arith) in count_least (λ s. contains (region_at m p s) x) l h.slot h.listed h.inside) in
            let z : e - a ≤ shared_all m p l a e = subst (λ (x : ℕ). e - a ≤ shared_all m p l a x) total k in
            eq-eqb left 0 (omega arith)
        go false t = ne_eqb left 0 (λ z. clash (told t (held z)) refl)
          where
            held : left ≡ 0 → Covered m p a e
            held z x i j =
                let k = held_one (λ s. contains (region_at m p s) x) l (all_full m p a l apart (e - a) (subst (λ (y : ℕ). e - a ≤ shared_all m p l a y) (sym total) (omega arith)) x i (omega arith)) in
                record { slot = k.0; listed = k.1.0; inside = k.1.1 }

-- ---- the loop: what the regions that were passed hold is off the range, what the rest of the list holds is to come

pub record Left (m : Machine) (p a e left i : ℕ) : Type 0 where
  pub inside : i ≤ length (order_of m p)
  pub sum : left - shared_all m p (drop i (order_of m p)) a e ≡ (e - a) - shared_all m p (order_of m p) a e

module _ (w : List ℕ) (p a e : ℕ) where
  abbrev list : List ℕ
  list = order_of (machine w) p

  pub left_first : (left : ℕ) → left ≡ e - a → Left (machine w) p a e left 0
  left_first left h = record { inside = omega arith; sum = ap (λ (x : ℕ). x - shared_all (machine w) p list a e) h }

  module _ (n : ℕ) (counted : n ≡ length list) (few : n ≤ 64) (left i : ℕ) (k : Left (machine w) p a e left i) where
    pub left_next : (slot : ℕ) → slot ≡ get_or (machine w).order (p * 64 + i) 0 → (x : ℕ) → x ≡ shared_len (region_at (machine w) p slot) a e → i < n
        → (y : ℕ) → y ≡ left - x → Left (machine w) p a e y (i + 1)
    unfolding shared_all
    left_next slot here x holds more y is = let s = k.sum in let z = rest in record { inside = omega arith; sum = omega arith }
      where
        rest : shared_all (machine w) p (drop i (order_of (machine w) p)) a e ≡ x + shared_all (machine w) p (drop (i + 1) (order_of (machine w) p)) a e
        rest =
            ap (λ (y : List ℕ). shared_all (machine w) p y a e) (drop-cons (order_of (machine w) p) i 0 (omega arith))
            ∙ (λ j. shared_len (region_at (machine w) p (sym (order_slot w p n counted few i slot more here) j)) a e + shared_all (machine w) p (drop (sym (add-one i) j) (order_of (machine w) p)) a e)
            ∙ ap (λ (y : ℕ). y + shared_all (machine w) p (drop (i + 1) (order_of (machine w) p)) a e) (sym holds)

    pub left_done : n ≤ i → p < 8 → a < e → SoundWords w → eqb left 0 ≡ covered (machine w) p a e
    unfolding shared_all
    left_done h low some sound =
        let past : length list ≤ i = omega arith in
        let none = ap (λ (y : List ℕ). shared_all (machine w) p y a e) (drop_of_length-le list past) in
        let s = k.sum in
        covered_sum w sound p low a e some left (omega arith)

-- a range that ends where it starts, or before
pub covered_empty : (m : Machine) (p a e : ℕ) → e ≤ a → true ≡ covered m p a e
covered_empty m p a e h = sym (told (covered_tells m p e a) (λ x i j. absurd (omega arith)))
