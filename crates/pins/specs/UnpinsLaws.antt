-- Laws of one pin less: whether a slot is listed, whether the region ends.
use Rattle.std.specs.Prelude.{◌≡◌, ℕ, ◌+◌, ◌-◌, ◌*◌, Bool, true, false, cond, not, ◌||◌, List, [], ◌∷◌, ◌==◌, ◌≢◌, nat_eq, slice_set, Option, Some, None}
use Rattle.std.specs.Prelude.{refl}
use Rattle.std.proofs.Math.Path.{ap}
use Rattle.std.proofs.Common.{sym, ◌∙◌, eq-eqb, ne_eqb}
use Rattle.model.specs.declared.Region.{Region}
use Rattle.laws.specs.Lists.{any, among}
use Rattle.model.specs.Machine.{Machine, with_regions, with_region, region_at}
use Rattle.model.specs.Lookup.{is_attached, is_found, first_slot}
use Rattle.model.specs.Pins.{with_pins, unpin_region}
use Rattle.model.specs.Remove.{drop_region}
use Rattle.remove.specs.SlotDropped.{Dropped}
use Rattle.pins.specs.Unpins.{ends_by, Unpinned}

-- ---- whether a slot is in the list: the search for it finds it

pub found_among : (s : ℕ) (l : List ℕ) → is_found (first_slot (nat_eq s) l) ≡ among s l
unfolding first_slot any
found_among s [] = refl
found_among s (x ∷ l) = go (s == x) (found_among s l)
  where
    go : (b : Bool) → is_found (first_slot (nat_eq s) l) ≡ among s l → is_found (cond b (Some x) (first_slot (nat_eq s) l)) ≡ (b || among s l)
    go true rest = refl
    go false rest = rest

pub is_among : (s : ℕ) (l : List ℕ) (x : ℕ) → Some x ≡ first_slot (nat_eq s) l → true ≡ among s l
is_among s l x e = ap (λ (f : Option ℕ). is_found f) e ∙ found_among s l

pub not_among : (s : ℕ) (l : List ℕ) → None ≡ first_slot (nat_eq s) l → false ≡ among s l
not_among s l e = ap (λ (f : Option ℕ). is_found f) e ∙ found_among s l

pub more_pins : (m : Machine) (p s pins : ℕ) → (pins ≢ 1) → false ≡ ends_by m p s pins
more_pins m p s pins n = rw (ne_eqb pins 1 n) refl

pub last_pin : (m : Machine) (p s pins : ℕ) (b : Bool) → pins ≡ 1 → b ≡ is_attached m p s → not b ≡ ends_by m p s pins
last_pin m p s pins b e f = rw (eq-eqb pins 1 e) (ap (λ (x : Bool). not x) f)

module _ (m : Machine) (p s : ℕ) (r : Region) (read : r ≡ region_at m p s) (b : Bool) (told : b ≡ ends_by m p s r.pins) where
  abbrev fewer : Machine
  fewer = with_region m p s (with_pins (region_at m p s) ((region_at m p s).pins - 1))

  same_test : b ≡ ends_by m p s (region_at m p s).pins
  same_test = told ∙ ap (λ (x : Region). ends_by m p s x.pins) read

  pub unpin_ends : b ≡ true → (n : Machine) → Dropped m p s n → Unpinned m p s n
  unfolding unpin_region
  unpin_ends e n drop k = (drop k).1 ∙ ap (λ (x : Bool). cond x (drop_region m p s) fewer) (sym e ∙ same_test)

  pub unpin_stays : b ≡ false → (l : ℕ) → l ≡ r.pins - 1 → (x : Region) → x ≡ with_pins r l → (n : Machine) → n ≡ with_regions m (slice_set m.regions (p * 64 + s) x) → Unpinned m p s n
  unfolding unpin_region
  unpin_stays e l less x row n put k =
      put
      ∙ ap (λ (y : Region). with_regions m (slice_set m.regions (p * 64 + s) y)) (row ∙ ap (λ (i : ℕ). with_pins r i) less ∙ ap (λ (y : Region). with_pins y (y.pins - 1)) read)
      ∙ ap (λ (y : Bool). cond y (drop_region m p s) fewer) (sym e ∙ same_test)
