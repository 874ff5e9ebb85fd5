-- Laws: a walk over pages, and the next region past a gap.
use Rattle.std.specs.Prelude.{◌≡◌, Bool, true, false, get_or, drop, leb, ltb, min, Option, Some, None, Result, Ok, Err, ⊤}
use Rattle.std.proofs.Math.Path.{refl, ap, sym}
use Rattle.std.proofs.lemmas.Bool.{ltb-true, ltb-false}
use Rattle.std.proofs.Common.{◌∙◌, subst, drop_of_length-le, drop-cons}
use Rattle.std.proofs.Math.Bool.{not}
use mathlib.Core.List.{List, map}
use Prim.Native.Nat.{ℕ, suc, ◌+◌, ◌-◌, ◌/◌, ◌^◌, ◌≤◌, ◌<◌}
use native.Mathlib.Omega.{arith}
use Rattle.std.proofs.Math.ListN.{length}
use borrow.Author.Tests.{eq-eqb, ne_eqb, lt-ltb, le-ltb, le-leb, lt-leb, not-true, not-false}
use Rattle.address.specs.Canonical.{canonical, user}
use Rattle.answers.specs.declared.Refusal.{Refusal}
use Rattle.model.specs.declared.Region.{Region}
use Rattle.model.specs.Machine.{Machine, region_at, order_of}
use Rattle.model.specs.Populate.{lower, lowest_above, next_start, nothing_to_do}
use Rattle.populate_visit.specs.declared.Visit.{Visit}
use Rattle.populate_visit.specs.declared.Span.TheVariants as span
use Rattle.populate_visit.specs.PageWalk.{span_of, ended, gap_visit, page_visit}

module _ (a len : ℕ) where
  pub span_empty : len ≡ 0 → span.Nothing ≡ span_of a len
  unfolding nothing_to_do
  span_empty e = rw (eq-eqb len 0 e) refl

  module _ (some : len ≡ 0 → ⊥) where
    pub span_long : 2 ^ 64 - 1 - (len - 1) < a → len < 2 ^ 64 → span.Nothing ≡ span_of a len
    unfolding nothing_to_do
    span_long h k = rw (ne_eqb len 0 some, le-leb (2 ^ 64) (a + (len - 1)) (omega arith)) refl

    module _ (h : a ≤ 2 ^ 64 - 1 - (len - 1)) (small : len < 2 ^ 64) (x : Bool) (e : x ≡ canonical (a + (len - 1))) where
      short : leb (2 ^ 64) (a + (len - 1)) ≡ false
      short = lt-leb (2 ^ 64) (a + (len - 1)) (omega arith)

      done_is : nothing_to_do a len ≡ not x
      unfolding nothing_to_do
      done_is = rw (ne_eqb len 0 some, short) (ap not (sym e))

      pub span_hole : not x ≡ true → span.Nothing ≡ span_of a len
      span_hole f = rw (done_is ∙ f) refl

      pub span_upper : not x ≡ false → (y : Bool) → y ≡ user (a + (len - 1)) → not y ≡ true → span.Upper ≡ span_of a len
      span_upper f y g k = rw (done_is ∙ f, sym g ∙ not-true y k) refl

      pub span_to : not x ≡ false → (y : Bool) → y ≡ user (a + (len - 1)) → not y ≡ false → span.To (record { 0 = a + (len - 1) }) ≡ span_of a len
      span_to f y g k = rw (done_is ∙ f, sym g ∙ not-false y k) refl

-- ---- the next region

module _ (n x : ℕ) (f : Option ℕ) where
  pub lower_not : x ≤ n → f ≡ lower n x f
  lower_not h = go f
    where
      go : (f : Option ℕ) → f ≡ lower n x f
      go None = rw (le-ltb n x h) refl
      go (Some y) = rw (le-ltb n x h) refl

  pub lower_first : n < x → f ≡ None → Some x ≡ lower n x f
  lower_first h e = sym (ap (λ (g : Option ℕ). lower n x g) e ∙ rw (lt-ltb n x h) refl)

  pub lower_here : n < x → (y : ℕ) → f ≡ Some y → x < y → Some x ≡ lower n x f
  lower_here h y e k = sym (ap (λ (g : Option ℕ). lower n x g) e ∙ rw (lt-ltb n x h, lt-ltb x y k) refl)

  pub lower_there : n < x → (y : ℕ) → f ≡ Some y → y ≤ x → Some y ≡ lower n x f
  lower_there h y e k = sym (ap (λ (g : Option ℕ). lower n x g) e ∙ rw (lt-ltb n x h, le-ltb x y k) refl)

  pub lower_least : n < x → (y : ℕ) → f ≡ Some y → (g : ℕ) → g ≡ min y x → Some g ≡ lower n x f
  lower_least h y e g k = go (ltb x y) refl
    where
      go : (b : Bool) → ltb x y ≡ b → Some g ≡ lower n x f
      go true t = let less = ltb-true x y t in let same : x ≡ g = omega arith in subst (λ (i : ℕ). Some i ≡ lower n x f) same (lower_here h y e less)
      go false t = let more = ltb-false x y t in let same : y ≡ g = omega arith in subst (λ (i : ℕ). Some i ≡ lower n x f) same (lower_there h y e more)

-- the first page of the region in a slot
abbrev first_page : Machine → ℕ → ℕ → ℕ
first_page m p s = (region_at m p s).start.0 / 4096

-- what is found among the places from i on
abbrev pub FoundFrom : Machine → (p page i : ℕ) → Option ℕ → Type 0
FoundFrom m p page i f = (i ≤ length (order_of m p)) × (f ≡ lowest_above page (map (λ (s : ℕ). first_page m p s) (drop i (order_of m p))))

module _ (m : Machine) (p page : ℕ) where
  pub from_none : (i : ℕ) → i ≡ length (order_of m p) → FoundFrom m p page i None
  unfolding lowest_above
  from_none i e = let all : length (order_of m p) ≤ i = omega arith in (omega arith, sym (ap (λ (l : List ℕ). lowest_above page (map (λ (s : ℕ). first_page m p s) l)) (drop_of_length-le (order_of m p) all)))

  pub from_more : (i : ℕ) (f g : Option ℕ) → FoundFrom m p page i f → 0 < i → (x : ℕ) → x ≡ get_or (order_of m p) (i - 1) 0 → g ≡ lower page (first_page m p x) f → FoundFrom m p page (i - 1) g
  unfolding lowest_above
  from_more i f g k h x e q =
      let most = k.0 in
      let next : suc (i - 1) ≡ i = omega arith in (
        omega arith,
        q
            ∙ ap (λ (z : Option ℕ). lower page (first_page m p x) z) k.1
            ∙ ap (λ (z : ℕ). lower page (first_page m p z) (lowest_above page (map (λ (s : ℕ). first_page m p s) (drop i (order_of m p))))) e
            ∙ sym (ap (λ (l : List ℕ). lowest_above page (map (λ (s : ℕ). first_page m p s) l)) (drop-cons (order_of m p) (i - 1) 0 (omega arith)) ∙ ap (λ (j : ℕ). lower page (first_page m p (get_or (order_of m p) (i - 1) 0)) (lowest_above page (map (λ (s : ℕ). first_page m p s) (drop j (order_of m p))))) next),
      )

  pub from_all : (i : ℕ) (f : Option ℕ) → FoundFrom m p page i f → i ≤ 0 → f ≡ next_start m p page
  unfolding next_start
  from_all i f k h = let z : i ≡ 0 = omega arith in k.1 ∙ ap (λ (j : ℕ). lowest_above page (map (λ (s : ℕ). first_page m p s) (drop j (order_of m p)))) z

  pub nearer_is : (x s : ℕ) → x ≡ s → (r : Region) → r ≡ region_at m p x → (n : ℕ) → n ≡ r.start.0 / 4096 → (f g : Option ℕ) → g ≡ lower page n f → g ≡ lower page (first_page m p s) f
  nearer_is x s e r row n first f g k = k ∙ ap (λ (y : ℕ). lower page y f) (first ∙ ap (λ (y : Region). y.start.0 / 4096) row ∙ ap (λ (y : ℕ). first_page m p y) e)

pub gap_none : (left : ℕ) (f x : Option ℕ) → x ≡ f → x ≡ None → (v : Visit) → v ≡ ended (Ok tt) → v ≡ gap_visit left f
gap_none left f x e g v k = k ∙ ap (λ (y : Option ℕ). gap_visit left y) (sym g ∙ e)

pub gap_next : (left : ℕ) (f x : Option ℕ) → x ≡ f → (n : ℕ) → x ≡ Some n → record { page = record { 0 = n }; left = left - 1; done = Ok tt } ≡ gap_visit left f
gap_next left f x e n g = ap (λ (y : Option ℕ). gap_visit left y) (sym g ∙ e)

pub page_refused : (page left : ℕ) (d : Result ⊤ Refusal) (r : Refusal) → d ≡ Err r → (v : Visit) → v ≡ ended (Err r) → v ≡ page_visit page left d
page_refused page left d r e v k = k ∙ ap (λ (y : Result ⊤ Refusal). page_visit page left y) (sym e)

pub page_done : (page left : ℕ) (d : Result ⊤ Refusal) → d ≡ Ok tt → record { page = record { 0 = page + 1 }; left = left - 1; done = Ok tt } ≡ page_visit page left d
page_done page left d e = ap (λ (y : Result ⊤ Refusal). page_visit page left y) (sym e)
