-- Whether a region inside a range is pinned: one place of list order after the other.
use Rattle.std.specs.Prelude.{◌≡◌, refl, Bool, true, false, ◌&&◌, ◌||◌, cond, List, [], ◌∷◌, ℕ, ltb}
use Rattle.std.proofs.Common.{ap, sym, ◌∙◌}
use Rattle.model.specs.declared.Region.{Region}
use Rattle.laws.specs.Lists.{any, keep}
use Rattle.model.specs.Machine.{Machine, region_at, order_of}
use Rattle.model.specs.Lookup.{lies_inside, is_pinned}
use Rattle.model.specs.Carve.{inside_of}
use Rattle.carve_inside.specs.PinnedInside.{pinned_in}

any_keep : (f g : ℕ → Bool) (l : List ℕ) → any f (keep g l) ≡ any (λ s. g s && f s) l
unfolding any keep
any_keep f g [] = refl
any_keep f g (x ∷ l) = go (g x) (any_keep f g l)
  where
    go : (b : Bool) → any f (keep g l) ≡ any (λ s. g s && f s) l → any f (cond b (x ∷ keep g l) (keep g l)) ≡ ((b && f x) || any (λ s. g s && f s) l)
    go true h = ap (λ (c : Bool). f x || c) h
    go false h = h

-- a place
module _ (m : Machine) (p a e s t : ℕ) (slot : s ≡ t) (r : Region) (read : r ≡ region_at m p s) where
  there : r ≡ region_at m p t
  there = read ∙ ap (λ (j : ℕ). region_at m p j) slot

  pub pinned_not : lies_inside r a e ≡ false → false ≡ pinned_in m p a e t
  pinned_not h = sym (ap (λ (x : Region). lies_inside x a e && is_pinned x) (sym there) ∙ ap (λ (b : Bool). b && is_pinned r) h)

  pub pinned_by : lies_inside r a e ≡ true → ltb 0 r.pins ≡ pinned_in m p a e t
  pinned_by h = sym (ap (λ (x : Region). lies_inside x a e && is_pinned x) (sym there) ∙ ap (λ (b : Bool). b && is_pinned r) h)

pub pinned_is : (m : Machine) (p a e : ℕ) (b : Bool) → b ≡ any (pinned_in m p a e) (order_of m p) → b ≡ any (λ s. is_pinned (region_at m p s)) (inside_of m p a e)
unfolding inside_of
pinned_is m p a e b h = h ∙ sym (any_keep (λ s. is_pinned (region_at m p s)) (λ s. lies_inside (region_at m p s) a e) (order_of m p))
