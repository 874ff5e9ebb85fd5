-- Membership in a list, where a member stands, and lists in which nothing stands twice.
use Rattle.std.specs.Prelude.{◌≡◌, ◌⊎◌, List, [], ◌∷◌, ℕ, ◌<◌, length, get_or}

-- x is one of a list
abbrev pub In : {A : Type 0} → A → List A → Type 0
In x [] = ⊥
In x (y ∷ l) = (x ≡ y) ⊎ In x l

-- where it stands
pub record Stands {A : Type 0} (d : A) (x : A) (l : List A) : Type 0 where
  pub row : ℕ
  pub inside : row < length l
  pub is : get_or l row d ≡ x

-- no number twice
abbrev pub Once : List ℕ → Type 0
Once [] = Unit {0}
Once (x ∷ l) = (In x l → ⊥) × Once l
