-- R1 and R2 in the form in which theorems and code use them: regions apart have no common address; a backing in use has a row, and lies in the frames.
use Rattle.std.specs.Prelude.{◌≡◌, ◌≢◌, true, ℕ, ◌+◌, ◌≤◌, ◌<◌, length, ltb, leb}
use Rattle.std.proofs.Common.{ap, inl, inr, arith, ltb-true, leb-true}
use Rattle.model.specs.declared.Backing.{Backing}
use Rattle.model.specs.declared.Region.{Region}
use Rattle.laws.specs.BoolLaws.{both_true}
use Rattle.laws.specs.SetLaws.{row_there}
use Rattle.model.specs.Machine.{Machine, no_backing}
use Rattle.model.specs.Lookup.{contains, segment_end}
use Rattle.model.specs.Backing.{backing_at}
use Rattle.model.specs.Sound.{Apart, R2}

-- regions apart have no common address
pub apart_alone : (r x : Region) (a : ℕ) → Apart r x → contains r a ≡ true → contains x a ≡ true → ⊥
apart_alone r x a h p q = go h
  where
    low : (r : Region) → contains r a ≡ true → (r.start.0 ≤ a) × (a < segment_end r)
    low r e =
        let b = both_true (leb r.start.0 a) (ltb a (r.start.0 + r.size)) e in
        let l = leb-true r.start.0 a b.0 in
        let k = ltb-true a (r.start.0 + r.size) b.1 in
        (l, omega arith)

    go : Apart r x → ⊥
    go (inl e) = let u = low r p in let v = low x q in let u1 = u.1 in let v0 = v.0 in omega arith
    go (inr e) = let u = low r p in let v = low x q in let u0 = u.0 in let v1 = v.1 in omega arith

module _ (m : Machine) (f : ℕ) (used : (backing_at m f).len ≢ 0) where
  pub backing_there : f < length m.backings
  backing_there = row_there m.backings no_backing f (λ e. used (ap (λ (b : Backing). b.len) e))

  pub backing_within : R2 m → f + (backing_at m f).len ≤ m.frame_count
  backing_within r2 = r2.within f backing_there used
