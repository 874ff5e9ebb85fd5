-- Two backings have no frame in common, and a process with a mapped page is one of the eight.
use Rattle.std.specs.Prelude.{◌≡◌, Bool, ℕ, ◌+◌, ◌≤◌, ◌<◌, take}
use Rattle.std.proofs.Math.Path.{refl}
use Rattle.std.proofs.Common.{subst, arith}
use Rattle.std.proofs.Math.Bool.{true, false}
use Rattle.std.proofs.Math.ListN.{get_or, get_or-eq_default}
use Rattle.std.proofs.Math.Dec.{ltb}
use borrow.Author.Tests.{ltb-true, ltb-false}
use Rattle.model.specs.declared.Process.{Process}
use Rattle.model.specs.declared.Mapping.{Mapping}
use Rattle.laws.specs.Lists.{part}
use Rattle.model.specs.Machine.{Machine, mapped_of, no_process}
use Rattle.model.specs.Backing.{backing_at}
use Rattle.laws.specs.In.{In}
use Rattle.keeping.specs.Owing.{Owing}
use Rattle.keeping.specs.BackingsKept.{backing_apart}

-- a backing that starts below another's frame and holds it is that one
module _ {d : ℕ → ℕ} (m : Machine) (o : Owing d m) where
  pub backings_apart : (f g x : ℕ) → f ≤ x → x < f + (backing_at m f).len → g ≤ x → x < g + (backing_at m g).len → f ≡ g
  backings_apart f g x a b c e = go (ltb f g) refl (ltb g f) refl
    where
      go : (u : Bool) → ltb f g ≡ u → (v : Bool) → ltb g f ≡ v → f ≡ g
      go true h v k = let l = backing_apart d m o f g (ltb-true f g h) (λ z. omega arith) (λ z. omega arith) in absurd (omega arith)
      go false h true k = let l = backing_apart d m o g f (ltb-true g f k) (λ z. omega arith) (λ z. omega arith) in absurd (omega arith)
      go false h false k = let y = ltb-false f g h in let z = ltb-false g f k in omega arith

  -- a process with a mapped page is open
  pub mapped_low : (p : ℕ) (x : Mapping) → In x (mapped_of m p) → p < 8
  unfolding mapped_of
  mapped_low p x i = go (ltb p 8) refl
    where
      go : (b : Bool) → ltb p 8 ≡ b → p < 8
      go true e = ltb-true p 8 e
      go false e = absurd (subst (λ (q : Process). In x (take q.mapped (part 128 p m.mapped))) closed i)
        where
          closed : get_or m.processes p no_process ≡ no_process
          closed = let a = o.sizes.processes in let b = ltb-false p 8 e in get_or-eq_default m.processes no_process {n = p} (omega arith)
