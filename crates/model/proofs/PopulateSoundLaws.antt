-- On a sound machine populate is every page of its range in turn.
use Rattle.std.specs.Prelude.{◌≡◌, refl, Bool, true, false, ◌||◌, List, [], ◌∷◌, ℕ, zero, suc, ◌-◌, ◌/◌, ◌≤◌, ◌<◌, length, get_or, eqb}
use Rattle.std.proofs.Common.{sym, subst, zero-le, suc-le-suc, arith, length-take, eqb-true}
use Rattle.std.proofs.lemmas.Bool.{false≢true}
use Rattle.std.proofs.Math.Dec.{ltb}
use Rattle.laws.specs.Lists.{any, among}
use Rattle.model.specs.Machine.{Machine, State, process_at, region_at, row_of, order_of}
use Rattle.model.specs.Sound.{Sound}
use Rattle.model.specs.Populate.{every_page, visits, nothing_to_do, last_address, core_populate}
use Rattle.laws.specs.CountLaws.{count_most}
use Rattle.model.specs.MachineLaws.{mapped_length}
use Rattle.model.specs.VisitLaws.{Fits}
use Rattle.model.specs.PopulateLaws.{Aligned, visit_every}

-- a listed number stands at a place of the list
pub record Place (s : ℕ) (l : List ℕ) : Type 0 where
  pub at : ℕ
  pub inside : at < length l
  pub is : get_or l at 0 ≡ s

pub place_of : (s : ℕ) (l : List ℕ) → among s l ≡ true → Place s l
unfolding any
place_of s [] h = absurd (false≢true h)
place_of s (t ∷ l) h = go (eqb s t) refl h (place_of s l)
  where
    go : (b : Bool) → eqb s t ≡ b → (b || any (eqb s) l) ≡ true → (among s l ≡ true → Place s l) → Place s (t ∷ l)
    go true e k ih = record { at = zero; inside = suc-le-suc zero-le; is = sym (eqb-true s t e) }
    go false e k ih = let q = ih k in record { at = suc q.at; inside = suc-le-suc q.inside; is = q.is }

order_length : (m : Machine) (p : ℕ) → length (order_of m p) ≤ (process_at m p).attached
unfolding order_of
order_length m p = simp length-take (omega arith)

module _ (s : State) (sound : Sound s) (p : ℕ) (small : p < 8) where
  inside : p < length s.machine.processes
  inside = rw sound.r6.sized.processes small

  pub sound_fits : Fits s.machine p
  sound_fits =
      let a = mapped_length s.machine p in
      let b = (sound.r6.processes p inside).mapped in
      let c = sound.r6.sized.mapped in
      record { inside = inside; room = omega arith; few = omega arith }

  pub sound_aligned : Aligned s.machine p
  sound_aligned slot h =
      let q = place_of slot (order_of s.machine p) h in
      let listed = (sound.r6.ordered p inside).listed q.at q.inside in
      let low : slot < 64 = subst (λ (x : ℕ). x < 64) q.is listed.0 in
      let used = subst (λ (x : ℕ). (region_at s.machine p x).kind ≡ 0 → ⊥) q.is listed.1 in
      let size = sound.r6.sized.regions in
      eqb-true _ _ ((sound.r6.regions (row_of p slot) (omega arith)).used used).aligned_start

  -- RULES U1: populate visits pages in rising order, skips those mapped well enough and those in no region
  pub populate_every : (a len : ℕ) (w : Bool) → nothing_to_do a len ≡ false → core_populate s p a len w ≡ every_page (suc (last_address a len / 4096) - a / 4096) s p (a / 4096) w
  unfolding core_populate
  populate_every a len w e =
      let most = count_most (λ r. ltb (a / 4096) ((region_at s.machine p r).start.0 / 4096)) (order_of s.machine p) in
      let few = order_length s.machine p in
      let slots = (sound.r6.processes p inside).attached in
      rw e (visit_every p (last_address a len / 4096) w visits s (a / 4096) sound_fits sound_aligned (omega arith))
