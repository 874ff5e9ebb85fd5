-- A store changes no byte that another process sees in a private page, and none but its own in its own pages.
use Rattle.std.specs.Prelude.{◌≡◌, refl, ◌⊎◌, ◌≢◌, Bool, true, false, ◌&&◌, ◌||◌, not, cond, List, [], ◌∷◌, ℕ, ◌+◌, ◌*◌, ◌/◌, ◌%◌, ◌<◌, set, eqb, Option, Some, None}
use Rattle.std.proofs.Common.{ap, sym, subst, ◌∙◌, inl, inr, true≢false, arith, get_or-set_other, eqb-true, eq-eqb}
use Rattle.std.proofs.lemmas.Bool.{false≢true, not-false}
use Rattle.std.proofs.Math.Decide.{ℕ_discrete}
use Rattle.model.specs.declared.Mapping.{Mapping}
use Rattle.model.specs.Machine.{Machine, State, with_frames, region_at, row_of, mapped_of}
use Rattle.model.specs.Lookup.{contains}
use Rattle.laws.specs.BoolLaws.{both_true}
use Rattle.model.specs.Paging.{page_start, translate, is_writable, is_user}
use Rattle.model.specs.Access.{granted, page_at, byte_at, stored}
use Rattle.model.specs.Refusals.{access_refusals}
use Rattle.model.specs.Calls as calls
use Rattle.model.specs.Run.{Call, call, step}
use Rattle.model.specs.Sound.{Sound, Used}
use Rattle.model.specs.Posix.{home_slot, PrivateAt}
use Rattle.keeping.specs.GuardedKept.{Passed}
use Rattle.laws.specs.In.{In}
use Rattle.keeping.specs.Owing.{Owing, Placed, Backs, nothing}
use Rattle.keeping.specs.OwingOfSound.{sound_owing}
use Rattle.isolation.specs.Statements.{Stays, touches}
use Rattle.isolation.specs.ViewLaws.{Home, home_at, at_home, kind_at_home, kind_none, view_none}
use Rattle.isolation.specs.Undisturbed.{Undisturbed, Same, same_undisturbed, guarded_same, same_stays, CallStays}
use Rattle.isolation.specs.BackingsApart.{mapped_low}
use Rattle.isolation.specs.LoneHolder.{same_base, alone, shared_else}

-- what a page translates to is mapped
pub translated : (l : List Mapping) (pg : ℕ) (x : Mapping) → translate l pg ≡ Some x → In x l × (x.page.0 ≡ pg)
unfolding translate
translated [] pg x e = let z : ◌≡◌ {A = ℕ} 0 1 = cc in absurd (omega arith)
translated (y ∷ l) pg x e = go (eqb y.page.0 pg) refl e (translated l pg x)
  where
    go : (b : Bool) → eqb y.page.0 pg ≡ b → cond b (Some y) (translate l pg) ≡ Some x → (translate l pg ≡ Some x → In x l × (x.page.0 ≡ pg)) → In x (y ∷ l) × (x.page.0 ≡ pg)
    go true p q more = let z : y ≡ x = cc in (inl (sym z), ap (λ (w : Mapping). w.page.0) (sym z) ∙ eqb-true y.page.0 pg p)
    go false p q more = let k = more q in (inr k.0, k.1)

-- a granted access is through a mapping
pub grants : (t : Option Mapping) (w : Bool) → granted t w ≡ true → (x : Mapping) × ((t ≡ Some x) × ((not w || is_writable x.flags.0) ≡ true))
grants None w e = absurd (false≢true e)
grants (Some x) w e = (x, (refl, (both_true (is_user x.flags.0) (not w || is_writable x.flags.0) e).1))

module _ (m : Machine) (o : Owing nothing m) (p a : ℕ) (granted_here : granted (page_at m p a) true ≡ true) where
  -- the byte that a store writes is no other page's, where one of the two pages is private
  abbrev pub Apart : ℕ → ℕ → Type 0
  Apart q t = ((region_at m q t).kind ≢ 3) ⊎ ((slot : ℕ) → Home m p slot (a / 4096) → (region_at m p slot).kind ≢ 3)

  pub store_apart : (q c t base fr : ℕ) → Home m q t (c / 4096) → Apart q t → Backs m (row_of q t) (c / 4096) base fr → (p ≡ q → a ≡ c → ⊥) → byte_at (page_at m p a) a ≢ fr * 4096 + c % 4096
  store_apart q c t base fr home private b other e = go (grants (page_at m p a) true granted_here)
    where
      go : (x : Mapping) × ((page_at m p a ≡ Some x) × ((not true || is_writable x.flags.0) ≡ true)) → ⊥
      go (x, (tr, wr)) = at (o.mapped p low x inside.0)
        where
          inside : In x (mapped_of m p) × (x.page.0 ≡ a / 4096)
          inside = translated (mapped_of m p) (a / 4096) x tr

          low : p < 8
          low = mapped_low m o p x inside.0

          place : x.frame.0 * 4096 + a % 4096 ≡ fr * 4096 + c % 4096
          place = ap (λ (y : Option Mapping). byte_at y a) (sym tr) ∙ e

          frame : x.frame.0 ≡ fr
          frame = let h = place in omega arith

          offset : a % 4096 ≡ c % 4096
          offset = let h = place in omega arith

          used : Used (region_at m q t)
          used = (o.listed q t home.low home.listed).1

          at : Placed m p x → ⊥
          at k = kind (ℕ_discrete (region_at m p k.slot).kind 3)
            where
              backs : Backs m (row_of p k.slot) x.page.0 k.base fr
              backs = subst (λ (f : ℕ). Backs m (row_of p k.slot) x.page.0 k.base f) frame k.backed

              same : k.base ≡ base
              same = same_base m o (row_of p k.slot) (row_of q t) x.page.0 (c / 4096) k.base base fr backs b

              theirs : Backs m (row_of q t) (c / 4096) k.base fr
              theirs = subst (λ (f : ℕ). Backs m (row_of q t) (c / 4096) f fr) (sym same) b

              mine : Home m p k.slot (a / 4096)
              mine = record { low = low; listed = k.listed; inside = subst (λ (i : ℕ). contains (region_at m p k.slot) (page_start i) ≡ true) inside.1 k.inside }

              shared : (region_at m p k.slot).kind ≡ 3 → Apart q t → ⊥
              shared z (inl u) = shared_else m o (row_of p k.slot) (row_of q t) x.page.0 (c / 4096) k.base fr fr used z u backs theirs
              shared z (inr u) = u k.slot mine z

              kind : Dec ((region_at m p k.slot).kind ≡ 3) → ⊥
              kind (yes z) = shared z private
              kind (no z) =
                  let one = k.flagged.lone z wr in
                  let mine = o.listed p k.slot low k.listed in
                  let r = alone m o k.base one (row_of p k.slot) (row_of q t) x.page.0 (c / 4096) fr mine.1 used k.inside home.inside backs theirs in
                  let r0 = r.0 in
                  let r1 = r.1 in
                  let i1 = inside.1 in
                  let l0 = mine.0 in
                  let l1 = (o.listed q t home.low home.listed).0 in
                  let o1 = offset in
                  other (omega arith) (omega arith)

-- a test that is false, of two that hold
pub not_both : (p q a c : ℕ) → (eqb p q && eqb a c) ≡ false → p ≡ q → a ≡ c → ⊥
not_both p q a c e x y = true≢false (sym (rw (eq-eqb p q x, eq-eqb a c y) refl) ∙ e)

abbrev after : State → ℕ → ℕ → ℕ → State
after s p a b = with_frames s (set s.frames (byte_at (page_at s.machine p a) a) b)

-- what is seen stays, where one of the two pages is private
pub store_same : (s : State) → Sound s → (p a b q c : ℕ) → granted (page_at s.machine p a) true ≡ true → PrivateAt s q c ⊎ PrivateAt s p a → (p ≡ q → a ≡ c → ⊥) → Same s (stored s p a b) q c
unfolding stored
store_same s sound p a b q c g private other = go (home_slot s q c) refl
  where
    o : Owing nothing s.machine
    o = sound_owing s sound

    apart : (t : ℕ) → home_slot s q c ≡ Some t → PrivateAt s q c ⊎ PrivateAt s p a → Apart s.machine o p a g q t
    apart t e (inl k) = inl (λ z. k.unshared (kind_at_home s q c t e ∙ z))
    apart t e (inr k) = inr (λ u h z. k.unshared (kind_at_home s p a u (at_home s.machine o p (a / 4096) u h) ∙ z))

    un : (t : ℕ) → home_slot s q c ≡ Some t → Undisturbed s (after s p a b) q t (c / 4096) (c % 4096)
    un t e =
        let home = home_at s.machine o q (c / 4096) t e in
        record {
          bytes = refl;
          files = refl;
          look = refl;
          ranged = refl;
          range = refl;
          forth = λ i u z. refl;
          back = λ i u z. refl;
          frames = λ base fr k. get_or-set_other s.frames (byte_at (page_at s.machine p a) a) (fr * 4096 + c % 4096) b 0 (λ z. store_apart s.machine o p a g q c t base fr home (apart t e private) k other (sym z));
          listed = home.listed;
        }

    go : (x : Option ℕ) → home_slot s q c ≡ x → Same s (after s p a b) q c
    go None e = record { seen = view_none (after s p a b) q c e ∙ sym (view_none s q c e); kind = kind_none (after s p a b) q c e ∙ sym (kind_none s q c e) }
    go (Some t) e = same_undisturbed s (after s p a b) o o q c t e (un t e)

pub store_core : (s : State) → Sound s → (p a b q c : ℕ) → granted (page_at s.machine p a) true ≡ true → PrivateAt s q c → (p ≡ q → a ≡ c → ⊥) → Stays s (stored s p a b) q c
store_core s sound p a b q c g private other = same_stays private (store_same s sound p a b q c g (inl private) other)

-- the tests of an access: the page is mapped with the access
pub access_granted : (s : State) (p a : ℕ) (w : Bool) → Passed (access_refusals s p a w) → granted (page_at s.machine p a) w ≡ true
unfolding access_refusals
access_granted s p a w k = not-false _ k.1.1.0

pub stay_same : (s : State) (q c : ℕ) → PrivateAt s q c → Stays s s q c
stay_same s q c k = record { seen = refl; private = k }

pub store_stays : (p a b : ℕ) → CallStays (Call.store p a b)
unfolding step call calls.store touches
store_stays p a b s sound q c private free = guarded_same s _ (access_refusals s p a true) _ (λ x. Stays s x q c) (stay_same s q c private) (λ k. store_core s sound p a b q c (access_granted s p a true k) private (not_both p q a c free))
