-- Laws: populate, its refusals, nothing to do, or the walk.
use Rattle.std.specs.Prelude.{◌≡◌, Bool, ◌&&◌, cond, List, ℕ, ◌/◌, ◌^◌, ◌<◌, Result, Ok, Err, ⊤}
use Rattle.std.proofs.Math.Path.{refl, ap}
use Rattle.std.proofs.Common.{sym, ◌∙◌, arith}
use Rattle.std.proofs.Math.Bool.{true, false, not}
use borrow.Author.Tests.{ltb-true, not-true, not-false}
use Rattle.address.specs.Canonical.{user}
use Rattle.address.specs.declared.VirtAddr.{VirtAddr}
use Rattle.answers.specs.declared.Refusal.{Refusal}
use Rattle.answers.specs.declared.Refusal.TheVariants.{NoProcess, BadAddress, BadRange}
use Rattle.model.specs.Layout.{machine}
use Rattle.model.specs.Lookup.{is_open}
use Rattle.model.specs.Populate.{visit, visits, nothing_to_do, upper_last, last_address, core_populate}
use Rattle.model.specs.Refusals.{populate_refusals}
use Rattle.model.specs.SoundTest.{soundb}
use Rattle.model.specs.Calls.{populate}
use Rattle.rows.specs.LentMemory.{state_of, DoesWith}
use Rattle.lookup.specs.FirstOfLaws.{first_here, first_later, first_none, not_no, not_yes}
use Rattle.rows.specs.GuardedLaws.{refused, granted}
use Rattle.populate_visit.specs.declared.Span.{Span}
use Rattle.populate_visit.specs.declared.Span.TheVariants as span
use Rattle.populate_visit.specs.PageWalk.{span_of}

tag : Span → ℕ
tag span.Nothing = 0
tag span.Upper = 1
tag (span.To a) = 2

place : Span → ℕ
place span.Nothing = 0
place span.Upper = 0
place (span.To a) = a.0

module _ (a len : ℕ) (x : Span) (e : x ≡ span_of a len) where
  pub upper_told : x ≡ span.Upper → upper_last a len ≡ true
  unfolding upper_last tag
  upper_told g = go (nothing_to_do a len) (user (last_address a len)) (ap tag (sym e ∙ g))
    where
      go : (n u : Bool) → tag (cond n span.Nothing (cond u (span.To (record { 0 = last_address a len })) span.Upper)) ≡ 1 → (not n && not u) ≡ true
      go true true q = absurd (omega arith)
      go true false q = absurd (omega arith)
      go false true q = absurd (omega arith)
      go false false q = refl

  pub nothing_told : x ≡ span.Nothing → (nothing_to_do a len ≡ true) × (upper_last a len ≡ false)
  unfolding upper_last tag
  nothing_told g = go (nothing_to_do a len) (user (last_address a len)) (ap tag (sym e ∙ g))
    where
      go : (n u : Bool) → tag (cond n span.Nothing (cond u (span.To (record { 0 = last_address a len })) span.Upper)) ≡ 0 → (n ≡ true) × ((not n && not u) ≡ false)
      go true true q = (refl, refl)
      go true false q = (refl, refl)
      go false true q = absurd (omega arith)
      go false false q = absurd (omega arith)

  pub to_told : (l : VirtAddr) → x ≡ span.To l → (nothing_to_do a len ≡ false) × ((upper_last a len ≡ false) × ((l.0 ≡ last_address a len) × (l.0 < 2 ^ 47)))
  unfolding upper_last tag place
  to_told l g = go (nothing_to_do a len) (user (last_address a len)) refl (ap tag (sym e ∙ g)) (ap place (sym e ∙ g))
    where
      go : (n u : Bool) → user (last_address a len) ≡ u → tag (cond n span.Nothing (cond u (span.To (record { 0 = last_address a len })) span.Upper)) ≡ 2 → place (cond n span.Nothing (cond u (span.To (record { 0 = last_address a len })) span.Upper)) ≡ l.0 → (n ≡ false) × (((not n && not u) ≡ false) × ((l.0 ≡ last_address a len) × (l.0 < 2 ^ 47)))
      go true true t q r = absurd (omega arith)
      go true false t q r = absurd (omega arith)
      go false true t q r = let h = ltb-true (last_address a len) (2 ^ 47) t in (refl, (refl, (sym r, omega arith)))
      go false false t q r = absurd (omega arith)

module _ (w f b : List ℕ) (sound : soundb (state_of w f b) ≡ true) (p a len : ℕ) (write : Bool) (o : Bool) (opens : o ≡ is_open (machine w) p) where
  pub populate_closed : not o ≡ true → DoesWith (λ s. populate s p a len write) w f b w f (Err NoProcess)
  unfolding populate populate_refusals
  populate_closed h = refused (state_of w f b) (λ (q : Refusal). Err q) _ _ sound NoProcess (first_here _ NoProcess _ (not_no _ (sym opens ∙ not-true o h)))

  module _ (h : not o ≡ false) (u : Bool) (users : u ≡ user a) where
    open' : not (is_open (machine w) p) ≡ false
    open' = not_yes _ (sym opens ∙ not-false o h)

    pub populate_address : not u ≡ true → DoesWith (λ s. populate s p a len write) w f b w f (Err BadAddress)
    unfolding populate populate_refusals
    populate_address g = refused (state_of w f b) (λ (q : Refusal). Err q) _ _ sound BadAddress (first_later _ NoProcess _ _ open' (first_here _ BadAddress _ (not_no _ (sym users ∙ not-true u g))))

    module _ (g : not u ≡ false) (x : Span) (e : x ≡ span_of a len) where
      good : not (user a) ≡ false
      good = not_yes _ (sym users ∙ not-false u g)

      pub populate_upper : x ≡ span.Upper → DoesWith (λ s. populate s p a len write) w f b w f (Err BadRange)
      unfolding populate populate_refusals
      populate_upper k = refused (state_of w f b) (λ (q : Refusal). Err q) _ _ sound BadRange (first_later _ NoProcess _ _ open' (first_later _ BadAddress _ _ good (first_here _ BadRange _ (upper_told a len x e k))))

      pub populate_nothing : x ≡ span.Nothing → DoesWith (λ s. populate s p a len write) w f b w f (Ok tt)
      unfolding populate populate_refusals core_populate
      populate_nothing k =
          let t = nothing_told a len x e k in
          granted (state_of w f b) (λ (q : Refusal). Err q) _ _ sound (first_later _ NoProcess _ _ open' (first_later _ BadAddress _ _ good (first_later _ BadRange _ _ t.1 first_none)))
          ∙ rw t.0 refl

      pub populate_visits : (l : VirtAddr) → x ≡ span.To l → (first last : ℕ) → first ≡ a / 4096 → last ≡ l.0 / 4096 → (w' f' : List ℕ) (d : Result ⊤ Refusal) → DoesWith (λ s. visit visits s p first last write) w f b w' f' d → DoesWith (λ s. populate s p a len write) w f b w' f' d
      unfolding populate populate_refusals core_populate
      populate_visits l k first last i j w' f' d does =
          let t = to_told a len x e l k in
          granted (state_of w f b) (λ (q : Refusal). Err q) _ _ sound (first_later _ NoProcess _ _ open' (first_later _ BadAddress _ _ good (first_later _ BadRange _ _ t.1.0 first_none)))
          ∙ rw t.0 (sym (λ q. visit visits (state_of w f b) p (i q) ((j ∙ ap (λ (n : ℕ). n / 4096) t.1.1.0) q) write) ∙ does)

pub user_low : (a : ℕ) (u : Bool) → u ≡ user a → not u ≡ false → a < 2 ^ 47
user_low a u e h = ltb-true a (2 ^ 47) (sym e ∙ not-false u h)

pub last_low : (a len : ℕ) (x : Span) → x ≡ span_of a len → (l : VirtAddr) → x ≡ span.To l → (last : ℕ) → last ≡ l.0 / 4096 → last < 2 ^ 52
last_low a len x e l g last h = let k = (to_told a len x e l g).1.1.1 in omega arith
