-- Laws: a tour of a process's regions, region by region.
use Rattle.std.specs.Prelude.{◌≡◌, Bool, true, false, ◌&&◌, not, ℕ, ◌+◌, ◌-◌, ◌*◌, ◌/◌, ◌^◌, ◌≤◌, ◌<◌, length, get_or, drop, eqb, Result, Ok, Err, ⊤}
use Rattle.std.proofs.Math.Path.{refl, ap, sym}
use Rattle.std.proofs.Common.{subst, ◌∙◌, not-suc-le-zero, arith, add-one, drop_of_length-le, drop-cons}
use Rattle.std.proofs.Math.Bool.{cond}
use mathlib.Core.List.{List, ◌∷◌}
use borrow.Author.Tests.{eq-eqb, ne_eqb, eqb-true, lt-ltb, lt-leb, not-true, not-false}
use Rattle.address.specs.Canonical.{canonical}
use Rattle.laws.specs.ResultLaws.{err_not_ok}
use Rattle.laws.specs.TellsLaws.{told}
use Rattle.answers.specs.declared.Refusal.{Refusal}
use Rattle.model.specs.declared.Region.{Region}
use Rattle.model.specs.Layout.{machine}
use Rattle.model.specs.Machine.{State, region_at, row_of, order_of}
use Rattle.model.specs.Lookup.{is_private}
use Rattle.model.specs.Paging.{is_user}
use Rattle.laws.specs.BoolLaws.{both_true}
use Rattle.model.specs.Answers.{Try, leaving, fine, first_of, and_then}
use Rattle.model.specs.Populate.{visit, visits, nothing_to_do, core_populate, eager_region, eager_access, eagerly, eagerly_each, core_populate_eager_copies}
use Rattle.model.specs.Refusals.{process_refusals}
use Rattle.model.specs.Sound.{Sound, Limits}
use Rattle.model.specs.SoundTest.{soundb}
use Rattle.model.specs.RecordLaws.{sound_tells}
use Rattle.model.specs.Calls.{eager}
use Rattle.rows.specs.LentMemory.{state_of, words_alone, DoesWith}
use Rattle.lookup.specs.AttachedLaws.{order_slot}
use Rattle.rows.specs.GuardedLaws.{refused, granted}
use Rattle.keeping.specs.OwingOfSound.{sound_owing}
use Rattle.keeping.specs.PopulateKept.{eagerly_kept}
use Rattle.keeping.specs.RegionsStay.{eagerly_stays}
use Rattle.populate_eager.specs.Tour.{Tour, tour_after, Stepped}

pub eager_kind : (r : Region) → (r.kind ≡ 1 → ⊥) → false ≡ eager_region r
eager_kind r n = rw (ne_eqb r.kind 1 n) refl

pub eager_fork : (r : Region) → r.kind ≡ 1 → (r.fork ≡ 1 → ⊥) → false ≡ eager_region r
eager_fork r e n = rw (eq-eqb r.kind 1 e, ne_eqb r.fork 1 n) refl

pub eager_user : (r : Region) → r.kind ≡ 1 → r.fork ≡ 1 → (b : Bool) → b ≡ is_user r.flags.0 → b ≡ eager_region r
eager_user r e f b g = g ∙ rw (eq-eqb r.kind 1 e, eq-eqb r.fork 1 f) refl

module _ (w f b : List ℕ) (sound : soundb (state_of w f b) ≡ true) (p slot : ℕ) (r : Region) (row : r ≡ region_at (machine w) p slot) (c : Bool) (test : c ≡ eager_region r) where
  kept : Sound (state_of w f b)
  kept = (sound_tells (state_of w f b)).yes sound

  pub slot_not : not c ≡ true → DoesWith (λ s. eagerly s p slot) w f b w f (Ok tt)
  unfolding eagerly
  slot_not h = rw (sym (ap (λ (x : Region). eager_region x) row) ∙ sym test ∙ not-true c h) refl

  module _ (h : not c ≡ false) where
    limits : Limits (machine w) (region_at (machine w) p slot)
    limits = let k = eqb-true r.kind 1 (both_true (is_private r) (eqb r.fork 1) (both_true (is_private r && eqb r.fork 1) (is_user r.flags.0) (sym test ∙ not-false c h)).0).0 in let e = ap (λ (x : Region). x.kind) row in ((sound_owing (state_of w f b) kept).regions (row_of p slot)).used (λ z. omega arith)

    pub slot_size : (1 ≤ r.size) × (r.start.0 + r.size ≤ 2 ^ 47)
    slot_size = let some = limits.some in let end = limits.user_segment in let a = ap (λ (x : Region). x.size) row in let d = ap (λ (x : Region). x.start.0) row in (omega arith, omega arith)

    todo : nothing_to_do r.start.0 r.size ≡ false
    unfolding nothing_to_do canonical
    todo =
        let k = slot_size in
        let a = k.0 in
        let d = k.1 in
        rw (ne_eqb r.size 0 (λ z. omega arith), lt-leb (2 ^ 64) (r.start.0 + (r.size - 1)) (omega arith), lt-ltb (r.start.0 + (r.size - 1)) (2 ^ 47) (omega arith)) refl

    pub slot_visits : (first last : ℕ) (write : Bool) → first ≡ r.start.0 / 4096 → last ≡ (r.start.0 + (r.size - 1)) / 4096 → write ≡ eager_access r
        → (w' f' : List ℕ) (d : Result ⊤ Refusal) → DoesWith (λ s. visit visits s p first last write) w f b w' f' d → DoesWith (λ s. eagerly s p slot) w f b w' f' d
    unfolding eagerly core_populate
    slot_visits first last write i j a w' f' d does =
        rw (sym (ap (λ (x : Region). eager_region x) row) ∙ sym test ∙ not-false c h)
        (sym (ap (λ (x : Region). core_populate (state_of w f b) p x.start.0 x.size (eager_access x)) row)
        ∙ ap (λ (n : Bool). cond n (fine (state_of w f b)) (visit visits (state_of w f b) p (r.start.0 / 4096) ((r.start.0 + (r.size - 1)) / 4096) (eager_access r))) todo
        ∙ sym (λ q. visit visits (state_of w f b) p (i q) (j q) (a q))
        ∙ does)

pub after_refused : (next left : ℕ) (d : Result ⊤ Refusal) (r : Refusal) → d ≡ Err r → record { next = 0; left = 0; done = Err r } ≡ tour_after next left d
after_refused next left d r e = ap (λ (y : Result ⊤ Refusal). tour_after next left y) (sym e)

pub after_done : (next left : ℕ) (d : Result ⊤ Refusal) → d ≡ Ok tt → record { next = next + 1; left = left - 1; done = Ok tt } ≡ tour_after next left d
after_done next left d e = ap (λ (y : Result ⊤ Refusal). tour_after next left y) (sym e)

-- what is left of a tour of a list
abbrev pub resume : ℕ → List ℕ → Tour → State → Try
resume p l v s = and_then (leaving v.done s) (λ t. eagerly_each (drop v.next l) t p)

-- the tour so far: what is left gives what the whole gives, of the list that there was
pub record Touring (p : ℕ) (l : List ℕ) (all : Try) (at : Tour) (w f b : List ℕ) : Type 0 where
  pub same : resume p l at (state_of w f b) ≡ all
  pub sound : soundb (state_of w f b) ≡ true
  pub order : order_of (machine w) p ≡ l
  pub few : length l ≤ 64
  pub counts : at.done ≡ Ok tt → at.next + at.left ≡ length l
  pub goes : 0 < at.left → at.done ≡ Ok tt

pub touring_first : (w f b : List ℕ) → soundb (state_of w f b) ≡ true → (p n : ℕ) → n ≡ length (order_of (machine w) p) → n ≤ 64 → Touring p (order_of (machine w) p) (core_populate_eager_copies (state_of w f b) p) (record { next = 0; left = n; done = Ok tt }) w f b
unfolding core_populate_eager_copies
touring_first w f b sound p n e h = record { same = refl; sound = sound; order = refl; few = omega arith; counts = λ z. omega arith; goes = λ z. refl }

pub touring_low : (p : ℕ) (l : List ℕ) (all : Try) (at : Tour) (w f b : List ℕ) → Touring p l all at w f b → 0 < at.left → at.next < 64
touring_low p l all at w f b k h = let c = k.counts (k.goes h) in let d = k.few in omega arith

pub touring_done : (p : ℕ) (l : List ℕ) (all : Try) (at : Tour) (w f b : List ℕ) → Touring p l all at w f b → at.left ≤ 0 → all ≡ leaving at.done (state_of w f b)
unfolding eagerly_each
touring_done p l all at w f b k h = sym k.same ∙ go at.done k.counts
  where
    go : (d : Result ⊤ Refusal) → (d ≡ Ok tt → at.next + at.left ≡ length l) → and_then (leaving d (state_of w f b)) (λ t. eagerly_each (drop at.next l) t p) ≡ leaving d (state_of w f b)
    go (Ok tt) c = let z = c refl in let past : length l ≤ at.next = omega arith in ap (λ (x : List ℕ). eagerly_each x (state_of w f b) p) (drop_of_length-le l past)
    go (Err r) c = refl

pub touring_less : (p : ℕ) (at : Tour) (w f b : List ℕ) (r : Tour) (w' f' : List ℕ) → Stepped p at w f b r w' f' → 0 < at.left → r.left < at.left
touring_less p at w f b r w' f' k h = subst (λ (v : Tour). v.left < at.left) (sym k.next) (go k.done)
  where
    go : (d : Result ⊤ Refusal) → (tour_after at.next at.left d).left < at.left
    go (Ok tt) = omega arith
    go (Err q) = h

module _ (p : ℕ) (l : List ℕ) (all : Try) (at : Tour) (w f b : List ℕ) (k : Touring p l all at w f b) (some : 0 < at.left) (r : Tour) (w' f' : List ℕ) (g : Stepped p at w f b r w' f') where
  abbrev s : State
  s = state_of w f b

  slot_is : g.slot ≡ get_or l at.next 0
  slot_is =
      let c = k.counts (k.goes some) in
      let size = ap (λ (x : List ℕ). length x) k.order in
      let few = k.few in
      order_slot w p (length (order_of (machine w) p)) refl (omega arith) at.next g.slot (omega arith) g.here
      ∙ ap (λ (x : List ℕ). get_or x at.next 0) k.order

  -- the list from here on begins with that slot
  list_is : drop at.next l ≡ g.slot ∷ drop (at.next + 1) l
  list_is =
      let c = k.counts (k.goes some) in
      drop-cons l at.next 0 (omega arith)
      ∙ (λ i. sym slot_is i ∷ drop (sym (add-one at.next) i) l)

  stepped_same : resume p l r (state_of w' f' b) ≡ all
  unfolding eagerly_each
  stepped_same =
      ap (λ (v : Tour). resume p l v (state_of w' f' b)) g.next
      ∙ go g.done
      ∙ sym (ap (λ (y : Try). and_then y (λ t. eagerly_each (drop (at.next + 1) l) t p)) g.does)
      ∙ sym (ap (λ (x : List ℕ). eagerly_each x s p) list_is)
      ∙ ap (λ (d : Result ⊤ Refusal). and_then (leaving d s) (λ t. eagerly_each (drop at.next l) t p)) (sym (k.goes some))
      ∙ k.same
    where
      go : (d : Result ⊤ Refusal) → resume p l (tour_after at.next at.left d) (state_of w' f' b) ≡ and_then (leaving d (state_of w' f' b)) (λ t. eagerly_each (drop (at.next + 1) l) t p)
      go (Ok tt) = refl
      go (Err q) = refl

  pub touring_more : Touring p l all r w' f' b
  touring_more =
      record {
        same = stepped_same;
        sound = told (sound_tells (state_of w' f' b)) (subst (λ (y : Try). Sound y.state) g.does (eagerly_kept s ((sound_tells s).yes k.sound) p g.slot));
        order = sym (ap (λ (y : Try). order_of y.state.machine p) g.does) ∙ (eagerly_stays s p g.slot).order p ∙ k.order;
        few = k.few;
        counts = subst (λ (v : Tour). v.done ≡ Ok tt → v.next + v.left ≡ length l) (sym g.next) (counted g.done);
        goes = subst (λ (v : Tour). 0 < v.left → v.done ≡ Ok tt) (sym g.next) (going g.done);
      }
    where
      counted : (d : Result ⊤ Refusal) → (tour_after at.next at.left d).done ≡ Ok tt → (tour_after at.next at.left d).next + (tour_after at.next at.left d).left ≡ length l
      counted (Ok tt) z = let c = k.counts (k.goes some) in omega arith
      counted (Err q) z = absurd (err_not_ok z)

      going : (d : Result ⊤ Refusal) → 0 < (tour_after at.next at.left d).left → (tour_after at.next at.left d).done ≡ Ok tt
      going (Ok tt) z = refl
      going (Err q) z = absurd (not-suc-le-zero z)

-- ---- a list gone through place by place

module _ (p : ℕ) (l : List ℕ) (all : Try) (i n : ℕ) (w f b : List ℕ) (k : Touring p l all (record { next = i; left = n - i; done = Ok tt }) w f b) (some : i < n) (slot : ℕ) (here : slot ≡ get_or (machine w).order (p * 64 + i) 0) (d : Result ⊤ Refusal) (w' f' : List ℕ) (does : eagerly (state_of w f b) p slot ≡ leaving d (state_of w' f' b)) where
  abbrev at : Tour
  at = record { next = i; left = n - i; done = Ok tt }

  stepped : Stepped p at w f b (tour_after i (n - i) d) w' f'
  stepped = record { slot = slot; here = here; done = d; does = does; next = refl }

  stepped_on : Touring p l all (tour_after i (n - i) d) w' f' b
  stepped_on = touring_more p l all at w f b k (omega arith) (tour_after i (n - i) d) w' f' stepped

  pub touring_next : d ≡ Ok tt → Touring p l all (record { next = i + 1; left = n - (i + 1); done = Ok tt }) w' f' b
  touring_next e =
      let less : n - i - 1 ≡ n - (i + 1) = omega arith in
      subst (λ (x : ℕ). Touring p l all (record { next = i + 1; left = x; done = Ok tt }) w' f' b) less (subst (λ (y : Result ⊤ Refusal). Touring p l all (tour_after i (n - i) y) w' f' b) e stepped_on)

  pub touring_ends : (r : Refusal) → d ≡ Err r → all ≡ leaving (Err r) (state_of w' f' b)
  touring_ends r e = touring_done p l all (record { next = 0; left = 0; done = Err r }) w' f' b (subst (λ (y : Result ⊤ Refusal). Touring p l all (tour_after i (n - i) y) w' f' b) e stepped_on) (omega arith)

-- ---- the call

module _ (w f b : List ℕ) (sound : soundb (state_of w f b) ≡ true) (p : ℕ) where
  pub eager_refused : (r : Refusal) → Err r ≡ first_of (process_refusals (words_alone w) p) → DoesWith (λ s. eager s p) w f b w f (Err r)
  unfolding eager process_refusals
  eager_refused r e = refused (state_of w f b) (λ (q : Refusal). Err q) _ _ sound r e

  pub eager_done : Ok tt ≡ first_of (process_refusals (words_alone w) p) → (w' f' : List ℕ) (d : Result ⊤ Refusal) → DoesWith (λ s. core_populate_eager_copies s p) w f b w' f' d → DoesWith (λ s. eager s p) w f b w' f' d
  unfolding eager process_refusals
  eager_done e w' f' d k = granted (state_of w f b) (λ (q : Refusal). Err q) _ _ sound e ∙ k
