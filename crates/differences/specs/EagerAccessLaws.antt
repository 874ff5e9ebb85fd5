-- Laws of request 2026-02: eager populate gives neither NotWritable nor NotAccessible, on any machine; where regions agree it is the Rust's.
use Rattle.std.specs.Prelude.{◌≡◌, Bool, not, ◌&&◌, ◌||◌, eqb, ltb, get_or, Option, Some, None, Result, Ok, Err, ⊤}
use Rattle.std.proofs.Math.Path.{refl, ap, subst}
use Rattle.std.proofs.Common.{sym, ◌∙◌, inl, inr, true≢false, arith, eqb-true, ltb-false, le-leb, lt-ltb}
use Rattle.std.proofs.Math.Bool.{true, false, cond}
use Rattle.std.proofs.lemmas.Bool.{false≢true}
use mathlib.Core.List.{List, [], ◌∷◌}
use Prim.Native.Nat.{ℕ, zero, suc, ◌+◌, ◌/◌, ◌%◌, ◌≤◌}
use Rattle.model.specs.declared.Mapping.{Mapping}
use Rattle.address.specs.declared.PhysFrame.{PhysFrame}
use Rattle.answers.specs.declared.Refusal.{Refusal}
use Rattle.answers.specs.declared.Refusal.TheVariants.{BadTable, NoProcess}
use Rattle.answers.specs.Number.{number_of}
use Rattle.model.specs.declared.Region.{Region}
use Rattle.model.specs.declared.Backed.{Backed}
use Rattle.model.specs.declared.Backed.TheVariants.{ByEntry, ByRange, Unbacked}
use Rattle.model.specs.declared.Way.{Way}
use Rattle.model.specs.declared.Way.TheVariants.{Refuse, Already, Restore, Map, Copy, Fill}
use Rattle.model.specs.Machine.{Machine, State, mapped_of, region_at, order_of, row_of, no_region}
use Rattle.model.specs.Answers.{Try, leaving, fine, first_of, unless, and_then}
use Rattle.model.specs.Lookup.{contains, region_for, is_shared, is_private, is_open}
use Rattle.model.specs.Paging.{page_start, translate, well_mapped, is_user, is_writable}
use Rattle.model.specs.Backing.{backing}
use Rattle.model.specs.Fault.{mapped_way, backed_way, unbacked_way, translated_way, private_way, shared_way, fault_way, way_refusals, go_way, handle_fault}
use Rattle.model.specs.Populate.{next_start, populate_page, visit, visits, nothing_to_do, last_address, core_populate, eager_region, eager_access, eagerly, eagerly_each, core_populate_eager_copies}
use Rattle.model.specs.Refusals.{process_refusals}
use Rattle.model.specs.Calls as calls
use Rattle.model.specs.Sound.{Sound, Limits}
use Rattle.model.specs.SoundTest.{soundb}
use Rattle.model.specs.RecordLaws.{sound_tells}
use Rattle.laws.specs.BoolLaws.{clash, both_true, and_both}
use Rattle.laws.specs.In.{In}
use Rattle.keeping.specs.OwingOfSound.{sound_owing}
use Rattle.keeping.specs.PopulateKept.{page_kept, eagerly_kept}
use Rattle.keeping.specs.RegionsStay.{page_stays, eagerly_stays}
use Rattle.keeping.specs.GuardedKept.{passed}
use Rattle.isolation.specs.ViewLaws.{home_region}
use Rattle.differences.specs.EagerAccess.{is_eager_copy, rust_eagerly, rust_eagerly_each, rust_eager, agreed, Allowed}

-- ---- an answer by its number, 0 for success

why : Result ⊤ Refusal → ℕ
why (Ok tt) = 0
why (Err r) = number_of r

abbrev barred : Result ⊤ Refusal → Bool
unfolding why
barred d = eqb (why d) 13 || eqb (why d) 12

allowed : (d : Result ⊤ Refusal) → barred d ≡ false → Allowed d
unfolding why
allowed d e = ((λ k. clash (ap (λ (x : Result ⊤ Refusal). barred x) k) e), (λ k. clash (ap (λ (x : Result ⊤ Refusal). barred x) k) e))

-- the first of some refusals none of which is barred
abbrev Fair : List (Bool × Refusal) → Type 0
Fair [] = Unit {0}
Fair (t ∷ l) = (barred (Err t.1) ≡ false) × Fair l

first_fair : (l : List (Bool × Refusal)) → Fair l → barred (first_of l) ≡ false
unfolding first_of why
first_fair [] k = refl
first_fair (t ∷ l) k = go t.0 (first_fair l k.1)
  where
    go : (b : Bool) → barred (first_of l) ≡ false → barred (cond b (Err t.1) (first_of l)) ≡ false
    go true f = k.0
    go false f = f

-- one thing after another
then_fair : (t : Try) (f : State → Try) → barred t.answer ≡ false → barred (f t.state).answer ≡ false → barred (and_then t f).answer ≡ false
then_fair t f a b = go t.answer t.state a b
  where
    go : (d : Result ⊤ Refusal) (s : State) → barred d ≡ false → barred (f s).answer ≡ false → barred (and_then (leaving d s) f).answer ≡ false
    go (Ok tt) s a b = b
    go (Err r) s a b = a

-- ---- the ways of a fault whose access is the region's own

abbrev Open : Way → Type 0
Open (Refuse r) = barred (Err r) ≡ false
Open Already = Unit {0}
Open Restore = Unit {0}
Open (Map f flags) = Unit {0}
Open (Copy f) = Unit {0}
Open Fill = Unit {0}

pick : (x y : Way) (c : Bool) → (c ≡ true → Open x) → (c ≡ false → Open y) → Open (cond c x y)
pick x y true f g = f refl
pick x y false f g = g refl

not_first : (a b : Bool) → (not a || b) ≡ false → a ≡ true
not_first true b e = refl
not_first false b e = absurd (true≢false e)

module _ (r : Region) where
  abbrev w : Bool
  w = is_writable r.flags.0

  backed_open : (f : PhysFrame) (n : ℕ) → Open (backed_way r f n w)
  backed_open f n = pick _ _ w (λ u. pick _ _ (eqb n 1) (λ v. tt) (λ v. pick _ _ w (λ z. tt) (λ z. tt))) (λ u. pick _ _ w (λ v. clash v u) (λ v. tt))

  unbacked_open : Open (unbacked_way r w)
  unbacked_open = pick _ _ w (λ u. tt) (λ u. pick _ _ w (λ v. clash v u) (λ v. tt))

  mapped_open : (b : Backed) → w ≡ true → Open (mapped_way r b)
  unfolding why
  mapped_open (ByEntry i f n) e = pick _ _ w (λ u. pick _ _ (eqb n 1) (λ v. tt) (λ v. tt)) (λ u. clash e u)
  mapped_open (ByRange f n) e = pick _ _ w (λ u. pick _ _ (eqb n 1) (λ v. tt) (λ v. tt)) (λ u. clash e u)
  mapped_open Unbacked e = pick _ _ w (λ u. refl) (λ u. clash e u)

  translated_open : (t : Option Mapping) (b : Backed) → Open (translated_way r t b w)
  translated_open (Some x) b = pick _ _ (well_mapped (Some x) w) (λ u. tt) (λ u. mapped_open b (not_first w (is_writable x.flags.0) u))
  translated_open None (ByEntry i f n) = backed_open f n
  translated_open None (ByRange f n) = backed_open f n
  translated_open None Unbacked = unbacked_open

  private_open : is_user r.flags.0 ≡ true → (t : Option Mapping) (b : Backed) → Open (private_way r t b w)
  unfolding private_way
  private_open e t b = pick _ _ (is_user r.flags.0) (λ u. translated_open t b) (λ u. clash e u)

shared_open : (t : Option Mapping) (b : Backed) → Open (shared_way t b)
unfolding shared_way why
shared_open (Some x) b = tt
shared_open None (ByEntry i f n) = tt
shared_open None (ByRange f n) = tt
shared_open None Unbacked = refl

-- ---- a fault, a page, a walk over a region's pages

module _ (p slot : ℕ) (r : Region) (user : is_user r.flags.0 ≡ true) where
  way_open : (m : Machine) (page : ℕ) → region_at m p slot ≡ r → Open (fault_way m p slot page (is_writable r.flags.0))
  unfolding fault_way
  way_open m page e =
      subst (λ (x : Region). Open (cond (is_shared x) (shared_way (translate (mapped_of m p) page) (backing m p slot page)) (private_way x (translate (mapped_of m p) page) (backing m p slot page) (is_writable r.flags.0)))) (sym e)
      (pick _ _ (is_shared r) (λ u. shared_open _ _) (λ u. private_open r user _ _))

  way_fair : (m : Machine) (page : ℕ) (way : Way) → Open way → barred (first_of (way_refusals m p slot page way)) ≡ false
  unfolding way_refusals first_of why
  way_fair m page (Refuse x) k = k
  way_fair m page Already k = refl
  way_fair m page Restore k = refl
  way_fair m page (Map f flags) k = first_fair (way_refusals m p slot page (Map f flags)) (refl, tt)
  way_fair m page (Copy f) k = first_fair (way_refusals m p slot page (Copy f)) (refl, (refl, (refl, tt)))
  way_fair m page Fill k = first_fair (way_refusals m p slot page Fill) (refl, (refl, (refl, (refl, tt))))

  fault_fair : (s : State) (page : ℕ) → region_at s.machine p slot ≡ r → barred (handle_fault s p slot page (is_writable r.flags.0)).answer ≡ false
  unfolding handle_fault why
  fault_fair s page e = go (first_of (way_refusals s.machine p slot page way)) (way_fair s.machine page way (way_open s.machine page e))
    where
      way : Way
      way = fault_way s.machine p slot page (is_writable r.flags.0)

      go : (d : Result ⊤ Refusal) → barred d ≡ false → barred (unless d s (fine (go_way s p slot page way))).answer ≡ false
      go (Ok tt) k = refl
      go (Err x) k = k

  page_fair : (s : State) (page : ℕ) → region_at s.machine p slot ≡ r → barred (populate_page s p slot page (is_writable r.flags.0)).answer ≡ false
  unfolding populate_page why
  page_fair s page e = go (well_mapped (translate (mapped_of s.machine p) page) (is_writable r.flags.0))
    where
      go : (b : Bool) → barred (cond b (fine s) (handle_fault s p slot page (is_writable r.flags.0))).answer ≡ false
      go true = refl
      go false = fault_fair s page e

  -- pages that lie in the region, in rising order
  visit_fair : (n : ℕ) (s : State) → Sound s → (page last : ℕ) → In slot (order_of s.machine p) → region_at s.machine p slot ≡ r
      → ((pg : ℕ) → page ≤ pg → pg ≤ last → contains r (page_start pg) ≡ true) → barred (visit n s p page last (is_writable r.flags.0)).answer ≡ false
  unfolding visit why
  visit_fair zero s sound page last i e inside = refl
  visit_fair (suc n) s sound page last i e inside = go (ltb last page) refl (visit_fair n)
    where
      m : Machine
      m = s.machine

      w : Bool
      w = is_writable r.flags.0

      left : Bool → Option ℕ → Try
      left b x = elim b [
        | true ↦ fine s
        | false ↦ elim x [
          | Some t ↦ and_then (populate_page s p t page w) (λ u. visit n u p (page + 1) last w)
          | None ↦ elim (next_start s.machine p page) [
            | Some next ↦ visit n s p next last w
            | None ↦ fine s
          ]
        ]
      ]

      go : (b : Bool) → ltb last page ≡ b
          → ((s : State) → Sound s → (page last : ℕ) → In slot (order_of s.machine p) → region_at s.machine p slot ≡ r
          → ((pg : ℕ) → page ≤ pg → pg ≤ last → contains r (page_start pg) ≡ true) → barred (visit n s p page last (is_writable r.flags.0)).answer ≡ false)
          → barred (left b (region_for s.machine p (page_start page))).answer ≡ false
      go true q more = refl
      go false q more =
          let here : contains (region_at s.machine p slot) (page_start page) ≡ true = subst (λ (x : Region). contains x (page_start page) ≡ true) (sym e) (let k = ltb-false last page q in inside page (omega arith) (omega arith)) in
          let stays = page_stays s p slot page (is_writable r.flags.0) in
          subst (λ (x : Option ℕ). barred (left false x).answer ≡ false) (sym (home_region s.machine (sound_owing s sound) p (page_start page) slot i here))
          (then_fair (populate_page s p slot page (is_writable r.flags.0)) (λ u. visit n u p (page + 1) last (is_writable r.flags.0)) (page_fair s page e)
          (more (populate_page s p slot page (is_writable r.flags.0)).state (page_kept s sound p slot page (is_writable r.flags.0) i here) (page + 1) last
          (subst (λ (l : List ℕ). In slot l) (sym (stays.order p)) i) (ap (λ (l : List Region). get_or l (row_of p slot) no_region) stays.regions ∙ e) (λ pg a b. inside pg (omega arith) b)))

-- ---- a region, and all of them

module _ (p : ℕ) (s : State) (sound : Sound s) (slot : ℕ) (i : In slot (order_of s.machine p)) where
  abbrev region : Region
  region = region_at s.machine p slot

  abbrev first : ℕ
  first = region.start.0 / 4096

  abbrev last : ℕ
  last = last_address region.start.0 region.size / 4096

  module _ (q : eager_region region ≡ true) where
    copied : is_eager_copy region ≡ true
    copied = (both_true (is_eager_copy region) (is_user region.flags.0) q).0

    limits : Limits s.machine region
    limits = let k = eqb-true region.kind 1 (both_true (is_private region) (eqb region.fork 1) copied).0 in ((sound_owing s sound).regions (row_of p slot)).used (λ z. omega arith)

    inside : (pg : ℕ) → first ≤ pg → pg ≤ last → contains region (page_start pg) ≡ true
    inside pg a b =
        let even = eqb-true (region.start.0 % 4096) 0 limits.aligned_start in
        let some = limits.some in
        and_both (le-leb region.start.0 (page_start pg) (omega arith)) (lt-ltb (page_start pg) (region.start.0 + region.size) (omega arith))

    visited_fair : barred (visit visits s p first last (eager_access region)).answer ≡ false
    visited_fair = visit_fair p slot region (both_true (is_eager_copy region) (is_user region.flags.0) q).1 visits s sound first last i refl inside

  eagerly_fair : barred (eagerly s p slot).answer ≡ false
  unfolding eagerly core_populate why
  eagerly_fair = go (eager_region region) refl
    where
      walk : (b : Bool) → eager_region (region_at s.machine p slot) ≡ true
          → barred (cond b (fine s) (visit visits s p ((region_at s.machine p slot).start.0 / 4096) (last_address (region_at s.machine p slot).start.0 (region_at s.machine p slot).size / 4096) (eager_access (region_at s.machine p slot)))).answer ≡ false
      walk true q = refl
      walk false q = visited_fair q

      go : (b : Bool) → eager_region (region_at s.machine p slot) ≡ b
          → barred (cond b (core_populate s p (region_at s.machine p slot).start.0 (region_at s.machine p slot).size (eager_access (region_at s.machine p slot))) (fine s)).answer ≡ false
      go false q = refl
      go true q = walk (nothing_to_do (region_at s.machine p slot).start.0 (region_at s.machine p slot).size) q

module _ (p : ℕ) where
  each_fair : (l : List ℕ) (s : State) → Sound s → ((t : ℕ) → In t l → In t (order_of s.machine p)) → barred (eagerly_each l s p).answer ≡ false
  unfolding eagerly_each why
  each_fair [] s sound i = refl
  each_fair (slot ∷ l) s sound i =
      then_fair (eagerly s p slot) (λ u. eagerly_each l u p) (eagerly_fair p s sound slot (i slot (inl refl)))
      (each_fair l (eagerly s p slot).state (eagerly_kept s sound p slot) (λ t k. subst (λ (x : List ℕ). In t x) (sym ((eagerly_stays s p slot).order p)) (i t (inr k))))

  -- on any machine, sound or not
  pub eager_allowed : (s : State) → Allowed (calls.eager s p).answer
  unfolding calls.eager calls.guarded core_populate_eager_copies process_refusals why
  eager_allowed s = allowed (calls.eager s p).answer (go (first_of tests) refl)
    where
      tests : List (Bool × Refusal)
      tests = (not (soundb s), BadTable) ∷ (not (is_open s.machine p), NoProcess) ∷ []

      go : (d : Result ⊤ Refusal) → first_of ((not (soundb s), BadTable) ∷ (not (is_open s.machine p), NoProcess) ∷ []) ≡ d → barred (calls.decided d Err s (core_populate_eager_copies s p)).answer ≡ false
      go (Ok tt) e =
          let k = (passed ((not (soundb s), BadTable) ∷ (not (is_open s.machine p), NoProcess) ∷ []) e).0 in
          each_fair (order_of s.machine p) s ((sound_tells s).yes (yes (soundb s) k)) (λ t i. i)
        where
          yes : (b : Bool) → not b ≡ false → b ≡ true
          yes true q = refl
          yes false q = absurd (true≢false q)
      go (Err r) e = subst (λ (d : Result ⊤ Refusal). barred d ≡ false) e (first_fair ((not (soundb s), BadTable) ∷ (not (is_open s.machine p), NoProcess) ∷ []) (refl, (refl, tt)))

  -- ---- where both agree

  agreed_region : (s : State) (slot : ℕ) → agreed (region_at s.machine p slot) ≡ true → eagerly s p slot ≡ rust_eagerly s p slot
  unfolding eagerly rust_eagerly
  agreed_region s slot e = go (is_eager_copy (region_at s.machine p slot)) (is_user (region_at s.machine p slot).flags.0) (is_writable (region_at s.machine p slot).flags.0) e
    where
      go : (c u w : Bool) → (not c || (u && w)) ≡ true
          → cond (c && u) (core_populate s p (region_at s.machine p slot).start.0 (region_at s.machine p slot).size w) (fine s)
          ≡ cond c (core_populate s p (region_at s.machine p slot).start.0 (region_at s.machine p slot).size true) (fine s)
      go true true true k = refl
      go true true false k = absurd (false≢true k)
      go true false w k = absurd (false≢true k)
      go false u w k = refl

  agreed_each : (l : List ℕ) (s : State) → ((t : ℕ) → In t l → agreed (region_at s.machine p t) ≡ true) → eagerly_each l s p ≡ rust_eagerly_each l s p
  unfolding eagerly_each rust_eagerly_each
  agreed_each [] s k = refl
  agreed_each (slot ∷ l) s k =
      ap (λ (t : Try). and_then t (λ u. eagerly_each l u p)) (agreed_region s slot (k slot (inl refl)))
      ∙ then_same (rust_eagerly s p slot) (λ u. eagerly_each l u p) (λ u. rust_eagerly_each l u p)
      (agreed_each l (rust_eagerly s p slot).state (λ t i. subst (λ (x : State). agreed (region_at x.machine p t) ≡ true) (ap (λ (t : Try). t.state) (agreed_region s slot (k slot (inl refl))))
      (ap (λ (x : List Region). agreed (get_or x (row_of p t) no_region)) (eagerly_stays s p slot).regions ∙ k t (inr i))))
    where
      then_same : (t : Try) (f g : State → Try) → f t.state ≡ g t.state → and_then t f ≡ and_then t g
      then_same t f g e = go t.answer t.state e
        where
          go : (d : Result ⊤ Refusal) (s : State) → f s ≡ g s → and_then (leaving d s) f ≡ and_then (leaving d s) g
          go (Ok tt) s e = e
          go (Err r) s e = refl

  -- where every attached region agrees, eager populate is the Rust's, answer and state
  pub eager_stays : (s : State) → ((t : ℕ) → In t (order_of s.machine p) → agreed (region_at s.machine p t) ≡ true) → core_populate_eager_copies s p ≡ rust_eager s p
  unfolding core_populate_eager_copies rust_eager
  eager_stays s k = agreed_each (order_of s.machine p) s k
