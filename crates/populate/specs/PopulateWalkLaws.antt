-- Laws: a walk over pages, step by step.
use Rattle.std.specs.Prelude.{◌≡◌, Bool, cond, List, ltb, Option, Some, None, Result, Ok, Err, ⊤}
use Rattle.std.proofs.Math.Path.{refl, ap, sym, subst}
use Rattle.std.proofs.Common.{◌∙◌, not-suc-le-zero, lt-ltb, le-ltb}
use Rattle.std.proofs.Math.Bool.{true, false}
use Prim.Native.Nat.{ℕ, zero, suc, ◌+◌, ◌-◌, ◌^◌, ◌≤◌, ◌<◌}
use native.Mathlib.Omega.{arith}
use Rattle.model.specs.declared.Mapping.{Mapping}
use Rattle.answers.specs.declared.Refusal.{Refusal}
use Rattle.address.specs.Pages.{start_of}
use Rattle.address.specs.PagesLaws.{start_exact}
use Rattle.laws.specs.TellsLaws.{told}
use Rattle.model.specs.Layout.{machine}
use Rattle.model.specs.Machine.{Machine, State, region_at, order_of, mapped_of}
use Rattle.model.specs.Lookup.{contains, region_for}
use Rattle.model.specs.LookupLaws.{first_found}
use Rattle.model.specs.Answers.{Try, leaving, fine, and_then}
use Rattle.model.specs.Paging.{page_start, translate, well_mapped}
use Rattle.model.specs.Fault.{handle_fault}
use Rattle.model.specs.Populate.{next_start, populate_page, visit}
use Rattle.model.specs.Sound.{Sound}
use Rattle.model.specs.SoundTest.{soundb}
use Rattle.model.specs.RecordLaws.{sound_tells}
use Rattle.rows.specs.LentMemory.{state_of, DoesWith}
use Rattle.laws.specs.InListsLaws.{among_in}
use Rattle.keeping.specs.Owing.{nothing}
use Rattle.keeping.specs.OwingOfSound.{sound_owing}
use Rattle.keeping.specs.FaultKept.{fault_core}
use Rattle.keeping.specs.OwingLaws.{listed_open}
use Rattle.fault.specs.Goes.{FaultFits}
use Rattle.fault.specs.GoesLaws.{fits_sound}
use Rattle.populate_visit.specs.declared.Visit.{Visit}
use Rattle.populate_visit.specs.PageWalk.{ended, gap_visit, page_visit}
use Rattle.populate.specs.PopulateWalk.{resume, Stepped}

-- ---- one page

module _ (w f b : List ℕ) (p slot page : ℕ) (write : Bool) where
  module _ (t : Option Mapping) (e : t ≡ translate (mapped_of (machine w) p) page) (c : Bool) (g : c ≡ well_mapped t write) where
    tested : well_mapped (translate (mapped_of (machine w) p) page) write ≡ c
    tested = sym (g ∙ ap (λ (x : Option Mapping). well_mapped x write) e)

    pub page_well : c ≡ true → DoesWith (λ s. populate_page s p slot page write) w f b w f (Ok tt)
    unfolding populate_page
    page_well h = rw (tested ∙ h) refl

    pub page_fault : c ≡ false → (w' f' : List ℕ) (d : Result ⊤ Refusal) → DoesWith (λ s. handle_fault s p slot page write) w f b w' f' d → DoesWith (λ s. populate_page s p slot page write) w f b w' f' d
    unfolding populate_page
    page_fault h w' f' d k = rw (tested ∙ h) k

  -- it leaves a sound machine
  pub page_sound : FaultFits w f b p slot page → (w' f' : List ℕ) (d : Result ⊤ Refusal) → DoesWith (λ s. populate_page s p slot page write) w f b w' f' d → soundb (state_of w' f' b) ≡ true
  unfolding populate_page
  page_sound fits w' f' d k = told (sound_tells (state_of w' f' b)) (subst (λ (x : Try). Sound x.state) k (go (well_mapped (translate (mapped_of (machine w) p) page) write)))
    where
      go : (c : Bool) → Sound (cond c (fine (state_of w f b)) (handle_fault (state_of w f b) p slot page write)).state
      go true = fits_sound w f b p slot page fits
      go false = fault_core (state_of w f b) (fits_sound w f b p slot page fits) p slot page fits.listed fits.inside write

-- a region looked up at a page's start
pub at_start : (m : Machine) (p page last a : ℕ) → a ≡ start_of page → page ≤ last → last < 2 ^ 52 → (x : Option ℕ) → x ≡ region_for m p a → x ≡ region_for m p (page_start page)
at_start m p page last a e h k x g = let exact = start_exact page (omega arith) in g ∙ ap (λ (i : ℕ). region_for m p i) (e ∙ exact)

-- a region that was found is one of an open process
pub found_fits : (w f b : List ℕ) → soundb (state_of w f b) ≡ true → (p slot page : ℕ) (x : Option ℕ) → x ≡ region_for (machine w) p (page_start page) → x ≡ Some slot → FaultFits w f b p slot page
unfolding region_for
found_fits w f b sound p slot page x e g =
    let k = first_found (λ (t : ℕ). contains (region_at (machine w) p t) (page_start page)) (order_of (machine w) p) slot (sym e ∙ g) in
    let listed = among_in slot (order_of (machine w) p) k.1 in
    record { sound = sound; opened = listed_open nothing (machine w) (sound_owing (state_of w f b) ((sound_tells (state_of w f b)).yes sound)) p slot listed; listed = listed; inside = k.0 }

-- ---- the walk, with a step at least left

module _ (s : State) (p page last : ℕ) (w : Bool) where
  -- a step, by what is looked up
  abbrev body : ℕ → Bool → Option ℕ → Option ℕ → Try
  body n b x y = elim b as (λ z. Try) [ true ↦ fine s | false ↦ elim x as (λ z. Try) [ Some slot ↦ and_then (populate_page s p slot page w) (λ t. visit n t p (page + 1) last w) | None ↦ elim y as (λ z. Try) [ Some next ↦ visit n s p next last w | None ↦ fine s ] ] ]

  visit_body : (k : ℕ) → 0 < k → visit k s p page last w ≡ body (k - 1) (ltb last page) (region_for s.machine p (page_start page)) (next_start s.machine p page)
  unfolding visit
  visit_body zero h = absurd (not-suc-le-zero h)
  visit_body (suc n) h = let z : n ≡ suc n - 1 = omega arith in ap (λ (k : ℕ). body k (ltb last page) (region_for s.machine p (page_start page)) (next_start s.machine p page)) z

  visit_past : (k : ℕ) → 0 < k → last < page → visit k s p page last w ≡ fine s
  visit_past k h l = visit_body k h ∙ ap (λ (b : Bool). body (k - 1) b (region_for s.machine p (page_start page)) (next_start s.machine p page)) (lt-ltb last page l)

  visit_found : (k : ℕ) → 0 < k → page ≤ last → (slot : ℕ) → region_for s.machine p (page_start page) ≡ Some slot → visit k s p page last w ≡ and_then (populate_page s p slot page w) (λ t. visit (k - 1) t p (page + 1) last w)
  visit_found k h l slot e = visit_body k h ∙ (λ i. body (k - 1) (le-ltb last page l i) (e i) (next_start s.machine p page))

  visit_gap : (k : ℕ) → 0 < k → page ≤ last → region_for s.machine p (page_start page) ≡ None → (next : ℕ) → next_start s.machine p page ≡ Some next → visit k s p page last w ≡ visit (k - 1) s p next last w
  visit_gap k h l e next g = visit_body k h ∙ (λ i. body (k - 1) (le-ltb last page l i) (e i) (g i))

  visit_end : (k : ℕ) → 0 < k → page ≤ last → region_for s.machine p (page_start page) ≡ None → next_start s.machine p page ≡ None → visit k s p page last w ≡ fine s
  visit_end k h l e g = visit_body k h ∙ (λ i. body (k - 1) (le-ltb last page l i) (e i) (g i))

pub walk_done : (p last : ℕ) (w : Bool) (v : Visit) (s : State) → v.left ≤ 0 → resume p last w v s ≡ leaving v.done s
unfolding visit
walk_done p last w v s h = let z : v.left ≡ 0 = omega arith in ap (λ (k : ℕ). and_then (leaving v.done s) (λ t. visit k t p v.page.0 last w)) z ∙ go v.done
  where
    go : (d : Result ⊤ Refusal) → and_then (leaving d s) (λ t. visit 0 t p v.page.0 last w) ≡ leaving d s
    go (Ok tt) = refl
    go (Err r) = refl

module _ (p last : ℕ) (w : Bool) (at : Visit) (some : 0 < at.left) (going : at.done ≡ Ok tt) where
  whole : (s : State) → visit at.left s p at.page.0 last w ≡ resume p last w at s
  whole s = ap (λ (d : Result ⊤ Refusal). and_then (leaving d s) (λ t. visit at.left t p at.page.0 last w)) (sym going)

  pub step_past : (s : State) → soundb s ≡ true → last < at.page.0 → (r : Visit) → r ≡ ended (Ok tt) → Stepped p last w at s r s
  unfolding visit
  step_past s sound h r e =
      record {
        same = ap (λ (v : Visit). resume p last w v s) e ∙ sym (visit_past s p at.page.0 last w at.left some h) ∙ whole s;
        sound = sound;
        fewer = subst (λ (v : Visit). v.left < at.left) (sym e) some;
        goes = subst (λ (v : Visit). 0 < v.left → v.done ≡ Ok tt) (sym e) (λ z. refl);
      }

  module _ (s : State) (sound : soundb s ≡ true) (h : at.page.0 ≤ last) (x : Option ℕ) (here : x ≡ region_for s.machine p (page_start at.page.0)) where
    pub step_gap : x ≡ None → (r : Visit) → r ≡ gap_visit at.left (next_start s.machine p at.page.0) → Stepped p last w at s r s
    unfolding visit
    step_gap g r e = go (next_start s.machine p at.page.0) refl
      where
        go : (n : Option ℕ) → next_start s.machine p at.page.0 ≡ n → Stepped p last w at s r s
        go (Some next) k =
            let is : r ≡ gap_visit at.left (Some next) = e ∙ ap (λ (y : Option ℕ). gap_visit at.left y) k in
            let less : at.left - 1 < at.left = omega arith in
            record {
              same = ap (λ (v : Visit). resume p last w v s) is ∙ sym (visit_gap s p at.page.0 last w at.left some h (sym here ∙ g) next k) ∙ whole s;
              sound = sound;
              fewer = subst (λ (v : Visit). v.left < at.left) (sym is) less;
              goes = subst (λ (v : Visit). 0 < v.left → v.done ≡ Ok tt) (sym is) (λ z. refl);
            }
        go None k =
            let is : r ≡ ended (Ok tt) = e ∙ ap (λ (y : Option ℕ). gap_visit at.left y) k in
            record {
              same = ap (λ (v : Visit). resume p last w v s) is ∙ sym (visit_end s p at.page.0 last w at.left some h (sym here ∙ g) k) ∙ whole s;
              sound = sound;
              fewer = subst (λ (v : Visit). v.left < at.left) (sym is) some;
              goes = subst (λ (v : Visit). 0 < v.left → v.done ≡ Ok tt) (sym is) (λ z. refl);
            }

    pub step_page : (slot : ℕ) → x ≡ Some slot → (t : State) (d : Result ⊤ Refusal) → populate_page s p slot at.page.0 w ≡ leaving d t → soundb t ≡ true → (r : Visit) → r ≡ page_visit at.page.0 at.left d → Stepped p last w at s r t
    unfolding visit
    step_page slot g t d does still r e =
        record { same = ap (λ (v : Visit). resume p last w v t) e ∙ go d ∙ sym (visit_found s p at.page.0 last w at.left some h slot (sym here ∙ g) ∙ ap (λ (y : Try). and_then y (λ u. visit (at.left - 1) u p (at.page.0 + 1) last w)) does) ∙ whole s; sound = still; fewer = subst (λ (v : Visit). v.left < at.left) (sym e) (less d); goes = subst (λ (v : Visit). 0 < v.left → v.done ≡ Ok tt) (sym e) (left d) }
      where
        go : (d : Result ⊤ Refusal) → resume p last w (page_visit at.page.0 at.left d) t ≡ and_then (leaving d t) (λ u. visit (at.left - 1) u p (at.page.0 + 1) last w)
        go (Ok tt) = refl
        go (Err q) = refl

        less : (d : Result ⊤ Refusal) → (page_visit at.page.0 at.left d).left < at.left
        less (Ok tt) = omega arith
        less (Err q) = some

        left : (d : Result ⊤ Refusal) → 0 < (page_visit at.page.0 at.left d).left → (page_visit at.page.0 at.left d).done ≡ Ok tt
        left (Ok tt) z = refl
        left (Err q) z = absurd (not-suc-le-zero z)

-- ---- the loop

-- the walk so far: what is left gives what the whole gives
pub record Walking (p last : ℕ) (w : Bool) (all : Try) (at : Visit) (s : State) : Type 0 where
  pub same : resume p last w at s ≡ all
  pub sound : soundb s ≡ true
  pub goes : 0 < at.left → at.done ≡ Ok tt

pub walking_more : (p last : ℕ) (w : Bool) (all : Try) (at : Visit) (s : State) (r : Visit) (t : State) → Walking p last w all at s → Stepped p last w at s r t → Walking p last w all r t
walking_more p last w all at s r t k g = record { same = g.same ∙ k.same; sound = g.sound; goes = g.goes }

pub walking_done : (p last : ℕ) (w : Bool) (all : Try) (at : Visit) (s : State) → Walking p last w all at s → at.left ≤ 0 → all ≡ leaving at.done s
walking_done p last w all at s k h = sym k.same ∙ walk_done p last w at s h
