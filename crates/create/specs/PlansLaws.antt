-- Laws of `Plans`: what creation plans: the first refusal, or the spot, the run and the slot that the searches find.
use Rattle.std.specs.Prelude.{◌≡◌, Bool, ◌&&◌, cond, [], ◌∷◌, ◌++◌, ℕ, Option, Some, None, Result, Ok, Err, ⊤, is_some}
use Rattle.std.proofs.Math.Path.{refl, ap}
use Rattle.std.proofs.Common.{sym, ◌∙◌, arith}
use Rattle.std.proofs.Math.Bool.{true, false, not, and-true, and-false}
use borrow.Author.Tests.{not-false}
use Rattle.std.proofs.lemmas.Bool.{false≢true}
use Rattle.address.specs.declared.PhysFrame.{PhysFrame}
use Rattle.answers.specs.declared.Refusal.{Refusal}
use Rattle.answers.specs.declared.Refusal.TheVariants.{OutOfMemory, TableFull}
use Rattle.model.specs.declared.Place.{Place}
use Rattle.model.specs.declared.Region.{Region}
use Rattle.model.specs.Machine.{Machine}
use Rattle.model.specs.Lookup.{is_found, is_open, pages_for, free_slot}
use Rattle.model.specs.Backing.{lowest_run}
use Rattle.model.specs.Answers.{first_of}
use Rattle.model.specs.Create.{round_up, spot, spot_refusal, run_needed, create_refusals}
use Rattle.backing.specs.BackingSteps.{found_frame}
use Rattle.create.specs.declared.plan.Plan.{Plan}
use Rattle.lookup.specs.FirstOfLaws.{first_here, first_later, first_none, first_passed, first_before, first_after}
use Rattle.create.specs.RequestRefused.{request_refusals}
use Rattle.create.specs.Plans.{run_for, search_refusals, frame_found, plan_for, unless_refused, found_plan, searched, planned, PlanFits}
use Rattle.model.specs.FoundRowLaws.{found_row}

-- ---- a run

module _ (eager : Bool) (r : Region) where
  pub needed_shared : (b : Bool) → eager ≡ false → b ≡ run_needed false r → b ≡ run_needed eager r
  needed_shared b e f = f ∙ ap (λ (x : Bool). run_needed x r) (sym e)

  module _ (run : Option ℕ) where
    pub lacks_none : run ≡ None → (b : Bool) → b ≡ run_needed eager r → b ≡ (run_needed eager r && not (is_found run))
    lacks_none e b f = f ∙ sym (and-true (run_needed eager r)) ∙ ap (λ (x : Option ℕ). run_needed eager r && not (is_found x)) (sym e)

    pub lacks_not : (f : ℕ) → run ≡ Some f → false ≡ (run_needed eager r && not (is_found run))
    lacks_not f e = sym (and-false (run_needed eager r)) ∙ ap (λ (x : Option ℕ). run_needed eager r && not (is_found x)) (sym e)

  pub lacks_tested : (o : Option PhysFrame) → is_some o ≡ true → false ≡ (run_needed eager r && not (is_found (found_frame o)))
  lacks_tested (Some f) t = lacks_not (Some f.0) f.0 refl
  lacks_tested None t = absurd (false≢true t)

  pub lacks_untold : (o : Option PhysFrame) → is_some o ≡ false → (b : Bool) → b ≡ run_needed eager r → b ≡ (run_needed eager r && not (is_found (found_frame o)))
  lacks_untold (Some f) t b e = absurd (false≢true (sym t))
  lacks_untold None t b e = lacks_none None refl b e

  module _ (m : Machine) (b : Bool) (e : b ≡ run_needed eager r) where
    pub run_needed_is : b ≡ true → (f : Option ℕ) → f ≡ lowest_run m (pages_for r.size) → f ≡ run_for m eager r
    run_needed_is t f g = g ∙ ap (λ (x : Bool). cond x (lowest_run m (pages_for r.size)) None) (sym (sym e ∙ t))

    pub run_not_needed : b ≡ false → None ≡ run_for m eager r
    run_not_needed t = ap (λ (x : Bool). cond x (lowest_run m (pages_for r.size)) None) (sym (sym e ∙ t))

-- a run that was not searched for is not missed
needed_same : (b : Bool) (x : Option ℕ) → (b && not (is_found (cond b x None))) ≡ (b && not (is_found x))
needed_same true x = refl
needed_same false x = refl

-- a frame found and its row tell the same
frame_found_back : (x : Option PhysFrame) → frame_found (found_frame x) ≡ x
frame_found_back (Some f) = refl
frame_found_back None = refl

pub found_frame_back : (x : Option ℕ) → found_frame (frame_found x) ≡ x
found_frame_back (Some f) = refl
found_frame_back None = refl

-- ---- the searches

module _ (m : Machine) (p : ℕ) (place : Place) (eager : Bool) (r : Region) where
  abbrev search_done : Result ⊤ Refusal
  search_done = first_of (search_refusals m p place eager r)

  stops : (q : Refusal) → Err q ≡ search_done → Err q ≡ searched m p place eager r
  unfolding searched
  stops q e = ap (λ (d : Result ⊤ Refusal). unless_refused d (found_plan m p place eager r)) e

  pub search_spot : None ≡ spot m p place (round_up r.size) → (q : Refusal) → q ≡ spot_refusal place → Err q ≡ searched m p place eager r
  unfolding search_refusals
  search_spot e q f = stops q (ap (λ (x : Refusal). Err x) f ∙ first_here _ (spot_refusal place) _ (ap (λ (x : Option ℕ). not (is_found x)) (sym e)))

  module _ (start : ℕ) (spotted : Some start ≡ spot m p place (round_up r.size)) (run : Option PhysFrame) (is_run : found_frame run ≡ run_for m eager r) (b : Bool) (lacks : b ≡ (run_needed eager r && not (is_found (found_frame run)))) where
    lacks_run : (x : Bool) → b ≡ x → (run_needed eager r && not (is_found (lowest_run m (pages_for r.size)))) ≡ x
    lacks_run x e = sym (needed_same (run_needed eager r) (lowest_run m (pages_for r.size))) ∙ ap (λ (y : Option ℕ). run_needed eager r && not (is_found y)) (sym is_run) ∙ sym lacks ∙ e

    past_spot : not (is_found (spot m p place (round_up r.size))) ≡ false
    past_spot = ap (λ (x : Option ℕ). not (is_found x)) (sym spotted)

    pub search_run : b ≡ true → Err OutOfMemory ≡ searched m p place eager r
    unfolding search_refusals
    search_run e = stops OutOfMemory (first_later _ (spot_refusal place) _ _ past_spot (first_here _ OutOfMemory _ (lacks_run true e)))

    module _ (e : b ≡ false) where
      past_run : {d : Result ⊤ Refusal} → d ≡ first_of ((not (is_found (free_slot m p)), TableFull) ∷ []) → d ≡ search_done
      unfolding search_refusals
      past_run f = first_later _ (spot_refusal place) _ _ past_spot (first_later _ OutOfMemory _ _ (lacks_run false e) f)

      pub search_slot : None ≡ free_slot m p → Err TableFull ≡ searched m p place eager r
      search_slot f = stops TableFull (past_run (first_here _ TableFull _ (ap (λ (x : Option ℕ). not (is_found x)) (sym f))))

      pub search_all : (slot : ℕ) → Some slot ≡ free_slot m p → Ok (record { start = record { 0 = start }; slot = slot; run = run }) ≡ searched m p place eager r
      unfolding searched
      search_all slot f =
          ap (λ (x : Option PhysFrame). Ok (record { start = record { 0 = start }; slot = slot; run = x })) (sym (frame_found_back run))
          ∙ (λ k. unless_refused (passes k) (plan_for (spotted k) (is_run k) (f k)))
        where
          passes : Ok tt ≡ search_done
          passes = past_run (first_later _ TableFull _ _ (ap (λ (x : Option ℕ). not (is_found x)) (sym f)) first_none)

-- ---- the whole: what is asked for, then the searches

module _ (m : Machine) (p : ℕ) (place : Place) (eager : Bool) (r : Region) where
  parts : request_refusals m p place r ++ search_refusals m p place eager r ≡ create_refusals m p place eager r
  unfolding request_refusals search_refusals create_refusals
  parts = refl

  pub plan_refused : (q : Refusal) → Err q ≡ first_of (request_refusals m p place r) → Err q ≡ planned m p place eager r
  unfolding planned
  plan_refused q e = ap (λ (d : Result ⊤ Refusal). unless_refused d (found_plan m p place eager r)) (first_before _ (search_refusals m p place eager r) q e ∙ ap first_of parts)

  pub plan_searched : Ok tt ≡ first_of (request_refusals m p place r) → (x : Result Plan Refusal) → x ≡ searched m p place eager r → x ≡ planned m p place eager r
  unfolding planned searched
  plan_searched e x f = f ∙ ap (λ (d : Result ⊤ Refusal). unless_refused d (found_plan m p place eager r)) (first_after (request_refusals m p place r) (search_refusals m p place eager r) e ∙ ap first_of parts)

-- ---- what a plan tells

told_no : (d : Result ⊤ Refusal) (plan : Plan) (q : Refusal) (x : Result Plan Refusal) → x ≡ unless_refused d plan → x ≡ Err q → Err q ≡ d
told_no (Ok tt) plan q x e f = let z : ◌≡◌ {A = ℕ} 0 1 = let g : Err q ≡ Ok plan = sym f ∙ e in cc in absurd (omega arith)
told_no (Err s) plan q x e f = let g : Err q ≡ Err s = sym f ∙ e in let h : q ≡ s = cc in ap (λ y. Err y) h

told_go : (d : Result ⊤ Refusal) (plan way : Plan) (x : Result Plan Refusal) → x ≡ unless_refused d plan → x ≡ Ok way → (Ok tt ≡ d) × (way ≡ plan)
told_go (Ok tt) plan way x e f = (refl, let g : Ok way ≡ Ok plan = sym f ∙ e in cc)
told_go (Err s) plan way x e f = let z : ◌≡◌ {A = ℕ} 0 1 = let g : Ok way ≡ Err s = sym f ∙ e in cc in absurd (omega arith)

run_found : (b : Bool) (x run : Option ℕ) (f : ℕ) → run ≡ cond b x None → run ≡ Some f → x ≡ Some f
run_found true x run f e g = sym e ∙ g
run_found false x run f e g = let z : ◌≡◌ {A = ℕ} 0 1 = let h : Some f ≡ None = sym g ∙ e in cc in absurd (omega arith)

module _ (m : Machine) (p : ℕ) (place : Place) (eager : Bool) (r : Region) (x : Result Plan Refusal) (e : x ≡ planned m p place eager r) where
  pub plan_no : (q : Refusal) → x ≡ Err q → Err q ≡ first_of (create_refusals m p place eager r)
  unfolding planned
  plan_no q f = told_no _ _ q x e f

  module _ (way : Plan) (f : x ≡ Ok way) where
    pub plan_yes : Ok tt ≡ first_of (create_refusals m p place eager r)
    unfolding planned
    plan_yes = (told_go _ _ way x e f).0

    pub plan_is : way ≡ found_plan m p place eager r
    unfolding planned
    plan_is = (told_go (first_of (create_refusals m p place eager r)) (found_plan m p place eager r) way x e f).1

    pub plan_open : is_open m p ≡ true
    unfolding create_refusals
    plan_open = not-false _ (first_passed _ _ _ plan_yes).0

    pub plan_fits : PlanFits m p r way
    unfolding create_refusals
    plan_fits = record { slot = found_row (free_slot m p) slot_found ∙ ap (λ (y : Plan). Some y.slot) (sym plan_is); run = λ g h. run_found (run_needed eager r) (lowest_run m (pages_for r.size)) (found_frame way.run) g (ap (λ (y : Plan). found_frame y.run) plan_is ∙ found_frame_back (run_for m eager r)) h }
      where
        slot_found : not (is_found (free_slot m p)) ≡ false
        slot_found =
            let opened = first_passed _ _ _ plan_yes in
            let start = first_passed _ _ _ opened.1 in
            let range = first_passed _ _ _ start.1 in
            let flags = first_passed _ _ _ range.1 in
            let file = first_passed _ _ _ flags.1 in
            let place = first_passed _ _ _ file.1 in
            let frames = first_passed _ _ _ place.1 in
            (first_passed _ _ _ frames.1).0
