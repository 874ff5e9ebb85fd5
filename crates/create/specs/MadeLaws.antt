-- Laws of `Made`: what making a planned region leaves: a run's frames zeroed and claimed, the row put last in the list.
use Rattle.std.specs.Prelude.{◌≡◌, Bool, true, List, ℕ, ◌+◌, ◌*◌, ◌≤◌, ◌<◌, length, Option, Some, None, Result, Ok, Err}
use Rattle.std.proofs.Math.Path.{refl, ap, sym}
use Rattle.std.proofs.Common.{subst, ◌∙◌, arith}
use Rattle.model.specs.declared.Place.{Place}
use Rattle.model.specs.declared.Region.{Region}
use Rattle.model.specs.declared.Process.{Process}
use Rattle.model.specs.Machine.{Machine, State, process_at, order_of, with_machine}
use Rattle.model.specs.Layout.{machine}
use Rattle.model.specs.Lookup.{pages_for, row_found, free_slot}
use Rattle.model.specs.Backing.{lowest_run, claim, with_backings, zero_frames}
use Rattle.model.specs.Answers.{leaving}
use Rattle.model.specs.Create.{round_up, spot, placed_at, add_region, with_run, core_create}
use Rattle.model.specs.Calls.{create}
use Rattle.model.specs.Sound.{Ordered}
use Rattle.model.specs.SoundTest.{soundb}
use Rattle.model.specs.RecordLaws.{sound_tells}
use Rattle.rows.specs.LentMemory.{state_of, SoundFrames}
use Rattle.backing.specs.BackingSteps.{claimed, found_frame}
use Rattle.backing.specs.BackingLaws.{claim_is, run_free}
use Rattle.regions.specs.Added.{with_added}
use Rattle.regions.specs.AddedLaws.{places_inside}
use Rattle.regions.specs.RoomLaws.{free_below, room_left, adds_region}
use Rattle.answers.specs.declared.Refusal.{Refusal}
use Rattle.create.specs.declared.plan.Plan.{Plan}
use Rattle.rows.specs.GuardedLaws.{refused, granted}
use Rattle.create.specs.Plans.{run_for, planned, PlanFits, found_plan}
use Rattle.create.specs.PlansLaws.{found_frame_back, plan_no, plan_yes, plan_is}
use Rattle.create.specs.ReadyLaws.{frames_words, words_ready, words_ordered}
use Rattle.create.specs.Made.{with_range, RunFits, run_claimed, run_zeroed, made, Makes}

pub placed_ranged : (r : Region) (start : ℕ) (run : Option ℕ) (f : ℕ) → run ≡ Some f → with_range r start 1 f ≡ placed_at r start run
placed_ranged r start run f e = ap (λ (x : Option ℕ). placed_at r start x) (sym e)

pub placed_plain : (r : Region) (start : ℕ) (run : Option ℕ) → run ≡ None → with_range r start 0 0 ≡ placed_at r start run
placed_plain r start run e = ap (λ (x : Option ℕ). placed_at r start x) (sym e)

pub run_fits : (run : Option ℕ) (n size f : ℕ) → run ≡ Some f → RunFits run n size → (f < 256) × (f * 4096 + n * 4096 ≤ size)
run_fits run n size f e h = subst (λ (x : Option ℕ). RunFits x n size) e h

module _ (m : Machine) (l : List ℕ) (run : Option ℕ) (n : ℕ) where
  pub no_run_claimed : run ≡ None → m ≡ run_claimed m run n
  unfolding run_claimed
  no_run_claimed e = ap (λ (x : Option ℕ). run_claimed m x n) (sym e)

  pub no_run_zeroed : run ≡ None → l ≡ run_zeroed l run n
  unfolding run_zeroed
  no_run_zeroed e = ap (λ (x : Option ℕ). run_zeroed l x n) (sym e)

  module _ (f : ℕ) (e : run ≡ Some f) where
    pub run_claimed_is : (k : Machine) → k ≡ claimed m f n → k ≡ run_claimed m run n
    unfolding run_claimed
    run_claimed_is k g = g ∙ ap (λ (x : Option ℕ). run_claimed m x n) (sym e)

    pub run_zeroed_is : (k : List ℕ) → k ≡ zero_frames f n l → k ≡ run_zeroed l run n
    unfolding run_zeroed
    run_zeroed_is k g = g ∙ ap (λ (x : Option ℕ). run_zeroed l x n) (sym e)

-- the lowest run that fits has rows and bytes
sound_run : (w l : List ℕ) → SoundFrames w l → (run : Option ℕ) (n : ℕ) → ((f : ℕ) → run ≡ Some f → lowest_run (machine w) n ≡ Some f) → RunFits run n (length l)
sound_run w l s None n h = tt
sound_run w l s (Some f) n h =
    let sized = ((sound_tells (state_of w l s.files)).yes s.sound).r6.sized in
    let few = sized.frame_count in
    let bytes = sized.frames in
    let free = run_free (machine w) (words_ready w (frames_words s)) n f (h f refl) in
    let some = free.some in
    let inside = free.inside in
    (omega arith, omega arith)

-- ---- the claim leaves slots and lists alone

process_claimed : (m : Machine) (run : Option ℕ) (n p : ℕ) → process_at (run_claimed m run n) p ≡ process_at m p
unfolding run_claimed claimed
process_claimed m None n p = refl
process_claimed m (Some f) n p = refl

slot_claimed : (m : Machine) (f n p : ℕ) → free_slot (claim m f n) p ≡ free_slot m p
unfolding free_slot claim with_backings
slot_claimed m f n p = refl

ordered_claimed : (m : Machine) (f n p : ℕ) → Ordered m p (process_at m p) → Ordered (claim m f n) p (process_at (claim m f n) p)
unfolding order_of claim with_backings
ordered_claimed m f n p o = record { listed = o.listed; free = o.free; once = o.once; detached = o.detached }

inside_claimed : (m : Machine) (f n p : ℕ) → p * 64 + 64 ≤ length m.order → p * 64 + 64 ≤ length (claim m f n).order
unfolding claim with_backings
inside_claimed m f n p h = h

module _ (w l : List ℕ) (s : SoundFrames w l) (p : ℕ) (h : p < 8) (r : Region) (plan : Plan) (fits : PlanFits (machine w) p r plan) where
  -- its run has rows and bytes
  pub plan_run : (n : ℕ) → n ≡ pages_for r.size → RunFits (found_frame plan.run) n (length l)
  plan_run n e = subst (λ (x : ℕ). RunFits (found_frame plan.run) x (length l)) (sym e) (sound_run w l s (found_frame plan.run) (pages_for r.size) fits.run)

  pub plan_slot : plan.slot < 64
  plan_slot = free_below (machine w) p plan.slot fits.slot

  -- list order has a place left, after the claim too
  pub place_left : (k : Machine) (n : ℕ) → k ≡ run_claimed (machine w) (found_frame plan.run) n → (process_at k p).attached < 64
  place_left k n e =
      subst (λ (q : Process). q.attached < 64) (sym (ap (λ (x : Machine). process_at x p) e ∙ process_claimed (machine w) (found_frame plan.run) n p))
      (room_left (machine w) p plan.slot fits.slot (process_at (machine w) p) (words_ordered w (frames_words s) p h) (places_inside w p h))

  added : (files : List ℕ) (run : Option ℕ) (row : Region) → ((f : ℕ) → run ≡ Some f → lowest_run (machine w) (pages_for r.size) ≡ Some f)
      → with_added (run_claimed (machine w) run (pages_for r.size)) p plan.slot row ≡ add_region (with_run (state_of w l files) run (pages_for r.size)).machine p row
  unfolding run_claimed with_run
  added files None row g = adds_region (machine w) p plan.slot fits.slot row (words_ordered w (frames_words s) p h) (places_inside w p h)
  added files (Some f) row g =
      let n = pages_for r.size in
      let ready = words_ready w (frames_words s) in
      ap (λ (x : Machine). with_added x p plan.slot row) (claim_is (machine w) ready f n (run_free (machine w) ready n f (g f refl)))
      ∙ adds_region (claim (machine w) f n) p plan.slot (slot_claimed (machine w) f n p ∙ fits.slot) row (ordered_claimed (machine w) f n p (words_ordered w (frames_words s) p h)) (inside_claimed (machine w) f n p (places_inside w p h))

  zeroed : (files : List ℕ) (run : Option ℕ) (n : ℕ) → run_zeroed l run n ≡ (with_run (state_of w l files) run n).frames
  unfolding run_zeroed with_run
  zeroed files None n = refl
  zeroed files (Some f) n = refl

  kept_files : (files : List ℕ) (run : Option ℕ) (n : ℕ) → files ≡ (with_run (state_of w l files) run n).bytes
  unfolding with_run
  kept_files files None n = refl
  kept_files files (Some f) n = refl

  pub makes :
      (n : ℕ) → n ≡ pages_for r.size
      → (k : Machine) → k ≡ run_claimed (machine w) (found_frame plan.run) n
      → (row : Region) → row ≡ placed_at r plan.start.0 (found_frame plan.run)
      → (w' l' : List ℕ) → machine w' ≡ with_added k p plan.slot row → l' ≡ run_zeroed l (found_frame plan.run) n
      → Makes p r plan w l w' l'
  unfolding made
  makes n sized k claims row placed w' l' adds zeros files sound = λ i. record { machine = put i; frames = bytes i; bytes = kept_files files (found_frame plan.run) (pages_for r.size) i }
    where
      put : machine w' ≡ add_region (with_run (state_of w l files) (found_frame plan.run) (pages_for r.size)).machine p (placed_at r plan.start.0 (found_frame plan.run))
      put =
          adds
          ∙ ap (λ (x : Machine). with_added x p plan.slot row) (claims ∙ ap (λ (x : ℕ). run_claimed (machine w) (found_frame plan.run) x) sized)
          ∙ ap (λ (x : Region). with_added (run_claimed (machine w) (found_frame plan.run) (pages_for r.size)) p plan.slot x) placed
          ∙ added files (found_frame plan.run) (placed_at r plan.start.0 (found_frame plan.run)) fits.run

      bytes : l' ≡ (with_run (state_of w l files) (found_frame plan.run) (pages_for r.size)).frames
      bytes = zeros ∙ ap (λ (x : ℕ). run_zeroed l (found_frame plan.run) x) sized ∙ zeroed files (found_frame plan.run) (pages_for r.size)

-- ---- the call

-- the plan that was found makes the model's region
core_is : (s : State) (p : ℕ) (place : Place) (eager : Bool) (r : Region) → made s p r (found_plan s.machine p place eager r) ≡ core_create s p place eager r
unfolding made core_create
core_is s p place eager r =
    let put : Option ℕ → State = λ (run : Option ℕ). let held = with_run s run (pages_for r.size) in with_machine held (add_region held.machine p (placed_at r (row_found (spot s.machine p place (round_up r.size))) run)) in
    ap put (found_frame_back (run_for s.machine eager r))

module _ (w l : List ℕ) (p : ℕ) (place : Place) (eager : Bool) (r : Region) (x : Result Plan Refusal) (e : x ≡ planned (machine w) p place eager r) where
  pub create_refused : (q : Refusal) → x ≡ Err q → (files : List ℕ) → soundb (state_of w l files) ≡ true → create (state_of w l files) p place eager r ≡ leaving (Err q) (state_of w l files)
  unfolding create
  create_refused q f files sound = refused (state_of w l files) Err _ _ sound q (plan_no (machine w) p place eager r x e q f)

  pub create_made :
      (way : Plan) → x ≡ Ok way → (w' l' : List ℕ) → Makes p r way w l w' l'
      → (files : List ℕ) → soundb (state_of w l files) ≡ true → create (state_of w l files) p place eager r ≡ leaving (Ok way.start) (state_of w' l' files)
  unfolding create
  create_made way f w' l' makes files sound =
      granted (state_of w l files) Err _ _ sound (plan_yes (machine w) p place eager r x e way f)
      ∙ sym (λ i. leaving (Ok (plan_is (machine w) p place eager r x e way f i).start) (state i))
    where
      state : state_of w' l' files ≡ core_create (state_of w l files) p place eager r
      state = makes files sound ∙ ap (λ (y : Plan). made (state_of w l files) p r y) (plan_is (machine w) p place eager r x e way f) ∙ core_is (state_of w l files) p place eager r
