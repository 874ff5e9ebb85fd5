-- Loads answer the view; stores stay at home.
use Rattle.std.specs.Prelude.{◌≡◌, ◌⊎◌, ◌≢◌, Bool, false, List, ℕ, ◌+◌, ◌*◌, ◌/◌, ◌%◌, ◌<◌, length, set, Option, Some, None, Result, Ok, Err, ⊤}
use Rattle.std.proofs.Math.Path.{refl, ap, sym}
use Rattle.std.proofs.Common.{subst, ◌∙◌, inl, inr, arith, length-set, get_or-set_other}
use Rattle.std.proofs.Math.Bool.{true}
use Rattle.std.proofs.Math.ListN.{get_or}
use Rattle.std.proofs.Math.Seq.{get_or-set_same}
use Rattle.laws.specs.ResultLaws.{err_not_ok, none_not_some, some_same}
use Rattle.laws.specs.TellsLaws.{told}
use Rattle.answers.specs.declared.Refusal.{Refusal}
use Rattle.laws.specs.ResultLaws.{err_not_ok, ok_same}
use Rattle.model.specs.declared.Mapping.{Mapping}
use Rattle.model.specs.Machine.{Machine, State, region_at, row_of, mapped_of}
use Rattle.model.specs.Answers.{After, Try, first_of, leaving, fine}
use Rattle.model.specs.Lookup.{contains}
use Rattle.model.specs.Paging.{page_start}
use Rattle.model.specs.Backing.{backing}
use Rattle.model.specs.Access.{granted, page_at, byte_at, loaded, stored}
use Rattle.model.specs.Refusals.{access_refusals}
use Rattle.model.specs.Calls.{decided, guarded, load, store}
use Rattle.model.specs.Sound.{Sound, frame_by}
use Rattle.model.specs.Posix.{view, home_slot, frame_in, frame_at, LoadIsView, PrivateStore, StoredAlone, StoredShared, SharedStore}
use Rattle.model.specs.RecordLaws.{sound_tells}
use Rattle.keeping.specs.GuardedKept.{Passed, passed}
use Rattle.laws.specs.In.{In}
use Rattle.keeping.specs.Owing.{Owing, Backs, nothing}
use Rattle.keeping.specs.BacksLaws.{backing_of}
use Rattle.keeping.specs.OwingOfSound.{sound_owing}
use Rattle.keeping.specs.PagesKept.{base_used}
use Rattle.model.specs.RuleUseLaws.{backing_within}
use Rattle.keeping.specs.LookingKept.{frames_kept}
use Rattle.isolation.specs.Statements.{StoresStayHome}
use Rattle.isolation.specs.ViewLaws.{at_home, view_at, view_none, seen_by}
use Rattle.isolation.specs.Undisturbed.{guarded_same}
use Rattle.isolation.specs.BackingsApart.{mapped_low}
use Rattle.isolation.specs.LoneHolder.{in_base}
use Rattle.isolation.specs.StoreStays.{translated, grants, store_same, access_granted}

-- a sound machine's call is decided by its own tests
pub guarded_is : {A : Type 0} (s : State) → Sound s → (refusal : Refusal → A) (tests : List (Bool × Refusal)) (t : After A) → guarded s refusal tests t ≡ decided (first_of tests) refusal s t
unfolding guarded first_of
guarded_is s sound refusal tests t = rw (told (sound_tells s) sound) refl

-- .. and what is answered done has passed them
pub guarded_done : (s : State) → Sound s → (tests : List (Bool × Refusal)) (t : Try) → (guarded s Err tests t).answer ≡ Ok tt → (P : State → Type 0) → (Passed tests → t.answer ≡ Ok tt → P t.state) → P (guarded s Err tests t).state
guarded_done s sound tests t e P core = subst (λ (x : Try). P x.state) (sym is) (go (first_of tests) refl (ap (λ (x : Try). x.answer) (sym is) ∙ e))
  where
    is : guarded s Err tests t ≡ decided (first_of tests) Err s t
    is = guarded_is s sound Err tests t

    go : (d : Result ⊤ Refusal) → first_of tests ≡ d → (decided d Err s t).answer ≡ Ok tt → P (decided d Err s t).state
    go (Ok tt) f y = core (passed tests f) y
    go (Err r) f y = absurd (err_not_ok y)

-- ---- a mapped page

pub record Through (s : State) (p a : ℕ) (x : Mapping) : Type 0 where
  pub slot : ℕ
  pub home : home_slot s p a ≡ Some slot
  pub base : ℕ
  pub backs : Backs s.machine (row_of p slot) (a / 4096) base x.frame.0
  pub frame : frame_by (backing s.machine p slot (a / 4096)) ≡ Some x.frame.0
  pub inside : x.frame.0 * 4096 + a % 4096 < length s.frames

pub through : (s : State) → Sound s → (p a : ℕ) (x : Mapping) → page_at s.machine p a ≡ Some x → Through s p a x
through s sound p a x e =
    let k = o.mapped p low x inside.0 in
    let backs : Backs m (row_of p k.slot) (a / 4096) k.base x.frame.0 = subst (λ (i : ℕ). Backs m (row_of p k.slot) i k.base x.frame.0) inside.1 k.backed in
    let l = in_base m o (row_of p k.slot) (a / 4096) k.base x.frame.0 backs in
    let l1 = l.1 in
    let w = backing_within m k.base (base_used nothing m o (row_of p k.slot) (a / 4096) k.base x.frame.0 backs) o.pool in
    let z = sound.r6.sized.frames in
    record {
      slot = k.slot;
      home = at_home m o p (a / 4096) k.slot (record { low = low; listed = k.listed; inside = subst (λ (i : ℕ). contains (region_at m p k.slot) (page_start i) ≡ true) inside.1 k.inside });
      base = k.base;
      backs = backs;
      frame = (backing_of m p k.slot (a / 4096) o.once_a_page k.base x.frame.0 backs).0;
      inside = omega arith;
    }
  where
    m : Machine
    m = s.machine

    o : Owing nothing s.machine
    o = sound_owing s sound

    inside : In x (mapped_of s.machine p) × (x.page.0 ≡ a / 4096)
    inside = translated (mapped_of s.machine p) (a / 4096) x e

    low : p < 8
    low = mapped_low s.machine o p x inside.0

pub mapped_view : (s : State) → Sound s → (p a : ℕ) (x : Mapping) → page_at s.machine p a ≡ Some x → view s p a ≡ Some (get_or s.frames (x.frame.0 * 4096 + a % 4096) 0)
mapped_view s sound p a x e = let k = through s sound p a x e in view_at s p a k.slot k.home ∙ ap (seen_by s (region_at s.machine p k.slot) (a / 4096) (a % 4096)) k.frame

-- ---- a granted load answers the view

pub granted_view : (s : State) → Sound s → (p a : ℕ) (w : Bool) → granted (page_at s.machine p a) w ≡ true → view s p a ≡ Some (loaded s p a)
unfolding loaded
granted_view s sound p a w g = let k = grants (page_at s.machine p a) w g in mapped_view s sound p a k.0 k.1.0 ∙ ap (λ (y : Option Mapping). Some (get_or s.frames (byte_at y a) 0)) (sym k.1.0)

pub load_is_view : LoadIsView
unfolding load
load_is_view s p a b sound e = go (first_of (access_refusals s p a false)) refl (ap (λ (t : After (Result ℕ Refusal)). t.answer) (sym (guarded_is s sound Err (access_refusals s p a false) (leaving (Ok (loaded s p a)) s))) ∙ e)
  where
    go : (d : Result ⊤ Refusal) → first_of (access_refusals s p a false) ≡ d → (decided d Err s (leaving (Ok (loaded s p a)) s)).answer ≡ Ok b → view s p a ≡ Some b
    go (Ok tt) f q = granted_view s sound p a false (access_granted s p a false (passed (access_refusals s p a false) f)) ∙ ap (λ (y : ℕ). Some y) (ok_same q)
    go (Err r) f q = absurd (err_not_ok q)

-- ---- stores stay at home

-- what a load answers depends on the tests and the view
loads : (s after : State) → Sound s → Sound after → (q c : ℕ) → access_refusals after q c false ≡ access_refusals s q c false → (granted (page_at s.machine q c) false ≡ true → loaded after q c ≡ loaded s q c) → (load after q c).answer ≡ (load s q c).answer
unfolding load
loads s after sound sound' q c tests same =
    ap (λ (t : After (Result ℕ Refusal)). t.answer) (guarded_is after sound' Err (access_refusals after q c false) (leaving (Ok (loaded after q c)) after))
    ∙ ap (λ l. (decided (first_of l) Err after (leaving (Ok (loaded after q c)) after)).answer) tests
    ∙ go (first_of (access_refusals s q c false)) refl
    ∙ ap (λ (t : After (Result ℕ Refusal)). t.answer) (sym (guarded_is s sound Err (access_refusals s q c false) (leaving (Ok (loaded s q c)) s)))
  where
    go : (d : Result ⊤ Refusal) → first_of (access_refusals s q c false) ≡ d → (decided d Err after (leaving (Ok (loaded after q c)) after)).answer ≡ (decided d Err s (leaving (Ok (loaded s q c)) s)).answer
    go (Ok tt) f = ap Ok (same (access_granted s q c false (passed (access_refusals s q c false) f)))
    go (Err r) f = refl

-- a store that is granted, or nothing
pub stored_if : (s : State) → Sound s → (p a b : ℕ) → (P : State → Type 0) → P s → (granted (page_at s.machine p a) true ≡ true → P (stored s p a b)) → P (store s p a b).state
unfolding store
stored_if s sound p a b P same core = guarded_same s Err (access_refusals s p a true) (fine (stored s p a b)) P same (λ k. core (access_granted s p a true k))

stored_sound : (s : State) → Sound s → (p a b : ℕ) → Sound (stored s p a b)
unfolding stored
stored_sound s sound p a b = frames_kept s _ (simp length-set) sound

tests : (s : State) (p a b q c : ℕ) (w : Bool) → access_refusals (stored s p a b) q c w ≡ access_refusals s q c w
unfolding access_refusals stored
tests s p a b q c w = refl

still_granted : (s : State) (p a b q c : ℕ) → granted (page_at s.machine q c) false ≡ true → granted (page_at (stored s p a b).machine q c) false ≡ true
unfolding stored
still_granted s p a b q c k = k

pub stores_stay_home : (s : State) → Sound s → StoresStayHome s
stores_stay_home s sound p q a b c other private = stored_if s sound p a b (λ x. ((load x q c).answer ≡ (load s q c).answer) × (view x q c ≡ view s q c)) (refl, refl) core
  where
    core : granted (page_at s.machine p a) true ≡ true → ((load (stored s p a b) q c).answer ≡ (load s q c).answer) × (view (stored s p a b) q c ≡ view s q c)
    core g = (loads s (stored s p a b) sound (stored_sound s sound p a b) q c (tests s p a b q c false) same, seen)
      where
        seen : view (stored s p a b) q c ≡ view s q c
        seen = (store_same s sound p a b q c g (inl private) (λ e z. other e)).seen

        same : granted (page_at s.machine q c) false ≡ true → loaded (stored s p a b) q c ≡ loaded s q c
        same h = some_same (sym (granted_view (stored s p a b) (stored_sound s sound p a b) q c false (still_granted s p a b q c h)) ∙ seen ∙ granted_view s sound q c false h)

-- ---- the stored byte is seen

module _ (s : State) (sound : Sound s) (p a b : ℕ) (g : granted (page_at s.machine p a) true ≡ true) where
  written : (x : Mapping) → page_at s.machine p a ≡ Some x → get_or (set s.frames (byte_at (page_at s.machine p a) a) b) (x.frame.0 * 4096 + a % 4096) 0 ≡ b
  written x e = rw e (get_or-set_same s.frames (x.frame.0 * 4096 + a % 4096) b 0 (through s sound p a x e).inside)

  stored_own : view (stored s p a b) p a ≡ Some b
  unfolding stored
  stored_own = let k = grants (page_at s.machine p a) true g in mapped_view (stored s p a b) (stored_sound s sound p a b) p a k.0 k.1.0 ∙ ap (λ (y : ℕ). Some y) (written k.0 k.1.0)

  -- the place of the byte, by the frame that backs the page
  place_of : (f : ℕ) → frame_at s p a ≡ Some f → byte_at (page_at s.machine p a) a ≡ f * 4096 + a % 4096
  place_of f here =
      let k = grants (page_at s.machine p a) true g in
      let t = through s sound p a k.0 k.1.0 in
      let frame : k.0.frame.0 ≡ f = some_same (sym t.frame ∙ ap (frame_in s p (a / 4096)) (sym t.home) ∙ here) in
      ap (λ (y : Option Mapping). byte_at y a) k.1.0 ∙ ap (λ (x : ℕ). x * 4096 + a % 4096) frame

  inside : byte_at (page_at s.machine p a) a < length s.frames
  inside = let k = grants (page_at s.machine p a) true g in subst (λ (y : Option Mapping). byte_at y a < length s.frames) (sym k.1.0) (through s sound p a k.0 k.1.0).inside

  -- a view through a frame f, at the byte stored and at another
  abbrev frames_after : List ℕ
  frames_after = set s.frames (byte_at (page_at s.machine p a) a) b

  stored_seen : (q c f : ℕ) → frame_at s p a ≡ Some f → frame_at s q c ≡ Some f → c % 4096 ≡ a % 4096 → view (stored s p a b) q c ≡ Some b
  unfolding stored
  stored_seen q c f here there same = go (home_slot s q c) refl
    where
      byte : get_or frames_after (f * 4096 + c % 4096) 0 ≡ b
      byte = ap (λ (y : ℕ). get_or frames_after y 0) (ap (λ (o : ℕ). f * 4096 + o) same ∙ sym (place_of f here)) ∙ get_or-set_same s.frames (byte_at (page_at s.machine p a) a) b 0 inside

      go : (x : Option ℕ) → home_slot s q c ≡ x → view (stored s p a b) q c ≡ Some b
      go None e = absurd (none_not_some (ap (frame_in s q (c / 4096)) (sym e) ∙ there))
      go (Some u) e = view_at (stored s p a b) q c u e ∙ ap (seen_by (stored s p a b) (region_at s.machine q u) (c / 4096) (c % 4096)) (ap (frame_in s q (c / 4096)) (sym e) ∙ there) ∙ ap (λ (y : ℕ). Some y) byte

  stored_elsewhere : (q c f : ℕ) → frame_at s p a ≡ Some f → (frame_at s q c ≢ Some f) ⊎ (c % 4096 ≢ a % 4096) → view (stored s p a b) q c ≡ view s q c
  unfolding stored
  stored_elsewhere q c f here other = go (home_slot s q c) refl
    where
      apart : (h : ℕ) → frame_at s q c ≡ Some h → (frame_at s q c ≢ Some f) ⊎ (c % 4096 ≢ a % 4096) → h * 4096 + c % 4096 ≢ byte_at (page_at s.machine p a) a
      apart h there (inl z) w = let e = place_of f here in z (there ∙ ap (λ (x : ℕ). Some x) (omega arith))
      apart h there (inr z) w = let e = place_of f here in z (omega arith)

      go : (x : Option ℕ) → home_slot s q c ≡ x → view (stored s p a b) q c ≡ view s q c
      go None e = view_none (stored s p a b) q c e ∙ sym (view_none s q c e)
      go (Some u) e = view_at (stored s p a b) q c u e ∙ by (frame_by (backing s.machine q u (c / 4096))) refl ∙ sym (view_at s q c u e)
        where
          shows : State → Option ℕ → Option ℕ
          shows x f = seen_by x (region_at s.machine q u) (c / 4096) (c % 4096) f

          by : (x : Option ℕ) → frame_by (backing s.machine q u (c / 4096)) ≡ x → shows (stored s p a b) (frame_by (backing s.machine q u (c / 4096))) ≡ shows s (frame_by (backing s.machine q u (c / 4096)))
          by None z = ap (shows (stored s p a b)) z ∙ ap (shows s) (sym z)
          by (Some h) z =
              ap (shows (stored s p a b)) z
              ∙ ap (λ (y : ℕ). Some y) (get_or-set_other s.frames (byte_at (page_at s.machine p a) a) (h * 4096 + c % 4096) b 0 (apart h (ap (frame_in s q (c / 4096)) e ∙ z) other))
              ∙ ap (shows s) (sym z)

-- a store that is answered was granted
pub store_done : (s : State) → Sound s → (p a b : ℕ) → (store s p a b).answer ≡ Ok tt → (P : State → Type 0) → (granted (page_at s.machine p a) true ≡ true → P (stored s p a b)) → P (store s p a b).state
unfolding store
store_done s sound p a b e P core = guarded_done s sound (access_refusals s p a true) (fine (stored s p a b)) e P (λ k y. core (access_granted s p a true k))

same_bytes : (s : State) (p a b : ℕ) → (stored s p a b).bytes ≡ s.bytes
unfolding stored
same_bytes s p a b = refl

pub private_store : PrivateStore
private_store s p a b sound private done = store_done s sound p a b done (λ x. StoredAlone s x p a b) core
  where
    core : granted (page_at s.machine p a) true ≡ true → StoredAlone s (stored s p a b) p a b
    core g = record {
      own = stored_own s sound p a b g;
      elsewhere = λ c z. (store_same s sound p a b p c g (inr private) (λ e y. z (sym y))).seen;
      others = λ q c z. (store_same s sound p a b q c g (inr private) (λ e y. z (sym e))).seen;
      object = object;
    }
      where
        object : (stored s p a b).bytes ≡ s.bytes
        object = same_bytes s p a b

pub shared_store : SharedStore
shared_store s p a b f sound kind done here =
    store_done s sound p a b done (λ x. StoredShared s x f (a % 4096) b)
    (λ g. record { seen = λ q c there same. stored_seen s sound p a b g q c f here there same; elsewhere = λ q c other. stored_elsewhere s sound p a b g q c f here other })
