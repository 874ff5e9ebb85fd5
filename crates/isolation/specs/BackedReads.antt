-- A page that is backed can be read: its read fault succeeds, and the load then answers what is seen.
use Rattle.std.specs.Prelude.{◌≡◌, refl, Bool, true, false, not, cond, ℕ, ◌+◌, ◌/◌, ◌<◌, ◌^◌, eqb, ltb, leb, Option, Some, None, Result, Ok, Err, ⊤}
use Rattle.std.proofs.Common.{ap, sym, subst, ◌∙◌, inl, inr, arith, eq-eqb, ltb-true, lt-ltb}
use Rattle.std.proofs.lemmas.Bool.{eqb-false}
use Rattle.laws.specs.ResultLaws.{none_not_some}
use Rattle.model.specs.declared.Mapping.{Mapping}
use Rattle.answers.specs.declared.Refusal.{Refusal}
use Rattle.address.specs.declared.PhysFrame.{PhysFrame}
use Rattle.address.specs.Canonical.{user}
use Rattle.answers.specs.declared.Refusal.TheVariants.{NotAccessible}
use Rattle.model.specs.declared.Region.{Region}
use Rattle.model.specs.declared.Backed.{Backed}
use Rattle.model.specs.declared.Backed.TheVariants.{ByEntry, ByRange, Unbacked}
use Rattle.model.specs.declared.Way.{Way}
use Rattle.model.specs.declared.Way.TheVariants.{Refuse, Already, Restore, Map, Copy, Fill}
use Rattle.model.specs.Machine.{Machine, State, process_at, region_at, row_of, order_of, mapped_of}
use Rattle.model.specs.Answers.{Try, fine, unless}
use Rattle.model.specs.Lookup.{contains, region_for, is_found, is_open, is_shared, row_found}
use Rattle.laws.specs.BoolLaws.{both_true}
use Rattle.model.specs.Paging.{translate, is_user, is_writable}
use Rattle.model.specs.Backing.{backing}
use Rattle.model.specs.Fault.{backed_way, translated_way, private_way, shared_way, fault_way, way_refusals, no_room, go_way, handle_fault}
use Rattle.model.specs.Refusals.{slot_at, region_refusals}
use Rattle.model.specs.Calls as calls
use Rattle.model.specs.Sound.{Sound, frame_by}
use Rattle.model.specs.Posix.{home_slot, frame_in, Readable}
use Rattle.keeping.specs.GuardedKept.{Passed}
use Rattle.laws.specs.In.{In}
use Rattle.keeping.specs.Owing.{Owing, nothing}
use Rattle.keeping.specs.OwingOfSound.{sound_owing}
use Rattle.keeping.specs.FaultKept.{page_inside}
use Rattle.keeping.specs.OwingLaws.{listed_open}
use Rattle.isolation.specs.Statements.{BackedReads}
use Rattle.isolation.specs.ViewLaws.{region_home, home_region}
use Rattle.isolation.specs.LoadShows.{guarded_is}
use Rattle.isolation.specs.PosixHolds.{first_yes, fault_shows}

-- ---- the way of a read to a backed page: it is mapped already, or it is mapped now

abbrev Serves : Way → Type 0
Serves (Refuse x) = ⊥
Serves Already = Unit {0}
Serves Restore = ⊥
Serves (Map f fl) = Unit {0}
Serves (Copy f) = ⊥
Serves Fill = ⊥

pick : (x y : Way) (c : Bool) → Serves x → Serves y → Serves (cond c x y)
pick x y true f g = f
pick x y false f g = g

backed_serves : (r : Region) (f : PhysFrame) (n : ℕ) → Serves (backed_way r f n false)
backed_serves r f n = pick _ _ (is_writable r.flags.0) (pick _ _ (eqb n 1) tt tt) tt

private_serves : (r : Region) (t : Option Mapping) (b : Backed) (f : ℕ) → frame_by b ≡ Some f → is_user r.flags.0 ≡ true → Serves (private_way r t b false)
unfolding private_way
private_serves r t b f e u = subst (λ (c : Bool). Serves (cond c (translated_way r t b false) (Refuse NotAccessible))) (sym u) (go t b e)
  where
    go : (t : Option Mapping) (b : Backed) → frame_by b ≡ Some f → Serves (translated_way r t b false)
    go (Some x) b e = tt
    go None (ByEntry i g n) e = backed_serves r g n
    go None (ByRange g n) e = backed_serves r g n
    go None Unbacked e = absurd (none_not_some e)

shared_serves : (t : Option Mapping) (b : Backed) (f : ℕ) → frame_by b ≡ Some f → Serves (shared_way t b)
unfolding shared_way
shared_serves (Some x) b f e = tt
shared_serves None (ByEntry i g n) f e = tt
shared_serves None (ByRange g n) f e = tt
shared_serves None Unbacked f e = absurd (none_not_some e)

way_serves : (m : Machine) (p s pg f : ℕ) → frame_by (backing m p s pg) ≡ Some f → Readable (region_at m p s) → Serves (fault_way m p s pg false)
unfolding fault_way
way_serves m p s pg f e readable = go (is_shared (region_at m p s)) refl readable
  where
    go : (c : Bool) → is_shared (region_at m p s) ≡ c → Readable (region_at m p s) → Serves (cond c (shared_way (translate (mapped_of m p) pg) (backing m p s pg)) (private_way (region_at m p s) (translate (mapped_of m p) pg) (backing m p s pg) false))
    go true h k = shared_serves (translate (mapped_of m p) pg) (backing m p s pg) f e
    go false h (inl u) = private_serves (region_at m p s) (translate (mapped_of m p) pg) (backing m p s pg) f e u
    go false h (inr z) = absurd (eqb-false (region_at m p s).kind 3 h z)

way_passes : (m : Machine) (p s pg : ℕ) (way : Way) → Serves way → no_room m p ≡ false → Passed (way_refusals m p s pg way)
unfolding way_refusals
way_passes m p s pg (Refuse x) k room = absurd k
way_passes m p s pg Already k room = tt
way_passes m p s pg Restore k room = absurd k
way_passes m p s pg (Map f fl) k room = (room, tt)
way_passes m p s pg (Copy f) k room = absurd k
way_passes m p s pg Fill k room = absurd k

-- ---- the fault, and the load after it

fault_serves : (s : State) (p t pg f : ℕ) → frame_by (backing s.machine p t pg) ≡ Some f → Readable (region_at s.machine p t) → no_room s.machine p ≡ false → (handle_fault s p t pg false).answer ≡ Ok tt
unfolding handle_fault
fault_serves s p t pg f e readable room =
    let way : Way = fault_way s.machine p t pg false in
    let passes = first_yes (way_refusals s.machine p t pg way) (way_passes s.machine p t pg way (way_serves s.machine p t pg f e readable) room) in
    ap (λ (d : Result ⊤ Refusal). (unless d s (fine (go_way s p t pg way))).answer) passes

tests_pass : (s : State) (p a slot : ℕ) → not (is_open s.machine p) ≡ false → not (user a) ≡ false → region_for s.machine p a ≡ Some slot → Passed (region_refusals s p a)
unfolding region_refusals
tests_pass s p a slot opened below here = (opened, (below, (ap (λ x. not (is_found x)) here, tt)))

fault_done : (s : State) → Sound s → (p a : ℕ) → Passed (region_refusals s p a) → (handle_fault s p (slot_at s p a) (a / 4096) false).answer ≡ Ok tt → (calls.fault s p a false).answer ≡ Ok tt
unfolding calls.fault
fault_done s sound p a tests core =
    let fault : Try = handle_fault s p (slot_at s p a) (a / 4096) false in
    ap (λ (t : Try). t.answer) (guarded_is s sound Err (region_refusals s p a) fault) ∙ ap (λ (d : Result ⊤ Refusal). (calls.decided d Err s fault).answer) (first_yes (region_refusals s p a) tests) ∙ core

pub backed_reads : (s : State) → Sound s → BackedReads s
backed_reads s sound p a b slot f here readable frame room seen = (done, fault_shows s p a b slot sound home readable seen done)
  where
    o : Owing nothing s.machine
    o = sound_owing s sound

    at : (p < 8) × (In slot (order_of s.machine p) × (contains (region_at s.machine p slot) a ≡ true))
    at = region_home s.machine o p a slot here

    home : home_slot s p a ≡ Some slot
    home = home_region s.machine o p _ slot at.1.0 (page_inside s.machine o p at.0 slot a at.1.0 at.1.1)

    -- an address in a region is a user's
    below : user a ≡ true
    below =
        let r : Region = region_at s.machine p slot in
        let limits = ((o.regions (row_of p slot)).used (o.listed p slot at.0 at.1.0).1).user_segment in
        let l = ltb-true a (r.start.0 + r.size) (both_true (leb r.start.0 a) (ltb a (r.start.0 + r.size)) at.1.1).1 in
        lt-ltb a (2 ^ 47) (omega arith)

    tests : Passed (region_refusals s p a)
    tests = tests_pass s p a slot (ap not (eq-eqb (process_at s.machine p).opened 1 (listed_open nothing s.machine o p slot at.1.0))) (ap not below) here

    core : (handle_fault s p (slot_at s p a) (a / 4096) false).answer ≡ Ok tt
    core = subst (λ (t : ℕ). (handle_fault s p t (a / 4096) false).answer ≡ Ok tt) (sym (ap row_found here)) (fault_serves s p slot (a / 4096) f (ap (frame_in s p (a / 4096)) (sym home) ∙ frame) readable room)

    done : (calls.fault s p a false).answer ≡ Ok tt
    done = fault_done s sound p a tests core
