-- A read fault that succeeds brings the view to the load; and everything that POSIX is asked for.
use Rattle.std.specs.Prelude.{◌≡◌, ◌⊎◌, ◌≢◌, Bool, ◌&&◌, not, cond, length, get_or, eqb, ltb, Option, Some, None, Result, Ok, Err, ⊤}
use Rattle.std.proofs.Math.Path.{refl}
use Rattle.std.proofs.Common.{ap, sym, subst, ◌∙◌, inl, inr, true≢false, arith, eqb-true, eq-eqb, leb-false}
use Rattle.std.proofs.Math.Bool.{true, false}
use Rattle.std.proofs.lemmas.Bool.{false≢true, eqb-false}
use mathlib.Core.List.{List, [], ◌∷◌}
use Prim.Native.Nat.{ℕ, ◌-◌, ◌*◌, ◌/◌, ◌%◌, ◌≤◌, ◌<◌}
use Rattle.std.proofs.Math.Decide.{ℕ_discrete}
use Rattle.laws.specs.ResultLaws.{err_not_ok, some_same}
use Rattle.address.specs.declared.PhysFrame.{PhysFrame}
use Rattle.address.specs.Flags.{read_only}
use Rattle.address.specs.Bits.{bit}
use Rattle.address.specs.Canonical.{user}
use Rattle.answers.specs.declared.Refusal.{Refusal}
use Rattle.model.specs.declared.Region.{Region}
use Rattle.model.specs.declared.Mapping.{Mapping}
use Rattle.model.specs.declared.Backed.{Backed}
use Rattle.model.specs.declared.Backed.TheVariants.{ByEntry, ByRange, Unbacked}
use Rattle.model.specs.declared.Way.{Way}
use Rattle.model.specs.declared.Way.TheVariants.{Refuse, Already, Restore, Map, Copy, Fill}
use Rattle.model.specs.Machine.{Machine, State, with_mapped, process_at, region_at, row_of, order_of, mapped_of, no_region}
use Rattle.model.specs.MachineLaws.{mapped_put, mapped_length, order_mapped, Books, books_then, books_claim, books_re_entry, books_order}
use Rattle.model.specs.Answers.{Try, fine, unless, first_of, leaving}
use Rattle.model.specs.Lookup.{contains, is_shared, is_open}
use Rattle.model.specs.Paging.{page_start, mapping, map_page, unmap_page, translate, is_writable, is_user, all_four}
use Rattle.model.specs.Backing.{backing, claim}
use Rattle.model.specs.Fault.{handle_fault, go_way, own_frame, re_entry, fault_way, private_way, shared_way, backed_way, translated_way, way_refusals, no_room, is_mapped}
use Rattle.model.specs.Access.{granted, page_at, loaded}
use Rattle.model.specs.Refusals.{slot_at, region_refusals, access_refusals}
use Rattle.model.specs.Calls as calls
use Rattle.model.specs.Run.{call, step}
use Rattle.model.specs.Sound.{Sound}
use Rattle.model.specs.Posix as posix
use Rattle.model.specs.Posix.{view, home_slot, Readable, FaultShowsView}
use Rattle.model.specs.MappedBelowLaws.{length_map, length_unmap}
use Rattle.keeping.specs.GuardedKept.{Passed, passed}
use Rattle.laws.specs.In.{In}
use Rattle.keeping.specs.Owing.{Owing, Placed, nothing}
use Rattle.keeping.specs.OwingOfSound.{sound_owing}
use Rattle.keeping.specs.OwingLaws.{home_one, listed_open}
use Rattle.keeping.specs.FaultKept.{fault_kept}
use Rattle.isolation.specs.ViewLaws.{Home, home_at}
use Rattle.isolation.specs.StoreStays.{translated}
use Rattle.isolation.specs.LoadShows.{guarded_is, guarded_done, granted_view, load_is_view, private_store, shared_store}
use Rattle.isolation.specs.FaultStays.{fault_call, fault_keeps_views}
use Rattle.isolation.specs.CloneStays.{fork_inherits, fork_keeps_others, clone_inherits, clone_keeps_others}

-- ---- a page that is mapped

not_mapped : (pg : ℕ) (l : List Mapping) → translate l pg ≡ None → (x : Mapping) → In x l → x.page.0 ≢ pg
unfolding translate
not_mapped pg [] e x k = absurd k
not_mapped pg (y ∷ l) e x k = go (eqb y.page.0 pg) refl e k (not_mapped pg l)
  where
    go : (b : Bool) → eqb y.page.0 pg ≡ b → cond b (Some y) (translate l pg) ≡ None → In x (y ∷ l) → (translate l pg ≡ None → (x : Mapping) → In x l → x.page.0 ≢ pg) → x.page.0 ≢ pg
    go true p q i more = let z : ◌≡◌ {A = ℕ} 0 1 = cc in absurd (omega arith)
    go false p q (inl i) more = λ z. eqb-false y.page.0 pg p (ap (λ (w : Mapping). w.page.0) (sym i) ∙ z)
    go false p q (inr i) more = more q x i

map_here : (l : List Mapping) (x : Mapping) → In x (map_page l x)
unfolding map_page
map_here [] x = inl refl
map_here (y ∷ l) x = go (ltb x.page.0 y.page.0) (map_here l x)
  where
    go : (b : Bool) → In x (map_page l x) → In x (cond b (x ∷ y ∷ l) (y ∷ map_page l x))
    go true r = inl refl
    go false r = inr r

-- user access stays without WRITABLE
user_still : (f : ℕ) → is_user f ≡ true → is_user (read_only f) ≡ true
unfolding read_only bit
user_still f e = let k = eqb-true (f / 2 / 2 % 2) 1 e in eq-eqb ((f - f / 2 % 2 * 2) / 2 / 2 % 2) 1 (omega arith)

all_user : is_user all_four ≡ true
unfolding bit
all_user = refl

module _ (s : State) (sound : Sound s) (p a slot : ℕ) (home : Home s.machine p slot (a / 4096)) (readable : Readable (region_at s.machine p slot)) where
  abbrev m : Machine
  m = s.machine

  o : Owing nothing m
  o = sound_owing s sound

  -- a mapped page of it is granted to loads
  mapped_granted : (x : Mapping) → In x (mapped_of m p) → x.page.0 ≡ a / 4096 → granted (page_at m p a) false ≡ true
  mapped_granted x i e = go (translate (mapped_of m p) (a / 4096)) refl
    where
      has_user : (y : Mapping) → Placed m p y → y.page.0 ≡ a / 4096 → is_user y.flags.0 ≡ true
      has_user y k z = flags (sort readable)
        where
          same : k.slot ≡ slot
          same = home_one m o p home.low (page_start (a / 4096)) k.slot slot k.listed home.listed (subst (λ (j : ℕ). contains (region_at m p k.slot) (page_start j) ≡ true) z k.inside) home.inside

          region : region_at m p k.slot ≡ region_at m p slot
          region = ap (λ (j : ℕ). region_at m p j) same

          sort : Readable (region_at m p slot) → (((region_at m p slot).kind ≢ 3) × (is_user (region_at m p slot).flags.0 ≡ true)) ⊎ ((region_at m p slot).kind ≡ 3)
          sort (inr q) = inr q
          sort (inl q) = kind (ℕ_discrete (region_at m p slot).kind 3)
            where
              kind : Dec ((region_at m p slot).kind ≡ 3) → (((region_at m p slot).kind ≢ 3) × (is_user (region_at m p slot).flags.0 ≡ true)) ⊎ ((region_at m p slot).kind ≡ 3)
              kind (yes w) = inr w
              kind (no w) = inl (w, q)

          flags : (((region_at m p slot).kind ≢ 3) × (is_user (region_at m p slot).flags.0 ≡ true)) ⊎ ((region_at m p slot).kind ≡ 3) → is_user y.flags.0 ≡ true
          flags (inr q) = ap is_user (k.flagged.shared (ap (λ (r : Region). r.kind) region ∙ q)) ∙ all_user
          flags (inl q) = side (k.flagged.private (λ w. q.0 (ap (λ (r : Region). r.kind) (sym region) ∙ w)))
            where
              side : (y.flags.0 ≡ (region_at m p k.slot).flags.0) ⊎ (y.flags.0 ≡ read_only (region_at m p k.slot).flags.0) → is_user y.flags.0 ≡ true
              side (inl w) = ap is_user (w ∙ ap (λ (r : Region). r.flags.0) region) ∙ q.1
              side (inr w) = ap is_user (w ∙ ap (λ (r : Region). read_only r.flags.0) region) ∙ user_still (region_at m p slot).flags.0 q.1

      go : (t : Option Mapping) → translate (mapped_of m p) (a / 4096) ≡ t → granted t false ≡ true
      go None q = absurd (not_mapped (a / 4096) (mapped_of m p) q x i e)
      go (Some y) q = let k = translated (mapped_of m p) (a / 4096) y q in ap (λ (c : Bool). c && true) (has_user y (o.mapped p home.low y k.0) k.1)

-- ---- the ways of a read

abbrev Reads : Option Mapping → Way → Type 0
Reads t (Refuse x) = Unit {0}
Reads t Already = is_mapped t ≡ true
Reads t Restore = ⊥
Reads t (Map f fl) = Unit {0}
Reads t (Copy f) = ⊥
Reads t Fill = Unit {0}

pick : (t : Option Mapping) (x y : Way) (c : Bool) → Reads t x → Reads t y → Reads t (cond c x y)
pick t x y true f g = f
pick t x y false f g = g

backed_reads : (r : Region) (f : PhysFrame) (n : ℕ) → Reads None (backed_way r f n false)
backed_reads r f n = pick None _ _ (is_writable r.flags.0) (pick None _ _ (eqb n 1) tt tt) tt

translated_reads : (r : Region) (t : Option Mapping) (b : Backed) → Reads t (translated_way r t b false)
translated_reads r (Some x) b = refl
translated_reads r None (ByEntry i f n) = backed_reads r f n
translated_reads r None (ByRange f n) = backed_reads r f n
translated_reads r None Unbacked = pick None _ _ (is_writable r.flags.0) tt tt

private_reads : (r : Region) (t : Option Mapping) (b : Backed) → Reads t (private_way r t b false)
unfolding private_way
private_reads r t b = pick t _ _ (is_user r.flags.0) (translated_reads r t b) tt

shared_reads : (t : Option Mapping) (b : Backed) → Reads t (shared_way t b)
unfolding shared_way
shared_reads (Some x) b = refl
shared_reads None (ByEntry i f n) = tt
shared_reads None (ByRange f n) = tt
shared_reads None Unbacked = tt

way_reads : (m : Machine) (p s page : ℕ) → Reads (translate (mapped_of m p) page) (fault_way m p s page false)
unfolding fault_way
way_reads m p s page = pick _ _ _ (is_shared (region_at m p s)) (shared_reads (translate (mapped_of m p) page) (backing m p s page)) (private_reads (region_at m p s) (translate (mapped_of m p) page) (backing m p s page))

-- what a read fault leaves: the page mapped
record Brought (m n : Machine) (p pg : ℕ) : Type 0 where
  regions : n.regions ≡ m.regions
  order : order_of n p ≡ order_of m p
  at : Mapping
  inside : In at (mapped_of n p)
  page : at.page.0 ≡ pg

-- a page table put
module _ (m n : Machine) (o : Owing nothing m) (p : ℕ) (low : p < 8) (books : Books m n) (l : List Mapping) (few : length l ≤ 128) where
  put_reads : mapped_of (with_mapped n p l) p ≡ l
  put_reads = let a = o.sizes.processes in let b = o.sizes.mapped in let c = ap length books.processes in let e = ap length books.mapped in mapped_put n p (omega arith) l (omega arith) few

  put_order : order_of (with_mapped n p l) p ≡ order_of m p
  put_order = order_mapped n p p l ∙ books_order p books

  put_regions : (with_mapped n p l).regions ≡ m.regions
  unfolding with_mapped
  put_regions = books.regions

  brought : (x : Mapping) (pg : ℕ) → In x l → x.page.0 ≡ pg → Brought m (with_mapped n p l) p pg
  brought x pg i e = record { regions = put_regions; order = put_order; at = x; inside = subst (λ k. In x k) (sym put_reads) i; page = e }

module _ (s : State) (sound : Sound s) (p t pg : ℕ) (low : p < 8) where
  abbrev machine : Machine
  machine = s.machine

  own : Owing nothing machine
  own = sound_owing s sound

  room_left : no_room machine p ≡ false → length (mapped_of machine p) < 128
  room_left e = let a = mapped_length machine p in let c = leb-false 128 (process_at machine p).mapped e in omega arith

  brings : (way : Way) → Reads (translate (mapped_of machine p) pg) way → Passed (way_refusals machine p t pg way) → Brought machine (go_way s p t pg way).machine p pg
  unfolding way_refusals go_way own_frame
  brings (Refuse x) k e = absurd (true≢false e.0)
  brings Already k e = go (translate (mapped_of machine p) pg) refl k
    where
      go : (x : Option Mapping) → translate (mapped_of machine p) pg ≡ x → is_mapped x ≡ true → Brought machine machine p pg
      go None q z = absurd (false≢true z)
      go (Some x) q z = let i = translated (mapped_of machine p) pg x q in record { regions = refl; order = refl; at = x; inside = i.0; page = i.1 }
  brings Restore k e = absurd k
  brings (Map f fl) k e =
      let x : Mapping = mapping pg f.0 fl.0 in
      let a = room_left e.0 in
      let c = length_map (mapped_of machine p) x in
      let books : Books machine machine = record { processes = refl; regions = refl; order = refl; mapped = refl } in
      brought machine machine own p low books (map_page (mapped_of machine p) x) (omega arith) x pg (map_here (mapped_of machine p) x) refl
  brings (Copy f) k e = absurd k
  brings Fill k e =
      let new : ℕ = machine.pool.next.0 in
      let x : Mapping = mapping pg new (region_at machine p t).flags.0 in
      let mid : Machine = re_entry (claim machine new 1) (row_of p t) pg (backing machine p t pg) new in
      let bare : List Mapping = unmap_page (mapped_of machine p) pg in
      let books = books_then (books_claim machine new 1) (books_re_entry (claim machine new 1) (row_of p t) pg (backing machine p t pg) new) in
      let a = room_left e.1.1.0 in
      let b = length_unmap pg (mapped_of machine p) in
      let c = length_map bare x in
      brought machine mid own p low books (map_page bare x) (omega arith) x pg (map_here bare x) refl

  fault_brings : (handle_fault s p t pg false).answer ≡ Ok tt → Brought machine (handle_fault s p t pg false).state.machine p pg
  unfolding handle_fault
  fault_brings e = go (first_of (way_refusals machine p t pg way)) refl e
    where
      way : Way
      way = fault_way machine p t pg false

      leaves : Result ⊤ Refusal → Try
      leaves d = unless d s (fine (go_way s p t pg way))

      go : (d : Result ⊤ Refusal) → first_of (way_refusals machine p t pg way) ≡ d → (leaves d).answer ≡ Ok tt → Brought machine (leaves d).state.machine p pg
      go (Ok tt) q y = brings way (way_reads machine p t pg) (passed _ q)
      go (Err x) q y = absurd (err_not_ok y)

-- ---- the load after it

pub first_yes : (l : List (Bool × Refusal)) → Passed l → first_of l ≡ Ok tt
unfolding first_of
first_yes [] k = refl
first_yes (t ∷ l) k = rw k.0 (first_yes l k.1)

load_granted : (s : State) → Sound s → (p a : ℕ) → not (is_open s.machine p) ≡ false → not (user a) ≡ false → granted (page_at s.machine p a) false ≡ true → (calls.load s p a).answer ≡ Ok (loaded s p a)
unfolding calls.load access_refusals
load_granted s sound p a x y z =
    ap (λ t. t.answer) (guarded_is s sound Err (access_refusals s p a false) (leaving (Ok (loaded s p a)) s))
    ∙ ap (λ (d : Result ⊤ Refusal). (calls.decided d Err s (leaving (Ok (loaded s p a)) s)).answer) (first_yes (access_refusals s p a false) (x, (y, (ap not z, tt))))

fault_sound : (s : State) → Sound s → (p a : ℕ) → Sound (calls.fault s p a false).state
unfolding step call
fault_sound s sound p a = fault_kept s sound p a false

-- what a read fault that succeeds leaves
record Faulted (s after : State) (p a : ℕ) : Type 0 where
  address : not (user a) ≡ false
  brought : Brought s.machine after.machine p (a / 4096)

faulted : (s : State) → Sound s → (p a slot : ℕ) → home_slot s p a ≡ Some slot → (calls.fault s p a false).answer ≡ Ok tt → Faulted s (calls.fault s p a false).state p a
unfolding calls.fault region_refusals
faulted s sound p a slot home done =
    guarded_done s sound (region_refusals s p a) (handle_fault s p (slot_at s p a) (a / 4096) false) done (λ x. Faulted s x p a)
    (λ k y. record { address = k.1.0; brought = fault_brings s sound p (slot_at s p a) (a / 4096) (home_at s.machine (sound_owing s sound) p (a / 4096) slot home).low y })

-- so its page is granted, and its load answers the view
module _ (s after : State) (sound : Sound s) (sound' : Sound after) (p a b slot : ℕ) (home : home_slot s p a ≡ Some slot) (readable : Readable (region_at s.machine p slot)) (k : Faulted s after p a) where
  row : region_at after.machine p slot ≡ region_at s.machine p slot
  row = ap (λ l. get_or l (row_of p slot) no_region) k.brought.regions

  there : Home after.machine p slot (a / 4096)
  there =
      let h = home_at s.machine (sound_owing s sound) p (a / 4096) slot home in
      record { low = h.low; listed = subst (λ l. In slot l) (sym k.brought.order) h.listed; inside = ap (λ (r : Region). contains r (page_start (a / 4096))) row ∙ h.inside }

  loads_view : view after p a ≡ Some b → (calls.load after p a).answer ≡ Ok b
  loads_view seen =
      let opened = listed_open nothing after.machine (sound_owing after sound') p slot there.listed in
      let grant = mapped_granted after sound' p a slot there (subst Readable (sym row) readable) k.brought.at k.brought.inside k.brought.page in
      load_granted after sound' p a (ap not (eq-eqb (process_at after.machine p).opened 1 opened)) k.address grant ∙ ap Ok (some_same (sym (granted_view after sound' p a false grant) ∙ seen))

pub fault_shows : FaultShowsView
fault_shows s p a b slot sound home readable seen done =
    loads_view s (calls.fault s p a false).state sound (fault_sound s sound p a) p a b slot home readable (faulted s sound p a slot home done) ((fault_call s sound p a false p a).seen ∙ seen)

-- everything that POSIX is asked for
pub posix_holds : posix.Posix
posix_holds = record { load = load_is_view; fault = fault_shows; views = fault_keeps_views; private = private_store; shared = shared_store; fork = fork_inherits; keeps = fork_keeps_others; clone = clone_inherits; clone_keeps = clone_keeps_others }
