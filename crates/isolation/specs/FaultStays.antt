-- A page fault changes what no one sees.
use Rattle.std.specs.Prelude.{◌≡◌, ◌⊎◌, Bool, ◌&&◌, not, List, ℕ, ◌+◌, ◌*◌, ◌/◌, ◌%◌, ◌≤◌, ◌<◌, length, get_or, set, eqb, Option, Some, None, Result, Ok, Err, ⊤}
use Rattle.std.proofs.Math.Path.{refl, ap}
use Rattle.std.proofs.Common.{sym, subst, ◌∙◌, inl, inr, arith, get_or-set_same}
use Rattle.std.proofs.Math.Bool.{true, false, cond}
use Rattle.std.proofs.Math.Decide.{ℕ_discrete}
use Rattle.answers.specs.declared.Refusal.{Refusal}
use Rattle.address.specs.declared.PhysFrame.{PhysFrame}
use Rattle.model.specs.declared.Region.{Region}
use Rattle.model.specs.declared.Mapping.{Mapping}
use Rattle.model.specs.declared.Entry.{Entry}
use Rattle.model.specs.declared.Backed.{Backed}
use Rattle.model.specs.declared.Backed.TheVariants.{ByEntry, ByRange, Unbacked}
use Rattle.model.specs.declared.Way.{Way}
use Rattle.model.specs.declared.Way.TheVariants.{Refuse, Already, Restore, Map, Copy, Fill}
use Rattle.model.specs.Machine.{Machine, State, with_machine, with_mapped, region_at, row_of, order_of, mapped_of, no_entry, no_region}
use Rattle.model.specs.MachineLaws.{books_then, books_claim, books_re_entry, books_order, order_mapped}
use Rattle.model.specs.Answers.{fine, unless, first_of}
use Rattle.model.specs.Lookup.{contains, first_slot, region_for, free_entry, row_found, is_shared}
use Rattle.model.specs.Paging.{page_start, translate, is_writable, is_user, well_mapped}
use Rattle.model.specs.Backing.{backing, claim, add_entry, with_backings, frame_bytes, put_frame}
use Rattle.model.specs.Fault.{handle_fault, go_way, own_frame, re_entry, fault_way, private_way, shared_way, mapped_way, backed_way, translated_way, way_refusals, by_entry, no_entry_left, no_frame, fill_of, read_fails}
use Rattle.model.specs.Refusals.{slot_at, region_refusals}
use Rattle.model.specs.Calls as calls
use Rattle.model.specs.Run.{Call, call, step}
use Rattle.model.specs.Sound.{Sound, frame_by}
use Rattle.model.specs.Posix.{view, home_slot, kind_at, FaultKeepsViews}
use Rattle.keeping.specs.GuardedKept.{Passed, passed}
use Rattle.laws.specs.In.{In}
use Rattle.laws.specs.SetLaws.{row_there}
use Rattle.keeping.specs.Owing.{Owing, Backs, row_at, entry_at, nothing}
use Rattle.keeping.specs.BacksLaws.{source_of, backing_of, entry_of_backing}
use Rattle.keeping.specs.OwingOfSound.{sound_owing}
use Rattle.keeping.specs.OwingLaws.{open_low}
use Rattle.keeping.specs.PagesKept.{base_used}
use Rattle.keeping.specs.BackingsKept.{FreeRun}
use Rattle.model.specs.RuleUseLaws.{backing_within}
use Rattle.keeping.specs.FreeLaws.{next_run}
use Rattle.keeping.specs.EntriesKept.{entry_on, free_row}
use Rattle.keeping.specs.ArgumentLaws.{Named, named_at}
use Rattle.keeping.specs.LetGoLaws.{lends_let_go}
use Rattle.keeping.specs.FrameLengthLaws.{bytes_length, fill_length}
use Rattle.keeping.specs.FaultWayLaws.{Right, way_right}
use Rattle.keeping.specs.FaultKept.{fault_core, page_inside}
use Rattle.isolation.specs.ViewLaws.{Home, home_at, view_at, view_none, kind_at_home, kind_none, seen_by, looks}
use Rattle.isolation.specs.Undisturbed.{Undisturbed, Same, same_refl, same_stays, same_undisturbed, guarded_same, CallStays}
use Rattle.isolation.specs.LoneHolder.{in_base}
use Rattle.isolation.specs.FrameBytes.{bytes_at, put_here, put_else}
use Rattle.isolation.specs.Quiet.{set_either}

-- ---- the same regions in the same lists

pub region_same : (m n : Machine) (q a : ℕ) → n.regions ≡ m.regions → order_of n q ≡ order_of m q → region_for n q a ≡ region_for m q a
unfolding region_for
region_same m n q a e f = λ k. first_slot (λ s. contains (get_or (e k) (row_of q s) no_region) a) (f k)

-- two states with the same homes
pub same_homes : (s after : State) (q c : ℕ) → home_slot after q c ≡ home_slot s q c → ((t : ℕ) → home_slot s q c ≡ Some t → Same s after q c) → Same s after q c
same_homes s after q c e f = go (home_slot s q c) refl
  where
    go : (x : Option ℕ) → home_slot s q c ≡ x → Same s after q c
    go (Some t) z = f t z
    go None z = record { seen = view_none after q c (e ∙ z) ∙ sym (view_none s q c z); kind = kind_none after q c (e ∙ z) ∙ sym (kind_none s q c z) }

-- ---- the page table alone

pub mapped_same : (s : State) → Sound s → (p : ℕ) (l : List Mapping) (q c : ℕ) → Sound (with_machine s (with_mapped s.machine p l)) → Same s (with_machine s (with_mapped s.machine p l)) q c
unfolding with_mapped
mapped_same s sound p l q c sound' = same_homes s after q c (region_same s.machine n q (page_start (c / 4096)) refl (order_mapped s.machine p q l)) at
  where
    n : Machine
    n = with_mapped s.machine p l

    after : State
    after = with_machine s n

    at : (t : ℕ) → home_slot s q c ≡ Some t → Same s after q c
    at t e =
        let o = sound_owing s sound in
        let h = home_at s.machine o q (c / 4096) t e in
        let listed = subst (λ k. In t k) (sym (order_mapped s.machine p q l)) h.listed in
        let u : Undisturbed s after q t (c / 4096) (c % 4096) = record { bytes = refl; files = refl; look = refl; ranged = refl; range = refl; forth = λ i x y. refl; back = λ i x y. refl; frames = λ base fr b. refl; listed = listed } in
        same_undisturbed s after o (sound_owing after sound') q c t e u

-- ---- a frame of its own

-- the entry that is put
record Put (m n : Machine) (row pg new : ℕ) : Type 0 where
  at : ℕ
  there : at < length m.entries
  entries : n.entries ≡ set m.entries at (entry_on row pg new)
  was : (((entry_at m at).owner ≡ row + 1) × ((entry_at m at).page.0 ≡ pg)) ⊎ ((entry_at m at).owner ≡ 0)

entered : (m : Machine) (p t pg new : ℕ) (b : Backed) → backing m p t pg ≡ b → (not (by_entry b) && no_entry_left m) ≡ false → Put m (re_entry (claim m new 1) (row_of p t) pg b new) (row_of p t) pg new
unfolding re_entry add_entry claim with_backings free_entry
entered m p t pg new (ByEntry i f n) e left =
    let k = entry_of_backing m p t pg i f n e in
    let own = k.0.0 in
    record { at = i; there = row_there m.entries no_entry i (λ z. let y = ap (λ (x : Entry). x.owner) z in omega arith); entries = refl; was = inl k.0 }
entered m p t pg new (ByRange f n) e left = let k = free_row m left in record { at = row_found (free_entry m); there = k.0; entries = refl; was = inr k.1 }
entered m p t pg new Unbacked e left = let k = free_row m left in record { at = row_found (free_entry m); there = k.0; entries = refl; was = inr k.1 }

files_re_entry : (m : Machine) (new row pg : ℕ) (b : Backed) → (re_entry (claim m new 1) row pg b new).files ≡ m.files
unfolding re_entry add_entry claim with_backings
files_re_entry m new row pg (ByEntry i f n) = (lends_let_go (claim m new 1) f.0).files
files_re_entry m new row pg (ByRange f n) = refl
files_re_entry m new row pg Unbacked = refl

module _ (s : State) (sound : Sound s) (p t pg : ℕ) (home : Home s.machine p t pg) (content : List ℕ) (long : length content ≡ 4096) (frame : no_frame s.machine ≡ false) (left : (not (by_entry (backing s.machine p t pg)) && no_entry_left s.machine) ≡ false)
    (fills : (c : ℕ) → c / 4096 ≡ pg → home_slot s p c ≡ Some t → view s p c ≡ Some (get_or content (c % 4096) 0)) (sound' : Sound (own_frame s p t pg content)) where
  abbrev m : Machine
  m = s.machine

  abbrev new : ℕ
  new = m.pool.next.0

  o : Owing nothing m
  o = sound_owing s sound

  abbrev mid : Machine
  mid = re_entry (claim m new 1) (row_of p t) pg (backing m p t pg) new

  put : Put m mid (row_of p t) pg new
  put = entered m p t pg new (backing m p t pg) refl left

  run : FreeRun m new 1
  run = next_run nothing m o frame

  abbrev n : Machine
  n = (own_frame s p t pg content).machine

  n_regions : n.regions ≡ m.regions
  unfolding own_frame with_mapped
  n_regions = (books_then (books_claim m new 1) (books_re_entry (claim m new 1) (row_of p t) pg (backing m p t pg) new)).regions

  n_order : (q : ℕ) → order_of n q ≡ order_of m q
  unfolding own_frame
  n_order q = order_mapped mid p q _ ∙ books_order q (books_then (books_claim m new 1) (books_re_entry (claim m new 1) (row_of p t) pg (backing m p t pg) new))

  n_files : n.files ≡ m.files
  unfolding own_frame with_mapped
  n_files = files_re_entry m new (row_of p t) pg (backing m p t pg)

  n_entries : n.entries ≡ set m.entries put.at (entry_on (row_of p t) pg new)
  unfolding own_frame with_mapped
  n_entries = put.entries

  n_bytes : (own_frame s p t pg content).bytes ≡ s.bytes
  unfolding own_frame
  n_bytes = refl

  n_frames : (own_frame s p t pg content).frames ≡ put_frame s.frames new content
  unfolding own_frame
  n_frames = refl

  n_owing : Owing nothing n
  n_owing = sound_owing (own_frame s p t pg content) sound'

  n_home : (q c : ℕ) → home_slot (own_frame s p t pg content) q c ≡ home_slot s q c
  n_home q c = region_same m n q (page_start (c / 4096)) n_regions (n_order q)

  inside : new * 4096 + 4096 ≤ length s.frames
  inside = let z = sound.r6.sized.frames in let k = run.inside in omega arith

  entry_at_is : (j : ℕ) → (entry_at n j ≡ entry_at m j) ⊎ ((j ≡ put.at) × (entry_at n j ≡ entry_on (row_of p t) pg new))
  entry_at_is j = subst (λ l. (get_or l j no_entry ≡ entry_at m j) ⊎ ((j ≡ put.at) × (get_or l j no_entry ≡ entry_on (row_of p t) pg new))) (sym n_entries) (set_either m.entries put.at (entry_on (row_of p t) pg new) j no_entry)

  -- other pages
  else_where : (q c u : ℕ) → home_slot s q c ≡ Some u → (row_of q u ≡ row_of p t → c / 4096 ≡ pg → ⊥) → Undisturbed s (own_frame s p t pg content) q u (c / 4096) (c % 4096)
  else_where q c u e other = record {
    bytes = n_bytes;
    files = n_files;
    look = ap looks row;
    ranged = ap (λ (r : Region). r.ranged) row;
    range = ap (λ (r : Region). r.range) row;
    forth = λ j x y. forth j x y (entry_at_is j);
    back = λ j x y. back j x y (entry_at_is j);
    frames = λ base fr b. ap (λ l. get_or l (fr * 4096 + c % 4096) 0) n_frames ∙ put_else s.frames new content long inside fr (c % 4096) (omega arith) (λ z. free base fr b z);
    listed = subst (λ k. In u k) (sym (n_order q)) (home_at m o q (c / 4096) u e).listed;
  }
    where
      row : row_at n (row_of q u) ≡ row_at m (row_of q u)
      row = ap (λ l. get_or l (row_of q u) no_region) n_regions

      old : (j : ℕ) → (entry_at m j).owner ≡ row_of q u + 1 → (entry_at m j).page.0 ≡ c / 4096 → j ≡ put.at → (((entry_at m put.at).owner ≡ row_of p t + 1) × ((entry_at m put.at).page.0 ≡ pg)) ⊎ ((entry_at m put.at).owner ≡ 0) → ⊥
      old j x y z (inl w) = let a = ap (λ (i : ℕ). (entry_at m i).owner) z in let b = ap (λ (i : ℕ). (entry_at m i).page.0) z in let w0 = w.0 in let w1 = w.1 in other (omega arith) (sym y ∙ b ∙ w1)
      old j x y z (inr w) = let a = ap (λ (i : ℕ). (entry_at m i).owner) z in omega arith

      forth : (j : ℕ) → (entry_at m j).owner ≡ row_of q u + 1 → (entry_at m j).page.0 ≡ c / 4096 → (entry_at n j ≡ entry_at m j) ⊎ ((j ≡ put.at) × (entry_at n j ≡ entry_on (row_of p t) pg new)) → entry_at n j ≡ entry_at m j
      forth j x y (inl z) = z
      forth j x y (inr z) = absurd (old j x y z.0 put.was)

      back : (j : ℕ) → (entry_at n j).owner ≡ row_of q u + 1 → (entry_at n j).page.0 ≡ c / 4096 → (entry_at n j ≡ entry_at m j) ⊎ ((j ≡ put.at) × (entry_at n j ≡ entry_on (row_of p t) pg new)) → entry_at n j ≡ entry_at m j
      back j x y (inl z) = z
      back j x y (inr z) = let a = ap (λ (i : Entry). i.owner) z.1 in let b = ap (λ (i : Entry). i.page.0) z.1 in absurd (other (omega arith) (sym y ∙ b))

      free : (base fr : ℕ) → Backs m (row_of q u) (c / 4096) base fr → fr ≡ new → ⊥
      free base fr b z = let k = in_base m o (row_of q u) (c / 4096) base fr b in let k0 = k.0 in let k1 = k.1 in let a = run.free new (omega arith) (omega arith) base (omega arith) in omega arith

  -- the page itself
  own_view : (c : ℕ) → c / 4096 ≡ pg → home_slot s p c ≡ Some t → view (own_frame s p t pg content) p c ≡ view s p c
  own_view c z e =
      let here = ap (λ l. get_or l put.at no_entry) n_entries ∙ get_or-set_same m.entries put.at (entry_on (row_of p t) pg new) no_entry put.there in
      let b : Backs n (row_of p t) (c / 4096) new new = inl (record { at = put.at; owner = ap (λ (x : Entry). x.owner) here; page = ap (λ (x : Entry). x.page.0) here ∙ sym z; start = ap (λ (x : Entry). x.frame.0) here; frame = refl }) in
      let f = (backing_of n p t (c / 4096) n_owing.once_a_page new new b).0 in
      view_at (own_frame s p t pg content) p c t (n_home p c ∙ e)
      ∙ ap (seen_by (own_frame s p t pg content) (region_at n p t) (c / 4096) (c % 4096)) f
      ∙ ap (λ l. Some (get_or l (new * 4096 + c % 4096) 0)) n_frames
      ∙ ap (λ (x : ℕ). Some x) (put_here s.frames new content long inside (c % 4096) (omega arith))
      ∙ sym (fills c z e)

  own_kind : (c : ℕ) → home_slot s p c ≡ Some t → kind_at (own_frame s p t pg content) p c ≡ kind_at s p c
  own_kind c e = kind_at_home (own_frame s p t pg content) p c t (n_home p c ∙ e) ∙ ap (λ l. (get_or l (row_of p t) no_region).kind) n_regions ∙ sym (kind_at_home s p c t e)

  pub own_same : (q c : ℕ) → Same s (own_frame s p t pg content) q c
  own_same q c = same_homes s (own_frame s p t pg content) q c (n_home q c) (λ u e. at u e (ℕ_discrete (row_of q u) (row_of p t)) (ℕ_discrete (c / 4096) pg))
    where
      apart : (u : ℕ) → home_slot s q c ≡ Some u → (row_of q u ≡ row_of p t → c / 4096 ≡ pg → ⊥) → Same s (own_frame s p t pg content) q c
      apart u e other = same_undisturbed s (own_frame s p t pg content) o n_owing q c u e (else_where q c u e other)

      at : (u : ℕ) → home_slot s q c ≡ Some u → Dec (row_of q u ≡ row_of p t) → Dec (c / 4096 ≡ pg) → Same s (own_frame s p t pg content) q c
      at u e (no x) y = apart u e (λ a b. x a)
      at u e (yes x) (no y) = apart u e (λ a b. y b)
      at u e (yes x) (yes y) =
          let h = home_at m o q (c / 4096) u e in
          let small = (o.listed q u h.low h.listed).0 in
          let small' = (o.listed p t home.low home.listed).0 in
          let a : p ≡ q = omega arith in
          let b : u ≡ t = omega arith in
          subst (λ (r : ℕ). Same s (own_frame s p t pg content) r c) a
          (let f : home_slot s p c ≡ Some t = subst (λ (r : ℕ). home_slot s r c ≡ Some t) (sym a) (e ∙ ap (λ (r : ℕ). Some r) b) in record { seen = own_view c y f; kind = own_kind c f })

-- ---- a page that is filled is not backed

abbrev Bare : Backed → Way → Type 0
Bare b (Refuse x) = Unit {0}
Bare b Already = Unit {0}
Bare b Restore = Unit {0}
Bare b (Map f fl) = Unit {0}
Bare b (Copy f) = Unit {0}
Bare b Fill = frame_by b ≡ None

pick : (b : Backed) (x y : Way) (c : Bool) → Bare b x → Bare b y → Bare b (cond c x y)
pick b x y true f g = f
pick b x y false f g = g

backed_bare : (r : Region) (b : Backed) (f : PhysFrame) (n : ℕ) (w : Bool) → Bare b (backed_way r f n w)
backed_bare r b f n w = pick b _ _ (is_writable r.flags.0) (pick b _ _ (eqb n 1) tt (pick b _ _ w tt tt)) (pick b _ _ w tt tt)

mapped_bare : (r : Region) (b : Backed) → Bare b (mapped_way r b)
mapped_bare r (ByEntry i f n) = pick (ByEntry i f n) _ _ (is_writable r.flags.0) (pick (ByEntry i f n) _ _ (eqb n 1) tt tt) tt
mapped_bare r (ByRange f n) = pick (ByRange f n) _ _ (is_writable r.flags.0) (pick (ByRange f n) _ _ (eqb n 1) tt tt) tt
mapped_bare r Unbacked = pick Unbacked _ _ (is_writable r.flags.0) tt tt

translated_bare : (r : Region) (t : Option Mapping) (b : Backed) (w : Bool) → Bare b (translated_way r t b w)
translated_bare r (Some x) b w = pick b _ _ (well_mapped (Some x) w) tt (mapped_bare r b)
translated_bare r None (ByEntry i f n) w = backed_bare r (ByEntry i f n) f n w
translated_bare r None (ByRange f n) w = backed_bare r (ByRange f n) f n w
translated_bare r None Unbacked w = pick Unbacked _ _ (is_writable r.flags.0) refl (pick Unbacked _ _ w tt refl)

private_bare : (r : Region) (t : Option Mapping) (b : Backed) (w : Bool) → Bare b (private_way r t b w)
unfolding private_way
private_bare r t b w = pick b _ _ (is_user r.flags.0) (translated_bare r t b w) tt

shared_bare : (t : Option Mapping) (b : Backed) → Bare b (shared_way t b)
unfolding shared_way
shared_bare (Some x) b = tt
shared_bare None (ByEntry i f n) = tt
shared_bare None (ByRange f n) = tt
shared_bare None Unbacked = tt

way_bare : (m : Machine) (p s page : ℕ) (w : Bool) → Bare (backing m p s page) (fault_way m p s page w)
unfolding fault_way
way_bare m p s page w = pick _ _ _ (is_shared (region_at m p s)) (shared_bare (translate (mapped_of m p) page) (backing m p s page)) (private_bare (region_at m p s) (translate (mapped_of m p) page) (backing m p s page) w)

-- ---- the ways

module _ (s : State) (sound : Sound s) (p t pg : ℕ) (home : Home s.machine p t pg) (q c : ℕ) where
  abbrev machine : Machine
  machine = s.machine

  copied : (f : ℕ) → frame_by (backing machine p t pg) ≡ Some f → (x : ℕ) → x / 4096 ≡ pg → home_slot s p x ≡ Some t → view s p x ≡ Some (get_or (frame_bytes s.frames f) (x % 4096) 0)
  copied f e x z h = view_at s p x t h ∙ ap (seen_by s (region_at machine p t) (x / 4096) (x % 4096)) (ap (λ (i : ℕ). frame_by (backing machine p t i)) z ∙ e) ∙ ap (λ (i : ℕ). Some i) (sym (bytes_at s.frames f (x % 4096) (omega arith)))

  filled : frame_by (backing machine p t pg) ≡ None → read_fails machine (region_at machine p t) pg ≡ false → (x : ℕ) → x / 4096 ≡ pg → home_slot s p x ≡ Some t → view s p x ≡ Some (get_or (fill_of s (region_at machine p t) pg) (x % 4096) 0)
  unfolding read_fails fill_of
  filled e f x z h =
      view_at s p x t h ∙ ap (seen_by s (region_at machine p t) (x / 4096) (x % 4096)) (ap (λ (i : ℕ). frame_by (backing machine p t i)) z ∙ e)
      ∙ ap (λ (i : ℕ). cond (read_fails machine (region_at machine p t) i) None (Some (get_or (fill_of s (region_at machine p t) i) (x % 4096) 0))) z
      ∙ ap (λ (b : Bool). cond b None (Some (get_or (fill_of s (region_at machine p t) pg) (x % 4096) 0))) f

  frame_low : (f : ℕ) → frame_by (backing machine p t pg) ≡ Some f → f < machine.frame_count
  frame_low f e =
      let o = sound_owing s sound in
      let k = source_of machine p t pg f e in
      let l = in_base machine o (row_of p t) pg k.base f k.backs in
      let l1 = l.1 in
      let w = backing_within machine k.base (base_used nothing machine o (row_of p t) pg k.base f k.backs) o.pool in
      omega arith

  went : (way : Way) → Right (region_at machine p t) (translate (mapped_of machine p) pg) (backing machine p t pg) way → Bare (backing machine p t pg) way → Passed (way_refusals machine p t pg way) → Sound (go_way s p t pg way) → Same s (go_way s p t pg way) q c
  unfolding way_refusals go_way
  went (Refuse x) k b e z = same_refl s q c
  went Already k b e z = same_refl s q c
  went Restore k b e z = mapped_same s sound p _ q c z
  went (Map f fl) k b e z = mapped_same s sound p _ q c z
  went (Copy f) k b e z = own_same s sound p t pg home (frame_bytes s.frames f.0) (bytes_length s.frames f.0 machine.frame_count sound.r6.sized.frames (frame_low f.0 k.1)) e.0 e.1.1.0 (copied f.0 k.1) z q c
  went Fill k b e z = own_same s sound p t pg home (fill_of s (region_at machine p t) pg) (fill_length s (region_at machine p t) pg) e.0 (left (by_entry (backing machine p t pg)) e.1.1.1.0) (filled b e.1.0) z q c
    where
      left : (b : Bool) → no_entry_left machine ≡ false → (not b && no_entry_left machine) ≡ false
      left true z = refl
      left false z = z

  pub fault_same : (w : Bool) → Same s (handle_fault s p t pg w).state q c
  unfolding handle_fault
  fault_same w = go (first_of (way_refusals machine p t pg way)) refl (fault_core s sound p t pg home.listed home.inside w)
    where
      way : Way
      way = fault_way machine p t pg w

      leaves : Result ⊤ Refusal → State
      leaves d = (unless d s (fine (go_way s p t pg way))).state

      go : (d : Result ⊤ Refusal) → first_of (way_refusals machine p t pg way) ≡ d → Sound (leaves (first_of (way_refusals machine p t pg way))) → Same s (leaves d) q c
      go (Ok tt) e z = went way (way_right machine p t pg w) (way_bare machine p t pg w) (passed _ e) (subst (λ (d : Result ⊤ Refusal). Sound (leaves d)) e z)
      go (Err x) e z = same_refl s q c

pub fault_call : (s : State) → Sound s → (p a : ℕ) (w : Bool) (q c : ℕ) → Same s (calls.fault s p a w).state q c
unfolding calls.fault region_refusals
fault_call s sound p a w q c = guarded_same s _ (region_refusals s p a) _ (λ x. Same s x q c) (same_refl s q c) (λ k. core (named_at s.machine p a k.0 k.1.1.0))
  where
    core : Named s.machine p (slot_at s p a) a → Same s (handle_fault s p (slot_at s p a) (a / 4096) w).state q c
    core n =
        let o = sound_owing s sound in
        let low = open_low s.machine o p n.opened in
        fault_same s sound p (slot_at s p a) (a / 4096) (record { low = low; listed = n.listed; inside = page_inside s.machine o p low (slot_at s p a) a n.listed n.inside }) q c w

pub fault_keeps_views : FaultKeepsViews
fault_keeps_views s p a w sound q c = (fault_call s sound p a w q c).seen

pub fault_stays : (p a : ℕ) (w : Bool) → CallStays (Call.fault p a w)
unfolding step call
fault_stays p a w s sound q c private free = same_stays private (fault_call s sound p a w q c)
