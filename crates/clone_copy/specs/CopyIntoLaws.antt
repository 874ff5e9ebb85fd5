-- From what the parts of a clone that copies leave to the model's copy_into.
use Rattle.std.specs.Prelude.{◌≡◌, ◌≢◌, Bool, List, [], ◌∷◌, ◌++◌, ℕ, zero, suc, ◌+◌, ◌-◌, ◌*◌, ◌^◌, ◌≤◌, ◌<◌, get_or, Option}
use Rattle.std.proofs.Math.Path.{refl, ap, sym, subst}
use Rattle.std.proofs.Common.{◌∙◌, arith, length-append}
use Rattle.std.proofs.Math.Bool.{true, false, cond}
use Rattle.std.proofs.Math.ListN.{length}
use Rattle.std.proofs.Math.Dec.{eqb}
use Rattle.model.specs.declared.Region.{Region}
use Rattle.model.specs.declared.Entry.{Entry}
use Rattle.laws.specs.Lists.{each, count}
use Rattle.model.specs.Layout.{machine}
use Rattle.model.specs.Machine.{Machine, State, process_at, region_at, row_of, with_order, no_entry, no_region}
use Rattle.model.specs.Lookup.{is_ranged, free_entries, row_found}
use Rattle.model.specs.Backing.{backing_at, entry_for}
use Rattle.model.specs.Create.{add_region}
use Rattle.model.specs.Clone.{Held, single_pages, backed_pages, copied_row, copy_entry, copy_into}
use Rattle.model.specs.Sound.{Sound, R2, Ordered, Entered, Limits}
use Rattle.model.specs.RecordLaws.{sound_tells}
use Rattle.rows.specs.LentMemory.{state_of}
use Rattle.lookup.specs.LookupsLaws.{processes_length}
use Rattle.backing.specs.Ready.{Ready}
use Rattle.backing.specs.BackingLaws.{sound_ready, used_low, used_inside}
use Rattle.clone_pages.specs.AlikeLaws.{alike_first}
use Rattle.clone_pages.specs.BackedPages.{range_len}
use Rattle.clone_pages.specs.BackedPagesLaws.{range_pages_are}
use Rattle.regions.specs.Added.{with_added}
use Rattle.regions.specs.AddedLaws.{places_inside}
use Rattle.regions.specs.RoomLaws.{free_below, free_kind, room_left, adds_region}
use Rattle.keeping.specs.Owing.{Owing, nothing}
use Rattle.keeping.specs.OwingOfSound.{sound_owing}
use Rattle.clone_share.specs.EntryPutLaws.{page_next}
use Rattle.clone_copy.specs.CopyPage.{copied_machine, copied_frames, Room}
use Rattle.clone_copy.specs.CopyPageLaws.{room_less, copy_state}
use Rattle.clone_copy.specs.CopyRange.{bare_all, RangeCopy, RangeCopied}
use Rattle.clone_copy.specs.CopyEntries.{SingleCopy, SinglesCopied}
use Rattle.clone_copy.specs.CopyEntriesLaws.{single_alike}
use Rattle.clone_copy.specs.CopyInto.{pages_of, PagesCopy, PagesCopied, Copyable, CopiedInto}

-- so many copies, and room for k more
room_each : (t : List Entry) (src row c : ℕ) → src ≢ row → (a : List Held) (k : ℕ) (n : Machine) (l b : List ℕ) → Room t n src c (length a + k) → Room t (each (copy_entry row) a (record { machine = n; frames = l; bytes = b })).machine src c k
unfolding each
room_each t src row c other [] k n l b room = let same : length {A = Held} [] + k ≡ k = omega arith in subst (λ (x : ℕ). Room t n src c x) same room
room_each t src row c other (h ∷ a) k n l b room =
    let fewer : length (h ∷ a) + k - 1 ≡ length a + k = omega arith in
    subst (λ (x : State). Room t (each (copy_entry row) a x).machine src c k) (sym (copy_state row h n l b))
    (room_each t src row c other a k (copied_machine n row h.page) (copied_frames n l h.frame) b (subst (λ (x : ℕ). Room t (copied_machine n row h.page) src c x) fewer (room_less t n src row c (length (h ∷ a) + k) h.page room (omega arith) other)))

each_both : {S : Type 0} (f : Held → S → S) (a b : List Held) (s : S) → each f (a ++ b) s ≡ each f b (each f a s)
unfolding each
each_both f [] b s = refl
each_both f (x ∷ a) b s = each_both f a b (f x s)

module _ (w f : List ℕ) (src row : ℕ) (r : Region) (k : PagesCopy (machine w) (length f) src row r) where
  abbrev m : Machine
  m = machine w

  both : length (pages_of m src r) ≡ length (bare_all m src r (range_len m r)) + length (single_pages m.entries src)
  both = length-append (bare_all m src r (range_len m r)) (single_pages m.entries src)

  whole : Room m.entries m src m.frame_count (length (bare_all m src r (range_len m r)) + length (single_pages m.entries src))
  whole = let size = both in let a = k.left in let b = k.free in record { alike = alike_first m.entries src; ready = k.ready; frames = refl; entries = omega arith; free = omega arith }

  module _ (len : ℕ) (long : len ≡ range_len m r) where
    pub range_ready : RangeCopy m (length f) src row r len
    range_ready = subst (λ (x : ℕ). RangeCopy m (length f) src row r x) (sym long) here
      where
        first : Room m.entries m src m.frame_count (length (bare_all m src r (range_len m r)))
        first = let a = whole.entries in let b = whole.free in record { alike = whole.alike; ready = k.ready; frames = refl; entries = omega arith; free = omega arith }

        most : range_len m r ≤ 256
        most = go (range_len m r) k.inside
          where
            go : (n : ℕ) → (1 ≤ n → r.range.0 + n ≤ m.frame_count) → n ≤ 256
            go zero h = omega arith
            go (suc n) h = let a = h (omega arith) in let b = k.ready.few in omega arith

        here : RangeCopy m (length f) src row r (range_len m r)
        here = record { room = first; other = k.other; bytes = k.bytes; inside = k.inside; few = k.ready.few; long = most }

    module _ (v g : List ℕ) (g_long : length g ≡ length f) (copied : RangeCopied w f src row r len v g) where
      after : Room m.entries (machine v) src m.frame_count (length (single_pages m.entries src))
      after = subst (λ (x : State). Room m.entries x.machine src m.frame_count (length (single_pages m.entries src))) (sym (copied [] ∙ ap (λ (n : ℕ). each (copy_entry row) (bare_all m src r n) (state_of w f [])) long))
          (room_each m.entries src row m.frame_count k.other (bare_all m src r (range_len m r)) (length (single_pages m.entries src)) m f [] whole)

      pub singles_ready : SingleCopy (machine v) (length g) src row
      singles_ready =
          let same = after.frames in
          record {
            base = m.entries;
            once = k.once;
            room = subst (λ (c : ℕ). Room m.entries (machine v) src c (length (single_pages m.entries src))) (sym same) after;
            other = k.other;
            bytes = g_long ∙ k.bytes ∙ ap (λ (c : ℕ). c * 4096) (sym same);
            frames = λ j e. let low = k.frames j e in omega arith;
            pages = k.pages;
          }

      pub pages_copied : (u h : List ℕ) → SinglesCopied v g src row u h → PagesCopied w f src row r u h
      pages_copied u h singles files =
          singles files
          ∙ ap (λ l. each (copy_entry row) l (state_of v g files)) (single_alike m.entries (machine v).entries src after.alike)
          ∙ ap (λ (x : State). each (copy_entry row) (single_pages m.entries src) x) (copied files ∙ ap (λ (n : ℕ). each (copy_entry row) (bare_all m src r n) (state_of w f files)) long)
          ∙ sym (each_both (copy_entry row) (bare_all m src r (range_len m r)) (single_pages m.entries src) (state_of w f files))

module _ (w f : List ℕ) (p s q i : ℕ) (p_low : p < 8) (s_low : s < 64) (q_low : q < 8) (k : Copyable w f p s q i) where
  abbrev n : Machine
  n = machine w

  abbrev st : State
  st = state_of w f k.sound.files

  sound : Sound st
  sound = (sound_tells st).yes k.sound.sound

  owing : Owing nothing n
  owing = sound_owing st sound

  abbrev r : Region
  r = region_at n p s

  abbrev src : ℕ
  src = row_of p s

  limits : Limits n r
  limits = (owing.regions src).used k.used

  n_ready : Ready n
  n_ready = sound_ready sound

  pub slot_low : i < 64
  slot_low = free_below n q i k.slot

  ordered : Ordered n q (process_at n q)
  ordered = sound.r6.ordered q (rw processes_length q_low)

  pub place_left : (process_at n q).attached < 64
  place_left = room_left n q i k.slot (process_at n q) ordered (places_inside w q q_low)

  pages_are : backed_pages n p s ≡ pages_of n src r
  unfolding backed_pages
  pages_are = ap (λ l. l ++ single_pages n.entries src) (range_pages_are n p s)

  entered : (j : ℕ) → (get_or n.entries j no_entry).owner ≡ src + 1 → Entered n (get_or n.entries j no_entry)
  entered j e = (owing.entries j).used (λ z. omega arith)

  page_low : (j : ℕ) → (get_or n.entries j no_entry).owner ≡ src + 1 → (get_or n.entries j no_entry).page.0 + 1 < 2 ^ 64
  page_low j e = page_next n owing j (λ z. omega arith)

  frame_low : (j : ℕ) → (get_or n.entries j no_entry).owner ≡ src + 1 → (get_or n.entries j no_entry).frame.0 < n.frame_count
  frame_low j e = let x = (entered j e).frame in used_low n n_ready (get_or n.entries j no_entry).frame.0 (λ z. omega arith)

  range_inside : 1 ≤ range_len n r → r.range.0 + range_len n r ≤ n.frame_count
  unfolding range_len
  range_inside = go (is_ranged r) refl
    where
      go : (b : Bool) → is_ranged r ≡ b → 1 ≤ cond b (backing_at n r.range.0).len 0 → r.range.0 + cond b (backing_at n r.range.0).len 0 ≤ n.frame_count
      go true e h = used_inside n n_ready r.range.0 (λ z. omega arith)
      go false e h = absurd (omega arith)

  added_copy : PagesCopy (add_region n q (copied_row r)) (length f) src (row_of q i) r
  unfolding add_region with_order range_len entry_for free_entries
  added_copy =
      let size = ap (λ l. length l) pages_are in
      let a = k.left in
      let b = k.free in
      let end = limits.user_segment in
      record {
        once = sound.r6.once_a_page;
        ready = record { r2 = record { apart = r2.apart; within = r2.within; free = r2.free; next = r2.next }; rows = n_ready.rows; few = n_ready.few };
        left = subst (λ l. length l ≤ count (λ e. eqb e.owner 0) n.entries) pages_are k.left;
        free = subst (λ l. length l ≤ n.pool.free) pages_are k.free;
        other = λ e. k.used (ap (λ (j : ℕ). (get_or n.regions j no_region).kind) e ∙ free_kind n q i k.slot);
        bytes = sound.r6.sized.frames;
        inside = range_inside;
        frames = frame_low;
        pages = page_low;
      }
    where
      r2 : R2 n
      r2 = n_ready.r2

  same_pages : pages_of (add_region n q (copied_row r)) src r ≡ backed_pages n p s
  unfolding add_region with_order range_len entry_for
  same_pages = sym pages_are

  module _ (x : Region) (read : x ≡ r) (y : Region) (row_is : y ≡ copied_row x) (v : List ℕ) (adds : machine v ≡ with_added n q i y) where
    v_is : machine v ≡ add_region n q (copied_row r)
    v_is = adds ∙ ap (λ (z : Region). with_added n q i z) (row_is ∙ ap (λ (z : Region). copied_row z) read) ∙ adds_region n q i k.slot (copied_row r) ordered (places_inside w q q_low)

    pub copy_ready : PagesCopy (machine v) (length f) src (row_of q i) x
    copy_ready = subst (λ (z : Region). PagesCopy (machine v) (length f) src (row_of q i) z) (sym read) (subst (λ (z : Machine). PagesCopy z (length f) src (row_of q i) r) (sym v_is) added_copy)

    pub copy_is : (u h : List ℕ) → PagesCopied v f src (row_of q i) x u h → CopiedInto w f p s q u h
    unfolding copy_into
    copy_is u h pages files =
        pages files
        ∙ (λ t. each (copy_entry (row_of q i)) (pages_of (v_is t) src (read t)) (record { machine = v_is t; frames = f; bytes = files }))
        ∙ ap (λ l. each (copy_entry (row_of q i)) l (record { machine = add_region n q (copied_row r); frames = f; bytes = files })) same_pages
        ∙ ap (λ (z : Option ℕ). each (copy_entry (row_of q (row_found z))) (backed_pages n p s) (record { machine = add_region n q (copied_row r); frames = f; bytes = files })) (sym k.slot)
