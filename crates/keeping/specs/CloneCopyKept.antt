-- A region's clone that copies its pages: the region added without a range, then a frame and an entry for each backed page.
use Rattle.std.specs.Prelude.{◌≡◌, ◌⊎◌, ◌≢◌, Bool, cond, List, [], ◌∷◌, ◌++◌, map, ℕ, zero, suc, ◌+◌, ◌*◌, ◌/◌, ◌%◌, ◌≤◌, ◌<◌, length, Option, Some, None}
use Rattle.std.proofs.Math.Path.{refl, ap, subst}
use Rattle.std.proofs.Common.{sym, ◌∙◌, inl, inr, eqb-true, ne_eqb, le-leb, lt-ltb}
use Rattle.std.proofs.Math.Bool.{true, false, not}
use Rattle.std.proofs.lemmas.Bool.{false≢true}
use native.Mathlib.Omega.{arith}
use Rattle.std.proofs.Math.ListN.{take}
use Rattle.std.proofs.Math.Seq.{get_or-set_same}
use Rattle.model.specs.declared.Backing.{Backing}
use Rattle.model.specs.declared.Region.{Region}
use Rattle.laws.specs.Lists.{part, keep, each, up_from}
use Rattle.model.specs.Machine.{Machine, State, with_machine, with_frames, with_order, process_at, region_at, row_of, order_of, mapped_of, no_region, no_backing}
use Rattle.model.specs.Lookup.{contains, is_ranged, segment_len, free_slot, free_entry, free_entries, row_found, is_found}
use Rattle.model.specs.Paging.{page_start}
use Rattle.model.specs.Backing.{backing_at, claim, add_entry, with_backings, entry_for, frame_bytes, put_frame}
use Rattle.model.specs.Segments.{reserved}
use Rattle.model.specs.Create.{add_region}
use Rattle.model.specs.Clone.{Held, single_pages, range_pages, backed_pages, copied_row, copy_entry}
use Rattle.model.specs.Sound.{Used, Apart, Limits}
use Rattle.laws.specs.In.{In}
use Rattle.laws.specs.InLaws.{in_either, in_map}
use Rattle.laws.specs.InListsLaws.{in_keep, in_up}
use Rattle.keeping.specs.Owing.{row_at, entry_at, Owing, Lent, nothing}
use Rattle.keeping.specs.OwingLaws.{open_low, listed_open, unowned}
use Rattle.keeping.specs.BacksLaws.{no_entry_there}
use Rattle.keeping.specs.BackingsKept.{more, FreeRun, held_used, claim_kept}
use Rattle.model.specs.RuleUseLaws.{backing_within}
use Rattle.keeping.specs.SlotsKept.{owes_nothing}
use Rattle.keeping.specs.EntriesKept.{EntryNew, entry_on, entry_kept, free_row}
use Rattle.keeping.specs.FreeLaws.{next_run, claim_fewer}
use Rattle.keeping.specs.FrameLengthLaws.{bytes_length, put_length, lent_frames}
use Rattle.keeping.specs.CoreKept.{lent_as}
use Rattle.keeping.specs.AddedKept.{Added, free_slot_found, added_kept}
use Rattle.keeping.specs.SpotLaws.{unreserved, clear_apart}
use Rattle.keeping.specs.ClonePagesLaws.{OncePages, single_of, once_single, entries_fewer, entry_left, fresh_put, single_fits}
use Rattle.keeping.specs.ShareKept.{Bare, bare_new}
use Rattle.keeping.specs.Grows.{Grows, grows_then, copy_each, added_grows}
use Rattle.keeping.specs.CloneShareKept.{count_kept}

-- what the pages still to copy need
pub record Copying (s : State) (row : ℕ) (l : List Held) : Type 0 where
  pub owing : Owing nothing s.machine
  pub lent : Lent s
  pub low : row < 512
  pub used : Used (row_at s.machine row)
  pub unshared : (row_at s.machine row).kind ≢ 3
  pub contained : (h : Held) → In h l → contains (row_at s.machine row) (page_start h.page) ≡ true
  pub frames : (h : Held) → In h l → h.frame < s.machine.frame_count
  pub fresh : (h : Held) → In h l → (j : ℕ) → (entry_at s.machine j).owner ≡ row + 1 → (entry_at s.machine j).page.0 ≢ h.page
  pub once : OncePages l
  pub left : length l ≤ free_entries s.machine
  pub room : length l ≤ s.machine.pool.free
  pub bare : Bare s.machine row

module _ (row : ℕ) (h : Held) (l : List Held) (s : State) (k : Copying s row (h ∷ l)) where
  abbrev n : Machine
  n = s.machine

  abbrev new : ℕ
  new = n.pool.next.0

  -- the next frame is free
  pub run : FreeRun n new 1
  run = next_run nothing n k.owing (ne_eqb n.pool.free 0 (λ z. let r = k.room in omega arith))

  abbrev claimed : Machine
  claimed = claim n new 1

  claimed_owing : Owing (more new nothing) claimed
  claimed_owing = claim_kept nothing n k.owing new 1 run

  -- an entry is left
  pub some_left : not (is_found (free_entry n)) ≡ false
  some_left = let a = k.left in entry_left n (omega arith)

  abbrev i : ℕ
  i = row_found (free_entry n)

  new_row : backing_at claimed new ≡ record { len = 1; holders = 1 }
  unfolding claim with_backings
  new_row =
      let a = k.owing.sizes.backings in
      let b = k.owing.sizes.frame_count in
      let c = run.inside in
      get_or-set_same n.backings new (record { len = 1; holders = 1 }) no_backing (omega arith)

  entry_new : EntryNew claimed i row h.page new
  unfolding claim with_backings order_of mapped_of
  entry_new = record {
    inside = (free_row n some_left).0;
    free = (free_row n some_left).1;
    low = k.low;
    used = k.used;
    unshared = k.unshared;
    contained = k.contained h (inl refl);
    none = k.fresh h (inl refl);
    frame = ap (λ (b : Backing). b.len) new_row;
    agree = λ g q e. absurd (held_used nothing n k.owing new (record { by = g; holds = q; frame = e })
        (let a = run.free new (omega arith) (omega arith) new (omega arith) in omega arith));
    unmapped = λ p low x j q e. absurd (k.bare p low x j q.slot (k.owing.listed p q.slot low q.listed).0 q.inside e);
  }

  abbrev next : State
  next = copy_entry row h s

  next_owing : Owing nothing next.machine
  unfolding copy_entry add_entry claim with_backings free_entry
  next_owing = entry_kept nothing claimed i row h.page new claimed_owing entry_new

  next_lent : Lent next
  unfolding copy_entry add_entry claim with_backings
  next_lent =
      let inside = run.inside in
      let lent = k.lent in
      lent_as (with_frames s (put_frame s.frames new (frame_bytes s.frames h.frame))) _ (record { files = refl; file_count = refl; frame_count = refl })
      (lent_frames s _ (put_length s.frames new n.frame_count _ lent.frames (omega arith)
      (bytes_length s.frames h.frame n.frame_count lent.frames (k.frames h (inl refl)))) lent)

  fresh_still : (g : Held) → In g l → (j : ℕ) → (entry_at next.machine j).owner ≡ row + 1 → (entry_at next.machine j).page.0 ≢ g.page
  unfolding copy_entry add_entry claim with_backings free_entry
  fresh_still g q = fresh_put n.entries i row h.page new (free_row n some_left).0 g.page (k.once.0 g q) (k.fresh g (inr q))

  left_still : length l ≤ free_entries next.machine
  unfolding copy_entry add_entry claim with_backings free_entry free_entries
  left_still =
      let a = entries_fewer n i (entry_on row h.page new) (free_row n some_left).0 (free_row n some_left).1 (λ z. omega arith) in
      let b = k.left in
      omega arith

  room_still : length l ≤ claimed.pool.free
  room_still =
      let a = claimed_owing.pool.free in
      let b = k.owing.pool.free in
      let c = claim_fewer nothing n k.owing new run in
      let e = k.room in
      omega arith

  -- one page copied: the rest can be
  pub copied_one : Copying next row l
  unfolding copy_entry add_entry claim with_backings order_of mapped_of
  copied_one = record {
    owing = next_owing;
    lent = next_lent;
    low = k.low;
    used = k.used;
    unshared = k.unshared;
    contained = λ g j. k.contained g (inr j);
    frames = λ g j. k.frames g (inr j);
    fresh = fresh_still;
    once = k.once.1;
    left = left_still;
    room = room_still;
    bare = k.bare;
  }

copied_all : (row : ℕ) (l : List Held) (s : State) → Copying s row l → (Owing nothing (each (copy_entry row) l s).machine) × Lent (each (copy_entry row) l s)
unfolding each
copied_all row [] s k = (k.owing, k.lent)
copied_all row (h ∷ l) s k = copied_all row l (copy_entry row h s) (copied_one row h l s k)

-- ---- the pages

once_both : (a b : List Held) → OncePages a → OncePages b → ((g h : Held) → In g a → In h b → h.page ≢ g.page) → OncePages (a ++ b)
once_both [] b p q n = q
once_both (x ∷ a) b p q n = (λ k i. side k (in_either k a b i), once_both a b p.1 q (λ g h j. n g h (inr j)))
  where
    side : (k : Held) → In k a ⊎ In k b → k.page ≢ x.page
    side k (inl i) = p.0 k i
    side k (inr i) = n x k (inl refl) i

once_kept : (f : Held → Bool) (l : List Held) → OncePages l → OncePages (keep f l)
unfolding keep
once_kept f [] o = tt
once_kept f (x ∷ l) o = go (f x) (once_kept f l o.1)
  where
    go : (b : Bool) → OncePages (keep f l) → OncePages (cond b (x ∷ keep f l) (keep f l))
    go true r = (λ k i. o.0 k (in_keep f k l i).0, r)
    go false r = r

-- the i-th page of a range
abbrev page_from : ℕ → ℕ → ℕ → Held
page_from a b i = record { page = a + i; frame = b + i }

once_run : (a b n k : ℕ) → OncePages (map (page_from a b) (up_from n k))
unfolding up_from
once_run a b n zero = tt
once_run a b n (suc k) = (
  λ h i. let t = in_map (page_from a b) h (up_from (n + 1) k) i in let l = (in_up t.0 (n + 1) k t.1.0).0 in let e = ap (λ (y : Held). y.page) t.1.1 in
      λ z. omega arith,
  once_run a b (n + 1) k,
)

module _ (s : State) (o : Owing nothing s.machine) (lent : Lent s) (p t q : ℕ) (listed : In t (order_of s.machine p))
    (opened : (process_at s.machine q).opened ≡ 1) (free : not (is_found (free_slot s.machine q)) ≡ false)
    (clear : reserved s.machine q (region_at s.machine p t).start.0 (segment_len (region_at s.machine p t)) ≡ false)
    (copies : (region_at s.machine p t).fork ≡ 1) where
  abbrev m : Machine
  m = s.machine

  abbrev r : Region
  r = region_at m p t

  abbrev src : ℕ
  src = row_of p t

  abbrev pub slot : ℕ
  slot = row_found (free_slot m q)

  abbrev pub row' : ℕ
  row' = row_of q slot

  low : p < 8
  low = open_low m o p (listed_open nothing m o p t listed)

  q_low : q < 8
  q_low = open_low m o q opened

  is : (t < 64) × Used r
  is = o.listed p t low listed

  limits : Limits m r
  limits = (o.regions src).used is.1

  private : r.kind ≢ 3
  private z = let a = (limits.shared z).1.0 in omega arith

  q_free : (slot < 64) × ((region_at m q slot).kind ≡ 0)
  q_free = free_slot_found nothing m o q q_low free

  -- what a backed page is
  record Page (h : Held) : Type 0 where
    inside : contains r (page_start h.page) ≡ true
    frame : h.frame < m.frame_count

  single_page : (h : Held) → In h (single_pages m.entries src) → Page h
  single_page h i =
      let k = single_fits nothing m o src h i in
      let one = k.1.1 in
      let w = backing_within m h.frame (λ z. omega arith) o.pool in
      record { inside = k.1.0; frame = omega arith }

  abbrev frames : List Held
  frames = map (page_from (r.start.0 / 4096) r.range.0) (up_from 0 (backing_at m r.range.0).len)

  range_page : (h : Held) → In h (range_pages m p t) → Page h × ((j : ℕ) → (entry_at m j).owner ≡ src + 1 → (entry_at m j).page.0 ≢ h.page)
  unfolding range_pages
  range_page h i = go (is_ranged r) refl i
    where
      none : not (is_found (entry_for m src h.page)) ≡ true → entry_for m src h.page ≡ None
      none e = found (entry_for m src h.page) e
        where
          found : (x : Option ℕ) → not (is_found x) ≡ true → x ≡ None
          found None e = refl
          found (Some j) e = absurd (false≢true e)

      go : (b : Bool) → is_ranged r ≡ b → In h (cond b (keep (λ h. not (is_found (entry_for m src h.page))) frames) [])
          → Page h × ((j : ℕ) → (entry_at m j).owner ≡ src + 1 → (entry_at m j).page.0 ≢ h.page)
      go false e j = absurd j
      go true e j =
          let k = in_keep (λ h. not (is_found (entry_for m src h.page))) h frames j in
          let y = in_map (page_from (r.start.0 / 4096) r.range.0) h (up_from 0 (backing_at m r.range.0).len) k.0 in
          let small = (in_up y.0 0 (backing_at m r.range.0).len y.1.0).1 in
          let long = limits.ranged (eqb-true r.ranged 1 e) in
          let w = backing_within m r.range.0 (λ z. omega arith) o.pool in
          let page = ap (λ (z : Held). z.page) y.1.1 in
          let frame = ap (λ (z : Held). z.frame) y.1.1 in
          let al = eqb-true (r.start.0 % 4096) 0 limits.aligned_start in (
            record {
              inside = rw (le-leb r.start.0 (h.page * 4096) (omega arith), lt-ltb (h.page * 4096) (r.start.0 + r.size) (omega arith)) refl;
              frame = omega arith;
            },
            no_entry_there m p t h.page (none k.1),
          )

  range_once : OncePages (range_pages m p t)
  unfolding range_pages
  range_once = go (is_ranged r)
    where
      go : (b : Bool) → OncePages (cond b (keep (λ h. not (is_found (entry_for m src h.page))) frames) [])
      go true =
          once_kept (λ h. not (is_found (entry_for m src h.page))) frames (once_run (r.start.0 / 4096) r.range.0 0 (backing_at m r.range.0).len)
      go false = tt

  once_pages : OncePages (backed_pages m p t)
  unfolding backed_pages
  once_pages =
      once_both (range_pages m p t) (single_pages m.entries src) range_once (once_single m.entries src o.once_a_page)
      (λ g h i j z. let e = single_of m.entries src h j in (range_page g i).1 e.at e.owner (e.page ∙ z))

  page_of : (h : Held) → In h (backed_pages m p t) → Page h
  unfolding backed_pages
  page_of h i = go (in_either h (range_pages m p t) (single_pages m.entries src) i)
    where
      go : In h (range_pages m p t) ⊎ In h (single_pages m.entries src) → Page h
      go (inl j) = (range_page h j).0
      go (inr j) = single_page h j

  apart : (s' : ℕ) → s' < 64 → Used (region_at m q s') → Apart (copied_row r) (region_at m q s')
  apart s' h u =
      clear_apart nothing m o q q_low r.start.0 r.size limits.some
      (unreserved nothing m o q opened r.size limits.some r.start.0 clear) s' h u

  -- the region can be added
  pub region_new : Added m q (copied_row r)
  region_new = record {
    opened = opened;
    slot = free;
    unpinned = refl;
    used = is.1;
    apart = apart;
    agree = λ z. absurd (omega arith);
    fits = record {
      kind = limits.kind;
      aligned_start = limits.aligned_start;
      some = limits.some;
      user_segment = limits.user_segment;
      pins = omega arith;
      flags = limits.flags;
      shared = λ z. absurd (private z);
      file = λ z. let k = limits.file z in (k.0, (k.1.0, (k.1.1.0, refl)));
      no_file = limits.no_file;
      ranged = λ z. absurd (omega arith);
      unranged = λ z. (refl, refl);
    };
  }

  abbrev pub added : Machine
  added = add_region m q (copied_row r)

  -- and keeps the rules once it is
  pub added_owing : Owing nothing added
  added_owing =
      added_kept nothing m q (copied_row r) (subst (λ (k : ℕ → ℕ). Owing k m)
      (λ i g. sym (owes_nothing (copied_row r) nothing (λ z. omega arith) g) i) o) region_new

  pub added_row : row_at added row' ≡ copied_row r
  unfolding add_region with_order
  added_row = get_or-set_same m.regions row' (copied_row r) no_region (let a = o.sizes.regions in let b = q_free.0 in let c = q_low in omega arith)

  added_mapped : (p' : ℕ) → mapped_of added p' ≡ mapped_of m p'
  unfolding add_region with_order mapped_of
  added_mapped p' = ap (λ (k : ℕ). take k (part 128 p' m.mapped)) (count_kept m.processes q p' _)

  bare_row : Bare added row'
  bare_row = bare_new nothing m o q slot q_low q_free.0 (copied_row r) apart added added_row added_mapped

  -- its pages can be copied
  pub copying : length (backed_pages m p t) ≤ free_entries m → length (backed_pages m p t) ≤ m.pool.free → Copying (with_machine s added) row' (backed_pages m p t)
  unfolding add_region with_order free_entries
  copying left room = record {
    owing = added_owing;
    lent = lent_as s added (record { files = refl; file_count = refl; frame_count = refl }) lent;
    low = let b = q_free.0 in let c = q_low in omega arith;
    used = subst (λ (y : Region). Used y) (sym added_row) is.1;
    unshared = subst (λ (y : Region). y.kind ≢ 3) (sym added_row) private;
    contained = λ h i. subst (λ (y : Region). contains y (page_start h.page) ≡ true) (sym added_row) (page_of h i).inside;
    frames = λ h i. (page_of h i).frame;
    fresh = λ h i j e. absurd (unowned m o row' q_free.1 j e);
    once = once_pages;
    left = left;
    room = room;
    bare = bare_row;
  }

  -- so all are
  pub copy_kept : length (backed_pages m p t) ≤ free_entries m → length (backed_pages m p t) ≤ m.pool.free
      → (Owing nothing (each (copy_entry row') (backed_pages m p t) (with_machine s added)).machine) × Lent
      (each (copy_entry row') (backed_pages m p t) (with_machine s added))
  copy_kept left room = copied_all row' (backed_pages m p t) (with_machine s added) (copying left room)

  pub copy_grows : Grows m (each (copy_entry row') (backed_pages m p t) (with_machine s added)).machine
  copy_grows =
      grows_then
      (added_grows nothing m q (copied_row r) (subst (λ (k : ℕ → ℕ). Owing k m)
      (λ i g. sym (owes_nothing (copied_row r) nothing (λ z. omega arith) g) i) o) region_new) (copy_each row' (backed_pages m p t) (with_machine s added))
