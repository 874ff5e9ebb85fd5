-- A clone that copies its pages: everyone sees what he saw, and the clone what the source shows.
use Rattle.std.specs.Prelude.{◌≡◌, ◌⊎◌, ◌≢◌, true, false, not, List, [], ◌∷◌, ◌++◌, ℕ, ◌+◌, ◌-◌, ◌*◌, ◌/◌, ◌%◌, ◌≤◌, ◌<◌, length, get_or, set, leb, ltb, Option, Some, None}
use Rattle.std.proofs.Math.Path.{refl}
use Rattle.std.proofs.Common.{ap, sym, subst, ◌∙◌, inl, inr, arith, get_or-set_same, get_or-set_other, leb-true}
use Rattle.laws.specs.ResultLaws.{none_not_some}
use Rattle.model.specs.declared.Region.{Region}
use Rattle.model.specs.declared.Entry.{Entry}
use Rattle.model.specs.declared.Backing.{Backing}
use Rattle.laws.specs.Lists.{each}
use Rattle.model.specs.Machine.{Machine, State, with_machine, with_order, process_at, region_at, row_of, order_of, mapped_of, no_region, no_entry, no_backing}
use Rattle.model.specs.MachineLaws.{Books, books_then, books_order, books_mapped}
use Rattle.model.specs.Lookup.{contains, free_slot, free_entry, free_entries, row_found, is_found, segment_len}
use Rattle.laws.specs.BoolLaws.{both_true}
use Rattle.model.specs.Paging.{page_start, translate}
use Rattle.model.specs.Backing.{backing, backing_at, claim, add_entry, with_backings, frame_bytes, put_frame}
use Rattle.model.specs.Segments.{reserved}
use Rattle.model.specs.Create.{add_region}
use Rattle.model.specs.Clone.{Held, backed_pages, copy_entry, copied_row}
use Rattle.model.specs.Sound.{Sound, Used, frame_by}
use Rattle.model.specs.Posix.{home_slot, frame_in, frame_at, Inherited}
use Rattle.laws.specs.In.{In}
use Rattle.laws.specs.InLaws.{in_right, in_either}
use Rattle.keeping.specs.Owing.{Owing, Backs, row_at, entry_at, nothing}
use Rattle.keeping.specs.BacksLaws.{source_of, backing_of}
use Rattle.keeping.specs.OwingOfSound.{sound_owing, sound_lent_is}
use Rattle.keeping.specs.OwingLaws.{open_low, listed_open}
use Rattle.keeping.specs.BackingsKept.{FreeRun}
use Rattle.keeping.specs.EntriesKept.{entry_on, free_row}
use Rattle.keeping.specs.FrameLengthLaws.{bytes_length}
use Rattle.keeping.specs.AddedKept.{free_slot_found}
use Rattle.keeping.specs.Grows.{grows_listed}
use Rattle.keeping.specs.CloneCopyKept as copies
use Rattle.isolation.specs.ViewLaws.{home_at, at_home, kind_at_home, looks, backed_by, seen_as, kind_as}
use Rattle.isolation.specs.LoneHolder.{in_base, OwnEntry}
use Rattle.isolation.specs.FrameBytes.{bytes_at, put_here, put_else}
use Rattle.isolation.specs.CreateStays.{add_order, add_other, add_mapped, add_regions, add_entries, add_files}
use Rattle.isolation.specs.ClonedPages.{backed_of, backed_in}
use Rattle.isolation.specs.Beside.{RowNow, Beside}
use Rattle.isolation.specs.EntriesAdded.{NewOne, Entered, Grown, grown_none, grown_more}
use Rattle.isolation.specs.Cloned.{Shown, Cloned, beside_facts, beside_source}

-- ---- frames in use

pub record InUse (m : Machine) (fr : ℕ) : Type 0 where
  pub base : ℕ
  pub low : base ≤ fr
  pub high : fr < base + (backing_at m base).len

pub backs_use : {d : ℕ → ℕ} (m : Machine) → Owing d m → (row pg base fr : ℕ) → Backs m row pg base fr → InUse m fr
backs_use m o row pg base fr b = let k = in_base m o row pg base fr b in record { base = base; low = k.0; high = k.1 }

-- ---- pages copied one after the other

-- the frame that a page's entry has in the copy: the page's bytes, in a backing with one frame and one holder
record CopyOf (s after : State) (h : Held) (f : ℕ) : Type 0 where
  bytes : (o : ℕ) → o < 4096 → get_or after.frames (f * 4096 + o) 0 ≡ get_or s.frames (h.frame * 4096 + o) 0
  single : backing_at after.machine f ≡ record { len = 1; holders = 1 }

record Copied (row : ℕ) (l : List Held) (s after : State) : Type 0 where
  grown : Grown (CopyOf s after) row l s.machine after.machine
  -- frames in use keep their bytes, and backings their counts
  frames : (fr : ℕ) → InUse s.machine fr → (o : ℕ) → o < 4096 → get_or after.frames (fr * 4096 + o) 0 ≡ get_or s.frames (fr * 4096 + o) 0
  backings : (f : ℕ) → (backing_at s.machine f).len ≢ 0 → backing_at after.machine f ≡ backing_at s.machine f

-- one page
module _ (row : ℕ) (h : Held) (l : List Held) (s : State) (k : copies.Copying s row (h ∷ l)) where
  abbrev m : Machine
  m = s.machine

  abbrev fresh : ℕ
  fresh = m.pool.next.0

  abbrev next : State
  next = copy_entry row h s

  abbrev at : ℕ
  at = row_found (free_entry m)

  run : FreeRun m fresh 1
  run = copies.run row h l s k

  next_entries : next.machine.entries ≡ set m.entries at (entry_on row h.page fresh)
  unfolding copy_entry add_entry claim with_backings free_entry
  next_entries = refl

  next_frames : next.frames ≡ put_frame s.frames fresh (frame_bytes s.frames h.frame)
  unfolding copy_entry
  next_frames = refl

  next_backings : next.machine.backings ≡ set m.backings fresh (record { len = 1; holders = 1 })
  unfolding copy_entry add_entry claim with_backings
  next_backings = refl

  there : (at < length m.entries) × ((entry_at m at).owner ≡ 0)
  there = free_row m (copies.some_left row h l s k)

  -- the frame was in no backing
  unused : (fr : ℕ) → InUse m fr → fr ≢ fresh
  unused fr u z = let a = u.low in let b = u.high in let c = run.free fresh (omega arith) (omega arith) u.base (omega arith) in omega arith

  long : length (frame_bytes s.frames h.frame) ≡ 4096
  long = bytes_length s.frames h.frame m.frame_count k.lent.frames (k.frames h (inl refl))

  inside : fresh * 4096 + 4096 ≤ length s.frames
  inside = let z = k.lent.frames in let r = run.inside in omega arith

  still : (fr : ℕ) → InUse m fr → (o : ℕ) → o < 4096 → get_or next.frames (fr * 4096 + o) 0 ≡ get_or s.frames (fr * 4096 + o) 0
  still fr u o j = ap (λ t. get_or t (fr * 4096 + o) 0) next_frames ∙ put_else s.frames fresh (frame_bytes s.frames h.frame) long inside fr o j (unused fr u)

  backing_still : (f : ℕ) → (backing_at m f).len ≢ 0 → backing_at next.machine f ≡ backing_at m f
  backing_still f some =
      let c = run.free fresh (omega arith) (omega arith) fresh (omega arith) in
      let other : f ≢ fresh = λ z. let e = ap (λ (i : ℕ). (backing_at m i).len) z in some (omega arith) in
      ap (λ t. get_or t f no_backing) next_backings ∙ get_or-set_other m.backings fresh f (record { len = 1; holders = 1 }) no_backing other

  in_use : (fr : ℕ) → InUse m fr → InUse next.machine fr
  in_use fr u =
      let a = u.low in
      let b = u.high in
      let same = backing_still u.base (λ z. omega arith) in
      record { base = u.base; low = u.low; high = subst (λ (x : Backing). fr < u.base + x.len) (sym same) u.high }

  new_backing : backing_at next.machine fresh ≡ record { len = 1; holders = 1 }
  new_backing =
      let a = k.owing.sizes.backings in
      let b = k.owing.sizes.frame_count in
      let c = run.inside in
      ap (λ t. get_or t fresh no_backing) next_backings ∙ get_or-set_same m.backings fresh (record { len = 1; holders = 1 }) no_backing (omega arith)

  new_use : InUse next.machine fresh
  new_use = record { base = fresh; low = omega arith; high = subst (λ (x : Backing). fresh < fresh + x.len) (sym new_backing) (omega arith) }

  bytes_here : (o : ℕ) → o < 4096 → get_or next.frames (fresh * 4096 + o) 0 ≡ get_or s.frames (h.frame * 4096 + o) 0
  bytes_here o j = ap (λ t. get_or t (fresh * 4096 + o) 0) next_frames ∙ put_here s.frames fresh (frame_bytes s.frames h.frame) long inside o j ∙ bytes_at s.frames h.frame o j

  copied_more : (held : (g : Held) → In g (h ∷ l) → InUse m g.frame) (after : State) → Copied row l next after → Copied row (h ∷ l) s after
  copied_more held after g = record {
    grown = grown_more (CopyOf s after) (CopyOf next after) row h l m next.machine after.machine at fresh next_entries there.0 there.1 here still_right g.grown;
    frames = λ fr u o j. g.frames fr (in_use fr u) o j ∙ still fr u o j;
    backings = λ f some. let one = backing_still f some in g.backings f (λ z. some (ap (λ (x : Backing). x.len) (sym one) ∙ z)) ∙ one;
  }
    where
      here : CopyOf s after h fresh
      here = record {
        bytes = λ o j. g.frames fresh new_use o j ∙ bytes_here o j;
        single = g.backings fresh (λ z. let e = ap (λ (x : Backing). x.len) new_backing in omega arith) ∙ new_backing;
      }

      still_right : (x : Held) → In x l → (f : ℕ) → CopyOf next after x f → CopyOf s after x f
      still_right x i f c = record { bytes = λ o j. c.bytes o j ∙ still x.frame (held x (inr i)) o j; single = c.single }

  still_held : (held : (g : Held) → In g (h ∷ l) → InUse m g.frame) (g : Held) → In g l → InUse next.machine g.frame
  still_held held g i = in_use g.frame (held g (inr i))

copied_all : (row : ℕ) (l : List Held) (s : State) → copies.Copying s row l → ((g : Held) → In g l → InUse s.machine g.frame) → Copied row l s (each (copy_entry row) l s)
unfolding each
copied_all row [] s k held = record { grown = grown_none (CopyOf s s) row s.machine; frames = λ fr u o j. refl; backings = λ f some. refl }
copied_all row (h ∷ l) s k held = copied_more row h l s k held (each (copy_entry row) l (copy_entry row h s)) (copied_all row l (copy_entry row h s) (copies.copied_one row h l s k) (still_held row h l s k held))

copy_books : (row : ℕ) (l : List Held) (s : State) → Books s.machine (each (copy_entry row) l s).machine
unfolding each copy_entry add_entry claim with_backings
copy_books row [] s = record { processes = refl; regions = refl; order = refl; mapped = refl }
copy_books row (h ∷ l) s = books_then (record { processes = refl; regions = refl; order = refl; mapped = refl }) (copy_books row l (copy_entry row h s))

copy_lent : (row : ℕ) (l : List Held) (s : State) → ((each (copy_entry row) l s).machine.files ≡ s.machine.files) × ((each (copy_entry row) l s).bytes ≡ s.bytes)
unfolding each copy_entry add_entry claim with_backings
copy_lent row [] s = (refl, refl)
copy_lent row (h ∷ l) s = copy_lent row l (copy_entry row h s)

-- ---- the clone

module _ (s : State) (sound : Sound s) (p t q : ℕ) (listed : In t (order_of s.machine p)) (opened : (process_at s.machine q).opened ≡ 1) (free : not (is_found (free_slot s.machine q)) ≡ false)
    (clear : reserved s.machine q (region_at s.machine p t).start.0 (segment_len (region_at s.machine p t)) ≡ false) (copy : (region_at s.machine p t).fork ≡ 1)
    (left : length (backed_pages s.machine p t) ≤ free_entries s.machine) (room : length (backed_pages s.machine p t) ≤ s.machine.pool.free) where
  abbrev machine : Machine
  machine = s.machine

  o : Owing nothing machine
  o = sound_owing s sound

  abbrev r : Region
  r = region_at machine p t

  abbrev src : ℕ
  src = row_of p t

  abbrev u : ℕ
  u = row_found (free_slot machine q)

  abbrev row : ℕ
  row = row_of q u

  q_low : q < 8
  q_low = open_low machine o q opened

  slot : (u < 64) × ((region_at machine q u).kind ≡ 0)
  slot = free_slot_found nothing machine o q q_low free

  abbrev pages : List Held
  pages = backed_pages machine p t

  abbrev added : Machine
  added = add_region machine q (copied_row r)

  abbrev after : State
  after = each (copy_entry row) pages (with_machine s added)

  abbrev n : Machine
  n = after.machine

  n_owing : Owing nothing n
  n_owing = (copies.copy_kept s o (sound_lent_is s sound) p t q listed opened free clear copy left room).0

  page_use : (h : Held) → In h pages → InUse added h.frame
  unfolding add_region with_order
  page_use h i = let b = backed_of machine p t h i in let k = backs_use machine o src h.page b.0 h.frame b.1 in record { base = k.base; low = k.low; high = k.high }

  more : Copied row pages (with_machine s added) after
  more = copied_all row pages (with_machine s added) (copies.copying s o (sound_lent_is s sound) p t q listed opened free clear copy left room) page_use

  books : Books added n
  books = copy_books row pages (with_machine s added)

  n_regions : n.regions ≡ set machine.regions row (copied_row r)
  n_regions = books.regions ∙ add_regions nothing machine o q opened free (copied_row r)

  was : (i : ℕ) → entry_at added i ≡ entry_at machine i
  was i = ap (λ l. get_or l i no_entry) (add_entries nothing machine o q opened free (copied_row r))

  abbrev Row : ℕ → Type 0
  Row i = (entry_at n i ≡ entry_at machine i) ⊎ NewOne (CopyOf (with_machine s added) after) machine n row pages i

  row_now : (i : ℕ) → Row i
  row_now i = go (more.grown.old i)
    where
      go : (entry_at n i ≡ entry_at added i) ⊎ NewOne (CopyOf (with_machine s added) after) added n row pages i → Row i
      go (inl a) = inl (a ∙ was i)
      go (inr a) = inr (record { free = ap (λ (x : Entry). x.owner) (sym (was i)) ∙ a.free; page = a.page; among = a.among; frame = a.frame; is = a.is; right = a.right })

  used_added : (fr : ℕ) → InUse machine fr → InUse added fr
  unfolding add_region with_order
  used_added fr k = record { base = k.base; low = k.low; high = k.high }

  own_order : order_of n q ≡ order_of machine q ++ (u ∷ [])
  own_order = books_order q books ∙ add_order nothing machine o q opened free (copied_row r)

  own : In u (order_of n q)
  own = subst (λ l. In u l) (sym own_order) (in_right u (order_of machine q) (u ∷ []) (inl refl))

  own_only : (v : ℕ) → In v (order_of n q) → In v (order_of machine q) ⊎ (v ≡ u)
  own_only v i = go (in_either v (order_of machine q) (u ∷ []) (subst (λ l. In v l) own_order i))
    where
      go : In v (order_of machine q) ⊎ In v (u ∷ []) → In v (order_of machine q) ⊎ (v ≡ u)
      go (inl j) = inl j
      go (inr (inl z)) = inr z
      go (inr (inr z)) = absurd z

  pub copy_beside : Beside s after q u
  copy_beside = record {
    bytes = (copy_lent row pages (with_machine s added)).1;
    files = (copy_lent row pages (with_machine s added)).0 ∙ add_files nothing machine o q opened free (copied_row r);
    small = slot.0;
    free = slot.1;
    rows = λ j z. ap (λ l. get_or l j no_region) n_regions ∙ get_or-set_other machine.regions row j (copied_row r) no_region z;
    old = λ i. old i (row_now i);
    frames = λ i pg base fr b j h. more.frames fr (used_added fr (backs_use machine o i pg base fr b)) j h;
    listed = grows_listed (copies.copy_grows s o (sound_lent_is s sound) p t q listed opened free clear copy);
    others = λ x z. books_order x books ∙ add_other nothing machine o q opened free (copied_row r) x z;
    own = own_only;
  }
    where
      old : (i : ℕ) → Row i → RowNow s after q u i
      old i (inl a) = inl a
      old i (inr a) = inr (a.free, ap (λ (x : Entry). x.owner) a.is)

  -- ---- the clone's own pages

  pub new_row : region_at n q u ≡ copied_row r
  new_row = ap (λ l. get_or l row no_region) n_regions ∙ get_or-set_same machine.regions row (copied_row r) no_region (let a = o.sizes.regions in let b = slot.0 in let c = q_low in omega arith)

  unowned : (i : ℕ) → (entry_at machine i).owner ≡ row + 1 → ⊥
  unowned i e = let back : (entry_at machine i).owner - 1 ≡ row = omega arith in ((o.entries i).used (λ z. omega arith)).used (ap (λ (j : ℕ). (row_at machine j).kind) back ∙ slot.1)

  -- a backing in use stays as it was
  pub copy_backing : (f : ℕ) → (backing_at machine f).len ≢ 0 → backing_at n f ≡ backing_at machine f
  unfolding add_region with_order
  copy_backing f some = more.backings f some

  -- no mapping is another
  pub copy_mapped : (x : ℕ) → mapped_of n x ≡ mapped_of machine x
  copy_mapped x = books_mapped x books ∙ add_mapped nothing machine o q opened free (copied_row r) x

  unshared : r.kind ≢ 3
  unshared z = let k = (((o.regions src).used used).shared z).1.0 in omega arith
    where
      used : Used r
      used = (o.listed p t (open_low machine o p (listed_open nothing machine o p t listed)) listed).1

  module _ (c : ℕ) (home : home_slot s p c ≡ Some t) where
    abbrev pg : ℕ
    pg = c / 4096

    contained : contains r (page_start pg) ≡ true
    contained = (home_at machine o p pg t home).inside

    starts : r.start.0 / 4096 ≤ pg
    starts =
        let b = both_true (leb r.start.0 (page_start pg)) (ltb (page_start pg) (r.start.0 + r.size)) contained in
        let l = leb-true r.start.0 (page_start pg) b.0 in
        omega arith

    there_home : home_slot after q c ≡ Some u
    there_home = at_home n n_owing q pg u (record { low = q_low; listed = own; inside = ap (λ (x : Region). contains x (page_start pg)) new_row ∙ contained })

    -- the entry of a page that is backed in the source
    own_entry : (f : ℕ) → frame_by (backing machine p t pg) ≡ Some f → Entered (CopyOf (with_machine s added) after) n row (record { page = pg; frame = f })
    own_entry f e = let b = source_of machine p t pg f e in more.grown.new (record { page = pg; frame = f }) (backed_in machine p t pg b.base f starts b.backs)

    some : (f : ℕ) → backed_by s p t c ≡ Some f → (g : ℕ) × ((backed_by after q u c ≡ Some g) × (get_or after.frames (g * 4096 + c % 4096) 0 ≡ get_or s.frames (f * 4096 + c % 4096) 0))
    some f e =
        let k = own_entry f e in
        let backs : Backs n row pg k.frame k.frame = inl (record { at = k.at; owner = ap (λ (x : Entry). x.owner) k.is; page = ap (λ (x : Entry). x.page.0) k.is; start = ap (λ (x : Entry). x.frame.0) k.is; frame = refl }) in
        (k.frame, ((backing_of n q u pg n_owing.once_a_page k.frame k.frame backs).0, k.right.bytes (c % 4096) (omega arith)))

    none : frame_by (backing machine p t pg) ≡ None → frame_by (backing n q u pg) ≡ None
    none e = go (frame_by (backing n q u pg)) refl
      where
        listed_page : (h : Held) → In h pages → h.page ≡ pg → ⊥
        listed_page h i z = let b = backed_of machine p t h i in none_not_some (sym e ∙ (backing_of machine p t pg o.once_a_page b.0 h.frame (subst (λ (x : ℕ). Backs machine src x b.0 h.frame) z b.1)).0)

        never : (base g : ℕ) → Backs n row pg base g → ⊥
        never base g (inl b) = at (row_now b.at)
          where
            at : Row b.at → ⊥
            at (inl z) = unowned b.at (ap (λ (x : Entry). x.owner) (sym z) ∙ b.owner)
            at (inr z) = listed_page z.page z.among (ap (λ (x : Entry). x.page.0) (sym z.is) ∙ b.page)
        never base g (inr b) = let z : ◌≡◌ {A = ℕ} 0 1 = sym (ap (λ (x : Region). x.ranged) new_row) ∙ b.ranged in omega arith

        go : (y : Option ℕ) → frame_by (backing n q u pg) ≡ y → y ≡ None
        go None f = refl
        go (Some g) f = let b = source_of n q u pg g f in absurd (never b.base g b.backs)

    pub copy_home : home_slot after q c ≡ Some u
    copy_home = there_home

    -- a page that is backed in the source has an entry of the clone, in a backing with one holder
    pub copied_entry : (f : ℕ) → frame_at s p c ≡ Some f → OwnEntry n q u pg
    copied_entry f e = let k = own_entry f (ap (frame_in s p pg) (sym home) ∙ e) in record { at = k.at; frame = k.frame; is = k.is; single = k.right.single }

    pub copy_bare : frame_at s p c ≡ None → frame_at after q c ≡ None
    copy_bare e = ap (frame_in after q pg) there_home ∙ none (ap (frame_in s p pg) (sym home) ∙ e)

    pub copy_inherited : Inherited s after p q c
    copy_inherited = record {
      object = λ z. absurd (unshared (sym (kind_at_home s p c t home) ∙ z));
      seen = seen_as s after p t q u c home there_home (ap looks new_row) copy_beside.bytes copy_beside.files (record { some = some; none = none });
      kind = kind_as s after p t q u c home there_home (ap looks new_row);
    }

  pub copy_cloned : Cloned s after p t q
  copy_cloned = record {
    facts = beside_facts s after o n_owing q u copy_beside;
    shown = shown;
    new = λ c v none some. shown c (beside_source s after o n_owing q u copy_beside p t listed (ap looks new_row) c v none some);
    lone = λ i f taken other frame single. copy_backing f (λ z. let e = ap (λ (b : Backing). b.len) single in omega arith);
    rights = λ c v home other. ap (λ l. translate l (c / 4096)) (copy_mapped p);
    eager = λ e. record { slot = u; small = slot.0; free = slot.1; home = λ c h. copy_home c h; mapped = copy_mapped; own = λ c f h. copied_entry c h f; bare = λ c h. copy_bare c h };
  }
    where
      shown : (c : ℕ) → home_slot s p c ≡ Some t → Shown s after p q c
      shown c h = record { inherited = copy_inherited c h; slot = u; home = copy_home c h }
