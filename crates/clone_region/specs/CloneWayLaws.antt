-- Each way through the refusals of cloning a region, and from the way to the clone.
use Rattle.std.specs.Prelude.{◌≡◌, refl, ◌≢◌, Bool, true, ◌&&◌, ◌||◌, not, List, ◌++◌, ℕ, ◌+◌, ◌*◌, ◌^◌, ◌≤◌, ◌<◌, Option, Some, None, Result, Ok, Err, ⊤}
use Rattle.std.proofs.Math.Path.{ap, sym}
use Rattle.std.proofs.Common.{subst, ◌∙◌}
use Rattle.std.proofs.Math.Bool.{false, cond}
use native.Mathlib.Omega.{arith}
use Rattle.std.proofs.Math.Decide.{ℕ_discrete}
use Rattle.std.proofs.Math.ListN.{length, length-append}
use Rattle.std.proofs.Math.Dec.{ltb}
use borrow.Author.Tests.{eq-eqb, ne_eqb, lt-ltb, le-ltb, ltb-false}
use Rattle.answers.specs.declared.Refusal.{Refusal}
use Rattle.answers.specs.declared.Refusal.TheVariants.{SegmentReserved, OutOfMemory, TableFull}
use Rattle.model.specs.declared.Region.{Region}
use Rattle.model.specs.declared.Pool.{Pool}
use Rattle.model.specs.Layout.{machine}
use Rattle.model.specs.Machine.{Machine, State, region_at, row_of}
use Rattle.model.specs.Lookup.{is_ranged, pages_for, segment_len, free_slot, free_entries, is_found, row_found}
use Rattle.model.specs.Answers.{first_of, fine, unless}
use Rattle.model.specs.Backing.{backing_at}
use Rattle.model.specs.Segments.{reserved}
use Rattle.model.specs.Clone.{single_pages, range_pages, backed_pages, is_copied, entries_needed, clone_refusals, share_into, copy_into, core_clone_region}
use Rattle.model.specs.Sound.{RegionFits}
use Rattle.laws.specs.BoolLaws.{or_none}
use Rattle.model.specs.FoundRowLaws.{found_row}
use Rattle.model.specs.RecordLaws.{sound_tells}
use Rattle.rows.specs.LentMemory.{state_of, SoundWords, SoundFrames, Does}
use Rattle.lookup.specs.NamedSlotLaws.{words_len}
use Rattle.lookup.specs.FirstOfLaws.{first_here, first_later, first_none, first_passed}
use Rattle.lookup.specs.Named.{named_by}
use Rattle.lookup.specs.NamedLaws.{named_slot, named_no}
use Rattle.laws.specs.ResultLaws.{ok_not_err, err_not_ok, ok_same, err_same}
use Rattle.std.specs.Option.{ok_or}
use Rattle.clone_pages.specs.BackedPages.{range_len}
use Rattle.keeping.specs.OwingOfSound.{sound_owing}
use Rattle.clone_share.specs.ShareInto.{Cloneable, shared_into}
use Rattle.clone_copy.specs.CopyInto.{Copyable, CopiedInto}
use Rattle.clone_region.specs.CloneWay.{clone_way}

-- what `ok_or` answers: the refusal that was given, or what is there
pub not_there : (o : Option ℕ) (e k : Refusal) → ok_or o e ≡ Err k → (None ≡ o) × (k ≡ e)
not_there None e k p = (refl, sym (err_same p))
not_there (Some x) e k p = absurd (ok_not_err p)

pub is_there : (o : Option ℕ) (e : Refusal) (x : ℕ) → ok_or o e ≡ Ok x → Some x ≡ o
is_there None e x p = absurd (err_not_ok p)
is_there (Some y) e x p = ap (λ n. Some n) (sym (ok_same p))

-- ---- entries and frames

module _ (m : Machine) (p s : ℕ) (r : Region) (read : r ≡ region_at m p s) (n : ℕ) (singles : n ≡ length (single_pages m.entries (row_of p s))) where
  pub needs_singles : (r.fork ≡ 1 → ⊥) → n ≡ entries_needed m p s
  unfolding entries_needed
  needs_singles z = singles ∙ sym (ap (λ (b : Bool). cond b (length (backed_pages m p s)) (length (single_pages m.entries (row_of p s)))) (ap (λ (x : Region). is_copied x) (sym read) ∙ ne_eqb r.fork 1 z))

  pub needs_all : r.fork ≡ 1 → (k : ℕ) → k ≡ length (range_pages m p s) → k + n ≡ entries_needed m p s
  unfolding entries_needed backed_pages
  needs_all z k range =
      let both = length-append (range_pages m p s) (single_pages m.entries (row_of p s)) in
      let sum : k + n ≡ length (range_pages m p s ++ single_pages m.entries (row_of p s)) = omega arith in
      sum ∙ sym (ap (λ (b : Bool). cond b (length (range_pages m p s ++ single_pages m.entries (row_of p s))) (length (single_pages m.entries (row_of p s)))) (ap (λ (x : Region). is_copied x) (sym read) ∙ eq-eqb r.fork 1 z))

pub frames_unasked : (m : Machine) (r : Region) (n : ℕ) → (r.fork ≡ 1 → ⊥) → false ≡ (is_copied r && ltb m.pool.free n)
frames_unasked m r n z = rw (ne_eqb r.fork 1 z) refl

pub frames_asked : (m : Machine) (r : Region) (n : ℕ) → r.fork ≡ 1 → (x : Pool) → x ≡ m.pool → ltb x.free n ≡ (is_copied r && ltb m.pool.free n)
frames_asked m r n z x e = ap (λ (y : Pool). ltb y.free n) e ∙ ap (λ (b : Bool). b && ltb m.pool.free n) (sym (eq-eqb r.fork 1 z))

-- a range of a sound machine has at most 256 frames
pub range_fits : (w : List ℕ) → SoundWords w → (r : Region) → range_len (machine w) r ≤ 256
unfolding range_len
range_fits w k r = go (is_ranged r)
  where
    go : (b : Bool) → cond b (backing_at (machine w) r.range.0).len 0 ≤ 256
    go true = words_len w k r.range.0
    go false = omega arith

-- ---- the refusals in their order

module _ (w : List ℕ) (k : SoundWords w) (p s q : ℕ) (r : Region) (read : r ≡ region_at (machine w) p s) (len : ℕ) (long : r.size ≤ 2 ^ 47 → len ≡ pages_for r.size * 4096) (b : Bool) (told : b ≡ reserved (machine w) q r.start.0 len) where
  abbrev m : Machine
  m = machine w

  size_fits : r.size ≤ 2 ^ 47
  size_fits = go (ℕ_discrete r.kind 0)
    where
      fits : RegionFits m r
      fits = subst (λ (x : Region). RegionFits m x) (sym read) ((sound_owing (state_of w k.frames k.files) ((sound_tells _).yes k.sound)).regions (row_of p s))

      go : Dec (r.kind ≡ 0) → r.size ≤ 2 ^ 47
      go (yes z) = let none = ap (λ (x : Region). x.size) (fits.free z) in omega arith
      go (no z) = let end = (fits.used z).user_segment in omega arith

  is : b ≡ reserved m q (region_at m p s).start.0 (segment_len (region_at m p s))
  is = told ∙ ap (λ (n : ℕ). reserved m q r.start.0 n) (long size_fits) ∙ ap (λ (x : Region). reserved m q x.start.0 (segment_len x)) read

  no_way : (x : Refusal) → Err x ≡ first_of (clone_refusals m p s q) → Err x ≡ clone_way m p s q
  no_way x e = ap (λ (d : Result ⊤ Refusal). named_by d (row_found (free_slot m q))) e

  pub way_reserved : b ≡ true → Err SegmentReserved ≡ clone_way m p s q
  unfolding clone_refusals
  way_reserved e = no_way SegmentReserved (first_here _ SegmentReserved _ (sym is ∙ e))

  module _ (clear : b ≡ false) where
    full : (not (is_found (free_slot m q)) || ltb (free_entries m) (entries_needed m p s)) ≡ true → Err TableFull ≡ clone_way m p s q
    unfolding clone_refusals
    full e = no_way TableFull (first_later _ SegmentReserved _ _ (sym is ∙ clear) (first_here _ TableFull _ e))

    pub way_slots : None ≡ free_slot m q → Err TableFull ≡ clone_way m p s q
    way_slots e = full (rw (sym e) refl)

    module _ (i : ℕ) (found : Some i ≡ free_slot m q) (n : ℕ) (needs : n ≡ entries_needed m p s) (e : ℕ) (entries : e ≡ free_entries m) where
      table : (c : Bool) → ltb e n ≡ c → (not (is_found (free_slot m q)) || ltb (free_entries m) (entries_needed m p s)) ≡ c
      table c h = ap (λ (x : Option ℕ). not (is_found x) || ltb (free_entries m) (entries_needed m p s)) (sym found) ∙ (λ t. ltb (sym entries t) (sym needs t)) ∙ h

      pub way_entries : e < n → Err TableFull ≡ clone_way m p s q
      way_entries h = full (table true (lt-ltb e n h))

      module _ (left : n ≤ e) (c : Bool) (lacks : c ≡ (is_copied r && ltb m.pool.free n)) where
        room : c ≡ (is_copied (region_at m p s) && ltb m.pool.free (entries_needed m p s))
        room = lacks ∙ (λ t. is_copied (read t) && ltb m.pool.free (needs t))

        pub way_frames : c ≡ true → Err OutOfMemory ≡ clone_way m p s q
        unfolding clone_refusals
        way_frames h = no_way OutOfMemory (first_later _ SegmentReserved _ _ (sym is ∙ clear) (first_later _ TableFull _ _ (table false (le-ltb e n left)) (first_here _ OutOfMemory _ (sym room ∙ h))))

        pub way_free : c ≡ false → Ok i ≡ clone_way m p s q
        unfolding clone_refusals
        way_free h = λ t. named_by (pass t) (row_found (found t))
          where
            pass : Ok tt ≡ first_of (clone_refusals m p s q)
            pass = first_later _ SegmentReserved _ _ (sym is ∙ clear) (first_later _ TableFull _ _ (table false (le-ltb e n left)) (first_later _ OutOfMemory _ _ (sym room ∙ h) first_none))

-- ---- the clone

module _ (w f : List ℕ) (k : SoundFrames w f) (p s q : ℕ) (used : (region_at (machine w) p s).kind ≢ 0) (r : Region) (read : r ≡ region_at (machine w) p s) (x : Result ℕ Refusal) (told : x ≡ clone_way (machine w) p s q) where
  pub clone_refused : (y : Refusal) → x ≡ Err y → Does (λ t. core_clone_region t p s q) w f w f (Err y)
  unfolding core_clone_region
  clone_refused y e files sound = ap (λ (d : Result ⊤ Refusal). unless d (state_of w f files) (fine (cond (is_copied (region_at (machine w) p s)) (copy_into (state_of w f files) p s q) (share_into (state_of w f files) p s q)))) (sym (named_no (first_of (clone_refusals (machine w) p s q)) (row_found (free_slot (machine w) q)) y x told e))

  module _ (i : ℕ) (e : x ≡ Ok i) where
    passes : Ok tt ≡ first_of (clone_refusals (machine w) p s q)
    passes = (named_slot (first_of (clone_refusals (machine w) p s q)) (row_found (free_slot (machine w) q)) i x told e).0

    slot_found : free_slot (machine w) q ≡ Some i
    unfolding clone_refusals
    slot_found =
        let one = first_passed _ SegmentReserved _ passes in
        let two = first_passed _ TableFull _ one.1 in
        found_row (free_slot (machine w) q) (or_none (not (is_found (free_slot (machine w) q))) (ltb (free_entries (machine w)) (entries_needed (machine w) p s)) two.0).0 ∙ ap (λ (j : ℕ). Some j) (sym (named_slot (first_of (clone_refusals (machine w) p s q)) (row_found (free_slot (machine w) q)) i x told e).1)

    entries_left : entries_needed (machine w) p s ≤ free_entries (machine w)
    unfolding clone_refusals
    entries_left = let one = first_passed _ SegmentReserved _ passes in let two = first_passed _ TableFull _ one.1 in ltb-false (free_entries (machine w)) (entries_needed (machine w) p s) (or_none (not (is_found (free_slot (machine w) q))) (ltb (free_entries (machine w)) (entries_needed (machine w) p s)) two.0).1

    went : (files : List ℕ) → core_clone_region (state_of w f files) p s q ≡ fine (cond (is_copied (region_at (machine w) p s)) (copy_into (state_of w f files) p s q) (share_into (state_of w f files) p s q))
    unfolding core_clone_region
    went files = ap (λ (d : Result ⊤ Refusal). unless d (state_of w f files) (fine (cond (is_copied (region_at (machine w) p s)) (copy_into (state_of w f files) p s q) (share_into (state_of w f files) p s q)))) (sym passes)

    -- it copies
    module _ (fork : r.fork ≡ 1) where
      copies : is_copied (region_at (machine w) p s) ≡ true
      copies = ap (λ (y : Region). is_copied y) (sym read) ∙ eq-eqb r.fork 1 fork

      needed : entries_needed (machine w) p s ≡ length (backed_pages (machine w) p s)
      unfolding entries_needed
      needed = ap (λ (b : Bool). cond b (length (backed_pages (machine w) p s)) (length (single_pages (machine w).entries (row_of p s)))) copies

      frames_left : entries_needed (machine w) p s ≤ (machine w).pool.free
      unfolding clone_refusals
      frames_left =
          let one = first_passed _ SegmentReserved _ passes in
          let two = first_passed _ TableFull _ one.1 in
          let three = first_passed _ OutOfMemory _ two.1 in
          ltb-false _ _ (ap (λ (b : Bool). b && ltb (machine w).pool.free (entries_needed (machine w) p s)) (sym copies) ∙ three.0)

      pub may_copy : Copyable w f p s q i
      may_copy = let n = needed in let a = entries_left in let b = frames_left in record { sound = k; used = used; slot = slot_found; left = omega arith; free = omega arith }

      pub clone_copied : (w' f' : List ℕ) → CopiedInto w f p s q w' f' → Does (λ t. core_clone_region t p s q) w f w' f' (Ok tt)
      clone_copied w' f' all files sound = went files ∙ ap (λ (b : Bool). fine (cond b (copy_into (state_of w f files) p s q) (share_into (state_of w f files) p s q))) copies ∙ ap (λ (y : State). fine y) (sym (all files))

    -- it shares
    module _ (fork : r.fork ≡ 1 → ⊥) where
      shares : is_copied (region_at (machine w) p s) ≡ false
      shares = ap (λ (y : Region). is_copied y) (sym read) ∙ ne_eqb r.fork 1 fork

      needed_singles : entries_needed (machine w) p s ≡ length (single_pages (machine w).entries (row_of p s))
      unfolding entries_needed
      needed_singles = ap (λ (b : Bool). cond b (length (backed_pages (machine w) p s)) (length (single_pages (machine w).entries (row_of p s)))) shares

      pub may_share : Cloneable w p s q i
      may_share = let n = needed_singles in let a = entries_left in record { sound = record { frames = f; files = k.files; sound = k.sound }; used = used; slot = slot_found; left = omega arith }

      pub clone_shared : (w' : List ℕ) → machine w' ≡ shared_into (machine w) p s q → Does (λ t. core_clone_region t p s q) w f w' f (Ok tt)
      unfolding share_into
      clone_shared w' all files sound = went files ∙ ap (λ (b : Bool). fine (cond b (copy_into (state_of w f files) p s q) (share_into (state_of w f files) p s q))) shares ∙ ap (λ (y : Machine). fine (record { machine = y; frames = f; bytes = files })) (sym all)
