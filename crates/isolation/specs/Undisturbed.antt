-- A page that a change leaves alone: its region's row, its entry, its frame's byte. Its view stays, if the machine keeps the rules before and after.
use Rattle.std.specs.Prelude.{◌≡◌, refl, ◌≢◌, Bool, true, false, ◌||◌, not, List, ◌∷◌, ℕ, ◌+◌, ◌-◌, ◌*◌, ◌/◌, ◌%◌, ◌<◌, get_or, Option, Some, None, Result, Ok, Err, ⊤}
use Rattle.std.proofs.Common.{ap, sym, subst, ◌∙◌, inl, inr, true≢false}
use Rattle.laws.specs.ResultLaws.{none_not_some}
use Rattle.answers.specs.declared.Refusal.{Refusal}
use Rattle.answers.specs.declared.Refusal.TheVariants.{BadTable}
use Rattle.model.specs.declared.Region.{Region}
use Rattle.model.specs.declared.Entry.{Entry}
use Rattle.model.specs.Machine.{Machine, State, region_at, row_of, order_of}
use Rattle.model.specs.Answers.{After, first_of}
use Rattle.model.specs.Lookup.{contains, pages_for}
use Rattle.model.specs.Paging.{page_start}
use Rattle.model.specs.Backing.{backing, backing_at}
use Rattle.model.specs.Calls.{decided, guarded}
use Rattle.model.specs.Run.{Call, step}
use Rattle.model.specs.Sound.{Sound, Used, frame_by}
use Rattle.model.specs.SoundTest.{soundb}
use Rattle.model.specs.Posix.{view, home_slot, kind_at, PrivateAt}
use Rattle.keeping.specs.GuardedKept.{Passed, passed}
use Rattle.laws.specs.In.{In}
use Rattle.keeping.specs.Owing.{Owing, Backs, row_at, entry_at}
use Rattle.keeping.specs.BacksLaws.{source_of, backing_of}
use Rattle.keeping.specs.OwingOfSound.{sound_owing}
use Rattle.isolation.specs.Statements.{Stays, touches}
use Rattle.isolation.specs.ViewLaws.{Home, home_at, at_home, private_home, kind_at_home, kind_private, looks, FrameTo, seen_as, kind_as}

-- ---- a page's frame in two machines

-- what backs the page in row i of one machine has its frame in what backs it in row j of the other
abbrev pub BacksTo : Machine → Machine → (i j pg : ℕ) → Type 0
BacksTo m n i j pg = (base fr : ℕ) → Backs m i pg base fr → (b : ℕ) × Backs n j pg b fr

pub frame_same : {d e : ℕ → ℕ} (m n : Machine) → Owing d m → Owing e n → (p t q u pg : ℕ) → BacksTo m n (row_of p t) (row_of q u) pg → BacksTo n m (row_of q u) (row_of p t) pg → frame_by (backing n q u pg) ≡ frame_by (backing m p t pg)
frame_same m n o k p t q u pg forth back = go (frame_by (backing m p t pg)) refl (frame_by (backing n q u pg)) refl
  where
    go : (x : Option ℕ) → frame_by (backing m p t pg) ≡ x → (y : Option ℕ) → frame_by (backing n q u pg) ≡ y → frame_by (backing n q u pg) ≡ frame_by (backing m p t pg)
    go (Some f) e y i =
        let b = source_of m p t pg f e in
        let c = forth b.base f b.backs in
        (backing_of n q u pg k.once_a_page c.0 f c.1).0 ∙ sym e
    go None e (Some g) i =
        let b = source_of n q u pg g i in
        let c = back b.base g b.backs in
        absurd (none_not_some (sym e ∙ (backing_of m p t pg o.once_a_page c.0 g c.1).0))
    go None e None i = i ∙ sym e

-- an entry of the page in row i of one machine has its frame in one of row j of the other
abbrev pub EntriesTo : Machine → Machine → (i j pg : ℕ) → Type 0
EntriesTo m n i j pg =
    (x : ℕ) → (entry_at m x).owner ≡ i + 1 → (entry_at m x).page.0 ≡ pg
    → (y : ℕ) × (((entry_at n y).owner ≡ j + 1) × (((entry_at n y).page.0 ≡ pg) × ((entry_at n y).frame.0 ≡ (entry_at m x).frame.0)))

same_entries : (m n : Machine) (i pg : ℕ) → ((x : ℕ) → (entry_at m x).owner ≡ i + 1 → (entry_at m x).page.0 ≡ pg → entry_at n x ≡ entry_at m x) → EntriesTo m n i i pg
same_entries m n i pg same x owner page =
    let e = same x owner page in
    (x, (ap (λ (y : Entry). y.owner) e ∙ owner, (ap (λ (y : Entry). y.page.0) e ∙ page, ap (λ (y : Entry). y.frame.0) e)))

-- two rows that look the same and have the same range
pub record Alike (m n : Machine) (i j : ℕ) : Type 0 where
  pub look : looks (row_at n j) ≡ looks (row_at m i)
  pub ranged : (row_at n j).ranged ≡ (row_at m i).ranged
  pub range : (row_at n j).range ≡ (row_at m i).range

alike_back : {m n : Machine} {i j : ℕ} → Alike m n i j → Alike n m j i
alike_back a = record { look = sym a.look; ranged = sym a.ranged; range = sym a.range }

-- a range that both machines' rules speak of is as long in both
module _ {d e : ℕ → ℕ} (m n : Machine) (o : Owing d m) (k : Owing e n) (i j : ℕ) (used : Used (row_at m i)) (alike : Alike m n i j) where
  range_length : (base : ℕ) → (row_at m i).ranged ≡ 1 → (row_at m i).range.0 ≡ base → (backing_at n base).len ≡ (backing_at m base).len
  range_length base r b =
      let there = ((k.regions j).used (λ z. used (ap (λ (x : Region). x.kind) (sym alike.look) ∙ z))).ranged (alike.ranged ∙ r) in
      let here = ((o.regions i).used used).ranged r in
      ap (λ (x : ℕ). (backing_at n x).len) (sym (ap (λ y. y.0) alike.range ∙ b)) ∙ there ∙ ap (λ (x : Region). pages_for x.size) alike.look ∙ sym here ∙ ap (λ (x : ℕ). (backing_at m x).len) b

  backs_forth : (pg base fr : ℕ) → EntriesTo m n i j pg → EntriesTo n m j i pg → Backs m i pg base fr → Backs n j pg base fr
  backs_forth pg base fr forth back (inl b) = let e = forth b.at b.owner b.page in inl (record { at = e.0; owner = e.1.0; page = e.1.1.0; start = e.1.1.1 ∙ b.start; frame = b.frame })
  backs_forth pg base fr forth back (inr b) =
      let len = range_length base b.ranged b.start in
      let first : (row_at n j).start.0 ≡ (row_at m i).start.0 = ap (λ (x : Region). x.start.0) alike.look in
      inr (record {
        none = λ x u z. let e = back x u z in b.none e.0 e.1.0 e.1.1.0;
        ranged = alike.ranged ∙ b.ranged;
        start = ap (λ y. y.0) alike.range ∙ b.start;
        within = subst (λ (x : ℕ). pg - x / 4096 < (backing_at n base).len) (sym first) (subst (λ (x : ℕ). pg - (row_at m i).start.0 / 4096 < x) (sym len) b.within);
        frame = b.frame ∙ ap (λ (x : ℕ). base + (pg - x / 4096)) (sym first);
      })

-- so a page of two such rows, with the same entries, has one frame
pub frame_alike : {d e : ℕ → ℕ} (m n : Machine) → Owing d m → Owing e n → (p t q u : ℕ) → Used (region_at m p t) → Alike m n (row_of p t) (row_of q u) → (pg : ℕ) → EntriesTo m n (row_of p t) (row_of q u) pg → EntriesTo n m (row_of q u) (row_of p t) pg → frame_by (backing n q u pg) ≡ frame_by (backing m p t pg)
frame_alike m n o k p t q u used alike pg forth back =
    frame_same m n o k p t q u pg (λ base fr b. (base, backs_forth m n o k (row_of p t) (row_of q u) used alike pg base fr forth back b))
    (λ base fr b. (base, backs_forth n m k o (row_of q u) (row_of p t) (λ z. used (ap (λ (r : Region). r.kind) (sym alike.look) ∙ z)) (alike_back alike) pg base fr back forth b))

-- ---- a page that is left alone

pub record Undisturbed (s after : State) (q t pg at : ℕ) : Type 0 where
  pub bytes : after.bytes ≡ s.bytes
  pub files : after.machine.files ≡ s.machine.files
  pub look : looks (region_at after.machine q t) ≡ looks (region_at s.machine q t)
  pub ranged : (region_at after.machine q t).ranged ≡ (region_at s.machine q t).ranged
  pub range : (region_at after.machine q t).range ≡ (region_at s.machine q t).range
  pub forth : (i : ℕ) → (entry_at s.machine i).owner ≡ row_of q t + 1 → (entry_at s.machine i).page.0 ≡ pg → entry_at after.machine i ≡ entry_at s.machine i
  pub back : (i : ℕ) → (entry_at after.machine i).owner ≡ row_of q t + 1 → (entry_at after.machine i).page.0 ≡ pg → entry_at after.machine i ≡ entry_at s.machine i
  pub frames : (base fr : ℕ) → Backs s.machine (row_of q t) pg base fr → get_or after.frames (fr * 4096 + at) 0 ≡ get_or s.frames (fr * 4096 + at) 0
  pub listed : In t (order_of after.machine q)

-- what process q sees at c, and its kind, in two states
pub record Same (s after : State) (q c : ℕ) : Type 0 where
  pub seen : view after q c ≡ view s q c
  pub kind : kind_at after q c ≡ kind_at s q c

module _ {d e : ℕ → ℕ} (s after : State) (o : Owing d s.machine) (k : Owing e after.machine) (q c t : ℕ) (home : home_slot s q c ≡ Some t) (un : Undisturbed s after q t (c / 4096) (c % 4096)) where
  abbrev m : Machine
  m = s.machine

  abbrev n : Machine
  n = after.machine

  there : Home m q t (c / 4096)
  there = home_at m o q (c / 4096) t home

  pub still_home : home_slot after q c ≡ Some t
  still_home = at_home n k q (c / 4096) t (record { low = there.low; listed = un.listed; inside = ap (λ (r : Region). contains r (page_start (c / 4096))) un.look ∙ there.inside })

  used : Used (region_at m q t)
  used = (o.listed q t there.low there.listed).1

  pub frame_undisturbed : frame_by (backing n q t (c / 4096)) ≡ frame_by (backing m q t (c / 4096))
  frame_undisturbed =
      frame_alike m n o k q t q t used (record { look = un.look; ranged = un.ranged; range = un.range }) (c / 4096) (same_entries m n (row_of q t) (c / 4096) un.forth)
      (same_entries n m (row_of q t) (c / 4096) (λ x owner page. sym (un.back x owner page)))

  frame_to : FrameTo s after q t q t c
  frame_to = record { some = λ f e. let b = source_of m q t (c / 4096) f e in (f, (frame_undisturbed ∙ e, un.frames b.base f b.backs)); none = λ e. frame_undisturbed ∙ e }

  -- its view and its kind stay
  pub same_undisturbed : Same s after q c
  same_undisturbed = record {
    seen = seen_as s after q t q t c home still_home un.look un.bytes un.files frame_to;
    kind = kind_as s after q t q t c home still_home un.look;
  }

-- ---- views that stay

pub same_refl : (s : State) (q c : ℕ) → Same s s q c
same_refl s q c = record { seen = refl; kind = refl }

pub same_then : {a b c : State} {q x : ℕ} → Same a b q x → Same b c q x → Same a c q x
same_then k l = record { seen = l.seen ∙ k.seen; kind = l.kind ∙ k.kind }

pub same_stays : {s after : State} {q c : ℕ} → PrivateAt s q c → Same s after q c → Stays s after q c
same_stays p k = record { seen = k.seen; private = kind_private k.kind p }

-- of one call: what is seen in a private page stays, where the call does not touch it
abbrev pub CallStays : Call → Type 0
CallStays x = (s : State) → Sound s → (q c : ℕ) → PrivateAt s q c → touches q c s x ≡ false → Stays s (step x s) q c

-- a private page: at its home
pub stays_home : {e : ℕ → ℕ} (s after : State) → Sound s → Owing e after.machine → (q c : ℕ) → PrivateAt s q c → ((t : ℕ) → Home s.machine q t (c / 4096) → (region_at s.machine q t).kind ≢ 3 → Undisturbed s after q t (c / 4096) (c % 4096)) → Stays s after q c
stays_home s after sound k q c private un =
    let o = sound_owing s sound in
    let h = private_home s q c private in
    let u = un h.0 (home_at s.machine o q (c / 4096) h.0 h.1) (λ z. private.unshared (kind_at_home s q c h.0 h.1 ∙ z)) in
    same_stays private (same_undisturbed s after o k q c h.0 h.1 u)

-- ---- refusals

pub or_none : (a b : Bool) → (a || b) ≡ false → (a ≡ false) × (b ≡ false)
or_none true b e = absurd (true≢false e)
or_none false b e = (refl, e)

-- a refused call changes nothing
pub guarded_same : {A : Type 0} (s : State) (refusal : Refusal → A) (tests : List (Bool × Refusal)) (t : After A) → (P : State → Type 0) → P s → (Passed tests → P t.state) → P (guarded s refusal tests t).state
unfolding guarded
guarded_same s refusal tests t P same core = go (first_of ((not (soundb s), BadTable) ∷ tests)) refl
  where
    go : (d : Result ⊤ Refusal) → first_of ((not (soundb s), BadTable) ∷ tests) ≡ d → P (decided d refusal s t).state
    go (Ok tt) e = core (passed ((not (soundb s), BadTable) ∷ tests) e).1
    go (Err r) e = same
