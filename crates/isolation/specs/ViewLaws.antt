-- What a view depends on: the region at its home slot, the frame that backs the page, that frame's byte, and the files.
use Rattle.std.specs.Prelude.{◌≡◌, true, ◌&&◌, cond, List, ℕ, ◌+◌, ◌*◌, ◌/◌, ◌%◌, ◌<◌, get_or, replicate, eqb, ltb, Option, Some, None}
use Rattle.std.proofs.Math.Path.{refl, ap}
use Rattle.std.proofs.Common.{sym, ◌∙◌}
use Rattle.model.specs.declared.Region.{Region}
use Rattle.model.specs.declared.File.{File}
use Rattle.model.specs.declared.Backed as backed
use Rattle.model.specs.declared.Backed.TheVariants as by
use Rattle.model.specs.Machine.{Machine, State, region_at, order_of, no_file}
use Rattle.model.specs.Lookup.{contains, region_for}
use Rattle.model.specs.LookupLaws.{first_found, first_none}
use Rattle.laws.specs.BoolLaws.{clash}
use Rattle.model.specs.Paging.{page_start}
use Rattle.model.specs.Backing.{backing}
use Rattle.model.specs.Fault.{read_fails, fill_of, file_page, from_file}
use Rattle.model.specs.Sound.{frame_by}
use Rattle.model.specs.Posix.{view, view_by, home_slot, kind_in, kind_at, PrivateAt}
use Rattle.laws.specs.In.{In}
use Rattle.laws.specs.InListsLaws.{among_in, in_among}
use Rattle.keeping.specs.Owing.{Owing}
use Rattle.keeping.specs.OwingLaws.{home_one, open_low, listed_open}

-- ---- where an address is at home

pub record Home (m : Machine) (q t pg : ℕ) : Type 0 where
  pub low : q < 8
  pub listed : In t (order_of m q)
  pub inside : contains (region_at m q t) (page_start pg) ≡ true

module _ {d : ℕ → ℕ} (m : Machine) (o : Owing d m) (q : ℕ) where
  pub region_home : (a t : ℕ) → region_for m q a ≡ Some t → (q < 8) × (In t (order_of m q) × (contains (region_at m q t) a ≡ true))
  unfolding region_for
  region_home a t e = let k = first_found (λ s. contains (region_at m q s) a) (order_of m q) t e in let i = among_in t (order_of m q) k.1 in (open_low m o q (listed_open d m o q t i), (i, k.0))

  pub home_region : (a t : ℕ) → In t (order_of m q) → contains (region_at m q t) a ≡ true → region_for m q a ≡ Some t
  unfolding region_for
  home_region a t i e = go (region_for m q a) refl
    where
      go : (x : Option ℕ) → region_for m q a ≡ x → x ≡ Some t
      go None z = clash e (first_none (λ s. contains (region_at m q s) a) (order_of m q) z t (in_among t (order_of m q) i))
      go (Some u) z = let k = first_found (λ s. contains (region_at m q s) a) (order_of m q) u z in ap (λ (j : ℕ). Some j) (home_one m o q (open_low m o q (listed_open d m o q t i)) a u t (among_in u (order_of m q) k.1) i k.0 e)

  pub home_at : (pg t : ℕ) → region_for m q (page_start pg) ≡ Some t → Home m q t pg
  home_at pg t e = let k = region_home (page_start pg) t e in record { low = k.0; listed = k.1.0; inside = k.1.1 }

  pub at_home : (pg t : ℕ) → Home m q t pg → region_for m q (page_start pg) ≡ Some t
  at_home pg t h = home_region (page_start pg) t h.listed h.inside

-- a private page has a home
pub private_home : (s : State) (q c : ℕ) → PrivateAt s q c → (t : ℕ) × (home_slot s q c ≡ Some t)
private_home s q c k = go (home_slot s q c) refl
  where
    go : (x : Option ℕ) → home_slot s q c ≡ x → (t : ℕ) × (home_slot s q c ≡ Some t)
    go (Some t) e = (t, e)
    go None e = absurd (k.some (ap (kind_in s q) e))

pub kind_at_home : (s : State) (q c t : ℕ) → home_slot s q c ≡ Some t → kind_at s q c ≡ (region_at s.machine q t).kind
kind_at_home s q c t e = ap (kind_in s q) e

pub kind_none : (s : State) (q c : ℕ) → home_slot s q c ≡ None → kind_at s q c ≡ 0
kind_none s q c e = ap (kind_in s q) e

pub kind_private : {s after : State} {p q a c : ℕ} → kind_at after q c ≡ kind_at s p a → PrivateAt s p a → PrivateAt after q c
kind_private e k = record { some = λ z. k.some (sym e ∙ z); unshared = λ z. k.unshared (sym e ∙ z) }

-- ---- the view by the frame

-- what of a region a view depends on, beside its backing
abbrev pub looks : Region → Region
looks r = record { kind = r.kind; start = r.start; size = r.size; flags = record { 0 = 0 }; fork = 0; per_thread = 0; pins = 0; file = r.file; offset = r.offset; length = r.length; ranged = 0; range = record { 0 = 0 } }

abbrev pub bare : List ℕ → List File → Region → (page offset : ℕ) → Option ℕ
bare bytes files r page offset =
    cond (eqb r.kind 2 && ltb 0 (from_file r page) && eqb (get_or files r.file no_file).readable 0) None
    (Some (get_or (cond (eqb r.kind 2) (file_page bytes (get_or files r.file no_file) r page) (replicate 4096 0)) offset 0))

abbrev pub seen_by : State → Region → (page offset : ℕ) → Option ℕ → Option ℕ
seen_by s r page offset (Some f) = Some (get_or s.frames (f * 4096 + offset) 0)
seen_by s r page offset None = bare s.bytes s.machine.files r page offset

view_by_is : (s : State) (r : Region) (page offset : ℕ) (b : backed.Backed) → view_by s r page offset b ≡ seen_by s r page offset (frame_by b)
unfolding view_by read_fails fill_of
view_by_is s r page offset (by.ByEntry i f n) = refl
view_by_is s r page offset (by.ByRange f n) = refl
view_by_is s r page offset by.Unbacked = refl

pub view_at : (s : State) (q c t : ℕ) → home_slot s q c ≡ Some t → view s q c ≡ seen_by s (region_at s.machine q t) (c / 4096) (c % 4096) (frame_by (backing s.machine q t (c / 4096)))
unfolding view
view_at s q c t e = rw e (view_by_is s (region_at s.machine q t) (c / 4096) (c % 4096) (backing s.machine q t (c / 4096)))

pub view_none : (s : State) (q c : ℕ) → home_slot s q c ≡ None → view s q c ≡ None
unfolding view
view_none s q c e = rw e refl

bare_looks : (bytes : List ℕ) (files : List File) (r : Region) (page offset : ℕ) → bare bytes files r page offset ≡ bare bytes files (looks r) page offset
unfolding file_page
bare_looks bytes files r page offset = refl

-- ---- the same view in two states, at two places

-- of the page of c in slot t of p: the frame that backs it, what would fill it, what is seen by a frame
abbrev pub backed_by : State → (p t c : ℕ) → Option ℕ
backed_by s p t c = frame_by (backing s.machine p t (c / 4096))

abbrev pub bare_at : State → (p t c : ℕ) → Option ℕ
bare_at s p t c = bare s.bytes s.machine.files (region_at s.machine p t) (c / 4096) (c % 4096)

abbrev shown_by : State → (p t c : ℕ) → Option ℕ → Option ℕ
shown_by s p t c x = seen_by s (region_at s.machine p t) (c / 4096) (c % 4096) x

-- the page is backed in both places, by frames with the same byte, or in neither
pub record FrameTo (s after : State) (p t q u c : ℕ) : Type 0 where
  pub some : (f : ℕ) → backed_by s p t c ≡ Some f → (g : ℕ) × ((backed_by after q u c ≡ Some g) × (get_or after.frames (g * 4096 + c % 4096) 0 ≡ get_or s.frames (f * 4096 + c % 4096) 0))
  pub none : backed_by s p t c ≡ None → backed_by after q u c ≡ None

module _ (s after : State) (p t q u c : ℕ) (home : home_slot s p c ≡ Some t) (there : home_slot after q c ≡ Some u) where
  -- where what would fill the page is the same
  pub seen_with : bare_at after q u c ≡ bare_at s p t c → FrameTo s after p t q u c → view after q c ≡ view s p c
  seen_with fill k = view_at after q c u there ∙ go (backed_by s p t c) refl ∙ sym (view_at s p c t home)
    where
      go : (x : Option ℕ) → backed_by s p t c ≡ x → shown_by after q u c (backed_by after q u c) ≡ shown_by s p t c (backed_by s p t c)
      go (Some f) e = let b = k.some f e in ap (shown_by after q u c) b.1.0 ∙ ap (λ (y : ℕ). Some y) b.1.1 ∙ ap (shown_by s p t c) (sym e)
      go None e = ap (shown_by after q u c) (k.none e) ∙ fill ∙ ap (shown_by s p t c) (sym e)

  -- .. where the regions look the same
  module _ (look : looks (region_at after.machine q u) ≡ looks (region_at s.machine p t)) where
    pub seen_as : after.bytes ≡ s.bytes → after.machine.files ≡ s.machine.files → FrameTo s after p t q u c → view after q c ≡ view s p c
    seen_as bytes files k = seen_with same k
      where
        same : bare_at after q u c ≡ bare_at s p t c
        same =
            bare_looks after.bytes after.machine.files (region_at after.machine q u) (c / 4096) (c % 4096)
            ∙ (λ i. bare (bytes i) (files i) (look i) (c / 4096) (c % 4096))
            ∙ sym (bare_looks s.bytes s.machine.files (region_at s.machine p t) (c / 4096) (c % 4096))

    pub kind_as : kind_at after q c ≡ kind_at s p c
    kind_as = kind_at_home after q c u there ∙ ap (λ (r : Region). r.kind) look ∙ sym (kind_at_home s p c t home)
