-- Laws: what a fault's way needs, test by test.
use Rattle.std.specs.Prelude.{◌≡◌, Bool, false, ◌&&◌, not, cond, ℕ, ◌+◌, get_or, eqb, ltb, Option, Some, None, is_some, Result, Ok, Err, ⊤}
use Rattle.std.proofs.lemmas.Bool.{false≢true}
use Rattle.std.proofs.Math.Path.{refl, ap}
use Rattle.std.proofs.Common.{sym, ◌∙◌, eq-eqb, ne_eqb}
use Rattle.std.proofs.Math.Bool.{true}
use Rattle.address.specs.declared.PhysFrame.{PhysFrame}
use Rattle.address.specs.declared.flags.PageTableFlags.{PageTableFlags}
use Rattle.answers.specs.declared.Refusal.{Refusal}
use Rattle.answers.specs.declared.Refusal.TheVariants.{OutOfMemory, ReadFailed, MapFailed, TableFull}
use Rattle.model.specs.declared.Region.{Region}
use Rattle.model.specs.declared.Pool.{Pool}
use Rattle.model.specs.declared.Mapping.{Mapping}
use Rattle.model.specs.declared.Backed.{Backed}
use Rattle.model.specs.declared.Backed.TheVariants.{ByEntry, ByRange, Unbacked}
use Rattle.model.specs.declared.Way.{Way}
use Rattle.model.specs.declared.Way.TheVariants.{Refuse, Already, Restore, Map, Copy, Fill}
use Rattle.model.specs.Machine.{Machine, mapped_of, region_at, row_of, no_entry}
use Rattle.model.specs.Lookup.{is_ranged, free_entry, is_found}
use Rattle.model.specs.Paging.{translate}
use Rattle.model.specs.Backing.{backing_at, backing, entry_for}
use Rattle.lookup.specs.Backed.{by_range, else_by, pages_past}
use Rattle.lookup.specs.BackedLaws.{backing_by}
use Rattle.lookup.specs.Backed as by
use Rattle.model.specs.Answers.{first_of}
use Rattle.model.specs.Fault.{read_fails, no_frame, no_room, no_entry_left, is_mapped, by_entry, way_refusals}
use Rattle.lookup.specs.FirstOfLaws.{first_here, first_later, first_none}
use Rattle.fault_needs.specs.WayNeeds.{unmapped_full, entry_full}

-- ---- room and entries

module _ (m : Machine) (p page : ℕ) (t : Option Mapping) (e : t ≡ translate (mapped_of m p) page) where
  pub full_mapped : (x : Mapping) → t ≡ Some x → false ≡ unmapped_full m p page
  full_mapped x g = ap (λ (y : Option Mapping). not (is_mapped y) && no_room m p) (sym g ∙ e)

  pub full_unmapped : t ≡ None → (b : Bool) → b ≡ no_room m p → b ≡ unmapped_full m p page
  full_unmapped g b h = h ∙ ap (λ (y : Option Mapping). not (is_mapped y) && no_room m p) (sym g ∙ e)

pub entry_none : (m : Machine) (f : Option ℕ) → f ≡ free_entry m → f ≡ None → true ≡ no_entry_left m
entry_none m f e g = ap (λ (x : Option ℕ). not (is_found x)) (sym g ∙ e)

pub entry_some : (m : Machine) (f : Option ℕ) → f ≡ free_entry m → (i : ℕ) → f ≡ Some i → false ≡ no_entry_left m
entry_some m f e i g = ap (λ (x : Option ℕ). not (is_found x)) (sym g ∙ e)

pub entry_tested : (m : Machine) (f : Option ℕ) → f ≡ free_entry m → (b : Bool) → is_some f ≡ not b → b ≡ no_entry_left m
entry_tested m None e true t = entry_none m None e refl
entry_tested m None e false t = absurd (false≢true t)
entry_tested m (Some i) e true t = absurd (false≢true (sym t))
entry_tested m (Some i) e false t = entry_some m (Some i) e i refl

-- the backing of a page that has an entry, or none
module _ (m : Machine) (p s page : ℕ) where
  pub through_entry : (i : ℕ) → Some i ≡ entry_for m (row_of p s) page → ByEntry i (get_or m.entries i no_entry).frame (backing_at m (get_or m.entries i no_entry).frame.0).holders ≡ backing m p s page
  through_entry i e = ap (λ (f : Option ℕ). else_by (by.by_entry m f) (by_range m (region_at m p s) page)) e ∙ backing_by m p s page _ refl _ refl _ refl

  pub through_range : None ≡ entry_for m (row_of p s) page → by_range m (region_at m p s) page ≡ backing m p s page
  through_range e = ap (λ (f : Option ℕ). else_by (by.by_entry m f) (by_range m (region_at m p s) page)) e ∙ backing_by m p s page _ refl _ refl _ refl

  ranged_none : by_entry (by_range m (region_at m p s) page) ≡ false
  ranged_none = go (is_ranged (region_at m p s) && ltb (pages_past (region_at m p s) page) (backing_at m (region_at m p s).range.0).len)
    where
      go : (b : Bool) → by_entry (cond b (ByRange (record { 0 = (region_at m p s).range.0 + pages_past (region_at m p s) page }) (backing_at m (region_at m p s).range.0).holders) Unbacked) ≡ false
      go true = refl
      go false = refl

  pub full_entry : (f : Option ℕ) → f ≡ entry_for m (row_of p s) page → (i : ℕ) → f ≡ Some i → false ≡ entry_full m (backing m p s page)
  full_entry f e i g = ap (λ (y : Backed). entry_full m y) (through_entry i (sym g ∙ e))

  pub full_none : (f : Option ℕ) → f ≡ entry_for m (row_of p s) page → f ≡ None → (c : Bool) → c ≡ no_entry_left m → c ≡ entry_full m (backing m p s page)
  full_none f e g c h = h ∙ sym (ap (λ (b : Bool). not b && no_entry_left m) ranged_none) ∙ ap (λ (y : Backed). entry_full m y) (through_range (sym g ∙ e))

-- ---- the refusals

module _ (m : Machine) (q : Pool) (e : q ≡ m.pool) where
  frame_none : q.free ≡ 0 → no_frame m ≡ true
  frame_none z = ap (λ (x : Pool). eqb x.free 0) (sym e) ∙ eq-eqb q.free 0 z

  frame_some : (q.free ≡ 0 → ⊥) → no_frame m ≡ false
  frame_some z = ap (λ (x : Pool). eqb x.free 0) (sym e) ∙ ne_eqb q.free 0 z

  module _ (p s page : ℕ) where
    module _ (f : PhysFrame) where
      pub copy_frame : q.free ≡ 0 → Err OutOfMemory ≡ first_of (way_refusals m p s page (Copy f))
      unfolding way_refusals
      copy_frame z = first_here _ OutOfMemory _ (frame_none z)

      module _ (z : q.free ≡ 0 → ⊥) (b : Bool) (g : b ≡ unmapped_full m p page) where
        pub copy_room : b ≡ true → Err MapFailed ≡ first_of (way_refusals m p s page (Copy f))
        unfolding way_refusals
        copy_room h = first_later _ OutOfMemory _ _ (frame_some z) (first_here _ MapFailed _ (sym g ∙ h))

        module _ (h : b ≡ false) (c : Bool) (k : c ≡ entry_full m (backing m p s page)) where
          pub copied_entry : c ≡ true → Err TableFull ≡ first_of (way_refusals m p s page (Copy f))
          unfolding way_refusals
          copied_entry l = first_later _ OutOfMemory _ _ (frame_some z) (first_later _ MapFailed _ _ (sym g ∙ h) (first_here _ TableFull _ (sym k ∙ l)))

          pub copy_fine : c ≡ false → Ok tt ≡ first_of (way_refusals m p s page (Copy f))
          unfolding way_refusals
          copy_fine l = first_later _ OutOfMemory _ _ (frame_some z) (first_later _ MapFailed _ _ (sym g ∙ h) (first_later _ TableFull _ _ (sym k ∙ l) first_none))

    pub fill_frame : q.free ≡ 0 → Err OutOfMemory ≡ first_of (way_refusals m p s page Fill)
    unfolding way_refusals
    fill_frame z = first_here _ OutOfMemory _ (frame_none z)

    module _ (z : q.free ≡ 0 → ⊥) (r : Region) (row : r ≡ region_at m p s) (a : Bool) (f : a ≡ read_fails m r page) where
      reads : a ≡ read_fails m (region_at m p s) page
      reads = f ∙ ap (λ (x : Region). read_fails m x page) row

      pub fill_read : a ≡ true → Err ReadFailed ≡ first_of (way_refusals m p s page Fill)
      unfolding way_refusals
      fill_read h = first_later _ OutOfMemory _ _ (frame_some z) (first_here _ ReadFailed _ (sym reads ∙ h))

      module _ (h : a ≡ false) (b : Bool) (g : b ≡ no_room m p) where
        pub fill_room : b ≡ true → Err MapFailed ≡ first_of (way_refusals m p s page Fill)
        unfolding way_refusals
        fill_room k = first_later _ OutOfMemory _ _ (frame_some z) (first_later _ ReadFailed _ _ (sym reads ∙ h) (first_here _ MapFailed _ (sym g ∙ k)))

        module _ (k : b ≡ false) (c : Bool) (l : c ≡ no_entry_left m) where
          pub fill_entry : c ≡ true → Err TableFull ≡ first_of (way_refusals m p s page Fill)
          unfolding way_refusals
          fill_entry n = first_later _ OutOfMemory _ _ (frame_some z) (first_later _ ReadFailed _ _ (sym reads ∙ h) (first_later _ MapFailed _ _ (sym g ∙ k) (first_here _ TableFull _ (sym l ∙ n))))

          pub fill_fine : c ≡ false → Ok tt ≡ first_of (way_refusals m p s page Fill)
          unfolding way_refusals
          fill_fine n = first_later _ OutOfMemory _ _ (frame_some z) (first_later _ ReadFailed _ _ (sym reads ∙ h) (first_later _ MapFailed _ _ (sym g ∙ k) (first_later _ TableFull _ _ (sym l ∙ n) first_none)))

module _ (m : Machine) (p s page : ℕ) (w : Way) where
  pub way_refused : (r : Refusal) → w ≡ Refuse r → Err r ≡ first_of (way_refusals m p s page w)
  unfolding way_refusals
  way_refused r e = first_here true r _ refl ∙ ap (λ (x : Way). first_of (way_refusals m p s page x)) (sym e)

  pub way_already : w ≡ Already → Ok tt ≡ first_of (way_refusals m p s page w)
  unfolding way_refusals
  way_already e = first_none ∙ ap (λ (x : Way). first_of (way_refusals m p s page x)) (sym e)

  pub way_restore : w ≡ Restore → Ok tt ≡ first_of (way_refusals m p s page w)
  unfolding way_refusals
  way_restore e = first_none ∙ ap (λ (x : Way). first_of (way_refusals m p s page x)) (sym e)

  module _ (f : PhysFrame) (flags : PageTableFlags) (e : w ≡ Map f flags) (b : Bool) (g : b ≡ no_room m p) where
    pub way_full : b ≡ true → Err MapFailed ≡ first_of (way_refusals m p s page w)
    unfolding way_refusals
    way_full h = first_here _ MapFailed _ (sym g ∙ h) ∙ ap (λ (x : Way). first_of (way_refusals m p s page x)) (sym e)

    pub way_room : b ≡ false → Ok tt ≡ first_of (way_refusals m p s page w)
    unfolding way_refusals
    way_room h = first_later _ MapFailed _ _ (sym g ∙ h) first_none ∙ ap (λ (x : Way). first_of (way_refusals m p s page x)) (sym e)

  pub way_as : (d : Result ⊤ Refusal) (x : Way) → d ≡ first_of (way_refusals m p s page x) → w ≡ x → d ≡ first_of (way_refusals m p s page w)
  way_as d x h e = h ∙ ap (λ (y : Way). first_of (way_refusals m p s page y)) (sym e)
