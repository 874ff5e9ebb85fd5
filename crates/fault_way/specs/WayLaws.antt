-- Laws: the choice of a fault's way, case by case, and what is read of a sound machine.
use Rattle.std.specs.Prelude.{◌≡◌, List, ℕ, ◌<◌, ◌≤◌, Option, Some, None, is_some}
use Rattle.std.proofs.lemmas.Bool.{false≢true}
use Rattle.std.proofs.Math.Path.{refl, ap, sym}
use Rattle.std.proofs.Common.{◌∙◌, arith}
use mathlib.Core.Bool.{Bool, true, false, not, ◌&&◌, ◌||◌, cond}
use Rattle.std.proofs.Math.Decide.{ℕ_discrete}
use borrow.Author.Tests.{eq-eqb, ne_eqb, not-true, not-false}
use Rattle.address.specs.declared.PhysFrame.{PhysFrame}
use Rattle.address.specs.declared.flags.PageTableFlags.{PageTableFlags}
use Rattle.address.specs.Flags.{read_only}
use Rattle.answers.specs.declared.Refusal.TheVariants.{NotAccessible, NotWritable, MapFailed}
use Rattle.model.specs.declared.Region.{Region}
use Rattle.model.specs.declared.Mapping.{Mapping}
use Rattle.model.specs.declared.Backed.{Backed}
use Rattle.model.specs.declared.Backed.TheVariants.{ByEntry, ByRange, Unbacked}
use Rattle.model.specs.declared.Way.{Way}
use Rattle.model.specs.declared.Way.TheVariants.{Refuse, Already, Restore, Map, Copy, Fill}
use Rattle.model.specs.Layout.{machine}
use Rattle.model.specs.Machine.{Machine, mapped_of, region_at}
use Rattle.model.specs.Lookup.{is_shared}
use Rattle.model.specs.Paging.{is_writable, is_user, all_four, translate, well_mapped}
use Rattle.model.specs.Backing.{backing_at, backing}
use Rattle.model.specs.Fault.{backed_way, mapped_way, unbacked_way, unmapped_way, translated_way, private_way, shared_way, fault_way}
use Rattle.model.specs.Sound.{Sound}
use Rattle.model.specs.RecordLaws.{sound_tells}
use Rattle.rows.specs.LentMemory.{state_of, SoundWords}
use Rattle.backing.specs.BackingLaws.{sound_ready, used_inside}
use Rattle.paging.specs.Place.{translate_by}
use Rattle.paging.specs.MapperLaws.{well_paged, translate_law}
use Rattle.fault_way.specs.Way.{copied_way, asks_backing}

pub copied_one : (f : PhysFrame) (n : ℕ) → n ≡ 1 → Restore ≡ copied_way f n
copied_one f n e = rw (eq-eqb n 1 e) refl

pub copied_more : (f : PhysFrame) (n : ℕ) → (n ≡ 1 → ⊥) → Copy f ≡ copied_way f n
copied_more f n e = rw (ne_eqb n 1 e) refl

pub well_write : (t : Option Mapping) (x : Mapping) → t ≡ Some x → (w : Bool) → not w ≡ false → (b : Bool) → b ≡ is_writable x.flags.0 → b ≡ well_mapped t w
well_write t x e true a b f = f ∙ ap (λ (y : Option Mapping). well_mapped y true) (sym e)
well_write t x e false a b f = absurd (mathlib.Core.Bool.true≢false a)

module _ (r : Region) (x : Bool) (e : x ≡ is_writable r.flags.0) where
  shut : not x ≡ true → is_writable r.flags.0 ≡ false
  shut a = sym e ∙ not-true x a

  may : not x ≡ false → is_writable r.flags.0 ≡ true
  may a = sym e ∙ not-false x a

  module _ (f : PhysFrame) (n : ℕ) (w : Bool) where
    pub backed_refused : not x ≡ true → w ≡ true → Refuse NotWritable ≡ backed_way r f n w
    backed_refused a b = rw (shut a, b) refl

    pub backed_fixed : not x ≡ true → w ≡ false → Map f r.flags ≡ backed_way r f n w
    backed_fixed a b = rw (shut a, b) refl

    pub backed_one : not x ≡ false → n ≡ 1 → Map f r.flags ≡ backed_way r f n w
    backed_one a b = rw (may a, eq-eqb n 1 b) refl

    pub backed_copied : not x ≡ false → (n ≡ 1 → ⊥) → w ≡ true → Copy f ≡ backed_way r f n w
    backed_copied a b c = rw (may a, ne_eqb n 1 b, c) refl

    pub backed_shared : not x ≡ false → (n ≡ 1 → ⊥) → w ≡ false → (y : PageTableFlags) → y.0 ≡ read_only r.flags.0 → Map f y ≡ backed_way r f n w
    backed_shared a b c y g = ap (λ (k : ℕ). Map f (record { 0 = k })) g ∙ rw (may a, ne_eqb n 1 b, c) refl

  pub bare_open : x ≡ true → (w : Bool) → Fill ≡ unbacked_way r w
  bare_open a w = rw (sym e ∙ a) refl

  pub bare_refused : x ≡ false → (w : Bool) → w ≡ true → Refuse NotWritable ≡ unbacked_way r w
  bare_refused a w b = rw (sym e ∙ a, b) refl

  pub bare_read : x ≡ false → (w : Bool) → w ≡ false → Fill ≡ unbacked_way r w
  bare_read a w b = rw (sym e ∙ a, b) refl

  module _ (b : Backed) where
    pub mapped_fixed : not x ≡ true → Refuse NotWritable ≡ mapped_way r b
    mapped_fixed a = go b
      where
        go : (b : Backed) → Refuse NotWritable ≡ mapped_way r b
        go (ByEntry i f n) = rw (shut a) refl
        go (ByRange f n) = rw (shut a) refl
        go Unbacked = rw (shut a) refl

    pub mapped_entry : not x ≡ false → (i : ℕ) (f : PhysFrame) (n : ℕ) → b ≡ ByEntry i f n → (y : Way) → y ≡ copied_way f n → y ≡ mapped_way r b
    mapped_entry a i f n g y k = k ∙ sym (ap (λ (z : Backed). mapped_way r z) g ∙ rw (may a) refl)

    pub mapped_range : not x ≡ false → (f : PhysFrame) (n : ℕ) → b ≡ ByRange f n → (y : Way) → y ≡ copied_way f n → y ≡ mapped_way r b
    mapped_range a f n g y k = k ∙ sym (ap (λ (z : Backed). mapped_way r z) g ∙ rw (may a) refl)

    pub mapped_unbacked : not x ≡ false → b ≡ Unbacked → Refuse MapFailed ≡ mapped_way r b
    mapped_unbacked a g = sym (ap (λ (z : Backed). mapped_way r z) g ∙ rw (may a) refl)

module _ (r : Region) (b : Backed) (w : Bool) where
  pub unmapped_entry : (i : ℕ) (f : PhysFrame) (n : ℕ) → b ≡ ByEntry i f n → (y : Way) → y ≡ backed_way r f n w → y ≡ unmapped_way r b w
  unmapped_entry i f n g y k = k ∙ sym (ap (λ (z : Backed). unmapped_way r z w) g)

  pub unmapped_range : (f : PhysFrame) (n : ℕ) → b ≡ ByRange f n → (y : Way) → y ≡ backed_way r f n w → y ≡ unmapped_way r b w
  unmapped_range f n g y k = k ∙ sym (ap (λ (z : Backed). unmapped_way r z w) g)

  pub unmapped_bare : b ≡ Unbacked → (y : Way) → y ≡ unbacked_way r w → y ≡ unmapped_way r b w
  unmapped_bare g y k = k ∙ sym (ap (λ (z : Backed). unmapped_way r z w) g)

-- what the test of an option tells
pub told_none : {T : Type 0} (o : Option T) → is_some o ≡ false → o ≡ None
told_none None t = refl
told_none (Some x) t = absurd (false≢true (sym t))

pub told_some : {T : Type 0} (o : Option T) → is_some o ≡ true → (x : T) × (o ≡ Some x)
told_some None t = absurd (false≢true t)
told_some (Some x) t = (x, refl)

module _ (r : Region) (t : Option Mapping) (b : Backed) (w x : Bool) (e : x ≡ is_user r.flags.0) where
  pub private_refused : not x ≡ true → Refuse NotAccessible ≡ private_way r t b w
  unfolding private_way
  private_refused a = rw (sym e ∙ not-true x a) refl

  private_open : not x ≡ false → (y : Way) → y ≡ translated_way r t b w → y ≡ private_way r t b w
  unfolding private_way
  private_open a y k = k ∙ rw (sym e ∙ not-false x a) refl

  pub private_unmapped : not x ≡ false → t ≡ None → (y : Way) → y ≡ unmapped_way r b w → y ≡ private_way r t b w
  private_unmapped a g y k = private_open a y (k ∙ sym (ap (λ (z : Option Mapping). translated_way r z b w) g))

  pub private_well : not x ≡ false → (m : Mapping) → t ≡ Some m → (c : Bool) → c ≡ well_mapped t w → c ≡ true → Already ≡ private_way r t b w
  private_well a m g c h k = private_open a Already (sym (ap (λ (z : Option Mapping). translated_way r z b w) g ∙ rw (ap (λ (z : Option Mapping). well_mapped z w) (sym g) ∙ sym h ∙ k) refl))

  pub private_mapped : not x ≡ false → (m : Mapping) → t ≡ Some m → (c : Bool) → c ≡ well_mapped t w → c ≡ false → (y : Way) → y ≡ mapped_way r b → y ≡ private_way r t b w
  private_mapped a m g c h k y z = private_open a y (z ∙ sym (ap (λ (z : Option Mapping). translated_way r z b w) g ∙ rw (ap (λ (z : Option Mapping). well_mapped z w) (sym g) ∙ sym h ∙ k) refl))

-- ---- whether the way hangs on what backs the page

module _ (r : Region) (t : Option Mapping) (w : Bool) where
  pub asks_refused : (u : Bool) → u ≡ is_user r.flags.0 → not u ≡ true → false ≡ asks_backing r t w
  asks_refused u e a = rw (sym e ∙ not-true u a) refl

  module _ (u : Bool) (user : u ≡ is_user r.flags.0) (may : not u ≡ false) (k : Bool) (well : k ≡ well_mapped t w) where
    pub asks_well : k ≡ true → false ≡ asks_backing r t w
    asks_well a = rw (sym user ∙ not-false u may, sym well ∙ a) refl

    pub asks_read : k ≡ false → not w ≡ true → true ≡ asks_backing r t w
    asks_read a b = rw (sym user ∙ not-false u may, sym well ∙ a, b) refl

    pub asks_write : k ≡ false → not w ≡ false → (x : Bool) → x ≡ is_writable r.flags.0 → x ≡ asks_backing r t w
    asks_write a b x e = e ∙ rw (sym user ∙ not-false u may, sym well ∙ a, b) refl

  -- where it does not, anything may stand for what backs it
  pub way_alike : (c : Bool) → c ≡ asks_backing r t w → not c ≡ true → (b : Backed) → private_way r t Unbacked w ≡ private_way r t b w
  unfolding private_way
  way_alike c e a b = go (is_user r.flags.0) (is_writable r.flags.0) refl w refl t refl (sym e ∙ not-true c a)
    where
      mapped : (v : Bool) → is_writable r.flags.0 ≡ v → v ≡ false → (b : Backed) → mapped_way r b ≡ Refuse NotWritable
      mapped v f g (ByEntry i h n) = rw (f ∙ g) refl
      mapped v f g (ByRange h n) = rw (f ∙ g) refl
      mapped v f g Unbacked = rw (f ∙ g) refl

      bare : (v : Bool) → is_writable r.flags.0 ≡ v → v ≡ false → (b : Backed) → unmapped_way r b true ≡ Refuse NotWritable
      bare v f g (ByEntry i h n) = rw (f ∙ g) refl
      bare v f g (ByRange h n) = rw (f ∙ g) refl
      bare v f g Unbacked = rw (f ∙ g) refl

      over : (k : Bool) (v : Bool) → is_writable r.flags.0 ≡ v → (y : Bool) → (not k && (not y || v)) ≡ false → cond k Already (mapped_way r Unbacked) ≡ cond k Already (mapped_way r b)
      over true v f y z = refl
      over false true f true z = absurd (mathlib.Core.Bool.true≢false z)
      over false true f false z = absurd (mathlib.Core.Bool.true≢false z)
      over false false f true z = mapped false f refl Unbacked ∙ sym (mapped false f refl b)
      over false false f false z = absurd (mathlib.Core.Bool.true≢false z)

      go : (u v : Bool) → is_writable r.flags.0 ≡ v → (y : Bool) → w ≡ y → (x : Option Mapping) → t ≡ x → (u && (not (well_mapped x y) && (not y || v))) ≡ false
          → cond u (translated_way r x Unbacked y) (Refuse NotAccessible) ≡ cond u (translated_way r x b y) (Refuse NotAccessible)
      go false v f y g x h z = refl
      go true v f y g (Some x) h z = over (well_mapped (Some x) y) v f y z
      go true true f true g None h z = absurd (mathlib.Core.Bool.true≢false z)
      go true true f false g None h z = absurd (mathlib.Core.Bool.true≢false z)
      go true false f true g None h z = bare false f refl Unbacked ∙ sym (bare false f refl b)
      go true false f false g None h z = absurd (mathlib.Core.Bool.true≢false z)

module _ (t : Option Mapping) (b : Backed) where
  pub shared_mapped : (m : Mapping) → t ≡ Some m → Already ≡ shared_way t b
  unfolding shared_way
  shared_mapped m g = sym (ap (λ (z : Option Mapping). shared_way z b) g)

  pub shared_entry : t ≡ None → (i : ℕ) (f : PhysFrame) (n : ℕ) → b ≡ ByEntry i f n → Map f (record { 0 = all_four }) ≡ shared_way t b
  unfolding shared_way
  shared_entry g i f n h = sym (ap (λ (z : Option Mapping). shared_way z b) g ∙ ap (λ (z : Backed). shared_way None z) h)

  pub shared_range : t ≡ None → (f : PhysFrame) (n : ℕ) → b ≡ ByRange f n → Map f (record { 0 = all_four }) ≡ shared_way t b
  unfolding shared_way
  shared_range g f n h = sym (ap (λ (z : Option Mapping). shared_way z b) g ∙ ap (λ (z : Backed). shared_way None z) h)

  pub shared_unbacked : t ≡ None → b ≡ Unbacked → Refuse MapFailed ≡ shared_way t b
  unfolding shared_way
  shared_unbacked g h = sym (ap (λ (z : Option Mapping). shared_way z b) g ∙ ap (λ (z : Backed). shared_way None z) h)

-- what is read of a sound machine
module _ (w : List ℕ) (s : SoundWords w) where
  pub words_sound : Sound (state_of w s.frames s.files)
  words_sound = (sound_tells (state_of w s.frames s.files)).yes s.sound

  pub words_translate : (p : ℕ) → p < 8 → (page : ℕ) (t : Option Mapping) → t ≡ translate_by (mapped_of (machine w) p) page → t ≡ translate (mapped_of (machine w) p) page
  words_translate p h page t e = e ∙ translate_law (machine w) p (well_paged (state_of w s.frames s.files) p words_sound h) page

  -- no backing has more than 256 frames
  pub words_len : (f : ℕ) → (backing_at (machine w) f).len ≤ 256
  words_len f = go (ℕ_discrete (backing_at (machine w) f).len 0)
    where
      go : Dec ((backing_at (machine w) f).len ≡ 0) → (backing_at (machine w) f).len ≤ 256
      go (yes z) = omega arith
      go (no z) = let ready = sound_ready words_sound in let inside = used_inside (machine w) ready f z in let few = ready.few in omega arith

module _ (m : Machine) (p t page : ℕ) (w : Bool) (r : Region) (row : r ≡ region_at m p t) (x : Option Mapping) (mapped : x ≡ translate (mapped_of m p) page) (b : Backed) (backs : b ≡ backing m p t page) where
  all_read : (y : Way) → y ≡ cond (is_shared r) (shared_way x b) (private_way r x b w) → y ≡ fault_way m p t page w
  unfolding fault_way
  all_read y k = k ∙ (λ i. cond (is_shared (row i)) (shared_way (mapped i) (backs i)) (private_way (row i) (mapped i) (backs i) w))

  pub fault_shared : r.kind ≡ 3 → (y : Way) → y ≡ shared_way x b → y ≡ fault_way m p t page w
  fault_shared e y k = all_read y (k ∙ rw (eq-eqb r.kind 3 e) refl)

  pub fault_private : (r.kind ≡ 3 → ⊥) → (y : Way) → y ≡ private_way r x b w → y ≡ fault_way m p t page w
  fault_private e y k = all_read y (k ∙ rw (ne_eqb r.kind 3 e) refl)
