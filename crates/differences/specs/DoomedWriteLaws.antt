-- Laws of request 2026-01: a doomed write is refused at once and nothing changes, where the Rust spends a frame; every other fault is the Rust's.
use Rattle.std.specs.Prelude.{◌≡◌, refl, Bool, true, false, not, ◌&&◌, ℕ, Option, Some, None}
use Rattle.std.proofs.Math.Path.{ap}
use Rattle.std.proofs.Common.{◌∙◌, true≢false}
use Rattle.std.proofs.Math.Bool.{cond}
use Rattle.std.proofs.lemmas.Bool.{false≢true}
use Rattle.model.specs.declared.Mapping.{Mapping}
use Rattle.answers.specs.declared.Refusal.TheVariants.{NotAccessible, NotWritable}
use Rattle.model.specs.declared.Region.{Region}
use Rattle.model.specs.declared.Backed.{Backed}
use Rattle.model.specs.declared.Backed.TheVariants.{ByEntry, ByRange, Unbacked}
use Rattle.model.specs.declared.Way.{Way}
use Rattle.model.specs.declared.Way.TheVariants.{Refuse, Fill}
use Rattle.model.specs.Machine.{Machine, State, mapped_of, region_at}
use Rattle.model.specs.Answers.{Try, fine, first_of, unless, refuse}
use Rattle.model.specs.Lookup.{is_shared}
use Rattle.model.specs.Paging.{is_writable, is_user, translate, well_mapped}
use Rattle.model.specs.Backing.{backing}
use Rattle.model.specs.Fault.{translated_way, private_way, shared_way, fault_way, way_refusals, go_way, handle_fault}
use Rattle.model.specs.Populate.{populate_page}
use Rattle.laws.specs.BoolLaws.{both_true}
use Rattle.differences.specs.DoomedWrite.{rust_translated, rust_way, rust_fault, doomed_page, doomed}

-- ---- over plain truth values

bare_stays : (x w : Bool) → (not x && w) ≡ false → cond x Fill (cond w (Refuse NotWritable) Fill) ≡ Fill
bare_stays true w e = refl
bare_stays false true e = absurd (true≢false e)
bare_stays false false e = refl

bare_refused : (x w : Bool) → (not x && w) ≡ true → cond x Fill (cond w (Refuse NotWritable) Fill) ≡ Refuse NotWritable
bare_refused true w e = absurd (false≢true e)
bare_refused false true e = refl
bare_refused false false e = absurd (false≢true e)

-- a test that comes first lets the rest stay
past : (u d : Bool) (x y z : Way) → (u && d) ≡ false → (d ≡ false → x ≡ y) → cond u x z ≡ cond u y z
past true d x y z e f = f e
past false d x y z e f = refl

past_not : (u d : Bool) (x y z : Way) → (not u && d) ≡ false → (d ≡ false → x ≡ y) → cond u z x ≡ cond u z y
past_not true d x y z e f = refl
past_not false d x y z e f = f e

-- a test that comes first was passed
taken : (u d : Bool) (x y z : Way) → (u && d) ≡ true → (d ≡ true → x ≡ y) → cond u x z ≡ y
taken true d x y z e f = f e
taken false d x y z e f = absurd (false≢true e)

taken_not : (u d : Bool) (x y z : Way) → (not u && d) ≡ true → (d ≡ true → x ≡ y) → cond u z x ≡ y
taken_not true d x y z e f = absurd (false≢true e)
taken_not false d x y z e f = f e

-- ---- one page

module _ (r : Region) where
  page_stays : (t : Option Mapping) (b : Backed) (w : Bool) → doomed_page r t b w ≡ false → translated_way r t b w ≡ rust_translated r t b w
  page_stays (Some x) b w e = refl
  page_stays None (ByEntry i f n) w e = refl
  page_stays None (ByRange f n) w e = refl
  page_stays None Unbacked w e = bare_stays (is_writable r.flags.0) w e

  page_refused : (t : Option Mapping) (b : Backed) (w : Bool) → doomed_page r t b w ≡ true → translated_way r t b w ≡ Refuse NotWritable
  page_refused (Some x) b w e = absurd (false≢true e)
  page_refused None (ByEntry i f n) w e = absurd (false≢true e)
  page_refused None (ByRange f n) w e = absurd (false≢true e)
  page_refused None Unbacked w e = bare_refused (is_writable r.flags.0) w e

  page_filled : (t : Option Mapping) (b : Backed) (w : Bool) → doomed_page r t b w ≡ true → rust_translated r t b w ≡ Fill
  page_filled (Some x) b w e = absurd (false≢true e)
  page_filled None (ByEntry i f n) w e = absurd (false≢true e)
  page_filled None (ByRange f n) w e = absurd (false≢true e)
  page_filled None Unbacked w e = refl

  page_bare : (t : Option Mapping) (b : Backed) (w : Bool) → doomed_page r t b w ≡ true → well_mapped t w ≡ false
  page_bare (Some x) b w e = absurd (false≢true e)
  page_bare None b w e = refl

-- ---- the way of a fault

module _ (m : Machine) (p s page : ℕ) (w : Bool) where
  abbrev region : Region
  region = region_at m p s

  abbrev mapped : Option Mapping
  mapped = translate (mapped_of m p) page

  abbrev backed : Backed
  backed = backing m p s page

  abbrev open_to_user : Bool
  open_to_user = is_user region.flags.0

  abbrev bad : Bool
  bad = doomed_page region mapped backed w

  -- every fault but a doomed write goes the Rust's way
  pub way_stays : doomed m p s page w ≡ false → fault_way m p s page w ≡ rust_way m p s page w
  unfolding doomed fault_way private_way rust_way
  way_stays e =
      past_not (is_shared region) (open_to_user && bad) (cond open_to_user (translated_way region mapped backed w) (Refuse NotAccessible))
      (cond open_to_user (rust_translated region mapped backed w) (Refuse NotAccessible)) (shared_way mapped backed) e
      (λ f. past open_to_user bad (translated_way region mapped backed w) (rust_translated region mapped backed w) (Refuse NotAccessible) f (page_stays region mapped backed w))

  -- a doomed write is NotWritable
  pub way_refused : doomed m p s page w ≡ true → fault_way m p s page w ≡ Refuse NotWritable
  unfolding doomed fault_way private_way
  way_refused e =
      taken_not (is_shared region) (open_to_user && bad) (cond open_to_user (translated_way region mapped backed w) (Refuse NotAccessible)) (Refuse NotWritable) (shared_way mapped backed) e
      (λ f. taken open_to_user bad (translated_way region mapped backed w) (Refuse NotWritable) (Refuse NotAccessible) f (page_refused region mapped backed w))

  -- where the Rust fills a frame
  pub way_filled : doomed m p s page w ≡ true → rust_way m p s page w ≡ Fill
  unfolding doomed rust_way
  way_filled e =
      taken_not (is_shared region) (open_to_user && bad) (cond open_to_user (rust_translated region mapped backed w) (Refuse NotAccessible)) Fill (shared_way mapped backed) e
      (λ f. taken open_to_user bad (rust_translated region mapped backed w) Fill (Refuse NotAccessible) f (page_filled region mapped backed w))

  pub not_mapped : doomed m p s page w ≡ true → well_mapped mapped w ≡ false
  unfolding doomed
  not_mapped e = page_bare region mapped backed w (both_true open_to_user bad (both_true (not (is_shared region)) (open_to_user && bad) e).1).1

-- ---- the fault, and the page of a populate

module _ (s : State) (p slot page : ℕ) (w : Bool) where
  abbrev goes : Way → Try
  goes way = unless (first_of (way_refusals s.machine p slot page way)) s (fine (go_way s p slot page way))

  pub fault_stays : doomed s.machine p slot page w ≡ false → handle_fault s p slot page w ≡ rust_fault s p slot page w
  unfolding handle_fault rust_fault
  fault_stays e = ap goes (way_stays s.machine p slot page w e)

  -- NotWritable, and nothing is changed: no frame, no entry, no mapping
  pub fault_refused : doomed s.machine p slot page w ≡ true → handle_fault s p slot page w ≡ refuse NotWritable s
  unfolding handle_fault way_refusals first_of
  fault_refused e = ap goes (way_refused s.machine p slot page w e)

  -- populate ends at such a page; what it did before stands, since a step changes nothing
  pub populate_refused : doomed s.machine p slot page w ≡ true → populate_page s p slot page w ≡ refuse NotWritable s
  unfolding populate_page
  populate_refused e = ap (λ (b : Bool). cond b (fine s) (handle_fault s p slot page w)) (not_mapped s.machine p slot page w e) ∙ fault_refused e
