-- Laws of `RequestRefused`: the tests of what was asked for, and which of them refuses: one law for each way through the code.
use Rattle.std.specs.Prelude.{◌≡◌, ◌≢◌, Bool, true, false, ◌||◌, not, cond, [], ◌∷◌, ℕ, ◌+◌, ◌-◌, ◌^◌, ◌≤◌, ◌<◌, eqb, ltb, leb, Option, Some, None, Result, Ok, Err, ⊤, is_some}
use Rattle.std.proofs.Math.Path.{refl}
use Rattle.std.proofs.Common.{ap, sym, ◌∙◌, arith}
use Rattle.std.proofs.lemmas.Bool.{false≢true}
use Rattle.std.proofs.Math.Bool.{or-false}
use borrow.Author.Tests.{eq-eqb, ne_eqb, lt-ltb, le-ltb, ltb-false, not-false}
use Rattle.answers.specs.declared.Refusal.{Refusal}
use Rattle.laws.specs.BoolLaws.{or_right, or_none}
use Rattle.laws.specs.ResultLaws.{none_not_some, some_not_none}
use Rattle.address.specs.declared.VirtAddr.{VirtAddr}
use Rattle.address.specs.declared.flags.PageTableFlags.{PageTableFlags}
use Rattle.address.specs.Canonical.{user}
use Rattle.address.specs.Flags.{good_flags, checked_flags}
use Rattle.address.specs.Pages.{aligned}
use Rattle.laws.specs.TellsLaws.{tells_same}
use Rattle.answers.specs.declared.Refusal.TheVariants.{NoProcess, BadAddress, BadRange, BadFlags, NoFile}
use Rattle.model.specs.declared.Place.{Place}
use Rattle.model.specs.declared.Region.{Region}
use Rattle.model.specs.Machine.{Machine}
use Rattle.model.specs.Lookup.{is_open}
use Rattle.model.specs.Answers.{first_of}
use Rattle.model.specs.Create.{bad_start, bad_place, bad_size, round_up}
use Rattle.laws.specs.TestLaws.{tells_lt, tells_as}
use Rattle.lookup.specs.FirstOfLaws.{first_here, first_later, first_none, first_passed, not_no, not_yes}
use Rattle.create.specs.RequestRefused.{bad_range, bad_flags, file_missing, request_refusals}

-- ---- a start

pub start_given : (place : Place) (a : VirtAddr) (b : Bool) → place ≡ Place.At a → b ≡ user a.0 → not b ≡ bad_start place
start_given place a b e u = ap not u ∙ ap (λ (x : Place). bad_start x) (sym e)

-- ---- a place

-- a length that passes the end, with no sum
end_passed : (e a l : ℕ) → a ≤ e → ltb (e - a) l ≡ ltb e (a + l)
end_passed e a l h = tells_same (tells_lt (e - a) l) (tells_as (λ k. omega arith) (λ k. omega arith) (tells_lt e (a + l)))

module _ (place : Place) (size : ℕ) (a : VirtAddr) (given : place ≡ Place.At a) where
  at_place : {b : Bool} → b ≡ (not (aligned a.0) || ltb (2 ^ 47) (a.0 + round_up size)) → b ≡ bad_place place size
  at_place e = e ∙ ap (λ (x : Place). bad_place x size) (sym given)

  pub place_unaligned : aligned a.0 ≡ false → true ≡ bad_place place size
  place_unaligned u = at_place (ap (λ (x : Bool). not x || ltb (2 ^ 47) (a.0 + round_up size)) (sym u))

  module _ (u : aligned a.0 ≡ true) where
    ends : {b : Bool} → b ≡ ltb (2 ^ 47) (a.0 + round_up size) → b ≡ bad_place place size
    ends e = at_place (e ∙ ap (λ (x : Bool). not x || ltb (2 ^ 47) (a.0 + round_up size)) (sym u))

    pub place_past : 2 ^ 47 < a.0 → true ≡ bad_place place size
    place_past h = ends (sym (lt-ltb (2 ^ 47) (a.0 + round_up size) (omega arith)))

    pub place_ends : (l : ℕ) → l ≡ round_up size → a.0 ≤ 2 ^ 47 → ltb (2 ^ 47 - a.0) l ≡ bad_place place size
    place_ends l e h = ap (λ (x : ℕ). ltb (2 ^ 47 - a.0) x) e ∙ ends (end_passed (2 ^ 47) a.0 (round_up size) h)

-- ---- a size

module _ (r : Region) where
  pub size_zero : r.size ≡ 0 → true ≡ bad_size r
  size_zero e = rw (eq-eqb r.size 0 e) refl

  module _ (some : r.size ≢ 0) where
    pub size_large : 2 ^ 47 < r.size → true ≡ bad_size r
    size_large h = rw (ne_eqb r.size 0 some, lt-ltb (2 ^ 47) r.size h) refl

    module _ (fits : r.size ≤ 2 ^ 47) where
      pub offset_large : 2 ^ 47 < r.offset → true ≡ bad_size r
      offset_large h = rw (ne_eqb r.size 0 some, le-ltb (2 ^ 47) r.size fits, lt-ltb (2 ^ 47) r.offset h) refl

      pub length_left : r.offset ≤ 2 ^ 47 → ltb r.size r.length ≡ bad_size r
      length_left h = rw (ne_eqb r.size 0 some, le-ltb (2 ^ 47) r.size fits, le-ltb (2 ^ 47) r.offset h) refl

  size_fits : bad_size r ≡ false → r.size ≤ 2 ^ 47
  size_fits e = go (eqb r.size 0) (ltb (2 ^ 47) r.size) refl e
    where
      go : (z b : Bool) → ltb (2 ^ 47) r.size ≡ b → (z || b || ltb (2 ^ 47) r.offset || ltb r.size r.length) ≡ false → r.size ≤ 2 ^ 47
      go true b q f = absurd (false≢true (sym f))
      go false true q f = absurd (false≢true (sym f))
      go false false q f = ltb-false (2 ^ 47) r.size q

-- ---- a range

module _ (place : Place) (r : Region) (b : Bool) (e : b ≡ bad_size r) where
  pub range_size : b ≡ true → true ≡ bad_range place r
  range_size t = sym (or_right (bad_place place r.size) (bad_size r) (sym e ∙ t))

  pub range_fits : b ≡ false → r.size ≤ 2 ^ 47
  range_fits f = size_fits r (sym e ∙ f)

  pub range_place : b ≡ false → (d : Bool) → d ≡ bad_place place r.size → d ≡ bad_range place r
  range_place f d g = g ∙ sym (or-false (bad_place place r.size)) ∙ ap (λ (x : Bool). bad_place place r.size || x) (sym (sym e ∙ f))

-- ---- flags, a file

flags_told : (b : Bool) (n : ℕ) (f : PageTableFlags) → ◌≡◌ {A = Option PageTableFlags} (Some f) (cond b (Some (record { 0 = n })) None) → b ≡ true
flags_told true n f e = refl
flags_told false n f e = absurd (some_not_none e)

flags_not_told : (b : Bool) (n : ℕ) → ◌≡◌ {A = Option PageTableFlags} None (cond b (Some (record { 0 = n })) None) → b ≡ false
flags_not_told true n e = absurd (none_not_some e)
flags_not_told false n e = refl

module _ (r : Region) where
  pub flags_shared : r.kind ≡ 3 → false ≡ bad_flags r
  flags_shared e = rw (eq-eqb r.kind 3 e) refl

  pub flags_good : r.kind ≢ 3 → (f : PageTableFlags) → Some f ≡ checked_flags r.flags.0 → false ≡ bad_flags r
  unfolding checked_flags
  flags_good n f e = rw (ne_eqb r.kind 3 n, flags_told (good_flags r.flags.0) r.flags.0 f e) refl

  pub flags_bad : r.kind ≢ 3 → None ≡ checked_flags r.flags.0 → true ≡ bad_flags r
  unfolding checked_flags
  flags_bad n e = rw (ne_eqb r.kind 3 n, flags_not_told (good_flags r.flags.0) r.flags.0 e) refl

  pub flags_tested : r.kind ≢ 3 → (o : Option PageTableFlags) → o ≡ checked_flags r.flags.0 → (b : Bool) → is_some o ≡ not b → b ≡ bad_flags r
  flags_tested n (Some f) e true t = absurd (false≢true (sym t))
  flags_tested n (Some f) e false t = flags_good n f e
  flags_tested n None e true t = flags_bad n e
  flags_tested n None e false t = absurd (false≢true t)

module _ (m : Machine) (r : Region) where
  pub file_none : r.kind ≢ 2 → false ≡ file_missing m r
  file_none n = rw (ne_eqb r.kind 2 n) refl

  pub file_counted : r.kind ≡ 2 → (n : ℕ) → n ≡ m.file_count → leb n r.file ≡ file_missing m r
  file_counted e n f = rw (eq-eqb r.kind 2 e) (ap (λ (x : ℕ). leb x r.file) f)

-- ---- which test refuses

module _ (m : Machine) (p : ℕ) (place : Place) (r : Region) where
  abbrev asked : Result ⊤ Refusal
  asked = first_of (request_refusals m p place r)

  pub request_closed : is_open m p ≡ false → Err NoProcess ≡ asked
  unfolding request_refusals
  request_closed o = first_here _ NoProcess _ (not_no _ o)

  module _ (o : is_open m p ≡ true) where
    pub request_start : bad_start place ≡ true → Err BadAddress ≡ asked
    unfolding request_refusals
    request_start s = first_later _ NoProcess _ _ (not_yes _ o) (first_here _ BadAddress _ s)

    module _ (s : bad_start place ≡ false) where
      pub request_range : bad_range place r ≡ true → Err BadRange ≡ asked
      unfolding request_refusals
      request_range g = first_later _ NoProcess _ _ (not_yes _ o) (first_later _ BadAddress _ _ s (first_here _ BadRange _ g))

      module _ (g : bad_range place r ≡ false) where
        pub request_flags : bad_flags r ≡ true → Err BadFlags ≡ asked
        unfolding request_refusals
        request_flags f = first_later _ NoProcess _ _ (not_yes _ o) (first_later _ BadAddress _ _ s (first_later _ BadRange _ _ g (first_here _ BadFlags _ f)))

        module _ (f : bad_flags r ≡ false) where
          past_flags : {d : Result ⊤ Refusal} → d ≡ first_of ((file_missing m r, NoFile) ∷ []) → d ≡ asked
          unfolding request_refusals
          past_flags e = first_later _ NoProcess _ _ (not_yes _ o) (first_later _ BadAddress _ _ s (first_later _ BadRange _ _ g (first_later _ BadFlags _ _ f e)))

          pub request_file : file_missing m r ≡ true → Err NoFile ≡ asked
          request_file h = past_flags (first_here _ NoFile _ h)

          pub request_fine : file_missing m r ≡ false → Ok tt ≡ asked
          request_fine h = past_flags (first_later _ NoFile _ _ h first_none)

  -- where none refuses, the process is open and the size fits
  pub request_open : Ok tt ≡ asked → is_open m p ≡ true
  unfolding request_refusals
  request_open e = not-false _ (first_passed _ NoProcess _ e).0

  pub request_size : Ok tt ≡ asked → r.size ≤ 2 ^ 47
  unfolding request_refusals
  request_size e =
      let one = first_passed _ NoProcess _ e in
      let two = first_passed _ BadAddress _ one.1 in
      let three = first_passed _ BadRange _ two.1 in
      size_fits r (or_none (bad_place place r.size) (bad_size r) three.0).1
