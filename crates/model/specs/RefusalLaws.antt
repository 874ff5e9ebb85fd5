-- RULES O4, of several the lowest number: every call's tests stand in the order of their numbers, so the first that is true is the lowest.
use Rattle.std.specs.Prelude.{◌≡◌, refl, Bool, true, false, ◌&&◌, cond, List, [], ◌∷◌, ℕ, zero, suc, ◌≤◌, ◌<◌, length, get_or, leb, Err}
use Rattle.std.proofs.Common.{ap, sym, ◌∙◌, le_of_suc-le-suc, not-suc-le-zero, arith, leb-true}
use Rattle.std.proofs.lemmas.Bool.{false≢true}
use Rattle.laws.specs.BoolLaws.{both_true}
use Rattle.answers.specs.declared.Refusal.{Refusal}
use Rattle.answers.specs.declared.Refusal.TheVariants.{BadTable, NoProcess, BadAddress, BadRange, BadFlags, NoFile, NoRegion, NoSpace, SegmentReserved, InvalidSplitPoint, NotReserved, NotAccessible, NotWritable, OutOfMemory, ReadFailed, MapFailed, UnsupportedRegion, EagerBacking, Shared, InUse, TableFull, Denied}
use Rattle.answers.specs.Number.{number_of}
use Rattle.laws.specs.ResultLaws.{err_same}
use Rattle.model.specs.declared.Region.{Region}
use Rattle.model.specs.declared.File.{File}
use Rattle.model.specs.declared.Place.{Place}
use Rattle.model.specs.declared.Way.{Way}
use Rattle.model.specs.declared.Way.TheVariants.{Refuse, Already, Restore, Map, Copy, Fill}
use Rattle.model.specs.Machine.{Machine, State}
use Rattle.model.specs.Answers.{first_of}
use Rattle.model.specs.Create.{create_refusals}
use Rattle.model.specs.Fault.{way_refusals}
use Rattle.model.specs.Carve.{split_refusals}
use Rattle.model.specs.Refusals.{start_refusals, open_refusals, close_refusals, process_refusals, region_refusals, carve_refusals, populate_refusals, clone_region_refusals, clone_process_refusals, protect_refusals, pin_refusals, unpin_refusals, access_refusals}

abbrev pub Test : Type 0
Test = Bool × Refusal

-- numbers from n on that do not fall
abbrev pub rising_from : ℕ → List Test → Bool
rising_from n [] = true
rising_from n (t ∷ l) = leb n (number_of t.1) && rising_from (number_of t.1) l

abbrev pub rising : List Test → Bool
rising l = rising_from 1 l

-- ---- the first is the lowest

at_least : (n : ℕ) (l : List Test) (i : ℕ) → rising_from n l ≡ true → i < length l → n ≤ number_of (get_or l i (true, BadTable)).1
at_least n [] i e h = absurd (not-suc-le-zero h)
at_least n (t ∷ l) zero e h = leb-true n (number_of t.1) (both_true _ _ e).0
at_least n (t ∷ l) (suc i) e h =
    let a = leb-true n (number_of t.1) (both_true _ _ e).0 in
    let b = at_least (number_of t.1) l i (both_true (leb n (number_of t.1)) _ e).1 (le_of_suc-le-suc h) in
    omega arith

-- a refusal's number is at most that of every test that is true
pub first_lowest : (n : ℕ) (l : List Test) (r : Refusal) → rising_from n l ≡ true → first_of l ≡ Err r → (i : ℕ) → i < length l → (get_or l i (true, BadTable)).0 ≡ true → number_of r ≤ number_of (get_or l i (true, BadTable)).1
unfolding first_of
first_lowest n [] r e f i h t = absurd (not-suc-le-zero h)
first_lowest n (x ∷ l) r e f i h t = go x.0 refl i f h t (first_lowest (number_of x.1) l r (both_true (leb n (number_of x.1)) _ e).1)
  where
    go : (b : Bool) → x.0 ≡ b → (i : ℕ) → cond b (Err x.1) (first_of l) ≡ Err r → i < length (x ∷ l) → (get_or (x ∷ l) i (true, BadTable)).0 ≡ true → (first_of l ≡ Err r → (j : ℕ) → j < length l → (get_or l j (true, BadTable)).0 ≡ true → number_of r ≤ number_of (get_or l j (true, BadTable)).1) → number_of r ≤ number_of (get_or (x ∷ l) i (true, BadTable)).1
    go true p zero q k u ih = let y = ap number_of (err_same q) in omega arith
    go true p (suc j) q k u ih =
        let y = ap number_of (err_same q) in
        let z = at_least (number_of x.1) l j (both_true (leb n (number_of x.1)) _ e).1 (le_of_suc-le-suc k) in
        omega arith
    go false p zero q k u ih = absurd (false≢true (sym p ∙ u))
    go false p (suc j) q k u ih = ih q j (le_of_suc-le-suc k) u

-- ---- every list of tests; region cloning alone does not rise: 9, 21, 14

pub record Rising : Type 0 where
  pub start : (s : State) (files : List File) → rising (start_refusals s files) ≡ true
  pub opens : (s : State) (a size : ℕ) → rising (open_refusals s a size) ≡ true
  pub close : (s : State) (p : ℕ) → rising (close_refusals s p) ≡ true
  pub create : (m : Machine) (p : ℕ) (place : Place) (whole : Bool) (r : Region) → rising (create_refusals m p place whole r) ≡ true
  pub process : (s : State) (p : ℕ) → rising (process_refusals s p) ≡ true
  pub region : (s : State) (p a : ℕ) → rising (region_refusals s p a) ≡ true
  pub carve : (s : State) (p a e : ℕ) → rising (carve_refusals s p a e) ≡ true
  pub splits : (m : Machine) (p s a e : ℕ) → rising (split_refusals m p s a e) ≡ true
  pub populate : (s : State) (p a len : ℕ) → rising (populate_refusals s p a len) ≡ true
  pub fault : (m : Machine) (p s page : ℕ) (w : Way) → rising (way_refusals m p s page w) ≡ true
  pub clone_region : (s : State) (p a q : ℕ) → rising (clone_region_refusals s p a q) ≡ true
  pub clone : (s : State) (p q : ℕ) → rising (clone_process_refusals s p q) ≡ true
  pub protect : (s : State) (p a flags : ℕ) → rising (protect_refusals s p a flags) ≡ true
  pub pin : (s : State) (p a : ℕ) → rising (pin_refusals s p a) ≡ true
  pub unpin : (s : State) (p a : ℕ) → rising (unpin_refusals s p a) ≡ true
  pub access : (s : State) (p a : ℕ) (w : Bool) → rising (access_refusals s p a w) ≡ true

create_rising : (m : Machine) (p : ℕ) (place : Place) (whole : Bool) (r : Region) → rising (create_refusals m p place whole r) ≡ true
unfolding create_refusals
create_rising m p (Place.At a) whole r = refl
create_rising m p Place.Lowest whole r = refl

one_rising : (r : Refusal) → rising ((true, r) ∷ []) ≡ true
one_rising BadTable = refl
one_rising NoProcess = refl
one_rising BadAddress = refl
one_rising BadRange = refl
one_rising BadFlags = refl
one_rising NoFile = refl
one_rising NoRegion = refl
one_rising NoSpace = refl
one_rising SegmentReserved = refl
one_rising InvalidSplitPoint = refl
one_rising NotReserved = refl
one_rising NotAccessible = refl
one_rising NotWritable = refl
one_rising OutOfMemory = refl
one_rising ReadFailed = refl
one_rising MapFailed = refl
one_rising UnsupportedRegion = refl
one_rising EagerBacking = refl
one_rising Shared = refl
one_rising InUse = refl
one_rising TableFull = refl
one_rising Denied = refl

fault_rising : (m : Machine) (p s page : ℕ) (w : Way) → rising (way_refusals m p s page w) ≡ true
unfolding way_refusals
fault_rising m p s page (Refuse r) = one_rising r
fault_rising m p s page Already = refl
fault_rising m p s page Restore = refl
fault_rising m p s page (Map f flags) = refl
fault_rising m p s page (Copy f) = refl
fault_rising m p s page Fill = refl

pub all_rise : Rising
unfolding start_refusals open_refusals close_refusals process_refusals region_refusals carve_refusals split_refusals populate_refusals clone_region_refusals clone_process_refusals protect_refusals pin_refusals unpin_refusals access_refusals
all_rise = record {
  start = λ s files. refl;
  opens = λ s a size. refl;
  close = λ s p. refl;
  create = create_rising;
  process = λ s p. refl;
  region = λ s p a. refl;
  carve = λ s p a e. refl;
  splits = λ m p s a e. refl;
  populate = λ s p a len. refl;
  fault = fault_rising;
  clone_region = λ s p a q. refl;
  clone = λ s p q. refl;
  protect = λ s p a flags. refl;
  pin = λ s p a. refl;
  unpin = λ s p a. refl;
  access = λ s p a w. refl;
}
