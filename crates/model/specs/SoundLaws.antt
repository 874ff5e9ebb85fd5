-- The soundness test tells R1 to R6: field by field, by the laws of Tests.
use Rattle.std.specs.Prelude.{◌≡◌, refl, ◌≢◌, List, ℕ, ◌+◌, ◌≤◌, ◌<◌, eqb, leb, Option, Some, None}
use Rattle.std.proofs.Common.{ap, sym, subst, arith}
use mathlib.Core.Bool.{Bool, true, false, ◌||◌}
use Rattle.laws.specs.ResultLaws.{some_same}
use Rattle.laws.specs.Tells.{Tells}
use Rattle.laws.specs.TellsLaws.{tells_of, tells_both}
use Rattle.model.specs.declared.Process.{Process}
use Rattle.model.specs.declared.Region.{Region}
use Rattle.model.specs.declared.Mapping.{Mapping}
use Rattle.model.specs.declared.Backing.{Backing}
use Rattle.laws.specs.Tests.{Rows, all_rows}
use Rattle.laws.specs.TestLaws.{tells_eq, tells_le, tells_lt, tells_bool, tells_not, tells_or, tells_if, tells_unless, tells_as, tells_rows, tells_pairs}
use Rattle.model.specs.Machine.{Machine, region_at, mapped_of, no_process, no_region, no_mapping, no_backing}
use Rattle.model.specs.Lookup.{regions_of, is_used}
use Rattle.model.specs.Paging.{is_writable}
use Rattle.model.specs.Backing.{backing}
use Rattle.model.specs.Protect.{holders_by}
use Rattle.model.specs.Sound.{Used, Apart, R1, R2, R3, R4, R5, Homed, Flagged, holders_of, home_of, frame_by}
use Rattle.model.specs.SoundTest.{apartb, r1b, ends_before, backing_apart, r2b, counted, r3b, same_found, when_found, homedb, r4b, flaggedb, flags_fit, r5b}

-- a test that is always true
pub tells_unit : Tells true (Unit {0})
tells_unit = tells_of true (λ e. tt) (λ u. refl)

-- every process has what its test tells
pub tells_processes : (m : Machine) (f : ℕ → Process → Bool) (P : ℕ → Process → Type 0) → ((p : ℕ) (q : Process) → Tells (f p q) (P p q)) → Tells (all_rows f 0 m.processes) (Rows no_process m.processes P)
tells_processes m f P t = tells_rows no_process f P t m.processes

-- ---- R1 to R3

apart_tells : (r x : Region) → Tells (apartb r x) (Used x → Apart r x)
unfolding apartb
apart_tells r x = tells_unless (tells_eq _ _) (tells_or (tells_le _ _) (tells_le _ _))

pub r1_tells : (m : Machine) → Tells (r1b m) (R1 m)
unfolding r1b
r1_tells m = tells_processes m _ _ (λ p q. tells_pairs no_region is_used Used apartb (λ r x. Used x → Apart r x) (λ r. tells_not (tells_eq r.kind 0)) apart_tells (regions_of m p))

pub backings_tell : (m : Machine) (f : ℕ → Backing → Bool) (P : ℕ → Backing → Type 0) → ((i : ℕ) (b : Backing) → Tells (f i b) (P i b)) → Tells (all_rows f 0 m.backings) (Rows no_backing m.backings P)
backings_tell m f P t = tells_rows no_backing f P t m.backings

ends_tell : (f : ℕ) (b : Backing) (g : ℕ) (c : Backing) → Tells (ends_before f b g c) (f < g → c.len ≢ 0 → f + b.len ≤ g)
unfolding ends_before
ends_tell f b g c = tells_if (tells_lt _ _) (tells_unless (tells_eq _ _) (tells_le _ _))

pub backing_apart_tells : (m : Machine) (f : ℕ) (b : Backing) → Tells (backing_apart m f b) (b.len ≢ 0 → Rows no_backing m.backings (λ g c. f < g → c.len ≢ 0 → f + b.len ≤ g))
unfolding backing_apart
backing_apart_tells m f b = tells_unless (tells_eq _ _) (backings_tell m (ends_before f b) _ (ends_tell f b))

pub within_tells : (m : Machine) (f : ℕ) (b : Backing) → Tells (eqb b.len 0 || leb (f + b.len) m.frame_count) (b.len ≢ 0 → f + b.len ≤ m.frame_count)
within_tells m f b = tells_unless (tells_eq _ _) (tells_le _ _)

pub r2_tells : (m : Machine) → Tells (r2b m) (R2 m)
unfolding r2b
r2_tells m =
    tells_as (λ p. record { apart = p.0; within = p.1.0; free = p.1.1.0; next = p.1.1.1 }) (λ r. (r.apart, (r.within, (r.free, r.next))))
    (tells_both (backings_tell m _ _ (backing_apart_tells m))
    (tells_both (backings_tell m _ _ (within_tells m))
    (tells_both (tells_eq _ _) (tells_eq _ _))))

counted_tells : (m : Machine) (f : ℕ) (b : Backing) → Tells (counted m f b) ((b.holders ≡ holders_of m f) × (1 ≤ b.holders))
unfolding counted
counted_tells m f b = tells_both (tells_eq _ _) (tells_le _ _)

pub r3_tells : (m : Machine) → Tells (r3b m) (R3 m)
unfolding r3b
r3_tells m = backings_tell m _ _ (λ f b. tells_unless (tells_eq b.len 0) (counted_tells m f b))

-- ---- R4 and R5

same_found_tells : (a b : Option ℕ) → Tells (same_found a b) (a ≡ b)
same_found_tells None None = tells_of true (λ e. refl) (λ e. refl)
same_found_tells None (Some j) = record { yes = λ e. absurd (mathlib.Core.Bool.false≢true e); no = λ e p. let z : ◌≡◌ {A = ℕ} 0 1 = cc in omega arith }
same_found_tells (Some i) None = record { yes = λ e. absurd (mathlib.Core.Bool.false≢true e); no = λ e p. let z : ◌≡◌ {A = ℕ} 0 1 = cc in omega arith }
same_found_tells (Some i) (Some j) = tells_as (λ e. ap Some e) some_same (tells_eq i j)

-- something was found, and it has what its test tells
tells_some : (g : ℕ → Bool) (P : ℕ → Type 0) → ((i : ℕ) → Tells (g i) (P i)) → (x : Option ℕ) → Tells (when_found false g x) ((i : ℕ) × ((x ≡ Some i) × P i))
tells_some g P t None = record { yes = λ e. absurd (mathlib.Core.Bool.false≢true e); no = λ e p. let h : None ≡ Some p.0 = p.1.0 in let z : ◌≡◌ {A = ℕ} 0 1 = cc in omega arith }
tells_some g P t (Some i) = tells_as (λ p. (i, (refl, p))) (λ q. subst P (sym (some_same q.1.0)) q.1.1) (t i)

-- whatever was found has what its test tells
tells_every : (g : ℕ → Bool) (P : ℕ → Type 0) → ((i : ℕ) → Tells (g i) (P i)) → (x : Option ℕ) → Tells (when_found true g x) ((i : ℕ) → x ≡ Some i → P i)
tells_every g P t None = tells_of true (λ e i h. let z : ◌≡◌ {A = ℕ} 0 1 = cc in absurd (omega arith)) (λ p. refl)
tells_every g P t (Some i) = tells_as (λ p j e. subst P (some_same e) p) (λ f. f i refl) (t i)

homed_tells : (m : Machine) (p : ℕ) (x : Mapping) → Tells (homedb m p x) (Homed m p x)
unfolding homedb
homed_tells m p x =
    tells_as (λ h. record { slot = h.0; home = h.1.0; frame = h.1.1 }) (λ h. (h.slot, (h.home, h.frame)))
    (tells_some _ (λ s. frame_by (backing m p s x.page.0) ≡ Some x.frame.0) (λ s. same_found_tells _ _) (home_of m p x))

mappings_tell : (l : List Mapping) (f : Mapping → Bool) (P : Mapping → Type 0) → ((x : Mapping) → Tells (f x) (P x)) → Tells (all_rows (λ i x. f x) 0 l) (Rows no_mapping l (λ i x. P x))
mappings_tell l f P t = tells_rows no_mapping (λ i x. f x) (λ i x. P x) (λ i x. t x) l

pub r4_tells : (m : Machine) → Tells (r4b m) (R4 m)
unfolding r4b
r4_tells m = tells_processes m _ _ (λ p q. mappings_tell (mapped_of m p) _ _ (homed_tells m p))

flagged_tells : (r : Region) (flags n : ℕ) → Tells (flaggedb r flags n) (Flagged r flags n)
unfolding flaggedb
flagged_tells r flags n =
    tells_as (λ p. record { private = p.0; lone = p.1.0; shared = p.1.1 }) (λ f. (f.private, (f.lone, f.shared)))
    (tells_both (tells_unless (tells_eq _ _) (tells_or (tells_eq _ _) (tells_eq _ _)))
    (tells_both (tells_unless (tells_eq _ _) (tells_if (tells_bool (is_writable flags)) (tells_eq _ _))) (tells_if (tells_eq _ _) (tells_eq _ _))))

flags_fit_tells : (m : Machine) (p : ℕ) (x : Mapping) → Tells (flags_fit m p x) ((slot : ℕ) → home_of m p x ≡ Some slot → Flagged (region_at m p slot) x.flags.0 (holders_by (backing m p slot x.page.0)))
unfolding flags_fit
flags_fit_tells m p x = tells_every _ (λ s. Flagged (region_at m p s) x.flags.0 (holders_by (backing m p s x.page.0))) (λ s. flagged_tells _ _ _) (home_of m p x)

pub r5_tells : (m : Machine) → Tells (r5b m) (R5 m)
unfolding r5b
r5_tells m = tells_processes m _ _ (λ p q. mappings_tell (mapped_of m p) _ _ (flags_fit_tells m p))
