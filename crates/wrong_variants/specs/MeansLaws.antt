-- Means's records as tests that compute the state before once, and what the tests tell.
use Rattle.std.specs.Prelude.{◌≡◌, refl, ◌≢◌, Bool, true, false, ◌&&◌, not, List, [], ◌∷◌, ℕ, eqb, Option, Some, None}
use Rattle.std.proofs.Common.{ap, sym, ◌∙◌, eqb-true, eq-eqb}
use Rattle.std.proofs.lemmas.Bool.{false≢true}
use Rattle.model.specs.Machine.{State}
use Rattle.model.specs.Lookup.{row_found}
use Rattle.laws.specs.BoolLaws.{both_true}
use Rattle.model.specs.Run.{step}
use Rattle.model.specs.SoundTest.{soundb, r1b, r2b, r3b, r4b, r5b, r6b, same_found}
use Rattle.model.specs.Posix.{view}
use Rattle.model.specs.PointTable.{same_list}
use Rattle.model.specs.PointTableLaws.{list_told}
use Rattle.wrong_variants.specs.Means.{unless, broken, words, get, Case, Refused, Sight, Seen}

abbrev some : List ℕ → Bool
some [] = false
some (x ∷ l) = true

unfoldable pub refusedb : Case → Bool
refusedb x = let s = x.before in let t = x.right s in same_list (words t) (words (step x.call s)) && (soundb t && (same_list (broken (x.wrong s)) x.rules && some x.rules))

unfoldable pub seenb : Case → Sight → Bool
seenb x y =
    let s = x.before in
    let r = x.right s in
    let w = x.wrong s in
    let t = y.follows r in
    let u = y.follows w in
    same_list (words r) (words (step x.call s)) && (same_found (view s y.of y.address) (Some y.good)
    && (same_found (view t y.by y.address) (Some y.good) && (same_found (view u y.by y.address) (Some y.bad)
    && (eqb (get y.by y.address t) y.good && (eqb (get y.by y.address u) y.bad && (same_list (broken w) x.rules && not (eqb y.bad y.good)))))))

-- a machine that breaks a rule is refused
refuses : (a b c d e f : Bool) → some (unless a 1 (unless b 2 (unless c 3 (unless d 4 (unless e 5 (unless f 6 [])))))) ≡ true → (a && (b && (c && (d && (e && f))))) ≡ false
refuses false b c d e f h = refl
refuses true false c d e f h = refl
refuses true true false d e f h = refl
refuses true true true false e f h = refl
refuses true true true true false f h = refl
refuses true true true true true false h = refl
refuses true true true true true true h = absurd (false≢true h)

pub broken_refused : (s : State) → some (broken s) ≡ true → soundb s ≡ false
unfolding soundb broken
broken_refused s e = refuses (r1b s.machine) (r2b s.machine) (r3b s.machine) (r4b s.machine) (r5b s.machine) (r6b s) e

pub refused_told : (x : Case) → refusedb x ≡ true → Refused x
unfolding refusedb
refused_told x e =
    let call = both_true (same_list (words (x.right x.before)) (words (step x.call x.before))) _ e in
    let sound = both_true (soundb (x.right x.before)) _ call.1 in
    let rules = both_true (same_list (broken (x.wrong x.before)) x.rules) _ sound.1 in
    let which = list_told (broken (x.wrong x.before)) x.rules rules.0 in
    record { call = list_told _ _ call.0; sound = sound.0; refused = broken_refused (x.wrong x.before) (ap some which ∙ rules.1); which = which }

pub found_told : (x : Option ℕ) (n : ℕ) → same_found x (Some n) ≡ true → x ≡ Some n
found_told None n e = absurd (false≢true e)
found_told (Some i) n e = ap Some (eqb-true i n e)

pub other : (a b : ℕ) → not (eqb a b) ≡ true → a ≢ b
other a b e same = false≢true (sym (ap not (eq-eqb a b same)) ∙ e)

pub seen_told : (x : Case) (y : Sight) → seenb x y ≡ true → Seen x y
unfolding seenb
seen_told x y e =
    let call = both_true (same_list (words (x.right x.before)) (words (step x.call x.before))) _ e in
    let was = both_true (same_found (view x.before y.of y.address) (Some y.good)) _ call.1 in
    let kept = both_true (same_found (view (y.follows (x.right x.before)) y.by y.address) (Some y.good)) _ was.1 in
    let changed = both_true (same_found (view (y.follows (x.wrong x.before)) y.by y.address) (Some y.bad)) _ kept.1 in
    let good = both_true (eqb (get y.by y.address (y.follows (x.right x.before))) y.good) _ changed.1 in
    let bad = both_true (eqb (get y.by y.address (y.follows (x.wrong x.before))) y.bad) _ good.1 in
    let rules = both_true (same_list (broken (x.wrong x.before)) x.rules) _ bad.1 in
    let before = found_told (view x.before y.of y.address) y.good was.0 in
    let after = found_told (view (y.follows (x.wrong x.before)) y.by y.address) y.bad changed.0 in
    record {
      call = list_told _ _ call.0;
      was = before;
      kept = found_told _ y.good kept.0;
      changed = after;
      differs = λ same. other y.bad y.good rules.1 (ap row_found (sym after ∙ same ∙ before));
      loads_good = eqb-true _ y.good good.0;
      loads_bad = eqb-true _ y.bad bad.0;
      which = list_told _ x.rules rules.0;
    }
