-- (15) A CopyEager region cloned as a CopyOnWrite one, by sharing: no rule is broken and no byte is wrong, and isolation's EagerCloneOwns refuses it.
use Rattle.std.specs.Prelude.{◌≡◌, refl, Bool, true, ◌&&◌, [], ◌∷◌, ℕ, get_or, eqb, Some}
use Rattle.std.proofs.Common.{ap, sym, ◌∙◌, eqb-true}
use Rattle.model.specs.Machine.{State}
use Rattle.model.specs.Lookup.{row_found}
use Rattle.laws.specs.BoolLaws.{both_true}
use Rattle.model.specs.Paging.{translate}
use Rattle.model.specs.Backing.{backing}
use Rattle.model.specs.Clone.{demote, share_entry, share_range}
use Rattle.model.specs.Protect.{holders_by}
use Rattle.model.specs.Access.{page_at}
use Rattle.model.specs.SoundTest.{same_found}
use Rattle.model.specs.Posix.{view, home_slot, frame_at}
use Rattle.model.specs.PointTable.{mapping_of, same_list}
use Rattle.model.specs.PointTableLaws.{list_told}
use Rattle.isolation.specs.Statements.{EagerOwns}
use Rattle.wrong_variants.specs.OneLine.{share_by}
use Rattle.wrong_variants.specs.Means.{broken}
use Rattle.wrong_variants.specs.MeansLaws.{found_told, other}
use Rattle.wrong_variants.specs.OpenVariants.{variants}
use Rattle.wrong_variants.specs.SeenByOthers.{eager_shares}

-- process 0's CopyEager page with the byte 31, and its clone into process 1: right, by copying, and wrong, by sharing with WRITABLE taken off the source
unfoldable pub before : State
before = eager_shares.before

unfoldable pub copied : State → State
copied s = eager_shares.right s

unfoldable pub shared : State → State
shared s = share_by demote share_entry share_range s 0 0 1

-- what is computed of the state before (s), the right one (t) and the wrong one (u)
pub record Computed (s t u : State) : Type 0 where
  -- the wrong one breaks no rule, and the clone sees the right byte
  pub sound : broken u ≡ []
  pub shows : view u 1 0x1000 ≡ Some 31
  -- but the source's mapping has lost WRITABLE, which the right clone leaves: frame, flags
  pub was : mapping_of (page_at s.machine 0 0x1000) ≡ 0 ∷ 7 ∷ []
  pub keeps : mapping_of (page_at t.machine 0 0x1000) ≡ 0 ∷ 7 ∷ []
  pub loses : mapping_of (page_at u.machine 0 0x1000) ≡ 0 ∷ 5 ∷ []
  -- and the clone's page has the source's frame, with two holders, where the right clone's has one
  pub home : home_slot s 0 0x1000 ≡ Some 0
  pub frame : frame_at s 0 0x1000 ≡ Some 0
  pub there : home_slot u 1 0x1000 ≡ Some 0
  pub one : holders_by (backing t.machine 1 0 1) ≡ 1
  pub two : holders_by (backing u.machine 1 0 1) ≡ 2

-- the same as a test that computes each state once
unfoldable pub computedb : State → Bool
computedb s =
    let t = copied s in
    let u = shared s in
    same_list (broken u) [] && (same_found (view u 1 0x1000) (Some 31)
    && (same_list (mapping_of (page_at s.machine 0 0x1000)) (0 ∷ 7 ∷ []) && (same_list (mapping_of (page_at t.machine 0 0x1000)) (0 ∷ 7 ∷ []) && (same_list (mapping_of (page_at u.machine 0 0x1000)) (0 ∷ 5 ∷ [])
    && (same_found (home_slot s 0 0x1000) (Some 0) && (same_found (frame_at s 0 0x1000) (Some 0) && (same_found (home_slot u 1 0x1000) (Some 0)
    && (eqb (holders_by (backing t.machine 1 0 1)) 1 && eqb (holders_by (backing u.machine 1 0 1)) 2))))))))

computes : computedb before ≡ true
unfolding variants eager_shares before copied shared computedb
computes = refl

computed_told : (s : State) → computedb s ≡ true → Computed s (copied s) (shared s)
unfolding computedb
computed_told s e =
    let a = both_true (same_list (broken (shared s)) []) _ e in
    let b = both_true (same_found (view (shared s) 1 0x1000) (Some 31)) _ a.1 in
    let c = both_true (same_list (mapping_of (page_at s.machine 0 0x1000)) (0 ∷ 7 ∷ [])) _ b.1 in
    let d = both_true (same_list (mapping_of (page_at (copied s).machine 0 0x1000)) (0 ∷ 7 ∷ [])) _ c.1 in
    let f = both_true (same_list (mapping_of (page_at (shared s).machine 0 0x1000)) (0 ∷ 5 ∷ [])) _ d.1 in
    let g = both_true (same_found (home_slot s 0 0x1000) (Some 0)) _ f.1 in
    let h = both_true (same_found (frame_at s 0 0x1000) (Some 0)) _ g.1 in
    let i = both_true (same_found (home_slot (shared s) 1 0x1000) (Some 0)) _ h.1 in
    let j = both_true (eqb (holders_by (backing (copied s).machine 1 0 1)) 1) _ i.1 in
    record {
      sound = list_told _ _ a.0;
      shows = found_told _ 31 b.0;
      was = list_told _ _ c.0;
      keeps = list_told _ _ d.0;
      loses = list_told _ _ f.0;
      home = found_told _ 0 g.0;
      frame = found_told _ 0 h.0;
      there = found_told _ 0 i.0;
      one = eqb-true _ 1 j.0;
      two = eqb-true _ 2 j.1;
    }

pub computed : Computed before (copied before) (shared before)
computed = computed_told before computes

-- isolation's statement on eager clones is false of it: the clone does not own its frame ..
pub owns_not : EagerOwns before (shared before) 0 0 1 → ⊥
owns_not k =
    let own = k.owns 0x1000 0 computed.home computed.frame in
    let slot : own.slot ≡ 0 = ap row_found (sym own.home ∙ computed.there) in
    other 2 1 refl (sym computed.two ∙ ap (λ (i : ℕ). holders_by (backing (shared before).machine 1 i 1)) (sym slot) ∙ ap holders_by own.own.backed)

-- .. and the source's mapping is another
pub rights_not : EagerOwns before (shared before) 0 0 1 → ⊥
rights_not k = other 5 7 refl (ap (λ l. get_or l 1 0) (sym computed.loses ∙ ap (λ l. mapping_of (translate l 1)) (k.rights 0) ∙ computed.was))
