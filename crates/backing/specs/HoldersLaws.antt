-- On a sound machine a backing has at most 1,024 holders: the page entries and the regions.
use Rattle.std.specs.Prelude.{ℕ, ◌+◌, ◌≤◌, not, ◌&&◌, ◌≢◌, length, ◌==◌, nat_eq}
use Rattle.std.proofs.Common.{arith, length-append}
use Rattle.std.proofs.lemmas.List.{length-map}
use Rattle.model.specs.Machine.{Machine, State}
use Rattle.model.specs.Lookup.{is_used, is_ranged}
use Rattle.model.specs.Backing.{backing_at}
use Rattle.model.specs.Sound.{Sound, Hold, entry_holds, range_holds, holds, holders_of}
use Rattle.laws.specs.ListsLaws.{keep_most}
use Rattle.backing.specs.BackingLaws.{sound_ready, used_low}
use Rattle.laws.specs.CountLaws.{count_most}

pub holds_most : (m : Machine) → length (holds m) ≤ length m.entries + length m.regions
unfolding holds entry_holds range_holds
holds_most m =
    let entries = keep_most (λ e. not (e.owner == 0)) m.entries in
    let ranges = keep_most (λ r. is_used r && is_ranged r) m.regions in
    simp (length-append, length-map) (omega arith)

pub sound_holders : (s : State) (f : ℕ) → Sound s → (backing_at s.machine f).len ≢ 0 → (backing_at s.machine f).holders ≤ 1024
unfolding holders_of
sound_holders s f sound used =
    let ready = sound_ready sound in
    let low = used_low s.machine ready f used in
    let small = ready.few in
    let rows = ready.rows in
    let is = (sound.r3 f (omega arith) used).0 in
    let few = count_most (λ (h : Hold). nat_eq h.frame f) (holds s.machine) in
    let most = holds_most s.machine in
    let entries = sound.r6.sized.entries in
    let regions = sound.r6.sized.regions in
    omega arith
