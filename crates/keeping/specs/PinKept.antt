-- Pin keeps a machine sound.
use Rattle.std.specs.Prelude.{◌≡◌, refl, ◌⊎◌, false, ℕ, ◌+◌, ◌/◌, ◌%◌, ◌≤◌, ◌<◌, leb}
use Rattle.std.proofs.Common.{subst, inl, arith, leb-false}
use Rattle.model.specs.declared.Region.{Region}
use Rattle.model.specs.declared.Mapping.{Mapping}
use Rattle.model.specs.Machine.{Machine, State, with_region, region_at, row_of, order_of, mapped_of, most_pins}
use Rattle.model.specs.Backing.{backing_at}
use Rattle.model.specs.Pins.{with_pins, pin_region}
use Rattle.model.specs.Refusals.{slot_at, pin_refusals}
use Rattle.model.specs.Calls as calls
use Rattle.model.specs.Run.{Call, call, step}
use Rattle.model.specs.Sound.{Sound, Used, Flagged, RegionFits}
use Rattle.laws.specs.In.{In}
use Rattle.keeping.specs.Owing.{Owing, Placed, row_at, nothing}
use Rattle.keeping.specs.OwingLaws.{open_low, listed_row}
use Rattle.keeping.specs.AlikeLaws.{limits_pins}
use Rattle.keeping.specs.SlotsKept.{row_kept}
use Rattle.keeping.specs.GuardedKept.{guarded_kept}
use Rattle.keeping.specs.ArgumentLaws.{Named, named_at}
use Rattle.keeping.specs.CoreKept.{machine_kept}

-- another count of pins
module _ (d : ℕ → ℕ) (m : Machine) (o : Owing d m) (p t n : ℕ) (used : Used (region_at m p t)) (few : n ≤ most_pins)
    (some : In (row_of p t % 64) (order_of m (row_of p t / 64)) ⊎ (1 ≤ n)) where
  abbrev r : Region
  r = region_at m p t

  fits : RegionFits m (with_pins r n)
  fits = record { free = λ z. absurd (used z); used = λ u. limits_pins m r n few ((o.regions (row_of p t)).used used) }

  flags : (q : ℕ) → q < 8 → (x : Mapping) → In x (mapped_of m q) → (k : Placed m q x) → row_of q k.slot ≡ row_of p t
      → Flagged (with_pins r n) x.flags.0 (backing_at m k.base).holders
  flags q h x i k e =
      let f = subst (λ (j : ℕ). Flagged (row_at m j) x.flags.0 (backing_at m k.base).holders) e k.flagged in
      record { private = f.private; lone = f.lone; shared = f.shared }

  -- another count of pins, where the region is listed or still pinned
  pub pins_kept : Owing d (with_region m p t (with_pins r n))
  pins_kept = row_kept d m o (row_of p t) used (with_pins r n) (record { kind = refl; start = refl; size = refl; ranged = refl; range = refl }) fits some flags

pub pin_kept : (s : State) → Sound s → (p a : ℕ) → Sound (step (Call.pin p a) s)
unfolding step call calls.pin pin_refusals pin_region
pin_kept s sound p a =
    guarded_kept s _ _ _ sound (λ k. machine_kept s _ sound (record { files = refl; file_count = refl; frame_count = refl })
    (λ o. core o (named_at s.machine p a k.0 k.1.1.0) k.1.1.1.0))
  where
    core : Owing nothing s.machine → Named s.machine p (slot_at s p a) a → leb most_pins (region_at s.machine p (slot_at s p a)).pins ≡ false
        → Owing nothing (with_region s.machine p (slot_at s p a)
        (with_pins (region_at s.machine p (slot_at s p a)) ((region_at s.machine p (slot_at s p a)).pins + 1)))
    core o named few =
        let l = o.listed p (slot_at s p a) (open_low s.machine o p named.opened) named.listed in
        let less = leb-false most_pins (region_at s.machine p (slot_at s p a)).pins few in
        pins_kept nothing s.machine o p (slot_at s p a) ((region_at s.machine p (slot_at s p a)).pins + 1) l.1 (omega arith)
        (inl (listed_row s.machine p (slot_at s p a) l.0 named.listed))
