-- Laws of `SlotRow`: creation's limits of a region in four parts: place, rights, content, range.
use Rattle.std.specs.Prelude.{◌≡◌, refl, Bool, true, false, ◌&&◌, cond, ℕ, Option, Some, None, is_some}
use Rattle.std.proofs.Common.{ap, ◌∙◌}
use Rattle.std.proofs.Math.Bool.{and_assoc}
use Rattle.address.specs.declared.flags.PageTableFlags.{PageTableFlags}
use Rattle.address.specs.Flags.{good_flags, checked_flags}
use Rattle.model.specs.declared.Region.{Region}
use Rattle.model.specs.Machine.{Machine}
use Rattle.model.specs.SoundTest.{limitsb}
use Rattle.sound_rows.specs.SlotRow.{place_fits, rights_fit, content_fits, range_fits}

-- together they are the limits
pub limits_parts : (m : Machine) (r : Region) → (place_fits r && (rights_fit r && (content_fits m r && range_fits m r))) ≡ limitsb m r
unfolding place_fits rights_fit content_fits range_fits limitsb
limits_parts m r = simp and_assoc

-- an answer of the parts is one of the whole
pub limits_by : (m : Machine) (r : Region) (x : Bool) → x ≡ (place_fits r && (rights_fit r && (content_fits m r && range_fits m r))) → x ≡ limitsb m r
limits_by m r x e = e ∙ limits_parts m r

-- flags are good exactly where checked construction gives them
pub good_checked : (n : ℕ) (f : Option PageTableFlags) → f ≡ checked_flags n → is_some f ≡ good_flags n
unfolding checked_flags
good_checked n f e = ap is_some e ∙ both (good_flags n)
  where
    both : (b : Bool) → is_some {T = PageTableFlags} (cond b (Some (record { 0 = n })) None) ≡ b
    both true = refl
    both false = refl
