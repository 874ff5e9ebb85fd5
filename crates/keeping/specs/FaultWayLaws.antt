-- What each way of a fault needs and what the model says of it: the way that fault_way picks is right.
use Rattle.std.specs.Prelude.{◌≡◌, refl, ◌≢◌, Bool, true, false, cond, ℕ, eqb, Option, Some, None}
use Rattle.std.proofs.Common.{sym, ◌∙◌, inl, inr, true≢false, eqb-true}
use Rattle.std.proofs.lemmas.Bool.{eqb-false}
use Rattle.model.specs.declared.Mapping.{Mapping}
use Rattle.address.specs.declared.PhysFrame.{PhysFrame}
use Rattle.address.specs.Flags.{read_only}
use Rattle.model.specs.declared.Region.{Region}
use Rattle.model.specs.declared.Backed.{Backed}
use Rattle.model.specs.declared.Backed.TheVariants.{ByEntry, ByRange, Unbacked}
use Rattle.model.specs.declared.Way.{Way}
use Rattle.model.specs.declared.Way.TheVariants.{Refuse, Already, Restore, Map, Copy, Fill}
use Rattle.model.specs.Machine.{Machine, region_at, mapped_of}
use Rattle.model.specs.Lookup.{is_shared}
use Rattle.model.specs.Paging.{translate, is_writable, is_user, well_mapped}
use Rattle.model.specs.Backing.{backing}
use Rattle.model.specs.Fault.{fault_way, private_way, shared_way, mapped_way, backed_way, unmapped_way, translated_way}
use Rattle.model.specs.Protect.{holders_by}
use Rattle.model.specs.Sound.{Flagged, frame_by}
use Rattle.keeping.specs.ProtectKept.{read_only_unwritable}

-- of a region, what a page translates to, and its backing
abbrev pub Right : Region → Option Mapping → Backed → Way → Type 0
Right r t b (Refuse x) = Unit {0}
Right r t b Already = Unit {0}
Right r t b Restore = (r.kind ≢ 3) × (holders_by b ≡ 1)
Right r t b (Map f fl) = (t ≡ None) × ((frame_by b ≡ Some f.0) × Flagged r fl.0 (holders_by b))
Right r t b (Copy f) = (r.kind ≢ 3) × (frame_by b ≡ Some f.0)
Right r t b Fill = r.kind ≢ 3

-- one of two ways, by a test
pick : (r : Region) (t : Option Mapping) (b : Backed) (x y : Way) (c : Bool) → (c ≡ true → Right r t b x) → (c ≡ false → Right r t b y) → Right r t b (cond c x y)
pick r t b x y true f g = f refl
pick r t b x y false f g = g refl

module _ (r : Region) (private : r.kind ≢ 3) where
  full : (n : ℕ) → n ≡ 1 → Flagged r r.flags.0 n
  full n e = record { private = λ z. inl refl; lone = λ z w. e; shared = λ z. absurd (private z) }

  fixed : (n : ℕ) → is_writable r.flags.0 ≡ false → Flagged r r.flags.0 n
  fixed n e = record { private = λ z. inl refl; lone = λ z w. absurd (true≢false (sym w ∙ e)); shared = λ z. absurd (private z) }

  less : (n : ℕ) → Flagged r (read_only r.flags.0) n
  less n = record { private = λ z. inr refl; lone = λ z w. absurd (true≢false (sym w ∙ read_only_unwritable r.flags.0)); shared = λ z. absurd (private z) }

  backed_right : (b : Backed) (f : PhysFrame) → frame_by b ≡ Some f.0 → (w : Bool) → Right r None b (backed_way r f (holders_by b) w)
  backed_right b f e w =
      pick r None b _ _ (is_writable r.flags.0)
      (λ u. pick r None b _ _ (eqb (holders_by b) 1) (λ one. (refl, (e, full (holders_by b) (eqb-true _ 1 one))))
      (λ many. pick r None b _ _ w (λ q. (private, e)) (λ q. (refl, (e, less (holders_by b))))))
      (λ u. pick r None b _ _ w (λ q. tt) (λ q. (refl, (e, fixed (holders_by b) u))))

  mapped_right : (t : Option Mapping) (b : Backed) → Right r t b (mapped_way r b)
  mapped_right t (ByEntry i f n) =
      pick r t (ByEntry i f n) _ _ (is_writable r.flags.0)
      (λ u. pick r t (ByEntry i f n) _ _ (eqb n 1) (λ one. (private, eqb-true n 1 one)) (λ many. (private, refl))) (λ u. tt)
  mapped_right t (ByRange f n) =
      pick r t (ByRange f n) _ _ (is_writable r.flags.0)
      (λ u. pick r t (ByRange f n) _ _ (eqb n 1) (λ one. (private, eqb-true n 1 one)) (λ many. (private, refl))) (λ u. tt)
  mapped_right t Unbacked = pick r t Unbacked _ _ (is_writable r.flags.0) (λ u. tt) (λ u. tt)

  unmapped_right : (b : Backed) (w : Bool) → Right r None b (unmapped_way r b w)
  unmapped_right (ByEntry i f n) w = backed_right (ByEntry i f n) f refl w
  unmapped_right (ByRange f n) w = backed_right (ByRange f n) f refl w
  unmapped_right Unbacked w =
      pick r None Unbacked _ _ (is_writable r.flags.0) (λ u. private) (λ u. pick r None Unbacked _ _ w (λ q. tt) (λ q. private))

  translated_right : (t : Option Mapping) (b : Backed) (w : Bool) → Right r t b (translated_way r t b w)
  translated_right (Some x) b w = pick r (Some x) b _ _ (well_mapped (Some x) w) (λ u. tt) (λ u. mapped_right (Some x) b)
  translated_right None b w = unmapped_right b w

  private_right : (t : Option Mapping) (b : Backed) (w : Bool) → Right r t b (private_way r t b w)
  unfolding private_way
  private_right t b w = pick r t b _ _ (is_user r.flags.0) (λ u. translated_right t b w) (λ u. tt)

shared_right : (r : Region) → r.kind ≡ 3 → (t : Option Mapping) (b : Backed) → Right r t b (shared_way t b)
unfolding shared_way
shared_right r e (Some x) b = tt
shared_right r e None (ByEntry i f n) = (refl, (refl, record { private = λ z. absurd (z e); lone = λ z. absurd (z e); shared = λ z. refl }))
shared_right r e None (ByRange f n) = (refl, (refl, record { private = λ z. absurd (z e); lone = λ z. absurd (z e); shared = λ z. refl }))
shared_right r e None Unbacked = tt

pub way_right : (m : Machine) (p s page : ℕ) (w : Bool) → Right (region_at m p s) (translate (mapped_of m p) page) (backing m p s page) (fault_way m p s page w)
unfolding fault_way
way_right m p s page w =
    pick (region_at m p s) (translate (mapped_of m p) page) (backing m p s page) _ _ (is_shared (region_at m p s))
    (λ e. shared_right (region_at m p s) (eqb-true _ 3 e) _ _) (λ e. private_right (region_at m p s) (eqb-false _ 3 e) _ _ w)
