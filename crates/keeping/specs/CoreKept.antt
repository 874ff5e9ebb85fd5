-- A core that changes the machine alone keeps it sound where it keeps the rules: what is lent stays.
use Rattle.std.specs.Prelude.{◌≡◌, ℕ, ◌*◌, ◌≤◌, ◌<◌}
use Rattle.std.proofs.Common.{ap, sym, subst, ◌∙◌}
use Rattle.model.specs.Machine.{Machine, State, with_machine, no_file}
use Rattle.laws.specs.Tests.{Rows}
use Rattle.model.specs.Sound.{Sound, FileFits}
use Rattle.keeping.specs.Owing.{Owing, nothing, Lent}
use Rattle.keeping.specs.OwingOfSound.{sound_owing, sound_lent_is}
use Rattle.keeping.specs.SoundOfOwing.{owing_sound}

-- what is lent stays
pub record Lends (m n : Machine) : Type 0 where
  pub files : n.files ≡ m.files
  pub file_count : n.file_count ≡ m.file_count
  pub frame_count : n.frame_count ≡ m.frame_count

-- one after the other
pub lends_then : {a b c : Machine} → Lends a b → Lends b c → Lends a c
lends_then x y = record { files = y.files ∙ x.files; file_count = y.file_count ∙ x.file_count; frame_count = y.frame_count ∙ x.frame_count }

-- frames and files stay where they are
pub lent_as : (s : State) (n : Machine) → Lends s.machine n → Lent s → Lent (with_machine s n)
lent_as s n same k = record { frames = k.frames ∙ ap (λ (i : ℕ). i * 4096) (sym same.frame_count); files = rows }
  where
    rows : Rows no_file n.files (FileFits (with_machine s n))
    rows = subst (λ l. Rows no_file l (FileFits (with_machine s n))) (sym same.files) (λ i h. let t = k.files i h in record {
      inside = λ q. t.inside (subst (λ (j : ℕ). i < j) same.file_count q);
      free = λ q. t.free (subst (λ (j : ℕ). j ≤ i) same.file_count q);
    })

-- a core that changes the machine alone
pub machine_kept : (s : State) (n : Machine) → Sound s → Lends s.machine n → (Owing nothing s.machine → Owing nothing n) → Sound (with_machine s n)
machine_kept s n sound same core = owing_sound (with_machine s n) (core (sound_owing s sound)) (lent_as s n same (sound_lent_is s sound))
