-- Loads and stores, way by way: which test refuses, and where the byte stands.
use Rattle.std.specs.Prelude.{Bool, ◌&&◌, ◌||◌, not, ℕ, Result, Ok, Err, ⊤}
use Rattle.answers.specs.declared.Refusal.{Refusal}
use Rattle.address.specs.declared.PhysAddr.{PhysAddr}
use Rattle.model.specs.Paging.{is_user, is_writable}

-- a byte's place where no test refuses
abbrev pub access_by : Result ⊤ Refusal → ℕ → Result PhysAddr Refusal
access_by (Ok tt) i = Ok (record { 0 = i })
access_by (Err r) i = Err r

-- ---- the page's flags

abbrev pub allowed : ℕ → Bool → Bool
allowed flags w = is_user flags && (not w || is_writable flags)
