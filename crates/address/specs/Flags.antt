-- The flag bits of a page table entry.
use Rattle.std.specs.Prelude.{◌≡◌, Bool, ◌&&◌, cond, ℕ, ◌*◌, ◌-◌, ◌/◌, ◌%◌, ◌^◌, eqb, ◌⊎◌, Option, Some, None}
use Rattle.address.specs.declared.flags.PageTableFlags.{PageTableFlags}
use Rattle.address.specs.Bits.{bit, has}

-- Intel 64 manual, volume 3, section 4.5, table 4-20 "Format of a Page-Table Entry that Maps a 4-KByte Page":
-- bit 0 P (present), bit 1 R/W (writes allowed), bit 2 U/S (user accesses allowed), bit 63 XD (no instruction fetches)
abbrev pub present : ℕ
present = 0

abbrev pub writable : ℕ
writable = 1

abbrev pub user_accessible : ℕ
user_accessible = 2

abbrev pub no_execute : ℕ
no_execute = 63

-- every bit that is set in b is set in a
pub record Contains (a b : ℕ) : Type 0 where
  pub all : (i : ℕ) → bit b i ≡ 1 → bit a i ≡ 1

-- each bit of r is a's where it is not set in b, and else 0
pub record Without (a b r : ℕ) : Type 0 where
  pub each : (i : ℕ) → bit r i ≡ bit a i * (1 - bit b i)

-- the same as a test: bit 0 is set, and bits 3 to 62 make 0 (FlagsLaws: good_flags_tells)
unfoldable pub good_flags : ℕ → Bool
good_flags n = has n present && eqb (n / 2 ^ 3 % 2 ^ 60) 0

-- checked construction of flags
unfoldable pub checked_flags : ℕ → Option PageTableFlags
checked_flags n = cond (good_flags n) (Some (record { 0 = n })) None

-- flags with WRITABLE off (FlagsLaws: without-writable)
unfoldable pub read_only : ℕ → ℕ
read_only f = f - bit f writable * 2

-- RULES E5, BadFlags: PRESENT missing, or a bit outside the four
pub record GoodFlags (n : ℕ) : Type 0 where
  pub is_present : bit n present ≡ 1
  pub of_four : (i : ℕ) → bit n i ≡ 1 → (i ≡ present) ⊎ ((i ≡ writable) ⊎ ((i ≡ user_accessible) ⊎ (i ≡ no_execute)))
