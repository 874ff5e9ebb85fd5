-- Which numbers are addresses.
use Rattle.std.specs.Prelude.{◌≡◌, Bool, ◌||◌, cond, ℕ, ◌-◌, ◌^◌, ◌≤◌, ◌<◌, ltb, leb, Result, Ok, Err}
use Rattle.address.specs.declared.VirtAddr.{VirtAddr}
use Rattle.address.specs.declared.VirtAddrNotValid.{VirtAddrNotValid}
use Rattle.address.specs.Bits.{bit}

-- Intel 64 manual, volume 3, chapter 4 "Paging", and volume 1, section 3.3.7.1 "Canonical Addressing":
-- with 48 bits of linear address, bits 63 to 47 are all ones or all zeros.
pub record Canonical (a : ℕ) : Type 0 where
  pub equal : (i : ℕ) → 47 ≤ i → i < 64 → bit a i ≡ bit a 47

-- the same by comparison: the lower half ends below 2^47, the upper one begins at 2^64 - 2^47 (CanonicalLaws: canonical-tells)
unfoldable pub canonical : ℕ → Bool
canonical a = ltb a (2 ^ 47) || leb (2 ^ 64 - 2 ^ 47) a

-- user addresses are below 2^47 (RULES N10)
abbrev pub user : ℕ → Bool
user a = ltb a (2 ^ 47)

-- the Rust's VirtAddr::try_new: the address, or the number that is none
unfoldable pub checked_addr : ℕ → Result VirtAddr VirtAddrNotValid
checked_addr a = cond (canonical a) (Ok (record { 0 = a })) (Err (record { 0 = a }))
