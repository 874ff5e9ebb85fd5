-- Laws of `Pages`: pages and frames of 4,096 bytes.
use Rattle.std.specs.Prelude.{◌≡◌, ℕ, ◌^◌, ◌≤◌, ◌<◌, ◌+◌, ◌*◌}
use Rattle.std.proofs.Common.{arith}
use Rattle.address.specs.Pages.{page_of, start_of, page_offset, page_from}

-- the page of an address starts at or below it, and ends above it
pub start_below : (a : ℕ) → a < 2 ^ 64 → (start_of (page_of a) ≤ a) × (a < start_of (page_of a) + 4096)
start_below a h = (omega arith, omega arith)

-- the page of a page's first byte is the page
pub page_of_start : (n : ℕ) → n < 2 ^ 52 → page_of (start_of n) ≡ n
page_of_start n h = omega arith

-- a page that 64 bits of address reach starts at its number times 4,096
pub start_exact : (n : ℕ) → n < 2 ^ 52 → start_of n ≡ n * 4096
start_exact n h = omega arith

-- an address is its page's first byte and its place in the page
pub start_offset : (a : ℕ) → a < 2 ^ 64 → start_of (page_of a) + page_offset a ≡ a
start_offset a h = omega arith

-- the first page from an address on starts there or later, by less than a page
pub page_from_is : (a : ℕ) → (a ≤ page_from a * 4096) × (page_from a * 4096 < a + 4096)
page_from_is a = (omega arith, omega arith)
