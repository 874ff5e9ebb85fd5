-- Protection: a region's flags replaced and its mapped pages remapped. The Rust's set_protection.
use Rattle.std.specs.Prelude.{cond, ℕ, ltb}
use Rattle.address.specs.Flags.{read_only}
use Rattle.model.specs.declared.Region.{Region}
use Rattle.model.specs.declared.Backed.{Backed}
use Rattle.model.specs.declared.Backed.TheVariants.{ByEntry, ByRange, Unbacked}
use Rattle.model.specs.Machine.{Machine, with_region, with_mapped, mapped_of, region_at}
use Rattle.model.specs.Paging.{maps_in, remap_where}
use Rattle.model.specs.Backing.{backing}

abbrev pub holders_by : Backed → ℕ
holders_by (ByEntry i f n) = n
holders_by (ByRange f n) = n
holders_by Unbacked = 0

abbrev pub with_flags : Region → ℕ → Region
with_flags r f = record { kind = r.kind; start = r.start; size = r.size; flags = record { 0 = f }; fork = r.fork; per_thread = r.per_thread; pins = r.pins; file = r.file; offset = r.offset; length = r.length; ranged = r.ranged; range = r.range }

-- the flags that a page gets: without WRITABLE where holders exceed one (RULES M1)
unfoldable pub page_flags : Machine → ℕ → ℕ → ℕ → ℕ → ℕ
page_flags m p s flags page = cond (ltb 1 (holders_by (backing m p s page))) (read_only flags) flags

-- protection remaps every mapped page (RULES M1)
unfoldable pub set_protection : Machine → ℕ → ℕ → ℕ → Machine
set_protection m p s flags =
    let r = region_at m p s in
    with_mapped (with_region m p s (with_flags r flags)) p (remap_where (maps_in r) (λ x. page_flags m p s flags x.page.0) (mapped_of m p))
