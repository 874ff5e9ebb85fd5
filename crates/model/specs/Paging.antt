-- The page table of a process in the flat model: mapper.rs's map, unmap, remap and translate over its mappings in page order.
use Rattle.std.specs.Prelude.{Bool, false, ◌||◌, not, cond, List, [], ◌∷◌, map, ℕ, ◌+◌, ◌*◌, ◌^◌, eqb, ltb, Option, Some, None}
use Rattle.address.specs.Bits.{has}
use Rattle.address.specs.Flags.{writable, user_accessible}
use Rattle.model.specs.declared.Region.{Region}
use Rattle.model.specs.declared.Mapping.{Mapping}
use Rattle.laws.specs.Lists.{keep}
use Rattle.model.specs.Machine.{Machine, mapped_of, with_mapped}
use Rattle.model.specs.Lookup.{contains}

-- the first byte of a page; pages of user addresses are below 2^35
abbrev pub page_start : ℕ → ℕ
page_start n = n * 4096

abbrev pub mapping : ℕ → ℕ → ℕ → Mapping
mapping page frame flags = record { page = record { 0 = page }; frame = record { 0 = frame }; flags = record { 0 = flags } }

abbrev pub is_writable : ℕ → Bool
is_writable flags = has flags writable

abbrev pub is_user : ℕ → Bool
is_user flags = has flags user_accessible

-- a shared mapping has all four (RULES R5, F1): PRESENT, WRITABLE, USER_ACCESSIBLE, NO_EXECUTE
abbrev pub all_four : ℕ
all_four = 1 + 2 + 4 + 2 ^ 63

-- translate: what a page is mapped to
unfoldable pub translate : List Mapping → ℕ → Option Mapping
translate [] page = None
translate (x ∷ l) page = let rest = translate l page in cond (eqb x.page.0 page) (Some x) rest

-- map: a page that is not mapped yet, put in its place
unfoldable pub map_page : List Mapping → Mapping → List Mapping
map_page [] x = x ∷ []
map_page (y ∷ l) x = let rest = map_page l x in cond (ltb x.page.0 y.page.0) (x ∷ y ∷ l) (y ∷ rest)

-- unmap
unfoldable pub unmap_page : List Mapping → ℕ → List Mapping
unmap_page l page = keep (λ x. not (eqb x.page.0 page)) l

-- remap: other flags where a test of the mapping says so, the frame kept
unfoldable pub remap_where : (Mapping → Bool) → (Mapping → ℕ) → List Mapping → List Mapping
remap_where f g l = map (λ x. cond (f x) (mapping x.page.0 x.frame.0 (g x)) x) l

-- whether a mapping is of a page that starts inside a region
abbrev pub maps_in : Region → Mapping → Bool
maps_in r x = contains r (page_start x.page.0)

-- the Rust's unmap_from: a region's mapped pages are those that start inside it (R4)
unfoldable pub unmap_from : Machine → ℕ → Region → Machine
unmap_from m p r = with_mapped m p (keep (λ x. not (maps_in r x)) (mapped_of m p))

-- mapped well enough (RULES T2): mapped, and for a write mapped writable
abbrev pub well_mapped : Option Mapping → Bool → Bool
well_mapped None w = false
well_mapped (Some x) w = not w || is_writable x.flags.0
