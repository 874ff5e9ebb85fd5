-- A region's mapped pages without WRITABLE (RULES K2).
use Rattle.std.specs.Prelude.{◌&&◌, not, cond}
use Rattle.address.specs.Flags.{read_only}
use Rattle.model.specs.declared.Mapping.{Mapping}
use Rattle.model.specs.declared.Region.{Region}
use Rattle.model.specs.Lookup.{is_shared}
use Rattle.model.specs.Paging.{mapping, maps_in}

-- ---- one row

abbrev pub read_only_in : Region → Mapping → Mapping
read_only_in r x = cond (maps_in r x) (mapping x.page.0 x.frame.0 (read_only x.flags.0)) x

-- ---- all rows; a shared region's stay

abbrev pub demoted_in : Region → Mapping → Mapping
demoted_in r x = cond (not (is_shared r) && maps_in r x) (mapping x.page.0 x.frame.0 (read_only x.flags.0)) x
