-- The machine with one table changed, for the tables that the model changes only in part.
use Rattle.std.specs.Prelude.{List, ℕ}
use Rattle.model.specs.declared.Mapping.{Mapping}
use Rattle.model.specs.declared.File.{File}
use Rattle.model.specs.Machine.{Machine}

abbrev pub with_order_table : Machine → List ℕ → Machine
with_order_table m t = record { processes = m.processes; regions = m.regions; order = t; mapped = m.mapped; entries = m.entries; backings = m.backings; pool = m.pool; files = m.files; frame_count = m.frame_count; file_count = m.file_count }

abbrev pub with_mapped_table : Machine → List Mapping → Machine
with_mapped_table m t = record { processes = m.processes; regions = m.regions; order = m.order; mapped = t; entries = m.entries; backings = m.backings; pool = m.pool; files = m.files; frame_count = m.frame_count; file_count = m.file_count }

abbrev pub with_files : Machine → List File → Machine
with_files m t = record { processes = m.processes; regions = m.regions; order = m.order; mapped = m.mapped; entries = m.entries; backings = m.backings; pool = m.pool; files = t; frame_count = m.frame_count; file_count = m.file_count }

abbrev pub with_frame_count : Machine → ℕ → Machine
with_frame_count m n = record { processes = m.processes; regions = m.regions; order = m.order; mapped = m.mapped; entries = m.entries; backings = m.backings; pool = m.pool; files = m.files; frame_count = n; file_count = m.file_count }

abbrev pub with_file_count : Machine → ℕ → Machine
with_file_count m n = record { processes = m.processes; regions = m.regions; order = m.order; mapped = m.mapped; entries = m.entries; backings = m.backings; pool = m.pool; files = m.files; frame_count = m.frame_count; file_count = n }
