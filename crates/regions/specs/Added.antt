-- A region more in a process's list: what is put, and that this is the model's add_region where the places past the last are 0.
use Rattle.std.specs.Prelude.{ℕ, ◌+◌, set}
use Rattle.model.specs.declared.Region.{Region}
use Rattle.model.specs.Machine.{Machine, process_at, attached_of, row_of, with_region, with_processes}
use Rattle.rows.specs.With.{with_order_table}

-- a region put into a slot, and the slot behind the last place of list order
unfoldable pub with_added : Machine → ℕ → ℕ → Region → Machine
with_added m p s r =
    with_processes (with_order_table (with_region m p s r) (set m.order (row_of p (process_at m p).attached) s)) (set m.processes p (attached_of (process_at m p) ((process_at m p).attached + 1)))
