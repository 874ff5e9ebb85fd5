-- What each put leaves: one table of the machine changed, in one row, and no other.
use Rattle.std.specs.Prelude.{◌≡◌, List, ℕ, ◌+◌, ◌*◌, ◌<◌, length, set}
use Rattle.std.proofs.Math.Path.{refl}
use Rattle.std.proofs.Common.{arith}
use Rattle.model.specs.declared.Process.{Process}
use Rattle.model.specs.declared.Region.{Region}
use Rattle.model.specs.declared.Mapping.{Mapping}
use Rattle.model.specs.declared.Entry.{Entry}
use Rattle.model.specs.declared.Backing.{Backing}
use Rattle.model.specs.declared.Pool.{Pool}
use Rattle.model.specs.declared.File.{File}
use Rattle.model.specs.Machine.{with_processes, with_regions, with_entries, with_pool}
use Rattle.model.specs.Layout.{word_count, machine, process_words, region_words, mapping_words, entry_words, backing_words, file_words}
use Rattle.rows.specs.RowWordsLaws.{write, SameBut}
use Rattle.rows.specs.WordTableLaws.{Apart, row_kept, kept, put_else, put_row, put_set}
use Rattle.rows.specs.MachineTablesLaws.{number_words, pool_words, process_table, region_table, order_table, mapping_table, entry_table, backing_table, pool_table, file_table, word_table}
use Rattle.rows.specs.With.{with_order_table, with_mapped_table, with_files, with_frame_count, with_file_count}

-- the tables of two machines are the same but for those that have words from a up to e
record SameTables (v w : List ℕ) (a e : ℕ) : Type 0 where
  processes : Apart 0 40 a e → (machine v).processes ≡ (machine w).processes
  regions : Apart 40 6184 a e → (machine v).regions ≡ (machine w).regions
  order : Apart 6184 6696 a e → (machine v).order ≡ (machine w).order
  mapped : Apart 6696 9768 a e → (machine v).mapped ≡ (machine w).mapped
  entries : Apart 9768 11304 a e → (machine v).entries ≡ (machine w).entries
  backings : Apart 11304 11816 a e → (machine v).backings ≡ (machine w).backings
  pool : Apart 11816 11818 a e → (machine v).pool ≡ (machine w).pool
  files : Apart 11818 11842 a e → (machine v).files ≡ (machine w).files
  frame_count : Apart 11842 11843 a e → (machine v).frame_count ≡ (machine w).frame_count
  file_count : Apart 11843 11844 a e → (machine v).file_count ≡ (machine w).file_count

same_tables : (v w : List ℕ) (a e : ℕ) → SameBut v w a e → SameTables v w a e
unfolding machine
same_tables v w a e s = record {
  processes = λ p. kept process_table v w a e s p;
  regions = λ p. kept region_table v w a e s p;
  order = λ p. kept order_table v w a e s p;
  mapped = λ p. kept mapping_table v w a e s p;
  entries = λ p. kept entry_table v w a e s p;
  backings = λ p. kept backing_table v w a e s p;
  pool = λ p. row_kept pool_table v w a e s p 0 (omega arith);
  files = λ p. kept file_table v w a e s p;
  frame_count = λ p. row_kept (word_table 11842) v w a e s p 0 (omega arith);
  file_count = λ p. row_kept (word_table 11843) v w a e s p 0 (omega arith);
}

module _ (w : List ℕ) (size : length w ≡ word_count) where
  pub put_process : (i : ℕ) (a : Process) → i < 8 → machine (write w (i * 5) 0 (process_words a)) ≡ with_processes (machine w) (set (machine w).processes i a)
  unfolding machine
  put_process i a h = let same = same_tables (write w (i * 5) 0 (process_words a)) w 0 40 (put_else process_table w i a h (omega arith) (i * 5) (omega arith)) in λ t. record { processes = put_set process_table w i a h (omega arith) (i * 5) (omega arith) t; regions = same.regions refl t; order = same.order refl t; mapped = same.mapped refl t; entries = same.entries refl t; backings = same.backings refl t; pool = same.pool refl t; files = same.files refl t; frame_count = same.frame_count refl t; file_count = same.file_count refl t }

  pub put_region : (i : ℕ) (a : Region) → i < 512 → machine (write w (40 + i * 12) 0 (region_words a)) ≡ with_regions (machine w) (set (machine w).regions i a)
  unfolding machine
  put_region i a h = let same = same_tables (write w (40 + i * 12) 0 (region_words a)) w 40 6184 (put_else region_table w i a h (omega arith) (40 + i * 12) (omega arith)) in λ t. record { processes = same.processes refl t; regions = put_set region_table w i a h (omega arith) (40 + i * 12) (omega arith) t; order = same.order refl t; mapped = same.mapped refl t; entries = same.entries refl t; backings = same.backings refl t; pool = same.pool refl t; files = same.files refl t; frame_count = same.frame_count refl t; file_count = same.file_count refl t }

  pub put_order : (i : ℕ) (a : ℕ) → i < 512 → machine (write w (6184 + i) 0 (number_words a)) ≡ with_order_table (machine w) (set (machine w).order i a)
  unfolding machine
  put_order i a h = let same = same_tables (write w (6184 + i) 0 (number_words a)) w 6184 6696 (put_else order_table w i a h (omega arith) (6184 + i) (omega arith)) in λ t. record { processes = same.processes refl t; regions = same.regions refl t; order = put_set order_table w i a h (omega arith) (6184 + i) (omega arith) t; mapped = same.mapped refl t; entries = same.entries refl t; backings = same.backings refl t; pool = same.pool refl t; files = same.files refl t; frame_count = same.frame_count refl t; file_count = same.file_count refl t }

  pub put_mapping : (i : ℕ) (a : Mapping) → i < 1024 → machine (write w (6696 + i * 3) 0 (mapping_words a)) ≡ with_mapped_table (machine w) (set (machine w).mapped i a)
  unfolding machine
  put_mapping i a h = let same = same_tables (write w (6696 + i * 3) 0 (mapping_words a)) w 6696 9768 (put_else mapping_table w i a h (omega arith) (6696 + i * 3) (omega arith)) in λ t. record { processes = same.processes refl t; regions = same.regions refl t; order = same.order refl t; mapped = put_set mapping_table w i a h (omega arith) (6696 + i * 3) (omega arith) t; entries = same.entries refl t; backings = same.backings refl t; pool = same.pool refl t; files = same.files refl t; frame_count = same.frame_count refl t; file_count = same.file_count refl t }

  pub put_entry : (i : ℕ) (a : Entry) → i < 512 → machine (write w (9768 + i * 3) 0 (entry_words a)) ≡ with_entries (machine w) (set (machine w).entries i a)
  unfolding machine
  put_entry i a h = let same = same_tables (write w (9768 + i * 3) 0 (entry_words a)) w 9768 11304 (put_else entry_table w i a h (omega arith) (9768 + i * 3) (omega arith)) in λ t. record { processes = same.processes refl t; regions = same.regions refl t; order = same.order refl t; mapped = same.mapped refl t; entries = put_set entry_table w i a h (omega arith) (9768 + i * 3) (omega arith) t; backings = same.backings refl t; pool = same.pool refl t; files = same.files refl t; frame_count = same.frame_count refl t; file_count = same.file_count refl t }

  pub put_backing : (i : ℕ) (a : Backing) → i < 256 → machine (write w (11304 + i * 2) 0 (backing_words a)) ≡ with_pool (machine w) (set (machine w).backings i a) (machine w).pool
  unfolding machine
  put_backing i a h = let same = same_tables (write w (11304 + i * 2) 0 (backing_words a)) w 11304 11816 (put_else backing_table w i a h (omega arith) (11304 + i * 2) (omega arith)) in λ t. record { processes = same.processes refl t; regions = same.regions refl t; order = same.order refl t; mapped = same.mapped refl t; entries = same.entries refl t; backings = put_set backing_table w i a h (omega arith) (11304 + i * 2) (omega arith) t; pool = same.pool refl t; files = same.files refl t; frame_count = same.frame_count refl t; file_count = same.file_count refl t }

  pub put_pool : (a : Pool) → machine (write w 11816 0 (pool_words a)) ≡ with_pool (machine w) (machine w).backings a
  unfolding machine
  put_pool a = let same = same_tables (write w 11816 0 (pool_words a)) w 11816 11818 (put_else pool_table w 0 a (omega arith) (omega arith) 11816 (omega arith)) in λ t. record { processes = same.processes refl t; regions = same.regions refl t; order = same.order refl t; mapped = same.mapped refl t; entries = same.entries refl t; backings = same.backings refl t; pool = put_row pool_table w 0 a (omega arith) (omega arith) 11816 (omega arith) t; files = same.files refl t; frame_count = same.frame_count refl t; file_count = same.file_count refl t }

  pub put_file : (i : ℕ) (a : File) → i < 8 → machine (write w (11818 + i * 3) 0 (file_words a)) ≡ with_files (machine w) (set (machine w).files i a)
  unfolding machine
  put_file i a h = let same = same_tables (write w (11818 + i * 3) 0 (file_words a)) w 11818 11842 (put_else file_table w i a h (omega arith) (11818 + i * 3) (omega arith)) in λ t. record { processes = same.processes refl t; regions = same.regions refl t; order = same.order refl t; mapped = same.mapped refl t; entries = same.entries refl t; backings = same.backings refl t; pool = same.pool refl t; files = put_set file_table w i a h (omega arith) (11818 + i * 3) (omega arith) t; frame_count = same.frame_count refl t; file_count = same.file_count refl t }

  pub put_frame_count : (a : ℕ) → machine (write w 11842 0 (number_words a)) ≡ with_frame_count (machine w) a
  unfolding machine
  put_frame_count a = let same = same_tables (write w 11842 0 (number_words a)) w 11842 11843 (put_else (word_table 11842) w 0 a (omega arith) (omega arith) 11842 (omega arith)) in λ t. record { processes = same.processes refl t; regions = same.regions refl t; order = same.order refl t; mapped = same.mapped refl t; entries = same.entries refl t; backings = same.backings refl t; pool = same.pool refl t; files = same.files refl t; frame_count = put_row (word_table 11842) w 0 a (omega arith) (omega arith) 11842 (omega arith) t; file_count = same.file_count refl t }

  pub put_file_count : (a : ℕ) → machine (write w 11843 0 (number_words a)) ≡ with_file_count (machine w) a
  unfolding machine
  put_file_count a = let same = same_tables (write w 11843 0 (number_words a)) w 11843 11844 (put_else (word_table 11843) w 0 a (omega arith) (omega arith) 11843 (omega arith)) in λ t. record { processes = same.processes refl t; regions = same.regions refl t; order = same.order refl t; mapped = same.mapped refl t; entries = same.entries refl t; backings = same.backings refl t; pool = same.pool refl t; files = same.files refl t; frame_count = same.frame_count refl t; file_count = put_row (word_table 11843) w 0 a (omega arith) (omega arith) 11843 (omega arith) t }
