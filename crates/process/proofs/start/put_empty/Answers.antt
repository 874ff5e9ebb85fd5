-- `put_empty`: words all 0, then the pool, the number of frames, the files and their number.
use Rattle.process.specs.StartLaws.{zero_machine, empty_put}
use Rattle.process.proofs.start.put_empty.Goals as goal

pub returns : goal.returns
returns c = empty_put c.args.rows.now c.requires.rows_len_bound _ _ _ _ _ _ (zero_machine _ c.zero_words.ensures) c.put_pool.ensures c.put_frame_count.ensures c.put_files.ensures c.put_file_count.ensures
