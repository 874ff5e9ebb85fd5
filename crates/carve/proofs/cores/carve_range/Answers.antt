-- `carve_range`: taken out, split, cleared, answered.
use mathlib.Core.Path.{◌∙◌}
use Rattle.carve.specs.CarveCoreLaws.{taken_ready, carved}
use Rattle.carve.proofs.cores.carve_range.Goals as goal

pub carve_each-splits-requires : goal.carve_each-splits-requires
carve_each-splits-requires c = record { words_len = c.take_out-count.auto.words ∙ c.requires.words_len; out_len = c.take_out-count.auto.out ∙ c.requires.out_len; count_bound = c.take_out-count.ensures.upper_bound; process_bound = c.requires.carvable.small; ready = taken_ready c.args.words.now c.args.process c.args.start c.args.end c.requires.carvable c.args.out.now _ _ c.requires.out_len c.take_out-count.ensures.value c.take_out-count.ensures.upper_bound c.take_out-count.ensures.out_after _ c.take_out-count.ensures.words_after }

pub returns : goal.returns
returns c = carved c.args.words.now c.args.process c.args.start c.args.end c.requires.carvable c.args.out.now _ _ c.requires.out_len c.take_out-count.ensures.value c.take_out-count.ensures.upper_bound c.take_out-count.ensures.out_after _ c.take_out-count.ensures.words_after _ _ c.carve_each-splits.ensures.value c.carve_each-splits.ensures.words_after _ c.carve_answer.ensures
