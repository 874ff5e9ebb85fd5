-- `page_follows` compares a page with the one before it.
use lib.ListN.{get_or}
use Rattle.model.specs.Layout.{machine}
use Rattle.laws.specs.Lists.{part}
use Rattle.model.specs.Machine.{no_mapping}
use Rattle.sound_lists.specs.PageOrderLaws.{first_follows, next_follows}
use Rattle.sound_lists.proofs.pages.page_follows.Goals as goal

pub returns-then-place-eq0 : goal.returns-then-place-eq0
returns-then-place-eq0 c = let a = c.args in let l = part 128 a.process (machine a.words.now).mapped in first_follows l a.place (get_or l a.place no_mapping) c.if-place-eq0.true

pub returns : goal.returns
returns c = let a = c.args in next_follows a.words.now a.process a.place c.requires.place_bound c.if-place-eq0.false _ _ c.mapping_at-before.ensures c.mapping_at-mapping.ensures
