-- `fault_way`: what is read of a sound machine, and which kind the region is.
use Rattle.std.proofs.lemmas.Bool.{not_from_false}
use mathlib.Core.Path.{refl, ◌∙◌}
use Rattle.fault_way.specs.WayLaws.{words_translate, words_len, fault_shared, fault_private, way_alike}
use Rattle.model.specs.Layout.{machine}
use Rattle.model.specs.Backing.{backing}
use borrow.Author.Rules.{rules}
use Rattle.fault_way.proofs.fault_way.Goals as goal

pub backing_of-backed-requires : goal.backing_of-backed-requires
backing_of-backed-requires c = let len = words_len _ c.requires.sound_words in record { words_len = search rules; process_bound = search rules; slot_bound = search rules; slot_bound_2 = search rules }

pub returns-then-region-eq-SHARED : goal.returns-then-region-eq-SHARED
returns-then-region-eq-SHARED c = fault_shared (machine c.args.words.now) c.args.process c.args.slot c.args.page.0 c.args.write _ c.region_in-region.ensures _ (words_translate _ c.requires.sound_words _ c.requires.process_bound _ _ c.translate-mapped.ensures) _ c.backing_of-backed.ensures c.if-region-eq-SHARED.true _ c.shared_way.ensures

pub returns-then-not-asks_backing : goal.returns-then-not-asks_backing
returns-then-not-asks_backing c = fault_private (machine c.args.words.now) c.args.process c.args.slot c.args.page.0 c.args.write _ c.region_in-region.ensures _ (words_translate _ c.requires.sound_words _ c.requires.process_bound _ _ c.translate-mapped.ensures) _ refl c.if-region-eq-SHARED.false _ (c.private_way.ensures ∙ way_alike _ _ c.args.write _ c.asks_backing.ensures (not_from_false _ c.if-not-asks_backing.true) (backing (machine c.args.words.now) c.args.process c.args.slot c.args.page.0))

pub backing_of-backed-requires-2 : goal.backing_of-backed-requires-2
backing_of-backed-requires-2 c = let len = words_len _ c.requires.sound_words in record { words_len = search rules; process_bound = search rules; slot_bound = search rules; slot_bound_2 = search rules }

pub returns : goal.returns
returns c = fault_private (machine c.args.words.now) c.args.process c.args.slot c.args.page.0 c.args.write _ c.region_in-region.ensures _ (words_translate _ c.requires.sound_words _ c.requires.process_bound _ _ c.translate-mapped.ensures) _ c.backing_of-backed-2.ensures c.if-region-eq-SHARED.false _ c.private_way-2.ensures
