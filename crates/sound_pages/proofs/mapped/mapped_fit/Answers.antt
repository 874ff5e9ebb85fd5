-- The answers for `mapped_fit`.
use mathlib.Core.Path.{refl, sym, ◌∙◌}
use Rattle.model.specs.Layout.{machine}
use Rattle.model.specs.Machine.{no_process}
use Rattle.laws.specs.LoopLaws.{every_first, every_fails, every_more, every_all}
use Rattle.lookup.specs.LookupsLaws.{processes_length}
use Rattle.sound_pages.specs.MappedFit.{all_fit}
use Rattle.sound_pages.specs.MappedFitLaws.{all_fit_rules}
use Rattle.sound_pages.specs.MappedSpansLaws.{unspanned, spans_low, spans_process}
use Rattle.sound_pages.proofs.mapped.mapped_fit.Goals as goal

pub span_entries-requires : goal.span_entries-requires
span_entries-requires c = record { words_len = c.requires; unspanned = unspanned }

pub loop-i-init : goal.loop-i-init
loop-i-init c = let w = c.args.words.now in λ laid. every_first (λ p q. all_fit (machine w) p) (machine w).processes 8 (processes_length w)

pub process_mapped_fit-requires : goal.process_mapped_fit-requires
process_mapped_fit-requires c = let s = c.span_entries.ensures in record { words_len = c.requires; process_bound = c.loop-i-test.true; from_bound = spans_low (machine c.args.words.now) _ _ s c.loop-i.i c.loop-i-test.true }

pub returns-then-not-process_mapped_fit : goal.returns-then-not-process_mapped_fit
returns-then-not-process_mapped_fit c = let w = c.args.words.now in λ laid. every_fails (λ p q. all_fit (machine w) p) (machine w).processes 8 (processes_length w) _ (c.loop-i.invariant laid) c.loop-i-test.true no_process _ refl (sym (c.process_mapped_fit.ensures laid (spans_process (machine w) _ _ c.span_entries.ensures c.loop-i.i c.loop-i-test.true)) ∙ c.if-not-process_mapped_fit.true) ∙ all_fit_rules (machine w)

pub loop-i-preserved : goal.loop-i-preserved
loop-i-preserved c = let w = c.args.words.now in λ laid. every_more (λ p q. all_fit (machine w) p) (machine w).processes 8 (processes_length w) _ (c.loop-i.invariant laid) c.loop-i-test.true no_process _ refl (sym (c.process_mapped_fit.ensures laid (spans_process (machine w) _ _ c.span_entries.ensures c.loop-i.i c.loop-i-test.true)) ∙ c.if-not-process_mapped_fit.false)

pub returns : goal.returns
returns c = let w = c.args.words.now in λ laid. every_all (λ p q. all_fit (machine w) p) (machine w).processes 8 (processes_length w) _ (c.loop-i.invariant laid) c.loop-i-test.false ∙ all_fit_rules (machine w)
