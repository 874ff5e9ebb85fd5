-- The answers for `files_fit`.
use mathlib.Core.Path.{ap, ◌∙◌, sym}
use Prim.Native.Nat.{ℕ}
use Rattle.model.specs.Layout.{machine}
use Rattle.model.specs.Machine.{no_file}
use Rattle.laws.specs.LoopLaws.{every_first, every_fails, every_more, every_all}
use Rattle.sound_rows.specs.Sizes.{file_fits_in}
use Rattle.lookup.specs.LookupsLaws.{files_length}
use Rattle.sound_rows.proofs.sizes.files_fit.Goals as goal

pub loop-i-init : goal.loop-i-init
loop-i-init c = let w = c.args.words.now in every_first (file_fits_in (machine w).file_count c.args.bytes) (machine w).files 8 (files_length w)

pub returns-then-not-file_fits : goal.returns-then-not-file_fits
returns-then-not-file_fits c = let w = c.args.words.now in every_fails (file_fits_in (machine w).file_count c.args.bytes) (machine w).files 8 (files_length w) _ c.loop-i.invariant c.loop-i-test.true no_file _ c.file_at-row.ensures (sym (c.file_fits.ensures ∙ ap (λ (n : ℕ). file_fits_in n c.args.bytes c.loop-i.i c.file_at-row.result) c.file_count-count.ensures) ∙ c.if-not-file_fits.true)

pub loop-i-preserved : goal.loop-i-preserved
loop-i-preserved c = let w = c.args.words.now in every_more (file_fits_in (machine w).file_count c.args.bytes) (machine w).files 8 (files_length w) _ c.loop-i.invariant c.loop-i-test.true no_file _ c.file_at-row.ensures (sym (c.file_fits.ensures ∙ ap (λ (n : ℕ). file_fits_in n c.args.bytes c.loop-i.i c.file_at-row.result) c.file_count-count.ensures) ∙ c.if-not-file_fits.false)

pub returns : goal.returns
returns c = let w = c.args.words.now in every_all (file_fits_in (machine w).file_count c.args.bytes) (machine w).files 8 (files_length w) _ c.loop-i.invariant c.loop-i-test.false
