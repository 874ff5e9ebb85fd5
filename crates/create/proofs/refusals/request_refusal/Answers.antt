-- `request_refusal`: one law for each test that decides.
use mathlib.Core.Path.{sym, ◌∙◌}
use Rattle.model.specs.Layout.{machine}
use Rattle.create.specs.RequestRefusedLaws.{request_closed, request_start, request_range, request_flags, request_file, request_fine}
use Rattle.create.proofs.refusals.request_refusal.Goals as goal

pub returns-then-not-is_open : goal.returns-then-not-is_open
returns-then-not-is_open c = let a = c.args in request_closed (machine a.words.now) a.process a.place a.region (sym c.is_open.ensures ∙ c.if-not-is_open.true)

pub returns-then-is_bad_start : goal.returns-then-is_bad_start
returns-then-is_bad_start c = let a = c.args in request_start (machine a.words.now) a.process a.place a.region (sym c.is_open.ensures ∙ c.if-not-is_open.false) (sym c.is_bad_start.ensures ∙ c.if-is_bad_start.true)

pub returns-then-is_bad_range : goal.returns-then-is_bad_range
returns-then-is_bad_range c = let a = c.args in request_range (machine a.words.now) a.process a.place a.region (sym c.is_open.ensures ∙ c.if-not-is_open.false) (sym c.is_bad_start.ensures ∙ c.if-is_bad_start.false) (sym c.is_bad_range.ensures ∙ c.if-is_bad_range.true)

pub returns-then-has_bad_flags : goal.returns-then-has_bad_flags
returns-then-has_bad_flags c = let a = c.args in request_flags (machine a.words.now) a.process a.place a.region (sym c.is_open.ensures ∙ c.if-not-is_open.false) (sym c.is_bad_start.ensures ∙ c.if-is_bad_start.false) (sym c.is_bad_range.ensures ∙ c.if-is_bad_range.false) (sym c.has_bad_flags.ensures ∙ c.if-has_bad_flags.true)

pub returns-then-names_no_file : goal.returns-then-names_no_file
returns-then-names_no_file c = let a = c.args in request_file (machine a.words.now) a.process a.place a.region (sym c.is_open.ensures ∙ c.if-not-is_open.false) (sym c.is_bad_start.ensures ∙ c.if-is_bad_start.false) (sym c.is_bad_range.ensures ∙ c.if-is_bad_range.false) (sym c.has_bad_flags.ensures ∙ c.if-has_bad_flags.false) (sym c.names_no_file.ensures ∙ c.if-names_no_file.true)

pub returns : goal.returns
returns c = let a = c.args in request_fine (machine a.words.now) a.process a.place a.region (sym c.is_open.ensures ∙ c.if-not-is_open.false) (sym c.is_bad_start.ensures ∙ c.if-is_bad_start.false) (sym c.is_bad_range.ensures ∙ c.if-is_bad_range.false) (sym c.has_bad_flags.ensures ∙ c.if-has_bad_flags.false) (sym c.names_no_file.ensures ∙ c.if-names_no_file.false)
