-- `is_among` tells whether a page is one of some pages.
use borrow.Author.Tests.{lt-leb, le-leb}
use Rattle.sound_pages.proofs.mapped.is_among.Goals as goal

pub returns-then-page-first : goal.returns-then-page-first
returns-then-page-first c = rw (lt-leb c.args.first.0 c.args.page.0 c.if-page-first.true)

pub returns : goal.returns
returns c = rw (le-leb c.args.first.0 c.args.page.0 c.if-page-first.false)
