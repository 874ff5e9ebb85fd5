-- `copy_bare`: a page with an entry is passed, another copied.
use Rattle.model.specs.Layout.{machine}
use Rattle.clone_copy.specs.CopyPageLaws.{shadowed, bare}
use Rattle.clone_copy.proofs.copy_bare.Goals as goal

pub returns-then-is_shadowed : goal.returns-then-is_shadowed
returns-then-is_shadowed c =
    let from = c.args in let the = shadowed (machine from.words.now) _ from.src from.row from.page.0 from.from.0 _ c.is_shadowed.ensures c.if-is_shadowed.true in record { words_after = the.0; frames_after = the.1 }

pub returns : goal.returns
returns c =
    let from = c.args in let the = bare (machine from.words.now) _ from.src from.row from.page.0 from.from.0 _ c.is_shadowed.ensures c.if-is_shadowed.false _ c.copy_entry.ensures.words_after _ c.copy_entry.ensures.frames_after in record { words_after = the.0; frames_after = the.1 }
