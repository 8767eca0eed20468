-- By whether the letter is a capital.
use borrow.Author.Tests.{lt-ltb, le-ltb}
use Rattle.words.specs.Forms.{marks_of}
use Rattle.words.proofs.form_words.marks.Goals as goal

pub returns-then-f-lt97 : goal.returns-then-f-lt97
unfolding marks_of
returns-then-f-lt97 c = rw (lt-ltb _ _ c.if-f-lt97.true)

pub returns-else-f-lt97 : goal.returns-else-f-lt97
unfolding marks_of
returns-else-f-lt97 c = rw (le-ltb _ _ c.if-f-lt97.false)
