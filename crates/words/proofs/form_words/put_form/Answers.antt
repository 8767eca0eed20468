-- By whether the letter is one of the measures.
use borrow.Author.Tests.{lt-ltb, le-ltb}
use Rattle.words.specs.Forms.{form_text}
use Rattle.words.proofs.form_words.put_form.Goals as goal

pub returns-then-find-lt8 : goal.returns-then-find-lt8
unfolding form_text
returns-then-find-lt8 c =
    rw (← c.find.ensures, lt-ltb _ _ c.if-find-lt8.true) c.put_measure.ensures

pub returns : goal.returns
unfolding form_text
returns c =
    rw (← c.find.ensures, le-ltb _ _ c.if-find-lt8.false) (rw c.whole_at.ensures at c.put_code.ensures)
