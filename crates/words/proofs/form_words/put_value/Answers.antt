-- The form of the numbers behind the mark, or `not sent`.
use mathlib.Core.Path.{◌∙◌}
use Rattle.words.specs.Forms.{value_text}
use Rattle.words.proofs.FormLaws.{part-is}
use Rattle.words.proofs.form_words.put_value.Goals as goal

pub returns-then-is_sent : goal.returns-then-is_sent
unfolding value_text
returns-then-is_sent c =
    let rest = part-is c.args.numbers.now c.past-i.result ∙ (rw c.marks.ensures at c.past-i.ensures.1) in
    rw (← c.is_sent.ensures, c.if-is_sent.true) (rw (c.small.ensures, rest) at c.put_form.ensures)

pub returns : goal.returns
unfolding value_text
returns c =
    rw (← c.is_sent.ensures, c.if-is_sent.false) c.put_bytes.ensures
