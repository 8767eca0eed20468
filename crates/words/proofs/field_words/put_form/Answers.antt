-- The text of that letter, by its place among the letters.
use Rattle.words.specs.Fields.{form_words}
use Rattle.words.proofs.field_words.put_form.Goals as goal

pub returns : goal.returns
unfolding form_words
returns c =
    rw (c.nth_of.ensures, c.find.ensures) at c.put_bytes.ensures
