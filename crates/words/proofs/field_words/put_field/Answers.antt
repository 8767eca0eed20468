-- The name that stands before the `%`, then the form of the letter behind it.
use mathlib.Core.Path.{◌∙◌, ap}
use Rattle.put.proofs.Chain.{◌⨾◌}
use Rattle.words.specs.Nth.{nth}
use Rattle.words.specs.Fields.{field_text}
use Rattle.words.proofs.field_words.put_field.Goals as goal

pub returns : goal.returns
unfolding field_text
returns c =
    let e = c.nth_of-entry.ensures ∙ ap (nth 124 c.args.field) c.nth_of.ensures in
    (rw (c.nth_of-2.ensures, e) at c.put_bytes-a.ensures)
    ⨾ (rw (c.first.ensures, c.nth_of-3.ensures, e) at c.put_form.ensures)
