-- The row of what the line came to: the numbers have room for every record.
use mathlib.Core.List.{List}
use mathlib.Core.Path.{◌∙◌, ap, refl}
use lib.IntN.{pos, ℤ}
use lib.ListN.{replicate}
use Rattle.put.proofs.Chain.{as-text}
use Rattle.sentence.specs.Lines.{read_line}
use Rattle.numbers.specs.declared.Told.{Told}
use Rattle.sentence.specs.ToHost.{told_for}
use Rattle.rows.specs.Row.{told_row}
use Rattle.rows.proofs.Whole.{row_is}
use Rattle.listing.proofs.list_line.Goals as goal

pub returns : goal.returns
returns c =
    let zeros = replicate 33 (pos 0) in
    let line = c.args.line.now in
    as-text (ap (λ (t : Told). told_row c.args.number line t c.read-told.new.numbers c.args.dumps) c.read-told.ensures.value
    ∙ (ap (λ (l : List ℤ). told_row c.args.number line (told_for (read_line line) zeros) l c.args.dumps) c.read-told.ensures.numbers_after
    ∙ row_is c.args.number line (read_line line) zeros c.args.dumps refl)) c.put_row.ensures
