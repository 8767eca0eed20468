-- The rows of what the line came to: the numbers have room for every record.
use mathlib.Core.Path.{◌∙◌, ap, refl}
use lib.IntN.{pos}
use lib.ListN.{replicate}
use Prim.Native.Nat.{ℕ}
use Rattle.put.proofs.Chain.{as-text}
use Rattle.sentence.specs.Lines.{read_line}
use Rattle.numbers.specs.declared.Told.{Told}
use Rattle.tally.specs.Tally.{plus}
use Rattle.rows_words.specs.Worded.{told_worded}
use Rattle.rows_words.proofs.Whole.{worded-is}
use Rattle.listing.proofs.worded.list_line.Goals as goal

pub returns-clause-puts : goal.returns-clause-puts
returns-clause-puts c =
    let line = c.args.line.now in let offset = c.args.beside.bytes in let row = plus c.args.beside.rows 1 in
    let zeros = replicate 33 (pos 0) in
    as-text (ap (λ (k : ℕ). told_worded offset k c.args.number line c.read-told.result) c.next-row.ensures
    ∙ (ap (λ (t : Told). told_worded offset row c.args.number line t) c.read-told.ensures.value
    ∙ worded-is offset row c.args.number line (read_line line) zeros refl)) c.put_told.ensures
