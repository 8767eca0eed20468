-- A refused line and one of another kind say nothing; the numbers of a GSV are its record.
use mathlib.Core.List.{List}
use mathlib.Core.Path.{◌∙◌, ap, refl, sym}
use lib.IntN.{pos, ℤ}
use lib.ListN.{replicate}
use Rattle.std.specs.Prelude.{Option, Some}
use Rattle.kind_gsv.specs.declared.Gsv.{Gsv}
use Rattle.sentence.specs.Lines.{read_line}
use Rattle.sentence_laws.proofs.Told.{line-gsv, line-kind, line_refused}
use Rattle.runs.specs.declared.Says.{Says}
use Rattle.runs.specs.Runs.{says_of}
use Rattle.runs.proofs.Steps.{says_other}
use Rattle.runs.proofs.said_by.Goals.{then-told-ne0-via-then-told-ne0, then-told-ne0-via-else-told-ne0+then-told-ne4}
use Rattle.runs.proofs.said_by.Goals as goal

-- The numbers that are lent to the line's reader.
abbrev zeros : List ℤ
zeros = replicate 33 (pos 0)

abbrev said : Gsv → Option Says
said v = Some (record { number = v.line; last = v.lines })

pub returns-then-told-ne0 : goal.returns-then-told-ne0
returns-then-told-ne0 c =
    elim c.then-told-ne0.branch [
      | then-told-ne0-via-then-told-ne0 w ↦ sym (ap says_of (line_refused c.args.line.now zeros refl c.read-told.result _ (c.read-told.ensures.value, c.read-told.ensures.numbers_after) w.if-told-ne0.true))
      | then-told-ne0-via-else-told-ne0+then-told-ne4 w ↦
          let kind = line-kind c.args.line.now zeros refl c.read-told.result _ (c.read-told.ensures.value, c.read-told.ensures.numbers_after) w.if-told-ne0.false in
          says_other (read_line c.args.line.now) (λ q. w.if-told-ne4.true (kind.0 ∙ q))
    ]

pub returns : goal.returns
returns c =
    ap said c.at-gsv.ensures
    ∙ sym (ap says_of (line-gsv c.args.line.now zeros refl c.read-told.result _ (c.read-told.ensures.value, c.read-told.ensures.numbers_after) c.if-told-ne0.false c.if-told-ne4.false))
