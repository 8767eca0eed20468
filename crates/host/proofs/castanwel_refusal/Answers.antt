-- `castanwel_refusal` meets its contract: who lends room for every record is told the refusal of the line.
use mathlib.Core.Path.{◌∙◌, ap, refl}
use lib.IntN.{pos}
use lib.ListN.{replicate}
use Rattle.numbers.specs.declared.Told.{Told}
use Rattle.sentence_laws.proofs.Told.{told-refusal}
use Rattle.host.specs.Answer.{single_line}
use Rattle.host.proofs.castanwel_refusal.Goals as goal

pub returns : goal.returns
returns c =
    let q = told-refusal c.args.line.now (replicate 33 (pos 0)) refl in
    let number = ap (λ (x : Told). x.no) c.read-told.ensures.value ∙ q.0 in
    record {
      value = number;
      at_line_after = c.single_line.ensures ∙ ap single_line number;
      field_after = ap (λ (x : Told). x.field) c.read-told.ensures.value ∙ q.1;
    }
