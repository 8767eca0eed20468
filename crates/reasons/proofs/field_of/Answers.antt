-- The part of the line that the field is.
use Rattle.fields.proofs.FieldParts.{field-holds}
use Rattle.reasons.proofs.field_of.Goals as goal

pub slice_bounds-result-end : goal.slice_bounds-result-end
slice_bounds-result-end c = rw c.field_at-f.ensures (field-holds c.args.line.now c.args.n).inside

pub returns : goal.returns
returns c =
    rw c.field_at-f.ensures (field-holds c.args.line.now c.args.n).holds
