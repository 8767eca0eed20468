-- Its comma, then the text where the value is there.
use Rattle.form.proofs.Texts.{absent, present}
use mathlib.Core.List.{[], ◌∷◌}
use Rattle.form.proofs.text.unit.Goals as goal

pub returns-then-there : goal.returns-then-there
returns-then-there c =
    present c.args.there c.if-there.true c.put-a.ensures c.put.ensures

pub returns : goal.returns
returns c =
    absent (c.args.b ∷ []) c.args.there c.if-there.false c.put-a.ensures
