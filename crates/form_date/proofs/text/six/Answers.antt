-- Its comma, then the six digits where the date is there.
use Rattle.form.proofs.Texts.{absent, present}
use Rattle.form_date.specs.Dates.{six_text}
use Rattle.form_date.proofs.text.six.Goals as goal

pub returns-then-d : goal.returns-then-d
returns-then-d c =
    present c.args.d.there c.if-d.true c.put-a.ensures c.put_six.ensures

pub returns : goal.returns
returns c =
    absent (six_text c.args.d.day c.args.d.month c.args.d.year) c.args.d.there c.if-d.false c.put-a.ensures
