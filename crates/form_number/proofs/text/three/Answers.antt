-- Its comma, then the text where the value is there.
use Rattle.form.proofs.Texts.{absent, present}
use Rattle.digits.specs.Decimal.{print_fixed}
use Rattle.form_number.proofs.text.three.Goals as goal

pub returns-then-m : goal.returns-then-m
returns-then-m g c =
    rw (← c.sent-m.ensures) (present c.sent-m.result.there c.if-m.true c.put-a.ensures c.put_three.ensures)

pub returns : goal.returns
returns g c =
    rw (← c.sent-m.ensures) (absent (print_fixed 3 c.sent-m.result.value) c.sent-m.result.there c.if-m.false c.put-a.ensures)
