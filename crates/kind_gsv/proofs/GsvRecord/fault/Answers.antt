-- The tests in their order.
use mathlib.Core.Path.{◌∙◌}
use borrow.Author.Tests.{eq-eqb, le-ltb, lt-ltb, ne_eqb}
use Rattle.frame.specs.Written.{fault_at}
use Rattle.kind_gsv.specs.Writing.{gsv_fault}
use Rattle.kind_gsv.proofs.GsvRecord.fault.Goals as goal

pub returns-then-self-gt4 : goal.returns-then-self-gt4
unfolding gsv_fault
returns-then-self-gt4 c = c.refuse.ensures ∙ rw (lt-ltb _ _ c.if-self-gt4.true)

pub returns-then-wrong-ne0 : goal.returns-then-wrong-ne0
unfolding gsv_fault
returns-then-wrong-ne0 c =
    c.refuse-then-wrong-ne0.ensures ∙ rw (le-ltb _ _ c.if-self-gt4.false, ← c.wrong-wrong.ensures, ne_eqb _ _ c.if-wrong-ne0.true)

pub returns-then-rest_blank : goal.returns-then-rest_blank
unfolding gsv_fault fault_at
returns-then-rest_blank c =
    c.fault.ensures ∙ rw (le-ltb _ _ c.if-self-gt4.false, ← c.wrong-wrong.ensures, eq-eqb _ _ c.if-wrong-ne0.false, ← c.rest_blank.ensures)
    (rw c.if-rest_blank.true)

pub returns : goal.returns
unfolding gsv_fault
returns c =
    c.refuse-2.ensures ∙ rw (le-ltb _ _ c.if-self-gt4.false, ← c.wrong-wrong.ensures, eq-eqb _ _ c.if-wrong-ne0.false, ← c.rest_blank.ensures)
    (rw c.if-rest_blank.false)
