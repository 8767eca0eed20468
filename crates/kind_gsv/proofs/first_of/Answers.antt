-- `first_of` meets its contract: its tests are those of the definition, in order.
use borrow.Author.Tests.{eq-eqb, ne_eqb}
use Rattle.kind_gsv.specs.Row.{first_of}
use Rattle.kind_gsv.proofs.first_of.Goals as goal

pub returns-then-a-ne0 : goal.returns-then-a-ne0
unfolding first_of
returns-then-a-ne0 c = rw (ne_eqb _ _ c.if-a-ne0.true)

pub returns-then-b-ne0 : goal.returns-then-b-ne0
unfolding first_of
returns-then-b-ne0 c = rw (eq-eqb _ _ c.if-a-ne0.false, ne_eqb _ _ c.if-b-ne0.true)

pub returns-then-c-ne0 : goal.returns-then-c-ne0
unfolding first_of
returns-then-c-ne0 c = rw (eq-eqb _ _ c.if-a-ne0.false, eq-eqb _ _ c.if-b-ne0.false, ne_eqb _ _ c.if-c-ne0.true)

pub returns-then-d-ne0 : goal.returns-then-d-ne0
unfolding first_of
returns-then-d-ne0 c =
    rw (eq-eqb _ _ c.if-a-ne0.false, eq-eqb _ _ c.if-b-ne0.false, eq-eqb _ _ c.if-c-ne0.false, ne_eqb _ _ c.if-d-ne0.true)

pub returns : goal.returns
unfolding first_of
returns c =
    rw (eq-eqb _ _ c.if-a-ne0.false, eq-eqb _ _ c.if-b-ne0.false, eq-eqb _ _ c.if-c-ne0.false, eq-eqb _ _ c.if-d-ne0.false)
