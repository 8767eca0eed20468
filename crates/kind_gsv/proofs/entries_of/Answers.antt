-- `entries_of` meets its contract: its tests are those of the definition, in order.
use borrow.Author.Tests.{eq-eqb, ne_eqb}
use Rattle.kind_gsv.specs.Row.{entries_of}
use Rattle.kind_gsv.proofs.entries_of.Goals as goal

pub returns-then-n-eq3 : goal.returns-then-n-eq3
unfolding entries_of
returns-then-n-eq3 c = rw (eq-eqb _ _ c.if-n-eq3.true)

pub returns-then-n-eq7 : goal.returns-then-n-eq7
unfolding entries_of
returns-then-n-eq7 c = rw (ne_eqb _ _ c.if-n-eq3.false, eq-eqb _ _ c.if-n-eq7.true)

pub returns-then-n-eq11 : goal.returns-then-n-eq11
unfolding entries_of
returns-then-n-eq11 c = rw (ne_eqb _ _ c.if-n-eq3.false, ne_eqb _ _ c.if-n-eq7.false, eq-eqb _ _ c.if-n-eq11.true)

pub returns-then-n-eq15 : goal.returns-then-n-eq15
unfolding entries_of
returns-then-n-eq15 c =
    rw (ne_eqb _ _ c.if-n-eq3.false, ne_eqb _ _ c.if-n-eq7.false, ne_eqb _ _ c.if-n-eq11.false, eq-eqb _ _ c.if-n-eq15.true)

pub returns-then-n-eq19 : goal.returns-then-n-eq19
unfolding entries_of
returns-then-n-eq19 c =
    rw (ne_eqb _ _ c.if-n-eq3.false, ne_eqb _ _ c.if-n-eq7.false, ne_eqb _ _ c.if-n-eq11.false, ne_eqb _ _ c.if-n-eq15.false)
    (rw (eq-eqb _ _ c.if-n-eq19.true))

pub returns : goal.returns
unfolding entries_of
returns c =
    rw (ne_eqb _ _ c.if-n-eq3.false, ne_eqb _ _ c.if-n-eq7.false, ne_eqb _ _ c.if-n-eq11.false, ne_eqb _ _ c.if-n-eq15.false)
    (rw (ne_eqb _ _ c.if-n-eq19.false))
