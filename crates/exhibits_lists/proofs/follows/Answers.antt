use borrow.Author.Tests.{eq-eqb, le-leb, lt-leb, ne_eqb}
use Rattle.exhibits_lists.specs.Lists.{follows_of}
use Rattle.exhibits_lists.proofs.follows.Goals as goal

pub returns-then-exhibit-eq0 : goal.returns-then-exhibit-eq0
unfolding follows_of
returns-then-exhibit-eq0 c = rw (eq-eqb _ _ c.if-exhibit-eq0.true)

pub returns-then-line-eq0 : goal.returns-then-line-eq0
unfolding follows_of
returns-then-line-eq0 c = rw (ne_eqb _ _ c.if-exhibit-eq0.false, eq-eqb _ _ c.if-line-eq0.true)

pub returns-then-exhibit-last : goal.returns-then-exhibit-last
unfolding follows_of
returns-then-exhibit-last c = rw (ne_eqb _ _ c.if-exhibit-eq0.false, ne_eqb _ _ c.if-line-eq0.false, le-leb _ _ c.if-exhibit-last.true)

pub returns-then-line-above : goal.returns-then-line-above
unfolding follows_of
returns-then-line-above c = rw (ne_eqb _ _ c.if-exhibit-eq0.false, ne_eqb _ _ c.if-line-eq0.false)
    (rw (lt-leb _ _ c.if-exhibit-last.false, le-leb _ _ c.if-line-above.true))

pub returns : goal.returns
unfolding follows_of
returns c = rw (ne_eqb _ _ c.if-exhibit-eq0.false, ne_eqb _ _ c.if-line-eq0.false)
    (rw (lt-leb _ _ c.if-exhibit-last.false, lt-leb _ _ c.if-line-above.false))
