-- Each return's facts say which case of the step it is.
use native.Mathlib.Omega.{arith}
use Rattle.finder.proofs.Laws.{feed-dollar, feed-none, feed-over, feed-lf, feed-full, feed-more}
use Rattle.finder.proofs.feed.Goals.{then-held-lt1-via-then-held-lt1, then-held-lt1-via-else-held-lt1+then-held-gt81}
use Rattle.finder.proofs.feed.Goals as goal

pub returns-then-b-eq36 : goal.returns-then-b-eq36
returns-then-b-eq36 c = feed-dollar _ _ c.if-b-eq36.true

pub returns-then-held-lt1 : goal.returns-then-held-lt1
returns-then-held-lt1 c = elim c.then-held-lt1.branch [
  | then-held-lt1-via-then-held-lt1 w ↦ feed-none _ _ c.if-b-eq36.false (omega arith)
  | then-held-lt1-via-else-held-lt1+then-held-gt81 w ↦ feed-over _ _ c.if-b-eq36.false (omega arith)
]

pub returns-then-b-eq10 : goal.returns-then-b-eq10
returns-then-b-eq10 c = feed-lf _ _ c.if-b-eq36.false (omega arith) (omega arith) c.if-b-eq10.true

pub returns-then-held-eq81 : goal.returns-then-held-eq81
returns-then-held-eq81 c = feed-full _ _ c.if-b-eq36.false c.if-b-eq10.false (omega arith)

pub returns : goal.returns
returns c = feed-more _ _ c.if-b-eq36.false c.if-b-eq10.false (omega arith) (omega arith)
