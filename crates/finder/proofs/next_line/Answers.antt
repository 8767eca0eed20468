use mathlib.Core.Path.{◌∙◌, ◌≡◌, sym}
use native.Mathlib.Omega.{arith}
use lib.ListN.{get_or}
use Rattle.finder.specs.Slice.{found_at}
use Rattle.finder.proofs.Laws.{found-end}
use Rattle.finder.proofs.Until.{held_low, ended-le, reach-le, more, within, plain, plain-within, line_at}
use Rattle.finder.proofs.next_line.Goals as goal

pub loop-i-init : goal.loop-i-init
unfolding found_at
loop-i-init c = let z = held_low 0 c.args.at (omega arith) in (omega arith, omega arith, omega arith, rw z)

pub loop-i-preserved-then-b-gt36 : goal.loop-i-preserved-then-b-gt36
loop-i-preserved-then-b-gt36 c = (
  omega arith,
  omega arith,
  plain-within c.loop-i.until c.loop-i.i c.args.s.now (omega arith) c.loop-i.invariant.1 c.if-b-gt36.true c.loop-i.invariant.2,
  c.loop-i.invariant.3 ∙ plain c.loop-i.until c.loop-i.i c.args.s.now (omega arith) c.loop-i.invariant.1 c.if-b-gt36.true,
)

pub overflow_sub-result : goal.overflow_sub-result
overflow_sub-result c =
    omega (arith, c.ended_in-n.ensures, c.loop-i.invariant.2, ended-le c.loop-i.until c.loop-i.i c.loop-i.invariant.1 (get_or c.args.s.now c.loop-i.i 0))

pub returns-then-n-gt0 : goal.returns-then-n-gt0
returns-then-n-gt0 c =
    line_at c.loop-i.until c.loop-i.i _ (omega arith) c.loop-i.invariant.1 _ c.ended_in-n.ensures c.if-n-gt0.true ∙ sym c.loop-i.invariant.3

pub loop-i-preserved : goal.loop-i-preserved
loop-i-preserved c =
    let z = rw c.ended_in-n.ensures at c.if-n-gt0.false in
    rw c.reach-until.ensures (
      omega arith,
      reach-le c.loop-i.until c.loop-i.i c.loop-i.invariant.1 (get_or c.args.s.now c.loop-i.i 0),
      within c.loop-i.until c.loop-i.i c.args.s.now (omega arith) c.loop-i.invariant.1 z c.loop-i.invariant.2,
      c.loop-i.invariant.3 ∙ more c.loop-i.until c.loop-i.i c.args.s.now (omega arith) c.loop-i.invariant.1 z,
    )

pub overflow_sub-result-2 : goal.overflow_sub-result-2
overflow_sub-result-2 c =
    let e : c.max-end.result ≡ c.loop-i.i = omega arith in
    rw (c.held_in.ensures, e) c.loop-i.invariant.2

pub returns : goal.returns
returns c =
    let e : c.max-end.result ≡ c.loop-i.i = omega arith in
    rw (c.held_in.ensures, e) (found-end _ _ _ c.loop-i-test.false ∙ sym c.loop-i.invariant.3)
