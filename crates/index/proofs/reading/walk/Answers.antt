use Prim.Native.Nat.{◌+◌}
use native.Mathlib.Omega.{arith}
use Rattle.index.proofs.Places.{Entered, entered, entered-short, entered-bad}
use Rattle.index.proofs.Passing.{placed}
use Rattle.index.proofs.Walking.{Walking, walking_start, walking-next, walking_on, starts-next, walked_none, walked_all}
use Rattle.index.proofs.reading.walk.Goals as goal

pub loop-place-init : goal.loop-place-init
loop-place-init c = rw (c.finding-best.ensures, c.origin.ensures) (walking_start c.args.s.now c.args.number)

pub overflow_add-behind : goal.overflow_add-behind
overflow_add-behind c = omega (
  arith,
  c.loop-place.invariant.few,
  c.loop-place-test.true,
)

pub pass-place-requires : goal.pass-place-requires
pass-place-requires c =
    let came : Entered c.args.s.now c.loop-place.place.at c.loop-place.place.last
    c.in-Is.e c.in-Is.a =
    entered c.args.s.now c.loop-place.place.at c.loop-place.place.last c.entry_at-next.ensures c.in-Is.is in
    starts-next c.loop-place.invariant (came)

pub loop-place-smaller : goal.loop-place-smaller
loop-place-smaller c =
    let came : Entered c.args.s.now c.loop-place.place.at c.loop-place.place.last
    c.in-Is.e c.in-Is.a =
    entered c.args.s.now c.loop-place.place.at c.loop-place.place.last c.entry_at-next.ensures c.in-Is.is in
    let x = came in omega (arith, x.on, c.pass-place.ensures.on, c.pass-place.ensures.inside)

pub loop-place-preserved : goal.loop-place-preserved
loop-place-preserved c =
    let came : Entered c.args.s.now c.loop-place.place.at c.loop-place.place.last
    c.in-Is.e c.in-Is.a =
    entered c.args.s.now c.loop-place.place.at c.loop-place.place.last c.entry_at-next.ensures c.in-Is.is in
    let w : Walking c.args.s.now c.args.number c.found_next-best.result
    (placed c.in-Is.a (c.loop-place.place.count + 1) c.in-Is.e) =
    rw c.found_next-best.ensures (walking-next c.loop-place.invariant (came)) in
    walking_on w c.pass-place.ensures

pub returns-in-Short : goal.returns-in-Short
returns-in-Short c = walked_none c.loop-place.invariant c.no_index.ensures
    (entered-short c.args.s.now c.loop-place.place.at c.loop-place.place.last c.loop-place-test.true c.entry_at-next.ensures c.in-Short.is)

pub returns-in-Bad : goal.returns-in-Bad
returns-in-Bad c = walked_none c.loop-place.invariant c.no_index-in-Bad.ensures
    (entered-bad c.args.s.now c.loop-place.place.at c.loop-place.place.last
    c.entry_at-next.ensures c.in-Bad.is)

pub returns : goal.returns
returns c = walked_all c.loop-place.invariant c.whole.ensures c.loop-place-test.false
