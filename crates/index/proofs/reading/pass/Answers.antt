use native.Mathlib.Omega.{arith}
use Rattle.index.specs.Index.{end_of}
use Rattle.index.proofs.Passing.{placed, ending, passes-start, passes-from, pass-next}
use Rattle.index.proofs.reading.pass.Goals as goal

pub overflow_add-end : goal.overflow_add-end
overflow_add-end c = omega (arith, c.requires.low.ends)

pub loop-bytes-init : goal.loop-bytes-init
loop-bytes-init c = (
  c.requires.low,
  (
    omega arith,
    passes-start c.args.s.now c.args.wanted (placed c.args.from.at c.args.from.count (ending c.args.from.last.number
        (end_of c.args.from.last) c.args.from.last.length)) c.requires.low.inside c.requires.few,
  ),
)

pub is_quick-requires : goal.is_quick-requires
is_quick-requires c = c.loop-bytes.invariant.0

pub overflow_add-bytes : goal.overflow_add-bytes
overflow_add-bytes c = let q = c.is_quick.ensures c.loop-bytes-test.true in omega (arith, q.inside)

pub bounds-s-at : goal.bounds-s-at
bounds-s-at c = let q = c.is_quick.ensures c.loop-bytes-test.true in omega (arith, q.inside)

pub overflow_cast-bytes : goal.overflow_cast-bytes
overflow_cast-bytes c = let q = c.is_quick.ensures c.loop-bytes-test.true in omega (arith, q.longest)

pub bounds-s-at-in-loop-bytes : goal.bounds-s-at-in-loop-bytes
bounds-s-at-in-loop-bytes c = let q = c.is_quick.ensures c.loop-bytes-test.true in omega (
  arith,
  q.inside,
)

pub overflow_cast-number : goal.overflow_cast-number
overflow_cast-number c = let q = c.is_quick.ensures c.loop-bytes-test.true in omega (arith, q.first)

pub overflow_add-number : goal.overflow_add-number
overflow_add-number c = let q = c.is_quick.ensures c.loop-bytes-test.true in omega (arith, q.numbered)

pub overflow_add-end-in-loop-bytes : goal.overflow_add-end-in-loop-bytes
overflow_add-end-in-loop-bytes c = let q = c.is_quick.ensures c.loop-bytes-test.true in omega (arith, q.inside)

pub bounds-s-at-in-loop-bytes-2 : goal.bounds-s-at-in-loop-bytes-2
bounds-s-at-in-loop-bytes-2 c = let q = c.is_quick.ensures c.loop-bytes-test.true in omega
    (arith, q.inside)

pub overflow_cast-end : goal.overflow_cast-end
overflow_cast-end c = let q = c.is_quick.ensures c.loop-bytes-test.true in omega (
  arith,
  q.second,
)

pub overflow_add-end-in-loop-bytes-2 : goal.overflow_add-end-in-loop-bytes-2
overflow_add-end-in-loop-bytes-2 c = let q = c.is_quick.ensures c.loop-bytes-test.true in omega (arith, q.ends)

pub overflow_add-end-in-loop-bytes-3 : goal.overflow_add-end-in-loop-bytes-3
overflow_add-end-in-loop-bytes-3 c = let q = c.is_quick.ensures c.loop-bytes-test.true in omega (arith, q.ends)

pub overflow_add-at : goal.overflow_add-at
overflow_add-at c = let q = c.is_quick.ensures c.loop-bytes-test.true in omega (arith, q.inside)

pub overflow_add-count : goal.overflow_add-count
overflow_add-count c = let q = c.is_quick.ensures c.loop-bytes-test.true in omega (
  arith,
  q.inside,
  c.loop-bytes.invariant.1.1.few,
)

pub loop-bytes-smaller : goal.loop-bytes-smaller
loop-bytes-smaller c = let q = c.is_quick.ensures c.loop-bytes-test.true in omega (
  arith,
  q.inside,
)

pub loop-bytes-preserved : goal.loop-bytes-preserved
loop-bytes-preserved c = let q = c.is_quick.ensures c.loop-bytes-test.true in (
  record { inside = q.inside; numbered = q.numbered; ends = omega (arith, q.ends) },
  (
    omega arith,
    pass-next c.loop-bytes.invariant.1.1 c.loop-bytes.invariant.1.0 q,
  ),
)

pub overflow_sub-last : goal.overflow_sub-last
overflow_sub-last c = c.loop-bytes.invariant.1.0

pub returns : goal.returns
returns c = passes-from c.args.from c.loop-bytes.invariant.1.1
