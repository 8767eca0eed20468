use native.Mathlib.Omega.{arith}
use Rattle.index.specs.Places.{Small}
use Rattle.index.proofs.Planning.{planning-as, planning-small}
use Rattle.index.proofs.writing.plan.Goals.{In-loop-number}
use Rattle.index.proofs.writing.plan.Goals as goal

-- The three numbers of a turn.
three : (c : In-loop-number) → Small c.args.entries.now c.loop-number.i c.loop-number.number c.loop-number.end
three c = c.is_small.ensures c.loop-number-test.true

pub loop-number-init : goal.loop-number-init
loop-number-init c = (omega arith, planning-as (omega arith) c.requires)

pub is_small-requires : goal.is_small-requires
is_small-requires c = c.loop-number.invariant.1.low

pub offset_bounds-entries-i : goal.offset_bounds-entries-i
offset_bounds-entries-i c = let q = three c in omega (arith, q.inside, c.well_formed.0.1)

pub bounds-entries-i : goal.bounds-entries-i
bounds-entries-i c = let q = three (goal.at.bounds-entries-i c).In-loop-number in omega (arith, q.inside)

pub overflow_add-end : goal.overflow_add-end
overflow_add-end c = let q = three (goal.at.overflow_add-end c).In-loop-number in omega (arith, q.inside, c.well_formed.0.0)

pub offset_bounds-entries-i-in-loop-number : goal.offset_bounds-entries-i-in-loop-number
offset_bounds-entries-i-in-loop-number c = let q = three (goal.at.offset_bounds-entries-i-in-loop-number c).In-loop-number in omega (arith, q.inside, c.well_formed.0.1)

pub bounds-entries-i-in-loop-number : goal.bounds-entries-i-in-loop-number
bounds-entries-i-in-loop-number c = let q = three (goal.at.bounds-entries-i-in-loop-number c).In-loop-number in omega (arith, q.inside)

pub overflow_add-end-in-loop-number : goal.overflow_add-end-in-loop-number
overflow_add-end-in-loop-number c = let q = three (goal.at.overflow_add-end-in-loop-number c).In-loop-number in omega (arith, q.inside, c.well_formed.0.0)

pub offset_bounds-entries-i-in-loop-number-2 : goal.offset_bounds-entries-i-in-loop-number-2
offset_bounds-entries-i-in-loop-number-2 c = let q = three (goal.at.offset_bounds-entries-i-in-loop-number-2 c).In-loop-number in omega (arith, q.inside, c.well_formed.0.1)

pub bounds-entries-i-in-loop-number-2 : goal.bounds-entries-i-in-loop-number-2
bounds-entries-i-in-loop-number-2 c = let q = three (goal.at.bounds-entries-i-in-loop-number-2 c).In-loop-number in omega (arith, q.inside)

pub overflow_add-end-in-loop-number-2 : goal.overflow_add-end-in-loop-number-2
overflow_add-end-in-loop-number-2 c = let q = three (goal.at.overflow_add-end-in-loop-number-2 c).In-loop-number in omega (arith, q.ends)

pub overflow_add-i : goal.overflow_add-i
overflow_add-i c = let q = three (goal.at.overflow_add-i c).In-loop-number in omega (
  arith,
  q.inside,
  c.well_formed.0.1,
)

pub loop-number-smaller : goal.loop-number-smaller
loop-number-smaller c = let q = three (goal.at.loop-number-smaller c).In-loop-number in omega (arith, q.inside)

pub loop-number-preserved : goal.loop-number-preserved
loop-number-preserved c = (
  omega (arith, c.loop-number.invariant.0),
  planning-as (omega (
    arith,
    c.loop-number.invariant.0,
  )) (planning-small c.loop-number.invariant.1 (three (goal.at.loop-number-preserved c).In-loop-number)),
)

pub overflow_sub-result : goal.overflow_sub-result
overflow_sub-result c = c.loop-number.invariant.0

pub overflow_add-result : goal.overflow_add-result
overflow_add-result c = omega (
  arith,
  c.loop-number.invariant.1.few,
  c.loop-number.invariant.1.low.inside,
  c.well_formed.0.1,
)

pub returns : goal.returns
returns c = record {
  planning = c.loop-number.invariant.1;
  at_le_at = c.loop-number.invariant.0;
}
