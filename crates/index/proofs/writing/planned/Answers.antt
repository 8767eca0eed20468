use mathlib.Core.Path.{◌∙◌, ◌≡◌, sym}
use mathlib.Core.Bool.{true}
use native.Mathlib.Omega.{arith}
use Rattle.index.specs.Index.{fits}
use Rattle.index.specs.Places.{tip}
use Rattle.index.proofs.Ranges.{fits-is}
use Rattle.index.proofs.Planning.{entry-most, planned-all, planned-full, planned-threes, planned-unfit, planning-next}
use Rattle.index.proofs.Planning.{planning-start}
use Rattle.index.proofs.writing.planned.Goals as goal

pub loop-reached-init : goal.loop-reached-init
loop-reached-init c = planning-start c.args.entries.now

pub overflow_sub-entries : goal.overflow_sub-entries
overflow_sub-entries c = c.loop-reached.invariant.low.inside

pub three-e-requires : goal.three-e-requires
three-e-requires c = omega (arith, c.loop-reached.invariant.low.inside, c.loop-reached-test.true)

pub returns-then-not-fits : goal.returns-then-not-fits
returns-then-not-fits c = c.refuse.ensures ∙ planned-unfit c.loop-reached.invariant (omega (arith, c.loop-reached.invariant.low.inside, c.loop-reached-test.true)) c.three-e.ensures
    (sym c.fits.ensures ∙ c.if-not-fits.true) c.args.room

pub overflow_add-behind : goal.overflow_add-behind
overflow_add-behind c = omega (
  arith,
  c.loop-reached-test.true,
  c.well_formed.0.1,
)

pub overflow_add-behind-in-loop-reached : goal.overflow_add-behind-in-loop-reached
overflow_add-behind-in-loop-reached c =
    let fitting : fits (tip c.loop-reached.reached.number c.loop-reached.reached.end) c.three-e.result ≡ true =
    sym c.fits.ensures ∙ c.if-not-fits.false in
    let f = fits-is (tip c.loop-reached.reached.number c.loop-reached.reached.end) c.three-e.result (fitting) in
    omega (arith, f.ends)

pub overflow_add-behind-in-loop-reached-2 : goal.overflow_add-behind-in-loop-reached-2
overflow_add-behind-in-loop-reached-2 c = omega (
  arith,
  c.loop-reached.invariant.few,
  c.loop-reached-test.true,
  c.size.ensures,
  entry-most (tip c.loop-reached.reached.number c.loop-reached.reached.end) c.three-e.result,
  c.well_formed.0.1,
)

pub plan-reached-requires : goal.plan-reached-requires
plan-reached-requires c =
    let fitting : fits (tip c.loop-reached.reached.number c.loop-reached.reached.end) c.three-e.result ≡ true =
    sym c.fits.ensures ∙ c.if-not-fits.false in
    planning-next c.loop-reached.invariant (omega (arith, c.loop-reached.invariant.low.inside, c.loop-reached-test.true)) c.three-e.ensures (fitting) c.size.ensures

pub loop-reached-smaller : goal.loop-reached-smaller
loop-reached-smaller c = omega (arith, c.plan-reached.ensures.at_le_at, c.plan-reached.ensures.planning.low.inside)

pub loop-reached-preserved : goal.loop-reached-preserved
loop-reached-preserved c = c.plan-reached.ensures.planning

pub returns-then-reached-entries : goal.returns-then-reached-entries
returns-then-reached-entries c = c.refuse-then-reached-entries.ensures ∙ planned-threes c.loop-reached.invariant c.loop-reached-test.false c.if-reached-entries.true c.args.room

pub returns-then-room-reached : goal.returns-then-room-reached
returns-then-room-reached c = c.refuse-then-room-reached.ensures ∙ planned-full c.loop-reached.invariant c.if-reached-entries.false c.args.room c.if-room-reached.true

pub returns : goal.returns
returns c = c.wrote.ensures ∙ planned-all c.loop-reached.invariant c.if-reached-entries.false c.args.room c.if-room-reached.false
