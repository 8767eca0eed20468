use Prim.Native.Nat.{ℕ}
use mathlib.Core.Path.{◌≡◌, refl, ap, ◌∙◌}
use native.Mathlib.Omega.{arith}
use Rattle.index.specs.declared.reading.Laid.{Laid}
use Rattle.index.specs.Places.{tip, laid_at, LaysOn}
use Rattle.index.proofs.Places.{Entered, entered, entered-short, entered-bad}
use Rattle.index.proofs.Laying.{entry-room, lays-start, lays-next, lays-on, laid-never, laid-all}
use Rattle.index.proofs.reading.lay_all.Goals as goal

placed : {p : Laid} {at number end place : ℕ} → p ≡ laid_at at number end place → p.at ≡ at
placed e = ap (λ (q : Laid). q.at) e

pub loop-laid-init : goal.loop-laid-init
loop-laid-init c = (
  refl,
  lays-start c.args.s.now c.args.out.now (laid_at 0 0 0 0) c.requires,
)

pub lay_one-behind-requires : goal.lay_one-behind-requires
lay_one-behind-requires c =
    let came : Entered c.args.s.now c.loop-laid.laid.at
    (tip c.loop-laid.laid.number c.loop-laid.laid.end) c.in-Is.e c.in-Is.a =
    entered c.args.s.now c.loop-laid.laid.at (tip c.loop-laid.laid.number c.loop-laid.laid.end) c.entry_at-next.ensures c.in-Is.is in
    let t = came in (
      entry-room c.loop-laid.invariant.1.lays t,
      t.fitting.ends,
    )

pub lay-laid-requires : goal.lay-laid-requires
lay-laid-requires c =
    let came : Entered c.args.s.now c.loop-laid.laid.at
    (tip c.loop-laid.laid.number c.loop-laid.laid.end) c.in-Is.e c.in-Is.a =
    entered c.args.s.now c.loop-laid.laid.at (tip c.loop-laid.laid.number c.loop-laid.laid.end) c.entry_at-next.ensures c.in-Is.is in
    let turned : LaysOn c.args.s.now c.args.out.now (laid_at 0 0 0 0) c.lay_one-behind.new.out c.lay_one-behind.result =
    rw c.lay_one-behind.ensures.value (lays-next c.loop-laid.invariant.1 (came) refl refl refl c.lay_one-behind.ensures.puts c.lay_one-behind.auto.out) in
    (turned).lays

pub loop-laid-smaller : goal.loop-laid-smaller
loop-laid-smaller c =
    let came : Entered c.args.s.now c.loop-laid.laid.at
    (tip c.loop-laid.laid.number c.loop-laid.laid.end) c.in-Is.e c.in-Is.a =
    entered c.args.s.now c.loop-laid.laid.at (tip c.loop-laid.laid.number c.loop-laid.laid.end) c.entry_at-next.ensures c.in-Is.is in
    let t = came in
    omega (arith, t.on, placed c.lay_one-behind.ensures.value, c.lay-laid.ensures.on, c.lay-laid.ensures.lays.inside)

pub loop-laid-preserved : goal.loop-laid-preserved
loop-laid-preserved c =
    let came : Entered c.args.s.now c.loop-laid.laid.at
    (tip c.loop-laid.laid.number c.loop-laid.laid.end) c.in-Is.e c.in-Is.a =
    entered c.args.s.now c.loop-laid.laid.at (tip c.loop-laid.laid.number c.loop-laid.laid.end) c.entry_at-next.ensures c.in-Is.is in
    let turned : LaysOn c.args.s.now c.args.out.now (laid_at 0 0 0 0) c.lay_one-behind.new.out c.lay_one-behind.result =
    rw c.lay_one-behind.ensures.value (lays-next c.loop-laid.invariant.1 (came) refl refl refl c.lay_one-behind.ensures.puts c.lay_one-behind.auto.out) in (
      c.lay-laid.auto.out ∙ c.lay_one-behind.auto.out ∙ c.loop-laid.invariant.0,
      lays-on (turned) c.lay-laid.ensures,
    )

pub shape_of-out-in-Short : goal.shape_of-out-in-Short
shape_of-out-in-Short c = c.loop-laid.invariant.0

pub returns-in-Short : goal.returns-in-Short
returns-in-Short c = laid-never c.loop-laid.invariant.1.lays (entered-short c.args.s.now c.loop-laid.laid.at (tip c.loop-laid.laid.number c.loop-laid.laid.end) c.loop-laid-test.true c.entry_at-next.ensures c.in-Short.is)

pub shape_of-out-in-Bad : goal.shape_of-out-in-Bad
shape_of-out-in-Bad c = c.loop-laid.invariant.0

pub returns-in-Bad : goal.returns-in-Bad
returns-in-Bad c = laid-never c.loop-laid.invariant.1.lays (entered-bad c.args.s.now c.loop-laid.laid.at (tip c.loop-laid.laid.number c.loop-laid.laid.end)
    c.entry_at-next.ensures c.in-Bad.is)

pub shape_of-out : goal.shape_of-out
shape_of-out c = c.loop-laid.invariant.0

pub returns : goal.returns
returns c = laid-all c.requires c.loop-laid.invariant.1 c.loop-laid-test.false
