use mathlib.Core.Path.{◌≡◌, sym}
use mathlib.Core.List.{[]}
use native.Mathlib.Omega.{arith}
use borrow.Author.Rules.{rules}
use lib.ListN.{length}
use Rattle.form.specs.Values.{no_maybe}
use Rattle.numbers.specs.Layout.{list_numbers}
use Rattle.form.specs.Numbers.{maybe_layout}
use Rattle.form.proofs.Numbers.{lawful-maybe}
use Rattle.numbers.proofs.Laying.{laid-not, length-mapped, many, stored-all, stored_at, stored-long, stored_next, stored-none}
use Rattle.kind_gsa.proofs.lay_twelve.Goals as goal

pub returns-then-out-lt24 : goal.returns-then-out-lt24
returns-then-out-lt24 c =
    let full : length c.args.s ≡ 12 =
    search (rules, length-mapped) in
    let long = many lawful-maybe no_maybe c.args.s in
    sym (laid-not (list_numbers maybe_layout c.args.s []) c.args.out.now (omega (arith, c.if-out-lt24.true, long, full)))

pub loop-i-init : goal.loop-i-init
loop-i-init c =
    let full : length c.args.s ≡ 12 =
    search (rules, length-mapped) in
    stored-none lawful-maybe no_maybe c.args.s c.args.out.now (omega (arith, c.if-out-lt24.false, full))

pub slice_bounds-lay_satellite-count : goal.slice_bounds-lay_satellite-count
slice_bounds-lay_satellite-count c = stored_at lawful-maybe no_maybe c.args.s c.args.out.now c.loop-i.invariant

pub slice_bounds-lay_satellite-start : goal.slice_bounds-lay_satellite-start
slice_bounds-lay_satellite-start c = stored_at lawful-maybe no_maybe c.args.s c.args.out.now c.loop-i.invariant

pub loop-i-preserved : goal.loop-i-preserved
loop-i-preserved c =
    let full : length c.args.s ≡ 12 =
    search (rules, length-mapped) in
    stored_next lawful-maybe no_maybe c.args.s c.args.out.now c.loop-i.invariant
    (omega (arith, c.loop-i-test.true, full)) c.lay_satellite.ensures

pub shape_of-out : goal.shape_of-out
shape_of-out c = stored-long lawful-maybe no_maybe c.args.s c.args.out.now c.loop-i.invariant

pub returns : goal.returns
returns c =
    let full : length c.args.s ≡ 12 =
    search (rules, length-mapped) in
    stored-all lawful-maybe no_maybe c.args.s c.args.out.now c.loop-i.invariant (omega (arith, c.loop-i-test.false, full))
