use mathlib.Core.Path.{◌≡◌, sym}
use mathlib.Core.List.{[]}
use native.Mathlib.Omega.{arith}
use borrow.Author.Rules.{rules}
use lib.ListN.{length}
use Rattle.kind_gsv.specs.Blank.{blank_entry}
use Rattle.numbers.specs.Layout.{list_numbers}
use Rattle.kind_gsv.specs.Row.{entry_layout}
use Rattle.kind_gsv.proofs.Numbers.{lawful-entry}
use Rattle.numbers.proofs.Laying.{length-mapped, laid-not, many, stored_next, stored-all}
use Rattle.sky_numbers.proofs.lay_entries.Goals as goal

pub returns-then-out-lt252 : goal.returns-then-out-lt252
returns-then-out-lt252 c =
    let full : length c.args.s ≡ 36 =
    search (rules, length-mapped) in
    let long = many lawful-entry blank_entry c.args.s in
    sym (laid-not (list_numbers entry_layout c.args.s []) c.args.out.now (omega (arith, c.if-out-lt252.true, long, full)))

pub loop-i-preserved : goal.loop-i-preserved
loop-i-preserved c =
    let full : length c.args.s ≡ 36 =
    search (rules, length-mapped) in
    stored_next lawful-entry blank_entry c.args.s c.args.out.now c.loop-i.invariant
    (omega (arith, c.loop-i-test.true, full)) c.lay_entry.ensures.out_after

pub returns : goal.returns
returns c =
    let full : length c.args.s ≡ 36 =
    search (rules, length-mapped) in
    stored-all lawful-entry blank_entry c.args.s c.args.out.now c.loop-i.invariant (omega (arith, c.loop-i-test.false, full))
