-- `lay` meets its contract: the first numbers and the satellites behind them are the numbers of the record.
use mathlib.Core.Path.{◌≡◌, refl, ap, ◌∙◌}
use mathlib.Core.List.{List}
use native.Mathlib.Omega.{arith}
use borrow.Author.Rules.{rules}
use lib.IntN.{ℤ}
use lib.ListN.{length}
use mir.Syntax.{w32}
use mir.Val.{Fits}
use Rattle.numbers.specs.Numbers.{laid}
use Rattle.numbers.proofs.Fitting.{wide}
use Rattle.numbers.proofs.Laying.{length-mapped, laid-two}
use Rattle.numbers.proofs.Rows.{◌⋮◌, talker-is, tells-full, tells-laid}
use Rattle.kind_gsv.proofs.Numbers.{gsv_first, four, gsv-parts, four-long, gsv-long}
use Rattle.kind_gsv.proofs.lay.Goals as goal

pub returns-then-out-lt33 : goal.returns-then-out-lt33
returns-then-out-lt33 c =
    let full : length c.args.r.entries ≡ 4 =
    search (rules, length-mapped) in
    let long = gsv-long c.args.t c.args.r (full) in
    tells-full c.args.out.now 4 _ (omega (arith, long, c.if-out-lt33.true)) c.refuse.ensures

pub returns : goal.returns
returns c =
    let fits : Fits w32 c.args.r.lines
    × Fits w32 c.args.r.line
    × Fits w32 c.args.r.satellites
    × Fits w32 c.args.r.count =
    (search rules, search rules, search rules, search rules) in
    let full : length c.args.r.entries ≡ 4 =
    search (rules, length-mapped) in
    let f = fits in
    let first =
    talker-is c.args.t _ c.talker_number-talker.ensures ⋮ wide c.args.r.lines f.0 ⋮ wide c.args.r.line f.1 ⋮ wide c.args.r.satellites f.2
    ⋮ wide c.args.r.count f.3 ⋮ refl in
    let long = gsv-long c.args.t c.args.r (full) in
    let two =
    laid-two (gsv_first c.args.t c.args.r) (four c.args.r) c.args.out.now 5 refl (omega (arith, four-long c.args.t c.args.r (full), c.if-out-lt33.false)) _
    (c.lay.ensures.out_after ∙ ap (λ (l : List ℤ). laid l c.args.out.now) first) c.lay_four.ensures in
    tells-laid c.args.out.now 4 _ (omega (arith, long, c.if-out-lt33.false)) c.bare.ensures
    (two ∙ ap (λ (l : List ℤ). laid l c.args.out.now) (gsv-parts c.args.t c.args.r (full)))
