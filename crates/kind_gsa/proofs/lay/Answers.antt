-- `lay` meets its contract: the first numbers, the satellites behind them, and the last behind those are the numbers of the record.
use mathlib.Core.Path.{◌≡◌, refl, ap, ◌∙◌}
use mathlib.Core.List.{List, [], ◌++◌}
use native.Mathlib.Omega.{arith}
use borrow.Author.Rules.{rules}
use lib.IntN.{ℤ}
use lib.ListN.{length}
use mir.Syntax.{w32}
use mir.Val.{Fits}
use Rattle.numbers.specs.Numbers.{laid}
use Rattle.numbers.proofs.Fitting.{mark-back, wide}
use Rattle.numbers.proofs.Laying.{length-mapped, laid-two}
use Rattle.numbers.proofs.Rows.{◌⋮◌, talker-is, tells-full, tells-laid}
use Rattle.kind_gsa.proofs.Numbers.{gsa_first, gsa_last, twelve, gsa-parts, twelve-long, gsa-long}
use Rattle.kind_gsa.proofs.lay.Goals as goal

pub returns-then-out-lt33 : goal.returns-then-out-lt33
returns-then-out-lt33 c =
    let full : length c.args.r.satellites ≡ 12 =
    search (rules, length-mapped) in
    let long = gsa-long c.args.t c.args.r (full) in
    tells-full c.args.out.now 3 _ (omega (arith, long, c.if-out-lt33.true)) c.refuse.ensures

pub returns : goal.returns
returns c =
    let fits : Fits w32 c.args.r.selection
    × Fits w32 c.args.r.fix
    × Fits w32 c.args.r.pdop.value
    × Fits w32 c.args.r.hdop.value
    × Fits w32 c.args.r.vdop.value =
    (search rules, search rules, search rules, search rules, search rules) in
    let full : length c.args.r.satellites ≡ 12 =
    search (rules, length-mapped) in
    let f = fits in
    let sats = twelve-long c.args.t c.args.r (full) in
    let first = talker-is c.args.t _ c.talker_number-talker.ensures ⋮ wide c.args.r.selection f.0 ⋮ wide c.args.r.fix f.1 ⋮ refl in
    let last =
    mark-back c.args.r.pdop.there ⋮ wide c.args.r.pdop.value f.2 ⋮ mark-back c.args.r.hdop.there ⋮ wide c.args.r.hdop.value f.3
    ⋮ mark-back c.args.r.vdop.there ⋮ wide c.args.r.vdop.value f.4 ⋮ refl {A = List ℤ} {a = []} in
    let long = gsa-long c.args.t c.args.r (full) in
    let two =
    laid-two (gsa_first c.args.t c.args.r) (twelve c.args.r) c.args.out.now 3 refl (omega (arith, sats, c.if-out-lt33.false)) _
    (c.lay.ensures.out_after ∙ ap (λ (l : List ℤ). laid l c.args.out.now) first) c.lay_twelve.ensures in
    let front : length (gsa_first c.args.t c.args.r ++ twelve c.args.r) ≡ 27 = omega (arith, sats) in
    let three =
    laid-two (gsa_first c.args.t c.args.r ++ twelve c.args.r) (gsa_last c.args.r) c.args.out.now 27 front c.if-out-lt33.false _ two (rw last at c.lay-2.ensures.out_after) in
    tells-laid c.args.out.now 3 _ (omega (arith, long, c.if-out-lt33.false)) c.bare.ensures
    (three ∙ ap (λ (l : List ℤ). laid l c.args.out.now) (gsa-parts c.args.t c.args.r (full)))
