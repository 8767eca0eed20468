-- `lay` meets its contract: the numbers that it lays are those of the record.
use mathlib.Core.Path.{refl}
use mir.Syntax.{w32}
use mir.Val.{Fits, SFits}
use borrow.Author.Rules.{rules}
use Rattle.numbers.specs.Layout.{standard_numbers}
use Rattle.numbers.proofs.Fitting.{cast-back, cast_fits, mark-back, wide}
use Rattle.numbers.proofs.Rows.{◌⋮◌, tells-by, talker-is}
use Rattle.kind_zda.specs.Row.{zda_layout, zda_row}
use Rattle.kind_zda.proofs.lay.Goals.{Start}
use Rattle.kind_zda.proofs.lay.Goals as goal

-- The values fit 32 bits.
fits : (c : Start)
    → Fits w32 c.args.r.time.value
    × Fits w32 c.args.r.date.day
    × Fits w32 c.args.r.date.month
    × Fits w32 c.args.r.date.year
    × SFits w32 c.args.r.zone.minutes
fits c = (search rules, search rules, search rules, search rules, search rules)

pub overflow_cast-v-9 : goal.overflow_cast-v-9
overflow_cast-v-9 c =
    cast_fits _ (fits (goal.at.overflow_cast-v-9 c).Start).4

pub returns : goal.returns
unfolding zda_layout zda_row standard_numbers
returns c =
    let f = fits (goal.at.returns c).Start in
    tells-by c.args.out.now 7 _ _ c.tell.ensures (talker-is c.args.t _ c.talker_number-talker.ensures
    ⋮ mark-back c.args.r.time.there
    ⋮ wide c.args.r.time.value f.0
    ⋮ mark-back c.args.r.date.there
    ⋮ wide c.args.r.date.day f.1
    ⋮ wide c.args.r.date.month f.2
    ⋮ wide c.args.r.date.year f.3
    ⋮ mark-back c.args.r.zone.there
    ⋮ cast-back c.args.r.zone.minutes f.4
    ⋮ refl)
