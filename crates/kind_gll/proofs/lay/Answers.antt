-- `lay` meets its contract: the numbers that it lays are those of the record.
use mathlib.Core.Path.{refl}
use mir.Syntax.{w32}
use mir.Val.{Fits, SFits}
use borrow.Author.Rules.{rules}
use Rattle.numbers.specs.Layout.{standard_numbers}
use Rattle.numbers.proofs.Fitting.{cast-back, cast_fits, mark-back, wide}
use Rattle.numbers.proofs.Rows.{◌⋮◌, tells-by, talker-is}
use Rattle.kind_gll.specs.Row.{gll_layout, gll_row}
use Rattle.kind_gll.proofs.lay.Goals.{Start}
use Rattle.kind_gll.proofs.lay.Goals as goal

-- The values fit 32 bits.
fits : (c : Start)
    → SFits w32 c.args.r.place.lat
    × SFits w32 c.args.r.place.lon
    × Fits w32 c.args.r.time.value
    × Fits w32 c.args.r.status
    × Fits w32 c.args.r.mode
fits c = (search rules, search rules, search rules, search rules, search rules)

pub overflow_cast-v-3 : goal.overflow_cast-v-3
overflow_cast-v-3 c = cast_fits _ (fits (goal.at.overflow_cast-v-3 c).Start).0

pub overflow_cast-v-4 : goal.overflow_cast-v-4
overflow_cast-v-4 c = cast_fits _ (fits (goal.at.overflow_cast-v-4 c).Start).1

pub returns : goal.returns
unfolding gll_layout gll_row standard_numbers
returns c =
    let f = fits (goal.at.returns c).Start in
    tells-by c.args.out.now 2 _ _ c.tell.ensures (talker-is c.args.t _ c.talker_number-talker.ensures
    ⋮ mark-back c.args.r.place.there
    ⋮ cast-back c.args.r.place.lat f.0
    ⋮ cast-back c.args.r.place.lon f.1
    ⋮ mark-back c.args.r.time.there
    ⋮ wide c.args.r.time.value f.2
    ⋮ wide c.args.r.status f.3
    ⋮ wide c.args.r.mode f.4
    ⋮ refl)
