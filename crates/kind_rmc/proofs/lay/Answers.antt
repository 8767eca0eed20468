-- `lay` meets its contract: the numbers that it lays are those of the record.
use mathlib.Core.Path.{refl}
use mir.Syntax.{w32}
use mir.Val.{Fits, SFits}
use borrow.Author.Rules.{rules}
use Rattle.numbers.specs.Layout.{standard_numbers}
use Rattle.numbers.proofs.Fitting.{cast-back, cast_fits, mark-back, wide, wide_fits}
use Rattle.numbers.proofs.Rows.{◌⋮◌, tells-by, talker-is}
use Rattle.kind_rmc.specs.Row.{rmc_layout, rmc_row}
use Rattle.kind_rmc.proofs.lay.Goals.{Start}
use Rattle.kind_rmc.proofs.lay.Goals as goal

-- The values fit 32 bits.
fits : (c : Start)
    → Fits w32 c.args.r.time.value
    × Fits w32 c.args.r.status
    × SFits w32 c.args.r.place.lat
    × SFits w32 c.args.r.place.lon
    × Fits w32 c.args.r.speed.value
    × Fits w32 c.args.r.course.value
    × Fits w32 c.args.r.date.day
    × Fits w32 c.args.r.date.month
    × Fits w32 c.args.r.date.year
    × SFits w32 c.args.r.variation.value
    × Fits w32 c.args.r.mode
fits c = (
  search rules,
  search rules,
  search rules,
  search rules,
  search rules,
  search rules,
  search rules,
  search rules,
  search rules,
  search rules,
  search rules,
)

pub overflow_cast-v-6 : goal.overflow_cast-v-6
overflow_cast-v-6 c = cast_fits _ (fits (goal.at.overflow_cast-v-6 c).Start).2

pub overflow_cast-v-7 : goal.overflow_cast-v-7
overflow_cast-v-7 c =
    cast_fits _ (fits (goal.at.overflow_cast-v-7 c).Start).3

pub overflow_cast-v-13 : goal.overflow_cast-v-13
overflow_cast-v-13 c =
    wide_fits _ (fits (goal.at.overflow_cast-v-13 c).Start).6

pub overflow_cast-v-14 : goal.overflow_cast-v-14
overflow_cast-v-14 c =
    wide_fits _ (fits (goal.at.overflow_cast-v-14 c).Start).7

pub overflow_cast-v-15 : goal.overflow_cast-v-15
overflow_cast-v-15 c =
    wide_fits _ (fits (goal.at.overflow_cast-v-15 c).Start).8

pub overflow_cast-v-17 : goal.overflow_cast-v-17
overflow_cast-v-17 c =
    cast_fits _ (fits (goal.at.overflow_cast-v-17 c).Start).9

pub overflow_cast-v-18 : goal.overflow_cast-v-18
overflow_cast-v-18 c =
    wide_fits _ (fits (goal.at.overflow_cast-v-18 c).Start).10

pub returns : goal.returns
unfolding rmc_layout rmc_row standard_numbers
returns c =
    let f = fits (goal.at.returns c).Start in
    tells-by c.args.out.now 5 _ _ c.tell.ensures (talker-is c.args.t _ c.talker_number-talker.ensures
    ⋮ mark-back c.args.r.time.there
    ⋮ wide c.args.r.time.value f.0
    ⋮ wide c.args.r.status f.1
    ⋮ mark-back c.args.r.place.there
    ⋮ cast-back c.args.r.place.lat f.2
    ⋮ cast-back c.args.r.place.lon f.3
    ⋮ mark-back c.args.r.speed.there
    ⋮ wide c.args.r.speed.value f.4
    ⋮ mark-back c.args.r.course.there
    ⋮ wide c.args.r.course.value f.5
    ⋮ mark-back c.args.r.date.there
    ⋮ wide c.args.r.date.day f.6
    ⋮ wide c.args.r.date.month f.7
    ⋮ wide c.args.r.date.year f.8
    ⋮ mark-back c.args.r.variation.there
    ⋮ cast-back c.args.r.variation.value f.9
    ⋮ wide c.args.r.mode f.10
    ⋮ refl)
