-- `lay` meets its contract: the numbers that it lays are those of the record.
use mathlib.Core.Path.{refl}
use mir.Syntax.{w32}
use mir.Val.{Fits, SFits}
use borrow.Author.Rules.{rules}
use Rattle.numbers.specs.Layout.{standard_numbers}
use Rattle.numbers.proofs.Fitting.{cast-back, cast_fits, mark-back, wide, wide_fits}
use Rattle.numbers.proofs.Rows.{◌⋮◌, tells-by, talker-is}
use Rattle.kind_gga.specs.Row.{gga_layout, gga_row}
use Rattle.kind_gga.proofs.lay.Goals.{Start}
use Rattle.kind_gga.proofs.lay.Goals as goal

-- The values fit 32 bits.
fits : (c : Start)
    → Fits w32 c.args.r.time.value
    × SFits w32 c.args.r.place.lat
    × SFits w32 c.args.r.place.lon
    × Fits w32 c.args.r.quality
    × Fits w32 c.args.r.satellites.value
    × Fits w32 c.args.r.hdop.value
    × SFits w32 c.args.r.altitude.value
    × SFits w32 c.args.r.geoid.value
    × Fits w32 c.args.r.age.value
    × Fits w32 c.args.r.station.value
fits c = (
  search rules,
  search rules,
  search rules,
  search rules,
  search rules,
  search rules,
  search rules,
  search rules,
  search rules,
  search rules,
)

pub overflow_cast-v-5 : goal.overflow_cast-v-5
overflow_cast-v-5 c = cast_fits _ (fits (goal.at.overflow_cast-v-5 c).Start).1

pub overflow_cast-v-6 : goal.overflow_cast-v-6
overflow_cast-v-6 c = cast_fits _ (fits (goal.at.overflow_cast-v-6 c).Start).2

pub overflow_cast-v-13 : goal.overflow_cast-v-13
overflow_cast-v-13 c =
    cast_fits _ (fits (goal.at.overflow_cast-v-13 c).Start).6

pub overflow_cast-v-15 : goal.overflow_cast-v-15
overflow_cast-v-15 c =
    cast_fits _ (fits (goal.at.overflow_cast-v-15 c).Start).7

pub overflow_cast-v-17 : goal.overflow_cast-v-17
overflow_cast-v-17 c =
    wide_fits _ (fits (goal.at.overflow_cast-v-17 c).Start).8

pub overflow_cast-v-19 : goal.overflow_cast-v-19
overflow_cast-v-19 c =
    wide_fits _ (fits (goal.at.overflow_cast-v-19 c).Start).9

pub returns : goal.returns
unfolding gga_layout gga_row standard_numbers
returns c =
    let f = fits (goal.at.returns c).Start in
    tells-by c.args.out.now 1 _ _ c.tell.ensures (talker-is c.args.t _ c.talker_number-talker.ensures
    ⋮ mark-back c.args.r.time.there
    ⋮ wide c.args.r.time.value f.0
    ⋮ mark-back c.args.r.place.there
    ⋮ cast-back c.args.r.place.lat f.1
    ⋮ cast-back c.args.r.place.lon f.2
    ⋮ wide c.args.r.quality f.3
    ⋮ mark-back c.args.r.satellites.there
    ⋮ wide c.args.r.satellites.value f.4
    ⋮ mark-back c.args.r.hdop.there
    ⋮ wide c.args.r.hdop.value f.5
    ⋮ mark-back c.args.r.altitude.there
    ⋮ cast-back c.args.r.altitude.value f.6
    ⋮ mark-back c.args.r.geoid.there
    ⋮ cast-back c.args.r.geoid.value f.7
    ⋮ mark-back c.args.r.age.there
    ⋮ wide c.args.r.age.value f.8
    ⋮ mark-back c.args.r.station.there
    ⋮ wide c.args.r.station.value f.9
    ⋮ refl)
