-- `lay` meets its contract: the numbers that it lays are those of the record.
use mathlib.Core.Path.{refl}
use mir.Syntax.{w32}
use mir.Val.{Fits, SFits}
use borrow.Author.Rules.{rules}
use Rattle.numbers.specs.Layout.{maker_numbers}
use Rattle.numbers.proofs.Fitting.{cast-back, cast_fits, mark-back, wide}
use Rattle.numbers.proofs.Rows.{◌⋮◌, tells-by}
use Rattle.kind_pir_datum.specs.Command.{pirtr_layout, pirtr_row}
use Rattle.kind_pir_datum.proofs.command.lay.Goals as goal

pub overflow_cast-v-4 : goal.overflow_cast-v-4
overflow_cast-v-4 c =
    let fits : Fits w32 c.args.r.datum.value
    × SFits w32 c.args.r.zone.minutes =
    (search rules, search rules) in
    cast_fits _ (fits).1

pub returns : goal.returns
unfolding pirtr_layout pirtr_row maker_numbers
returns c =
    let fits : Fits w32 c.args.r.datum.value
    × SFits w32 c.args.r.zone.minutes =
    (search rules, search rules) in
    let f = fits in
    tells-by c.args.out.now 9 _ _ c.tell.ensures (mark-back c.args.r.datum.there
    ⋮ wide c.args.r.datum.value f.0
    ⋮ mark-back c.args.r.zone.there
    ⋮ cast-back c.args.r.zone.minutes f.1
    ⋮ refl)
