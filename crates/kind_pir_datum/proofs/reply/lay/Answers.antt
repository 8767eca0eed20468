-- `lay` meets its contract: the numbers that it lays are those of the record.
use mathlib.Core.Path.{refl}
use mir.Syntax.{w32}
use mir.Val.{Fits, SFits}
use borrow.Author.Rules.{rules}
use Rattle.numbers.specs.Layout.{maker_numbers}
use Rattle.numbers.proofs.Fitting.{cast-back, cast_fits, wide}
use Rattle.numbers.proofs.Rows.{◌⋮◌, tells-by}
use Rattle.kind_pir_datum.specs.Reply.{pirta_layout, pirta_row}
use Rattle.kind_pir_datum.proofs.reply.lay.Goals as goal

pub overflow_cast-v-2 : goal.overflow_cast-v-2
overflow_cast-v-2 c =
    let fits : Fits w32 c.args.r.datum
    × SFits w32 c.args.r.zone =
    (search rules, search rules) in
    cast_fits _ (fits).1

pub returns : goal.returns
unfolding pirta_layout pirta_row maker_numbers
returns c =
    let fits : Fits w32 c.args.r.datum
    × SFits w32 c.args.r.zone =
    (search rules, search rules) in
    let f = fits in
    tells-by c.args.out.now 13 _ _ c.tell.ensures (wide c.args.r.datum f.0
    ⋮ cast-back c.args.r.zone f.1
    ⋮ refl)
