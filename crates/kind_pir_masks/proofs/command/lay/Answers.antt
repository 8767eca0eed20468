-- `lay` meets its contract: the numbers that it lays are those of the record.
use mathlib.Core.Path.{refl}
use mir.Syntax.{w32}
use mir.Val.{Fits}
use borrow.Author.Rules.{rules}
use Rattle.numbers.specs.Layout.{maker_numbers}
use Rattle.numbers.proofs.Fitting.{mark-back, wide}
use Rattle.numbers.proofs.Rows.{◌⋮◌, tells-by}
use Rattle.kind_pir_masks.specs.Command.{pirsr_layout, pirsr_row}
use Rattle.kind_pir_masks.proofs.command.lay.Goals as goal

pub returns : goal.returns
unfolding pirsr_layout pirsr_row maker_numbers
returns c =
    let fits : Fits w32 c.args.r.gps.value
    × Fits w32 c.args.r.glonass.value =
    (search rules, search rules) in
    let f = fits in
    tells-by c.args.out.now 10 _ _ c.tell.ensures (mark-back c.args.r.gps.there
    ⋮ wide c.args.r.gps.value f.0
    ⋮ mark-back c.args.r.glonass.there
    ⋮ wide c.args.r.glonass.value f.1
    ⋮ refl)
