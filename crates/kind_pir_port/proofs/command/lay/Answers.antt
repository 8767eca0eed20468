-- `lay` meets its contract: the numbers that it lays are those of the record.
use mathlib.Core.Path.{refl}
use mir.Syntax.{w32}
use mir.Val.{Fits}
use borrow.Author.Rules.{rules}
use Rattle.numbers.specs.Layout.{maker_numbers}
use Rattle.numbers.proofs.Fitting.{mark-back, wide}
use Rattle.numbers.proofs.Rows.{◌⋮◌, tells-by}
use Rattle.kind_pir_port.specs.Command.{pirpr_layout, pirpr_row}
use Rattle.kind_pir_port.proofs.command.lay.Goals as goal

pub returns : goal.returns
unfolding pirpr_layout pirpr_row maker_numbers
returns c =
    let fits : Fits w32 c.args.r.port.value
    × Fits w32 c.args.r.rate.value
    × Fits w32 c.args.r.protocol.value
    × Fits w32 c.args.r.mask.value =
    (search rules, search rules, search rules, search rules) in
    let f = fits in
    tells-by c.args.out.now 8 _ _ c.tell.ensures (mark-back c.args.r.port.there
    ⋮ wide c.args.r.port.value f.0
    ⋮ mark-back c.args.r.rate.there
    ⋮ wide c.args.r.rate.value f.1
    ⋮ mark-back c.args.r.protocol.there
    ⋮ wide c.args.r.protocol.value f.2
    ⋮ mark-back c.args.r.mask.there
    ⋮ wide c.args.r.mask.value f.3
    ⋮ refl)
