-- `lay` meets its contract: the numbers that it lays are those of the record.
use mathlib.Core.Path.{refl}
use mir.Syntax.{w32}
use mir.Val.{Fits}
use borrow.Author.Rules.{rules}
use Rattle.numbers.specs.Layout.{maker_numbers}
use Rattle.numbers.proofs.Fitting.{wide}
use Rattle.numbers.proofs.Rows.{◌⋮◌, tells-by}
use Rattle.kind_pir_port.specs.Reply.{pirpa_layout, pirpa_row}
use Rattle.kind_pir_port.proofs.reply.lay.Goals as goal

pub returns : goal.returns
unfolding pirpa_layout pirpa_row maker_numbers
returns c =
    let fits : Fits w32 c.args.r.port
    × Fits w32 c.args.r.rate
    × Fits w32 c.args.r.protocol
    × Fits w32 c.args.r.mask =
    (search rules, search rules, search rules, search rules) in
    let f = fits in
    tells-by c.args.out.now 12 _ _ c.tell.ensures (wide c.args.r.port f.0
    ⋮ wide c.args.r.rate f.1
    ⋮ wide c.args.r.protocol f.2
    ⋮ wide c.args.r.mask f.3
    ⋮ refl)
