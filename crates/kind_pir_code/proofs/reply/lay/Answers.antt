-- `lay` meets its contract: the numbers that it lays are those of the record.
use mathlib.Core.Path.{refl}
use mir.Syntax.{w32}
use mir.Val.{Fits}
use borrow.Author.Rules.{rules}
use Rattle.numbers.specs.Layout.{maker_numbers}
use Rattle.numbers.proofs.Fitting.{wide}
use Rattle.numbers.proofs.Rows.{◌⋮◌, tells-by}
use Rattle.kind_pir_code.specs.Reply.{pirea_layout, pirea_row}
use Rattle.kind_pir_code.proofs.reply.lay.Goals as goal

pub returns : goal.returns
unfolding pirea_layout pirea_row maker_numbers
returns c =
    let fits : Fits w32 c.args.r.code =
    search rules in
    let f = fits in
    tells-by c.args.out.now 15 _ _ c.tell.ensures (wide c.args.r.code (f)
    ⋮ refl)
