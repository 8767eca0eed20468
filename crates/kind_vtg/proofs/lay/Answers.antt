-- `lay` meets its contract: the numbers that it lays are those of the record.
use mathlib.Core.Path.{refl}
use mir.Syntax.{w32}
use mir.Val.{Fits}
use borrow.Author.Rules.{rules}
use Rattle.numbers.specs.Layout.{standard_numbers}
use Rattle.numbers.proofs.Fitting.{mark-back, wide}
use Rattle.numbers.proofs.Rows.{◌⋮◌, tells-by, talker-is}
use Rattle.kind_vtg.specs.Row.{vtg_layout, vtg_row}
use Rattle.kind_vtg.proofs.lay.Goals.{Start}
use Rattle.kind_vtg.proofs.lay.Goals as goal

-- The values fit 32 bits.
fits : (c : Start)
    → Fits w32 c.args.r.course.value
    × Fits w32 c.args.r.magnetic.value
    × Fits w32 c.args.r.knots.value
    × Fits w32 c.args.r.kmh.value
    × Fits w32 c.args.r.mode
fits c = (search rules, search rules, search rules, search rules, search rules)

pub returns : goal.returns
unfolding vtg_layout vtg_row standard_numbers
returns c =
    let f = fits (goal.at.returns c).Start in
    tells-by c.args.out.now 6 _ _ c.tell.ensures (talker-is c.args.t _ c.talker_number-talker.ensures
    ⋮ mark-back c.args.r.course.there
    ⋮ wide c.args.r.course.value f.0
    ⋮ mark-back c.args.r.magnetic.there
    ⋮ wide c.args.r.magnetic.value f.1
    ⋮ mark-back c.args.r.knots.there
    ⋮ wide c.args.r.knots.value f.2
    ⋮ mark-back c.args.r.kmh.there
    ⋮ wide c.args.r.kmh.value f.3
    ⋮ wide c.args.r.mode f.4
    ⋮ refl)
