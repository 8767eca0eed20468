-- The number, and three marks with their values.
use mathlib.Core.Path.{refl}
use mir.Syntax.{w32}
use mir.Val.{Fits}
use borrow.Author.Rules.{rules}
use Rattle.numbers.proofs.Fitting.{mark-back, wide}
use Rattle.numbers.proofs.Rows.{◌⋮◌, laid_by}
use Rattle.kind_gsv.proofs.lay_entry.Goals as goal

pub returns : goal.returns
returns c =
    let fits : Fits w32 c.args.e.number
    × Fits w32 c.args.e.elevation.value
    × Fits w32 c.args.e.azimuth.value
    × Fits w32 c.args.e.signal.value =
    (search rules, search rules, search rules, search rules) in
    let f = fits in
    let said = laid_by c.args.out.now _ _ (c.lay.ensures.value, c.lay.ensures.out_after) (wide c.args.e.number f.0
    ⋮ mark-back c.args.e.elevation.there
    ⋮ wide c.args.e.elevation.value f.1
    ⋮ mark-back c.args.e.azimuth.there
    ⋮ wide c.args.e.azimuth.value f.2
    ⋮ mark-back c.args.e.signal.there
    ⋮ wide c.args.e.signal.value f.3
    ⋮ refl) in
    record {
      value = said.0;
      out_after = said.1;
    }
