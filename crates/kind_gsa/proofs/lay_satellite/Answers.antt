-- A mark and a value.
use mathlib.Core.Path.{refl}
use mir.Syntax.{w32}
use mir.Val.{Fits}
use borrow.Author.Rules.{rules}
use Rattle.numbers.proofs.Fitting.{mark-back, wide}
use Rattle.numbers.proofs.Rows.{◌⋮◌, laid_by}
use Rattle.kind_gsa.proofs.lay_satellite.Goals as goal

pub returns : goal.returns
returns c =
    let fits : Fits w32 c.args.m.value =
    search rules in
    let f = fits in
    (laid_by c.args.out.now _ _ (c.lay.ensures.value, c.lay.ensures.out_after) (mark-back c.args.m.there
    ⋮ wide c.args.m.value f
    ⋮ refl)).1
