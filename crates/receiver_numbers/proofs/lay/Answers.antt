-- The numbers are those of the settings.
use mathlib.Core.Path.{refl}
use mir.Syntax.{w32}
use mir.Val.{Fits, SFits}
use borrow.Author.Rules.{rules}
use Rattle.numbers.proofs.Fitting.{cast-back, cast_fits, wide, wide_fits}
use Rattle.numbers.proofs.Rows.{◌⋮◌, laid_by}
use Rattle.receiver_numbers.specs.Numbers.{settings_layout}
use Rattle.receiver_numbers.proofs.lay.Goals as goal

pub overflow_cast-values-8 : goal.overflow_cast-values-8
overflow_cast-values-8 c =
    let fits : Fits w32 c.args.s.first.rate
    × Fits w32 c.args.s.first.protocol
    × Fits w32 c.args.s.first.mask
    × Fits w32 c.args.s.second.rate
    × Fits w32 c.args.s.second.protocol
    × Fits w32 c.args.s.second.mask
    × Fits w32 c.args.s.datum
    × SFits w32 c.args.s.zone
    × Fits w32 c.args.s.gps
    × Fits w32 c.args.s.glonass
    × Fits w32 c.args.s.code = (
      search rules,
      search rules,
      search rules,
      search rules,
      search rules,
      search rules,
      search rules,
      search rules,
      search rules,
      search rules,
      search rules,
    ) in
    cast_fits _ (fits).7

pub overflow_cast-values-11 : goal.overflow_cast-values-11
overflow_cast-values-11 c =
    let fits : Fits w32 c.args.s.first.rate
    × Fits w32 c.args.s.first.protocol
    × Fits w32 c.args.s.first.mask
    × Fits w32 c.args.s.second.rate
    × Fits w32 c.args.s.second.protocol
    × Fits w32 c.args.s.second.mask
    × Fits w32 c.args.s.datum
    × SFits w32 c.args.s.zone
    × Fits w32 c.args.s.gps
    × Fits w32 c.args.s.glonass
    × Fits w32 c.args.s.code = (
      search rules,
      search rules,
      search rules,
      search rules,
      search rules,
      search rules,
      search rules,
      search rules,
      search rules,
      search rules,
      search rules,
    ) in
    wide_fits _ (fits).10

pub returns : goal.returns
unfolding settings_layout
returns c =
    let fits : Fits w32 c.args.s.first.rate
    × Fits w32 c.args.s.first.protocol
    × Fits w32 c.args.s.first.mask
    × Fits w32 c.args.s.second.rate
    × Fits w32 c.args.s.second.protocol
    × Fits w32 c.args.s.second.mask
    × Fits w32 c.args.s.datum
    × SFits w32 c.args.s.zone
    × Fits w32 c.args.s.gps
    × Fits w32 c.args.s.glonass
    × Fits w32 c.args.s.code = (
      search rules,
      search rules,
      search rules,
      search rules,
      search rules,
      search rules,
      search rules,
      search rules,
      search rules,
      search rules,
      search rules,
    ) in
    let f = fits in
    let said = laid_by c.args.out.now _ _ (c.lay.ensures.value, c.lay.ensures.out_after) (wide c.args.s.first.rate f.0
    ⋮ wide c.args.s.first.protocol f.1
    ⋮ wide c.args.s.first.mask f.2
    ⋮ wide c.args.s.second.rate f.3
    ⋮ wide c.args.s.second.protocol f.4
    ⋮ wide c.args.s.second.mask f.5
    ⋮ wide c.args.s.datum f.6
    ⋮ cast-back c.args.s.zone f.7
    ⋮ wide c.args.s.gps f.8
    ⋮ wide c.args.s.glonass f.9
    ⋮ wide c.args.s.code f.10
    ⋮ refl) in
    record {
      value = said.0;
      out_after = said.1;
    }
