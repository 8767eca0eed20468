use mathlib.Core.Path.{◌∙◌, sym}
use borrow.Author.Tests.{eq-eqb}
use Rattle.form_date.proofs.ZoneLaws.{zone-one}
use Rattle.std.proofs.Common.{arith}
use Rattle.std.proofs.lemmas.Bool.Decides.{nat_tests}
use Rattle.form.specs.Got.{maybe_int_of}
use Rattle.form_date.specs.Zone.{zone_four}
use Rattle.form_date.proofs.zones.four.Goals as goal

pub returns-then-is_empty : goal.returns-then-is_empty
unfolding maybe_int_of zone_four
returns-then-is_empty c = grind (arith, nat_tests)

pub returns-then-b-ne4 : goal.returns-then-b-ne4
unfolding maybe_int_of zone_four
returns-then-b-ne4 c = grind (arith, nat_tests)

pub returns : goal.returns
unfolding maybe_int_of zone_four
returns c =
    c.zone_at.ensures ∙ rw (
      sym c.is_empty.ensures ∙ c.if-is_empty.false,
      ← c.bare-b.ensures,
      eq-eqb _ _ c.if-b-ne4.false,
      c.is_minus.ensures,
      c.pair_at.ensures,
      c.pair_at-2.ensures,
    ) (zone-one _ _ _)
