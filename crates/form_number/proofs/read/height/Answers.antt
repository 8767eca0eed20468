-- `height` meets its contract: by the first byte, the number behind it or the whole field.
use mathlib.Core.Path.{◌∙◌}
use borrow.Author.Tests.{ne_eqb}
use Rattle.std.proofs.Common.{arith, length, rules}
use Rattle.std.proofs.lemmas.Bool.Decides.{nat_tests}
use Rattle.digits.proofs.Parts.{rest}
use Rattle.form.specs.Got.{maybe_int_of}
use Rattle.form_number.proofs.NumberLaws.{height-minus, height-plain, number-under}
use Rattle.form_number.proofs.read.height.Goals as goal

pub returns-in-empty : goal.returns-in-empty
unfolding maybe_int_of
returns-in-empty c = grind (arith, nat_tests)

pub told_int-requires : goal.told_int-requires
told_int-requires c = number-under _ _ c.read.ensures

pub returns-in-45 : goal.returns-in-45
unfolding maybe_int_of
returns-in-45 c =
    c.told_int.ensures
    ∙ rw (c.read.ensures, rest, ne_eqb (length c.args.f.now) 0 (λ e. omega (arith, e)), height-minus c.args.f.now (λ e. omega (arith, e)) (search rules))

pub told_int-requires-in_default : goal.told_int-requires-in_default
told_int-requires-in_default c = number-under _ _ c.read-in_default.ensures

pub returns-in_default : goal.returns-in_default
unfolding maybe_int_of
returns-in_default c =
    c.told_int-in_default.ensures
    ∙ rw (
      c.read-in_default.ensures,
      ne_eqb (length c.args.f.now) 0 (λ e. omega (arith, e)),
      height-plain c.args.f.now (λ e. omega (arith, e)) (λ e. search (rules, e)),
    )
