-- `angle` meets its contract: its three parts are those of the definition, and the sum stays below a thousand degrees.
use Prim.Native.Nat.{◌+◌, ◌<◌}
use mathlib.Core.Path.{◌∙◌, sym}
use native.Mathlib.Nat.{pow-le-pow_right}
use native.Mathlib.Omega.{arith}
use lib.Dec.{lit<, lit≤}
use Rattle.std.proofs.Common.{Some}
use Rattle.std.proofs.lemmas.Bool.Decides.{nat_tests}
use Rattle.digits.proofs.Parts.{middle, rest}
use Rattle.digits.proofs.SignLaws.{under}
use Rattle.form_position.specs.Angle.{angle_of, joined_of}
use Rattle.form_position.proofs.read.angle.Goals.{Else-minutes-ge60}
use Rattle.form_position.proofs.read.angle.Goals as goal

degrees : (c : Else-minutes-ge60) → c.in_ok-degrees.degrees < 1000
degrees c =
    under _ c.args.w c.args.w 1000 (Some c.in_ok-degrees.degrees) (pow-le-pow_right {n = 10} (lit< tt) {i = c.args.w} {j = 3} c.requires)
    (sym c.in_ok-degrees.was ∙ c.digits.ensures)

parts : (c : Else-minutes-ge60) → c.in_ok-parts.parts < 10000
parts c = under _ 4 4 10000 (Some c.in_ok-parts.parts) (lit≤ tt) (sym c.in_ok-parts.was ∙ c.digits-3.ensures)

pub returns-then-f-w : goal.returns-then-f-w
unfolding angle_of
returns-then-f-w c = grind (arith, nat_tests)

pub returns-in_err-degrees : goal.returns-in_err-degrees
unfolding angle_of joined_of
returns-in_err-degrees c = grind (arith, nat_tests)

pub returns-in_err-minutes : goal.returns-in_err-minutes
unfolding angle_of joined_of
returns-in_err-minutes c = grind (arith, nat_tests, middle c.args.f.now c.args.w 2)

pub returns-in_err-parts : goal.returns-in_err-parts
unfolding angle_of joined_of
returns-in_err-parts c = grind (arith, nat_tests, middle c.args.f.now c.args.w 2, rest c.args.f.now (c.args.w + 3))

pub returns-then-minutes-ge60 : goal.returns-then-minutes-ge60
unfolding angle_of joined_of
returns-then-minutes-ge60 c = grind (arith, nat_tests, middle c.args.f.now c.args.w 2, rest c.args.f.now (c.args.w + 3))

pub overflow_mul-v : goal.overflow_mul-v
overflow_mul-v c = omega (arith, degrees c)

pub overflow_add-v : goal.overflow_add-v
overflow_add-v c = omega (arith, degrees c)

pub overflow_add-v-2 : goal.overflow_add-v-2
overflow_add-v-2 c = omega (arith, degrees c, parts c)

pub returns : goal.returns
unfolding angle_of joined_of
returns c = grind (arith, nat_tests, middle c.args.f.now c.args.w 2, rest c.args.f.now (c.args.w + 3))
