-- `of_day` meets its contract: past the tests it is the definition's four pairs; two digits are below 100.
use Prim.Native.Nat.{◌<◌}
use mathlib.Core.Path.{◌∙◌, sym}
use Rattle.std.proofs.Common.{arith, Some}
use Rattle.std.proofs.lemmas.Bool.Decides.{nat_tests}
use Rattle.digits.proofs.PairLaws.{pair_lt}
use Rattle.form_time.specs.Time.{clock_of, is_time, time_of}
use Rattle.form_time.proofs.read.of_day.Goals as goal

pub returns-then-f-ne9 : goal.returns-then-f-ne9
unfolding time_of
returns-then-f-ne9 c = grind (arith, nat_tests)

pub returns-in_err-hours : goal.returns-in_err-hours
unfolding time_of clock_of
returns-in_err-hours c = grind (arith, nat_tests)

pub returns-in_err-minutes : goal.returns-in_err-minutes
unfolding time_of clock_of
returns-in_err-minutes c = grind (arith, nat_tests)

pub returns-in_err-seconds : goal.returns-in_err-seconds
unfolding time_of clock_of
returns-in_err-seconds c = grind (arith, nat_tests)

pub returns-in_err-hundredths : goal.returns-in_err-hundredths
unfolding time_of clock_of
returns-in_err-hundredths c = grind (arith, nat_tests)

pub returns-then-hours-gt23 : goal.returns-then-hours-gt23
unfolding time_of clock_of is_time
returns-then-hours-gt23 c = grind (arith, nat_tests)

pub overflow_add-result-3 : goal.overflow_add-result-3
overflow_add-result-3 c =
    let h : c.in_ok-hundredths.hundredths < 100 = pair_lt 7 c.args.f.now (Some c.in_ok-hundredths.hundredths)
    (sym c.in_ok-hundredths.was ∙ c.pair_at-4.ensures) in
    omega arith

pub returns : goal.returns
unfolding time_of clock_of is_time
returns c = grind (arith, nat_tests)
