-- `read` meets its contract: what stands before the point and behind it, each as the definition takes it.
use borrow.Author.Rules.{rules}
use mathlib.Core.Path.{◌∙◌, sym}
use native.Mathlib.Omega.{arith}
use borrow.Author.Tests.{le-ltb, lt-ltb}
use Rattle.digits.proofs.Parts.{rest}
use Rattle.digits.proofs.Finding.{find-le}
use Rattle.digits.proofs.Bounds.{digits_lt}
use Rattle.form_number.specs.Number.{before, behind, number_of}
use Rattle.form_number.proofs.NumberLaws.{thousandths-lt}
use Rattle.form_number.proofs.read.read.Goals as goal

pub slice_bounds-digits-end : goal.slice_bounds-digits-end
slice_bounds-digits-end c = search (rules, find-le 46 c.args.f.now)

pub returns-in_err-n : goal.returns-in_err-n
unfolding number_of before
returns-in_err-n c =
    c.from_residual.ensures ∙ rw (← c.find-p.ensures, sym c.digits.ensures ∙ c.in_err-n.was)

pub overflow_mul-result : goal.overflow_mul-result
overflow_mul-result c = omega (arith, digits_lt 1 6 _ c.in_ok-n.n (sym c.digits.ensures ∙ c.in_ok-n.was))

pub returns-then-f-p : goal.returns-then-f-p
unfolding number_of before
returns-then-f-p c =
    rw (← c.find-p.ensures, sym c.digits.ensures ∙ c.in_ok-n.was, le-ltb _ _ c.if-f-p.true)

pub returns-in_err-m : goal.returns-in_err-m
unfolding number_of before behind
returns-in_err-m c =
    c.from_residual-in_err-m.ensures
    ∙ rw (← c.find-p.ensures, sym c.digits.ensures ∙ c.in_ok-n.was, lt-ltb _ _ c.if-f-p.false)
    (rw (sym (rw rest at c.fraction.ensures) ∙ c.in_err-m.was))

pub overflow_mul-result-2 : goal.overflow_mul-result-2
overflow_mul-result-2 c = omega (arith, digits_lt 1 6 _ c.in_ok-n.n (sym c.digits.ensures ∙ c.in_ok-n.was))

pub overflow_add-result : goal.overflow_add-result
overflow_add-result c =
    omega (
      arith,
      digits_lt 1 6 _ c.in_ok-n.n (sym c.digits.ensures ∙ c.in_ok-n.was),
      thousandths-lt _ c.in_ok-m.m (sym c.fraction.ensures ∙ c.in_ok-m.was),
    )

pub returns : goal.returns
unfolding number_of before behind
returns c =
    rw (← c.find-p.ensures, sym c.digits.ensures ∙ c.in_ok-n.was, lt-ltb _ _ c.if-f-p.false)
    (rw (sym (rw rest at c.fraction.ensures) ∙ c.in_ok-m.was))
