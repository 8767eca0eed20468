-- By the number.
use native.Mathlib.Omega.{arith}
use borrow.Author.Tests.{ne_eqb}
use Rattle.reasons.specs.Reasons.{reason_text}
use Rattle.reasons.proofs.put_reason.Goals as goal

pub returns-in-1 : goal.returns-in-1
unfolding reason_text
returns-in-1 c = rw c.in-1.is (rw c.flaw_of.ensures at c.put_flaw.ensures)

pub returns-in-2 : goal.returns-in-2
unfolding reason_text
returns-in-2 c = rw c.in-2.is (rw c.body_of.ensures at c.put_digits.ensures)

pub returns-in-3 : goal.returns-in-3
unfolding reason_text
returns-in-3 c = rw c.in-3.is (rw c.body_of-in-3.ensures at c.put_unknown.ensures)

pub returns-in-4 : goal.returns-in-4
unfolding reason_text
returns-in-4 c = rw c.in-4.is (rw c.body_of-in-4.ensures at c.put_count.ensures)

pub returns-in-5 : goal.returns-in-5
unfolding reason_text
returns-in-5 c = rw c.in-5.is c.put_wrong.ensures

pub returns-in_default : goal.returns-in_default
unfolding reason_text
returns-in_default c =
    rw (
      ne_eqb c.args.no 1 (λ e. omega arith),
      ne_eqb c.args.no 2 (λ e. omega arith),
      ne_eqb c.args.no 3 (λ e. omega arith),
      ne_eqb c.args.no 4 (λ e. omega arith),
      ne_eqb c.args.no 5 (λ e. omega arith),
    ) c.put_refusal.ensures
