use native.Mathlib.Omega.{arith}
use borrow.Author.Tests.{ne_eqb}
use Rattle.words.specs.Codes.{width_of}
use Rattle.words.proofs.code.width.Goals as goal

pub returns-in-120 : goal.returns-in-120
unfolding width_of
returns-in-120 c = rw c.in-120.is

pub returns-in-114 : goal.returns-in-114
unfolding width_of
returns-in-114 c = rw c.in-114.is

pub returns-in-103 : goal.returns-in-103
unfolding width_of
returns-in-103 c = rw c.in-103.is

pub returns-in_default : goal.returns-in_default
unfolding width_of
returns-in_default c =
    rw (ne_eqb c.args.f 120 (λ e. omega arith), ne_eqb c.args.f 114 (λ e. omega arith), ne_eqb c.args.f 103 (λ e. omega arith))
