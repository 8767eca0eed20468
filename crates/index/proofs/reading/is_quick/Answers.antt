-- The tests of the code, taken apart.
use Prim.Native.Nat.{ℕ, ◌+◌}
use mathlib.Core.Path.{◌≡◌}
use native.Mathlib.Omega.{arith}
use Rattle.index.proofs.Passing.{is-quick}
use Rattle.index.proofs.reading.is_quick.Goals as goal

pub returns-then-s-at-lt3 : goal.returns-then-s-at-lt3
returns-then-s-at-lt3 c = λ e. let z : ◌≡◌ {A = ℕ} 0 1 = cc in let n : ⊥ = omega arith in absurd n

pub overflow_cast-gap : goal.overflow_cast-gap
overflow_cast-gap c = omega (arith, c.type_inv.s c.args.at)

pub overflow_cast-skip : goal.overflow_cast-skip
overflow_cast-skip c = omega (arith, c.type_inv.s (c.args.at + 1))

pub overflow_cast-bytes : goal.overflow_cast-bytes
overflow_cast-bytes c = omega (arith, c.type_inv.s (c.args.at + 2))

pub returns-then-not-gap-skip : goal.returns-then-not-gap-skip
returns-then-not-gap-skip c = λ e. let z : ◌≡◌ {A = ℕ} 0 1 = cc in let n : ⊥ = omega arith in absurd n

pub overflow_add-number : goal.overflow_add-number
overflow_add-number c = omega (
  arith,
  c.requires.numbered,
  c.shared_slice_known-1.given c.args.at,
)

pub returns-then-number-gap : goal.returns-then-number-gap
returns-then-number-gap c = λ e. let z : ◌≡◌ {A = ℕ} 0 1 = cc in let n : ⊥ = omega arith in absurd n

pub overflow_add-result : goal.overflow_add-result
overflow_add-result c = omega (
  arith,
  c.requires.numbered,
  c.shared_slice_known-1.given c.args.at,
)

pub overflow_add-result-2 : goal.overflow_add-result-2
overflow_add-result-2 c = omega (
  arith,
  c.requires.ends,
  c.shared_slice_known-2-1.given (c.args.at + 1),
)

pub overflow_add-result-3 : goal.overflow_add-result-3
overflow_add-result-3 c = omega (
  arith,
  c.requires.ends,
  c.shared_slice_known-2-1.given (c.args.at + 1),
  c.type_inv.s (c.args.at + 2),
)

pub returns : goal.returns
returns c = λ e. is-quick c.args.s.now c.args.at c.args.number c.args.end c.args.wanted (omega (
  arith,
  c.requires.inside,
  c.if-s-at-lt3.false,
)) c.if-not-gap-skip.false c.if-number-gap.false e
