-- The tests of the code, taken apart.
use Prim.Native.Nat.{ℕ}
use mathlib.Core.Path.{◌≡◌}
use native.Mathlib.Omega.{arith}
use Rattle.index.proofs.Planning.{tested_low, is-small}
use Rattle.index.proofs.writing.is_small.Goals as goal

pub returns-then-entries-i-lt3 : goal.returns-then-entries-i-lt3
returns-then-entries-i-lt3 c = λ e. let z : ◌≡◌ {A = ℕ} 0 1 = cc in let n : ⊥ = omega arith in absurd n

pub returns-then-not-number-n : goal.returns-then-not-number-n
returns-then-not-number-n c = λ e. let z : ◌≡◌ {A = ℕ} 0 1 = cc in let n : ⊥ = omega arith in absurd n

pub overflow_add-result : goal.overflow_add-result
overflow_add-result c = let low = tested_low c.args.entries.now c.args.i c.args.number c.args.end c.if-not-number-n.false in
    omega (arith, low.0, low.1, c.requires.ends)

pub returns : goal.returns
returns c = λ e. is-small c.args.entries.now c.args.i c.args.number c.args.end (omega (
  arith,
  c.requires.inside,
  c.if-entries-i-lt3.false,
)) c.if-not-number-n.false e
