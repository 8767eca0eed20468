-- The entry at the place is in order behind the number and the end, so that both differences are there.
use Prim.Native.Nat.{ℕ, ◌-◌}
use mathlib.Core.Path.{◌≡◌}
use native.Mathlib.Omega.{arith}
use lib.Dec.{ltb}
use lib.ListN.{get_or}
use borrow.Author.Tests.{ltb-true}
use Rattle.digits.proofs.Bools.{and_left, and_right}
use Rattle.index.proofs.Putting.{ordered-fits}
use Rattle.index.proofs.writing.is_close.Goals as goal

pub returns-then-entries-i-lt3 : goal.returns-then-entries-i-lt3
returns-then-entries-i-lt3 c = λ e. let z : ◌≡◌ {A = ℕ} 0 1 = cc in let n : ⊥ = omega arith in absurd n

pub overflow_sub-result : goal.overflow_sub-result
overflow_sub-result c = let f = ordered-fits c.requires (omega (arith, c.requires.inside, c.if-entries-i-lt3.false)) in
    omega (arith, f.later)

pub overflow_sub-result-2 : goal.overflow_sub-result-2
overflow_sub-result-2 c = let f = ordered-fits c.requires (omega (
  arith,
  c.requires.inside,
  c.if-entries-i-lt3.false,
)) in omega (arith, f.behind)

pub returns : goal.returns
returns c = λ e. record {
  inside = omega (arith, c.requires.inside, c.if-entries-i-lt3.false);
  gap = ltb-true _ _ (and_left _ _ e);
  skip = ltb-true _ _ (and_right (ltb (get_or c.args.entries.now c.args.i 0 - c.args.number) 128) _ e);
}
