-- Three tests of three bytes that are there.
use Prim.Native.Nat.{ℕ, ◌+◌}
use mathlib.Core.Path.{◌≡◌}
use native.Mathlib.Omega.{arith}
use lib.ListN.{get_or}
use Rattle.index.proofs.Ranges.{small-three}
use Rattle.index.proofs.is_near.Goals as goal

pub returns-then-s-lt3 : goal.returns-then-s-lt3
returns-then-s-lt3 c = λ e. let z : ◌≡◌ {A = ℕ} 0 1 = cc in let n : ⊥ = omega arith in absurd n

pub returns : goal.returns
returns c = λ e.
    let small = small-three (get_or c.args.s.now c.args.at 0) (get_or c.args.s.now (c.args.at + 1) 0) (get_or c.args.s.now (c.args.at + 2) 0) e in
    record {
      inside = omega arith;
      first = small.0;
      second = small.1.0;
      third = small.1.1;
    }
