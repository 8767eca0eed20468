-- A GSV record without a fault.
use Prim.Native.Nat.{◌≤◌}
use mathlib.Core.Bool.{Bool, false, true}
use mathlib.Core.Path.{◌≡◌, refl}
use native.Mathlib.Omega.{arith}
use lib.Dec.{eqb, ltb}
use borrow.Author.Tests.{eqb-true, le-ltb, ltb-false}
use Rattle.digits.specs.Pick.{pick}
use Rattle.frame.specs.Written.{refused, wrote}
use Rattle.kind_gsv.specs.declared.Gsv.{Gsv}
use Rattle.kind_gsv.specs.Writing.{gsv_fault, gsv_wrong, rest_blank}

pub record Good (r : Gsv) : Type 0 where
  pub few : r.count ≤ 4
  pub values : gsv_wrong r ≡ 0
  pub blank : rest_blank r ≡ true

pub good-is : (r : Gsv) → (gsv_fault r).no ≡ 0 → Good r
unfolding gsv_fault
good-is r e = go (ltb 4 r.count) (eqb (gsv_wrong r) 0) (rest_blank r) refl refl refl e
  where
    go : (a b c : Bool) → ltb 4 r.count ≡ a → eqb (gsv_wrong r) 0 ≡ b → rest_blank r ≡ c
        → (pick a (refused 5 0 0) (pick b (pick c (wrote 0) (refused 5 0 0)) (refused 5 1 (gsv_wrong r)))).no ≡ 0 → Good r
    go true b c p q s i = let z : ⊥ = omega arith in absurd z
    go false false c p q s i = let z : ⊥ = omega arith in absurd z
    go false true false p q s i = let z : ⊥ = omega arith in absurd z
    go false true true p q s i = record { few = ltb-false 4 r.count p; values = eqb-true (gsv_wrong r) 0 q; blank = s }

pub fault-none : (r : Gsv) → Good r → gsv_fault r ≡ wrote 0
unfolding gsv_fault
fault-none r g = rw (le-ltb 4 r.count g.few, g.values, g.blank)
