-- Values that are there exactly where another is: a question has none of them, a command all.
use Prim.Native.Nat.{ℕ}
use mathlib.Core.Bool.{◌&&◌, Bool, cond, false, not, true}
use mathlib.Core.Path.{◌≡◌, refl}
use native.Mathlib.Omega.{arith}
use lib.Dec.{eqb}
use borrow.Author.Tests.{eqb-false, eqb-true}
use Rattle.form.specs.Values.{alike_wrong, needed_int, needed_wrong, range_wrong}
use Rattle.form.specs.declared.Maybe.{Maybe}
use Rattle.form.specs.declared.got.Got.{Got}
use Rattle.form.specs.declared.got.GotInt.{GotInt}
use Rattle.form.proofs.Ranged.{zero-outside}
use Rattle.form.proofs.Values.{inside}

pub alike-parts : (needed there : Bool) (w : ℕ) → alike_wrong needed there w ≡ 0 → (needed ≡ there) × (w ≡ 0)
unfolding alike_wrong
alike-parts true true w e = (refl, e)
alike-parts false false w e = (refl, e)
alike-parts true false w e = let z : ⊥ = omega arith in absurd z
alike-parts false true w e = let z : ⊥ = omega arith in absurd z

-- A missing value is zero.
abbrev pub Held : Maybe → Type 0
Held m = m.there ≡ false → m.value ≡ 0

pub range-held : (lo hi : ℕ) (m : Maybe) → range_wrong lo hi m.there m.value ≡ 0 → Held m
unfolding range_wrong
range-held lo hi m e q = let i = inside 0 0 m.value (rw q at e) in omega (arith, i.1)

-- The other way: what was read where another value says so.
there-too : (n t : Bool) → ◌≡◌ {A = ℕ} (cond (n && not t) 1 0) 0 → n ≡ true → t ≡ true
there-too n true i q = refl
there-too true false i q = let z : ⊥ = omega arith in absurd z
there-too false false i q = q

needed-both : (needed : Bool) (w : ℕ) (there : Bool) → cond (eqb w 0) (cond (needed && not there) 1 0) w ≡ 0 → (w ≡ 0)
    × (needed ≡ true → there ≡ true)
needed-both needed w there e = go (eqb w 0) refl e
  where
    go : (t : Bool) → eqb w 0 ≡ t → cond t (cond (needed && not there) 1 0) w ≡ 0 → (w ≡ 0) × (needed ≡ true → there ≡ true)
    go true q i = (eqb-true w 0 q, there-too needed there i)
    go false q i = absurd (eqb-false w 0 q i)

pub needed-parts : (needed : Bool) (g : Got) → needed_wrong needed g ≡ 0 → (g.wrong ≡ 0) × (needed ≡ true → g.there ≡ true)
needed-parts needed g e = needed-both needed g.wrong g.there e

pub needed-int-parts : (needed : Bool) (g : GotInt) → needed_int needed g ≡ 0 → (g.wrong ≡ 0) × (needed ≡ true → g.there ≡ true)
needed-int-parts needed g e = needed-both needed g.wrong g.there e

pub no-range : (lo hi : ℕ) → range_wrong lo hi false 0 ≡ 0
unfolding range_wrong
no-range lo hi = zero-outside
