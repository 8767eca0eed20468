-- What is written of a value in its range is read as that value: the two sides of a form, met from the writer's.
use Prim.Native.Nat.{◌≤◌, ℕ}
use mathlib.Core.Bool.{◌&&◌, Bool, cond, false, true}
use mathlib.Core.List.{[], List}
use Rattle.std.specs.Prelude.{Option, Some}
use mathlib.Core.Path.{◌≡◌, ap, refl, sym}
use native.Mathlib.Omega.{arith}
use lib.Dec.{leb}
use lib.IntN.{nat_abs, negsuc, pos, ℤ}
use lib.ListN.{length}
use borrow.Author.Tests.{leb-true, ne_eqb}
use Rattle.digits.proofs.Bools.{and_left, and_right}
use Rattle.form.specs.Got.{maybe_int_of, maybe_of}
use Rattle.form.specs.Units.{empty_wrong, unit_wrong}
use Rattle.form.specs.Values.{if_there, outside, range_wrong, signed_wrong, unit_field}
use Rattle.form.specs.declared.got.Got.{Got}
use Rattle.form.specs.declared.got.GotInt.{GotInt}
use Rattle.form.proofs.UnitLaws.{unit-empty, unit-letter}

-- A value that is good, whether it is there or missing.
abbrev pub the_got : Bool → ℕ → Got
the_got there v = record { wrong = 0; there = there; value = v }

abbrev pub the_got_int : Bool → ℤ → GotInt
the_got_int there z = record { wrong = 0; there = there; value = z }

pub zero_one : (t : Bool) → ◌≡◌ {A = ℕ} (cond t 0 1) 0 → t ≡ true
zero_one true e = refl
zero_one false e = let z : ⊥ = omega arith in absurd z

pub inside : (lo hi v : ℕ) → outside lo hi v ≡ 0 → (lo ≤ v) × (v ≤ hi)
unfolding outside
inside lo hi v e =
    let t = zero_one (leb lo v && leb v hi) e in
    (leb-true lo v (and_left _ _ t), leb-true v hi (and_right (leb lo v) _ t))

pub no_size : (z : ℤ) → nat_abs z ≡ 0 → z ≡ pos 0
no_size (pos n) e = ap pos e
no_size (negsuc n) e = let z : ⊥ = omega arith in absurd z

-- A field that may be empty, by what it reads where it is not.
module _ (form : List ℕ → Option ℕ) (text : ℕ → List ℕ) (lo hi : ℕ) (reads : (v : ℕ) → lo ≤ v → v ≤ hi → form (text v) ≡ Some v)
    (filled : (v : ℕ) → lo ≤ v → v ≤ hi → length (text v) ≡ 0 → ⊥) where
  pub maybe_back : (there : Bool) (v : ℕ) → range_wrong lo hi there v ≡ 0
      → maybe_of (if_there there (text v)) (form (if_there there (text v))) ≡ the_got there v
  unfolding range_wrong maybe_of
  maybe_back true v e = let i = inside lo hi v e in rw (ne_eqb (length (text v)) 0 (filled v i.0 i.1), reads v i.0 i.1)
  maybe_back false v e = let i = inside 0 0 v e in let q : 0 ≡ v = omega (arith, i.1) in ap (the_got false) q

module _ (form : List ℕ → Option ℤ) (text : ℤ → List ℕ) (hi : ℕ) (reads : (z : ℤ) → nat_abs z ≤ hi → form (text z) ≡ Some z)
    (filled : (z : ℤ) → nat_abs z ≤ hi → length (text z) ≡ 0 → ⊥) where
  pub maybe-int-back : (there : Bool) (z : ℤ) → signed_wrong hi there z ≡ 0
      → maybe_int_of (if_there there (text z)) (form (if_there there (text z))) ≡ the_got_int there z
  unfolding signed_wrong range_wrong maybe_int_of
  maybe-int-back true z e = let i = inside 0 hi (nat_abs z) e in rw (ne_eqb (length (text z)) 0 (filled z i.1), reads z i.1)
  maybe-int-back false z e = let i = inside 0 0 (nat_abs z) e in let q : nat_abs z ≡ 0 =
      omega (arith, i.1) in ap (the_got_int false) (sym (no_size z q))

-- Letters: of a unit, of a set, and none.
pub unit-back : (there : Bool) (b : ℕ) → unit_wrong (unit_field there b) there b ≡ 0
unit-back true b = unit-letter true b
unit-back false b = unit-empty b

pub empty_back : empty_wrong [] ≡ 0
unfolding empty_wrong
empty_back = refl
