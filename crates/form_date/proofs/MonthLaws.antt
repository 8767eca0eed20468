-- The list of the months' lengths is the calendar's of a common year, entry by entry, and a year differs from it in February alone.
use Prim.Native.Nat.{◌+◌, ◌-◌, ◌≤◌, ℕ}
use mathlib.Core.Bool.{◌&&◌, Bool, cond, false, true}
use mathlib.Core.List.{[], ◌∷◌, List}
use mathlib.Core.Path.{◌∙◌, ◌≡◌, ap, refl}
use native.Mathlib.Omega.{arith}
use lib.Dec.{eqb}
use lib.ListN.{get_or}
use borrow.Author.Tests.{le-leb}
use Rattle.digits.proofs.Bools.{and_left, and_right}
use Rattle.digits.proofs.Filled.{filled, filled_at}
use Rattle.form_date.specs.Calendar.{days_in, leap_year}

-- The lengths of the months of year 1, which is a common one.
abbrev pub lengths : List ℕ
lengths = 31 ∷ 28 ∷ 31 ∷ 30 ∷ 31 ∷ 30 ∷ 31 ∷ 31 ∷ 30 ∷ 31 ∷ 30 ∷ 31 ∷ []

lengths-are : lengths ≡ filled (λ k. days_in k 1) 1 12
unfolding days_in leap_year
lengths-are = refl

february : (t l : Bool) (x : ℕ) → (t && l) ≡ false → cond t 28 x ≡ cond t (cond l 29 28) x
february true true x e = let z : ◌≡◌ {A = ℕ} 0 1 = cc in let w : ⊥ = omega arith in absurd w
february true false x e = refl
february false l x e = refl

-- A month of some year.
module _ (m y : ℕ) (h : 1 ≤ m) (k : m ≤ 12) where
  -- Of a month that is no February of a leap year, the list has the days.
  pub days-common : (eqb m 2 && leap_year y) ≡ false → get_or lengths (m - 1) 0 ≡ days_in m y
  unfolding days_in leap_year
  days-common e =
      let s : 1 + (m - 1) ≡ m = omega arith in
      rw lengths-are (filled_at (λ k. days_in k 1) 1 12 (m - 1) (omega arith)
      ∙ ap (λ n. days_in n 1) s
      ∙ rw (le-leb 1 m h, le-leb m 12 k) (february (eqb m 2) _ _ e))

  -- Such a February has 29.
  pub days-leap : (eqb m 2 && leap_year y) ≡ true → days_in m y ≡ 29
  unfolding days_in
  days-leap e = rw (le-leb 1 m h, le-leb m 12 k, and_left (eqb m 2) (leap_year y) e, and_right (eqb m 2) (leap_year y) e)
