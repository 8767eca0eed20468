-- How many digits a number has, by the tests of the code in their order.
use Prim.Native.Nat.{◌%◌, ◌/◌, ◌<◌, ◌≤◌, ℕ}
use mathlib.Core.Path.{◌≡◌}
use mathlib.Core.List.{[], ◌∷◌}
use borrow.Author.Tests.{eq-eqb, le-ltb, lt-ltb, ne_eqb}
use Rattle.digits.specs.Decimal.{print_fixed}
use Rattle.digits.specs.Plain.{fraction_text, plain_text, width_of}

module _ (n : ℕ) where
  pub plain-one : n < 10 → print_fixed 1 n ≡ plain_text n
  unfolding plain_text width_of
  plain-one h = rw (lt-ltb n 10 h)

  module _ (a : 10 ≤ n) where
    pub plain-two : n < 100 → print_fixed 2 n ≡ plain_text n
    unfolding plain_text width_of
    plain-two h = rw (le-ltb n 10 a, lt-ltb n 100 h)

    module _ (b : 100 ≤ n) where
      pub plain-three : n < 1000 → print_fixed 3 n ≡ plain_text n
      unfolding plain_text width_of
      plain-three h = rw (le-ltb n 10 a, le-ltb n 100 b, lt-ltb n 1000 h)

      module _ (c : 1000 ≤ n) where
        pub plain-four : n < 10000 → print_fixed 4 n ≡ plain_text n
        unfolding plain_text width_of
        plain-four h = rw (le-ltb n 10 a, le-ltb n 100 b, le-ltb n 1000 c, lt-ltb n 10000 h)

        module _ (d : 10000 ≤ n) where
          pub plain-five : n < 100000 → print_fixed 5 n ≡ plain_text n
          unfolding plain_text width_of
          plain-five h = rw (le-ltb n 10 a, le-ltb n 100 b, le-ltb n 1000 c, le-ltb n 10000 d, lt-ltb n 100000 h)

          pub plain-six : 100000 ≤ n → print_fixed 6 n ≡ plain_text n
          unfolding plain_text width_of
          plain-six h = rw (le-ltb n 10 a, le-ltb n 100 b, le-ltb n 1000 c, le-ltb n 10000 d, le-ltb n 100000 h)

module _ (m : ℕ) where
  pub no_fraction : m ≡ 0 → [] ≡ fraction_text m
  unfolding fraction_text
  no_fraction e = rw (eq-eqb m 0 e)

  module _ (h : m ≡ 0 → ⊥) where
    pub tenths : m % 100 ≡ 0 → 46 ∷ print_fixed 1 (m / 100) ≡ fraction_text m
    unfolding fraction_text
    tenths e = rw (ne_eqb m 0 h, eq-eqb (m % 100) 0 e)

    module _ (i : m % 100 ≡ 0 → ⊥) where
      pub hundredths : m % 10 ≡ 0 → 46 ∷ print_fixed 2 (m / 10) ≡ fraction_text m
      unfolding fraction_text
      hundredths e = rw (ne_eqb m 0 h, ne_eqb (m % 100) 0 i, eq-eqb (m % 10) 0 e)

      pub all_three : (m % 10 ≡ 0 → ⊥) → 46 ∷ print_fixed 3 m ≡ fraction_text m
      unfolding fraction_text
      all_three j = rw (ne_eqb m 0 h, ne_eqb (m % 100) 0 i, ne_eqb (m % 10) 0 j)
