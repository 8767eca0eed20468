-- Bytes that say a number, or that no number begins with, say the same whatever comes behind them: only a number whose bytes end too soon
-- waits for more. Once over the number of groups.
use Prim.Native.Nat.{◌*◌, ◌+◌, ◌-◌, suc, zero, ℕ}
use mathlib.Core.Bool.{Bool, false, true}
use mathlib.Core.List.{[], ◌++◌, ◌∷◌, List}
use mathlib.Core.Path.{◌∙◌, ◌≡◌, ap, refl}
use lib.Dec.{eqb, leb, ltb}
use Rattle.digits.specs.Pick.{pick}
use Rattle.index_sevens.specs.Sevens.{bad, most, onto, short, take_groups, take_sevens, Took, value, within}

-- The same with more bytes behind it.
abbrev pub more : List ℕ → Took → Took
more t (value v rest) = value v (rest ++ t)
more t short = short
more t bad = bad

more-onto : (t : List ℕ) (low : ℕ) (x : Took) → onto low (more t x) ≡ more t (onto low x)
more-onto t low short = refl
more-onto t low bad = refl
more-onto t low (value v rest) = go (eqb v 0)
  where
    go : (z : Bool) → pick z bad (value (low + 128 * v) (rest ++ t)) ≡ more t (pick z bad (value (low + 128 * v) rest))
    go true = refl
    go false = refl

pub groups-more : (w : ℕ) (s t : List ℕ) → (take_groups w s ≡ short → ⊥) → take_groups w (s ++ t) ≡ more t (take_groups w s)
unfolding take_groups
groups-more zero s t n = refl
groups-more (suc w) [] t n = absurd (n refl)
groups-more (suc w) (b ∷ s) t n = low (groups-more w s t) (ltb b 128) refl
  where
    Behind : Type 0
    Behind = (take_groups w s ≡ short → ⊥) → take_groups w (s ++ t) ≡ more t (take_groups w s)

    second : Behind → (z : Bool) → (pick z (onto (b - 128) (take_groups w s)) bad ≡ short → ⊥)
        → pick z (onto (b - 128) (take_groups w (s ++ t))) bad ≡ more t (pick z (onto (b - 128) (take_groups w s)) bad)
    second behind true k = ap (onto (b - 128)) (behind (λ e. k (ap (onto (b - 128)) e))) ∙ more-onto t (b - 128) (take_groups w s)
    second behind false k = refl

    low : Behind → (z : Bool) → ltb b 128 ≡ z → take_groups (suc w) (b ∷ s ++ t) ≡ more t (take_groups (suc w) (b ∷ s))
    low behind true e = simp e
    low behind false e = simp e (second behind (ltb b 256) (λ g. n (simp e g)))

pub sevens-more : (s t : List ℕ) → (take_sevens s ≡ short → ⊥) → take_sevens (s ++ t) ≡ more t (take_sevens s)
unfolding take_sevens
sevens-more s t n = ap within (groups-more 5 s t (λ e. n (ap within e))) ∙ go (take_groups 5 s)
  where
    go : (x : Took) → within (more t x) ≡ more t (within x)
    go short = refl
    go bad = refl
    go (value v rest) = test (leb v most)
      where
        test : (z : Bool) → pick z (value v (rest ++ t)) bad ≡ more t (pick z (value v rest) bad)
        test true = refl
        test false = refl
