-- Numbers in thousandths: at most six digits before the point and three behind it leave a value below a thousand million.
use Prim.Native.Nat.{◌*◌, ◌+◌, ◌-◌, ◌<◌, ◌^◌, ◌≤◌, suc, zero, ℕ}
use mathlib.Core.Bool.{Bool, cond, false, true}
use mathlib.Core.List.{[], ◌∷◌, List}
use Rattle.std.specs.Prelude.{None, Option, option_map, Some}
use Rattle.digits.specs.Bind.{bind}
use Rattle.digits.proofs.Options.{some-injective}
use mathlib.Core.Path.{◌≡◌, refl, sym}
use native.Mathlib.Omega.{arith}
use lib.Dec.{eqb, ltb}
use lib.IntN.{nat_abs, ℤ}
use lib.ListN.{drop, get_or, length}
use borrow.Author.Tests.{eq-eqb, ltb-true, ne_eqb}
use Rattle.digits.specs.Decimal.{digits_of, find_in}
use Rattle.digits.specs.Sign.{signed, Under}
use Rattle.digits.proofs.Bounds.{digits-count, digits-len, digits_lt}
use Rattle.digits.proofs.Options.{nothing, through}
use Rattle.digits.proofs.SignLaws.{size}
use Rattle.form_number.specs.Number.{before, behind, below_of, height_of, number_of, thousandths}

scaled : (l v : ℕ) → 1 ≤ l → l ≤ 3 → v < 10 ^ l → v * 10 ^ (3 - l) < 1000
scaled zero v a b h = let z : ⊥ = omega arith in absurd z
scaled (suc zero) v a b h = omega arith
scaled (suc (suc zero)) v a b h = omega arith
scaled (suc (suc (suc zero))) v a b h = omega arith
scaled (suc (suc (suc (suc l)))) v a b h = let z : ⊥ = omega arith in absurd z

-- One to three digits behind a point are less than one.
pub fraction-lt : (t : List ℕ) (m : ℕ) → digits_of 1 3 t ≡ Some m → m * 10 ^ (3 - length t) < 1000
fraction-lt t m e =
    let k = digits-count 1 3 t m e in
    scaled (length t) m k.0 k.1 (digits-len 1 3 t m e)

-- So what stands behind a point is below a thousand.
pub thousandths-lt : (t : List ℕ) (v : ℕ) → thousandths t ≡ Some v → v < 1000
unfolding thousandths
thousandths-lt t v e = go (digits_of 1 3 t) refl e
  where
    go : (o : Option ℕ) → digits_of 1 3 t ≡ o → option_map (λ m. m * 10 ^ (3 - length t)) o ≡ Some v → v < 1000
    go (Some m) d q = let p : m * 10 ^ (3 - length t) ≡ v = cc in rw p at (fraction-lt t m d)
    go None d q = nothing v q

-- A number is below a thousand million thousandths.
pub number_lt : (f : List ℕ) (v : ℕ) → number_of f ≡ Some v → v < 1000000000
unfolding number_of
number_lt f v e = go (digits_of 1 6 (before f)) refl e
  where
    behind-point : (n : ℕ) (o : Option ℕ) → n < 1000000 → thousandths (behind f) ≡ o → option_map (λ m. n * 1000 + m) o ≡ Some v
        → v < 1000000000
    behind-point n (Some m) h d q = let p : n * 1000 + m ≡ v = cc in omega (arith, thousandths-lt (behind f) m d)
    behind-point n None h d q = nothing v q

    by-point : (n : ℕ) (t : Bool) → n < 1000000 → cond t (option_map (λ m. n * 1000 + m) (thousandths (behind f)))
        (Some (n * 1000)) ≡ Some v → v < 1000000000
    by-point n true h q = behind-point n (thousandths (behind f)) h refl q
    by-point n false h q = let p : n * 1000 ≡ v = cc in omega arith

    go : (o : Option ℕ) → digits_of 1 6 (before f) ≡ o
        → bind o (λ n. cond (ltb (find_in 46 f) (length f)) (option_map (λ m. n * 1000 + m) (thousandths (behind f)))
        (Some (n * 1000))) ≡ Some v → v < 1000000000
    go (Some n) d q = by-point n (ltb (find_in 46 f) (length f)) (digits_lt 1 6 (before f) n d) q
    go None d q = nothing v q

-- A number below a limit is a number, and is below it.
pub below-lt : (limit : ℕ) (f : List ℕ) (v : ℕ) → below_of limit f ≡ Some v → (v < 1000000000) × (v < limit)
unfolding below_of
below-lt limit f v e = go (number_of f) refl e
  where
    go : (o : Option ℕ) → number_of f ≡ o → bind o (λ x. cond (ltb x limit) (Some x) None) ≡ Some v → (v < 1000000000) × (v < limit)
    go (Some x) d q =
        let t = through _ _ _ q in
        let p : x ≡ v = some-injective x v t.1 in
        (rw p at (number_lt f x d), rw p at (ltb-true x limit t.0))
    go None d q = nothing v q

signed-size : (minus : Bool) (f : List ℕ) (z : ℤ) → option_map (signed minus) (number_of f) ≡ Some z → nat_abs z < 1000000000
signed-size minus f z e = go (number_of f) refl e
  where
    go : (o : Option ℕ) → number_of f ≡ o → option_map (signed minus) o ≡ Some z → nat_abs z < 1000000000
    go (Some v) d q = let p : signed minus v ≡ z = cc in rw (← p, size) (number_lt f v d)
    go None d q = nothing z q

-- A height is as small, up or down.
pub height-lt : (f : List ℕ) (z : ℤ) → height_of f ≡ Some z → nat_abs z < 1000000000
unfolding height_of
height-lt [] z e = nothing z e
height-lt (b ∷ f) z e = go (eqb b 45) e
  where
    go : (t : Bool) → cond t (option_map (signed true) (number_of f)) (option_map (signed false) (number_of (b ∷ f))) ≡ Some z
        → nat_abs z < 1000000000
    go true q = signed-size true f z q
    go false q = signed-size false (b ∷ f) z q

-- What a reader of numbers answers can be held with either sign.
pub number-under : (f : List ℕ) (o : Option ℕ) → o ≡ number_of f → Under 1000000000 o
number-under f (Some v) e = number_lt f v (sym e)
number-under f None e = tt

-- The same of a number below a limit.
pub below-under : (limit : ℕ) (f : List ℕ) (o : Option ℕ) → o ≡ below_of limit f → Under 1000000000 o
below-under limit f (Some v) e = (below-lt limit f v (sym e)).0
below-under limit f None e = tt

-- A height with a minus is the negative of the number behind it.
pub height-minus : (f : List ℕ) → (length f ≡ 0 → ⊥) → get_or f 0 0 ≡ 45 → height_of f ≡ option_map (signed true) (number_of (drop 1 f))
unfolding height_of
height-minus [] h e = absurd (h refl)
height-minus (b ∷ f) h e = rw (eq-eqb b 45 e)

-- A height without a minus is its number.
pub height-plain : (f : List ℕ) → (length f ≡ 0 → ⊥) → (get_or f 0 0 ≡ 45 → ⊥) → height_of f ≡ option_map (signed false) (number_of f)
unfolding height_of
height-plain [] h n = absurd (h refl)
height-plain (b ∷ f) h n = rw (ne_eqb b 45 n)
