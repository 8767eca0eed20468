-- Numbers from both sides: a number is digits, or digits, a point and digits, and it reads as their value. The first point is found behind
-- the digits before it, since no digit is a point.
use Prim.Native.Nat.{◌%◌, ◌*◌, ◌+◌, ◌-◌, ◌/◌, ◌<◌, ◌^◌, ◌≤◌, suc, zero, ℕ}
use mathlib.Core.Bool.{Bool, cond, false, true}
use mathlib.Core.List.{[], ◌++◌, ◌∷◌, append_assoc, append-nil, List}
use Rattle.std.specs.Prelude.{None, Option, option_map, Some}
use Rattle.digits.specs.Bind.{bind}
use Rattle.digits.proofs.Options.{some-injective}
use mathlib.Core.Path.{◌∙◌, ◌≡◌, ap, refl, subst, sym}
use native.Mathlib.Nat.{add-zero, zero-add}
use native.Mathlib.Numerals.{add-one}
use native.Mathlib.Omega.{arith}
use lib.Dec.{eqb, lit<, ltb}
use lib.IntN.{ℤ}
use lib.ListN.{drop, length, length-append, take}
use lib.Seq.{drop-append-add, take_all, take_at}
use borrow.Author.Tests.{eqb-true, le-ltb, lt-ltb, ltb-false, ltb-true, ne_eqb}
use Rattle.digits.specs.Decimal.{digits_of, find_in, print_fixed}
use Rattle.digits.specs.Sign.{signed}
use Rattle.digits.proofs.Bounds.{digits-count, digits-len}
use Rattle.digits.proofs.DecimalLaws.{length-fixed}
use Rattle.digits.proofs.DigitSides.{digits_are, digits-read}
use Rattle.digits.proofs.Options.{nothing, through}
use Rattle.form_number.specs.Number.{before, behind, below_of, height_of, number_of, thousandths}

-- The numbers, and their values in thousandths.
pub data Written : List ℕ → ℕ → Type 0 where
  whole : {k n : ℕ} → 1 ≤ k → k ≤ 6 → n < 10 ^ k → Written (print_fixed k n) (n * 1000)
  pointed : {k n j m : ℕ} → 1 ≤ k → k ≤ 6 → n < 10 ^ k → 1 ≤ j → j ≤ 3 → m < 10 ^ j
      → Written (print_fixed k n ++ (46 ∷ print_fixed j m)) (n * 1000 + m * 10 ^ (3 - j))

-- No digit is a byte below 48.
find_past : (b w n : ℕ) (ys : List ℕ) → b < 48 → find_in b (print_fixed w n ++ ys) ≡ find_in b ys + w
unfolding print_fixed find_in
find_past b zero n ys h = sym (add-zero (find_in b ys))
find_past b (suc w) n ys h =
    rw (append_assoc, find_past b w (n / 10) ((48 + n % 10) ∷ ys) h, ne_eqb (48 + n % 10) b (λ e. omega arith)) (omega arith)

find-fixed : (w n : ℕ) → find_in 46 (print_fixed w n) ≡ w
unfolding find_in
find-fixed w n = ap (find_in 46) (sym (append-nil (print_fixed w n))) ∙ find_past 46 w n [] (lit< tt) ∙ zero-add w

find-point : (w n : ℕ) (t : List ℕ) → find_in 46 (print_fixed w n ++ (46 ∷ t)) ≡ w
unfolding find_in
find-point w n t = find_past 46 w n (46 ∷ t) (lit< tt) ∙ zero-add w

whole-reads : (k n : ℕ) → 1 ≤ k → k ≤ 6 → n < 10 ^ k → number_of (print_fixed k n) ≡ Some (n * 1000)
unfolding number_of before
whole-reads k n a b h =
    rw (find-fixed, length-fixed, take_all k (print_fixed k n) (omega (arith, length-fixed k n)))
    (rw (digits-read 1 6 k n a b (omega arith) h, le-ltb k k (omega arith)))

pointed-reads : (k n j m : ℕ) → 1 ≤ k → k ≤ 6 → n < 10 ^ k → 1 ≤ j → j ≤ 3 → m < 10 ^ j
    → number_of (print_fixed k n ++ (46 ∷ print_fixed j m)) ≡ Some (n * 1000 + m * 10 ^ (3 - j))
unfolding number_of before behind thousandths
pointed-reads k n j m a b h c d i =
    let l : length (print_fixed k n ++ (46 ∷ print_fixed j m)) ≡ k + suc j = length-append (print_fixed k n) (46 ∷ print_fixed j m)
    ∙ rw (length-fixed k n, length-fixed j m) in
    let f : k < length (print_fixed k n ++ (46 ∷ print_fixed j m)) = rw l (omega arith) in
    let p : drop (k + 1) (print_fixed k n ++ (46 ∷ print_fixed j m)) ≡ print_fixed j m =
    rw (ap (λ (x : ℕ). x + 1) (sym (length-fixed k n)), drop-append-add) in
    rw (find-point, lt-ltb _ _ f, take_at (print_fixed k n) (46 ∷ print_fixed j m) k (length-fixed k n))
    (rw (digits-read 1 6 k n a b (omega arith) h, p, length-fixed, digits-read 1 3 j m c d (omega arith) i))

-- Each number reads as its value.
pub number-reads : {f : List ℕ} {v : ℕ} → Written f v → number_of f ≡ Some v
number-reads (whole {k} {n} a b h) = whole-reads k n a b h
number-reads (pointed {k} {n} {j} {m} a b h c d i) = pointed-reads k n j m a b h c d i

-- A list with a point is what stands before it, the point, and what stands behind it.
at-point : (f : List ℕ) → find_in 46 f < length f → f ≡ before f ++ (46 ∷ behind f)
unfolding find_in before behind
at-point [] h = let z : ⊥ = omega arith in absurd z
at-point (x ∷ f) h = go (eqb x 46) refl h (at-point f)
  where
    go : (t : Bool) → eqb x 46 ≡ t → cond t 0 (find_in 46 f + 1) < suc (length f)
        → (find_in 46 f < length f → f ≡ take (find_in 46 f) f ++ (46 ∷ drop (find_in 46 f + 1) f))
        → x ∷ f ≡ take (cond t 0 (find_in 46 f + 1)) (x ∷ f) ++ (46 ∷ drop (cond t 0 (find_in 46 f + 1) + 1) (x ∷ f))
    go true e k r = rw (eqb-true x 46 e)
    go false e k r = rw (add-one (find_in 46 f), add-one (suc (find_in 46 f)))
        (ap (λ (l : List ℕ). x ∷ l) (rw (add-one (find_in 46 f)) at (r (omega arith))))

no-point : (f : List ℕ) → length f ≤ find_in 46 f → before f ≡ f
unfolding before
no-point f h = take_all (find_in 46 f) f h

-- What reads is a number with that value.
pub number_is : (f : List ℕ) (v : ℕ) → number_of f ≡ Some v → Written f v
unfolding number_of thousandths
number_is f v e = go (digits_of 1 6 (before f)) refl e
  where
    point : (n : ℕ) (o : Option ℕ) → digits_of 1 6 (before f) ≡ Some n → find_in 46 f < length f → digits_of 1 3 (behind f) ≡ o
        → option_map (λ m. n * 1000 + m) (option_map (λ m. m * 10 ^ (3 - length (behind f))) o) ≡ Some v → Written f v
    point n None d h i q = nothing v q
    point n (Some m) d h i q =
        let a = digits-count 1 6 (before f) n d in
        let b = digits-count 1 3 (behind f) m i in
        let t : print_fixed (length (before f)) n ++ (46 ∷ print_fixed (length (behind f)) m) ≡ f =
        rw (← digits_are 1 6 (before f) n d, ← digits_are 1 3 (behind f) m i) (sym (at-point f h)) in
        let p : n * 1000 + m * 10 ^ (3 - length (behind f)) ≡ v = some-injective _ v q in
        subst (λ (x : ℕ). Written f x) p (subst (λ (l : List ℕ). Written l (n * 1000 + m * 10 ^ (3 - length (behind f)))) t
        (pointed a.0 a.1 (digits-len 1 6 (before f) n d) b.0 b.1 (digits-len 1 3 (behind f) m i)))

    by-point : (n : ℕ) (t : Bool) → digits_of 1 6 (before f) ≡ Some n → ltb (find_in 46 f) (length f) ≡ t
        → cond t (option_map (λ m. n * 1000 + m) (thousandths (behind f))) (Some (n * 1000)) ≡ Some v → Written f v
    by-point n true d h q = point n (digits_of 1 3 (behind f)) d (ltb-true _ _ h) refl q
    by-point n false d h q =
        let a = digits-count 1 6 (before f) n d in
        let t : print_fixed (length (before f)) n ≡ f = sym (digits_are 1 6 (before f) n d) ∙ no-point f (ltb-false _ _ h) in
        let p : n * 1000 ≡ v = some-injective (n * 1000) v q in
        subst (λ (x : ℕ). Written f x) p
        (subst (λ (l : List ℕ). Written l (n * 1000)) t (whole a.0 a.1 (digits-len 1 6 (before f) n d)))

    go : (o : Option ℕ) → digits_of 1 6 (before f) ≡ o
        → bind o (λ n. cond (ltb (find_in 46 f) (length f)) (option_map (λ m. n * 1000 + m) (thousandths (behind f)))
        (Some (n * 1000))) ≡ Some v → Written f v
    go (Some n) d q = by-point n (ltb (find_in 46 f) (length f)) d refl q
    go None d q = nothing v q

-- The heights: a number, or a minus and a number.
pub data WrittenHeight : List ℕ → ℤ → Type 0 where
  plain : {f : List ℕ} {v : ℕ} → Written f v → WrittenHeight f (signed false v)
  minus : {f : List ℕ} {v : ℕ} → Written f v → WrittenHeight (45 ∷ f) (signed true v)

-- No number starts with a minus.
past-minus : {f : List ℕ} {v : ℕ} → Written f v → 1 ≤ find_in 45 f
unfolding find_in
past-minus (whole {k} {n} a b h) =
    let e : find_in 45 (print_fixed k n) ≡ k = ap (find_in 45) (sym (append-nil (print_fixed k n))) ∙ find_past 45 k n [] (lit< tt)
    ∙ zero-add k in
    rw e a
past-minus (pointed {k} {n} {j} {m} a b h c d i) = rw (find_past 45 k n (46 ∷ print_fixed j m) (lit< tt)) (omega arith)

without-minus : (f : List ℕ) → 1 ≤ find_in 45 f → height_of f ≡ option_map (signed false) (number_of f)
unfolding height_of find_in
without-minus [] h = let z : ⊥ = omega arith in absurd z
without-minus (b ∷ f) h = go (eqb b 45) h
  where
    go : (t : Bool) → 1 ≤ cond t 0 (find_in 45 f + 1)
        → cond t (option_map (signed true) (number_of f)) (option_map (signed false) (number_of (b ∷ f))) ≡ option_map (signed false)
        (number_of (b ∷ f))
    go true k = let z : ⊥ = omega arith in absurd z
    go false k = refl

-- Each height reads as its value.
pub height-reads : {f : List ℕ} {z : ℤ} → WrittenHeight f z → height_of f ≡ Some z
unfolding height_of
height-reads (plain {f} w) = without-minus f (past-minus w) ∙ rw (number-reads w)
height-reads (minus w) = rw (number-reads w)

-- What reads is a height with that value.
pub height-is : (f : List ℕ) (z : ℤ) → height_of f ≡ Some z → WrittenHeight f z
unfolding height_of
height-is [] z e = nothing z e
height-is (b ∷ f) z e = go (eqb b 45) refl e
  where
    plainly : (o : Option ℕ) → number_of (b ∷ f) ≡ o → option_map (signed false) o ≡ Some z → WrittenHeight (b ∷ f) z
    plainly None d q = nothing z q
    plainly (Some v) d q = subst (λ (x : ℤ). WrittenHeight (b ∷ f) x) (some-injective (signed false v) z q)
        (plain (number_is (b ∷ f) v d))

    negated : (o : Option ℕ) → b ≡ 45 → number_of f ≡ o → option_map (signed true) o ≡ Some z → WrittenHeight (b ∷ f) z
    negated None h d q = nothing z q
    negated (Some v) h d q =
        rw h (subst (λ (x : ℤ). WrittenHeight (45 ∷ f) x) (some-injective (signed true v) z q) (minus (number_is f v d)))

    go : (t : Bool) → eqb b 45 ≡ t → cond t (option_map (signed true) (number_of f))
        (option_map (signed false) (number_of (b ∷ f))) ≡ Some z → WrittenHeight (b ∷ f) z
    go true h q = negated (number_of f) (eqb-true b 45 h) refl q
    go false h q = plainly (number_of (b ∷ f)) refl q

-- A number below a limit is a number whose value is below it.
pub below-is : (limit : ℕ) (f : List ℕ) (v : ℕ) → below_of limit f ≡ Some v → Written f v × (v < limit)
unfolding below_of
below-is limit f v e = go (number_of f) refl e
  where
    go : (o : Option ℕ) → number_of f ≡ o → bind o (λ x. cond (ltb x limit) (Some x) None) ≡ Some v → Written f v × (v < limit)
    go None d q = nothing v q
    go (Some x) d q =
        let t = through (ltb x limit) (Some x) v q in
        let p : x ≡ v = some-injective x v t.1 in
        (number_is f v (rw p at d), rw p at (ltb-true x limit t.0))

-- And each such number reads.
pub below-reads : {f : List ℕ} {v : ℕ} (limit : ℕ) → Written f v → v < limit → below_of limit f ≡ Some v
unfolding below_of
below-reads {f} {v} limit w h = rw (number-reads w, lt-ltb v limit h)

-- A number is not empty.
pub not-empty : {f : List ℕ} {v : ℕ} → Written f v → length f ≡ 0 → ⊥
not-empty (whole {k} {n} a b h) e = omega (arith, length-fixed k n)
not-empty (pointed {k} {n} {j} {m} a b h c d i) e = omega (arith, length-append (print_fixed k n) (46 ∷ print_fixed j m))
