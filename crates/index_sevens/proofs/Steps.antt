-- One turn of each loop over groups: of putting, of counting and of taking.
use Prim.Native.Nat.{◌%◌, ◌*◌, ◌+◌, ◌-◌, ◌/◌, ◌<◌, ◌^◌, ◌≤◌, suc, ℕ}
use mathlib.Core.Bool.{◌||◌, Bool, cond, false, true}
use mathlib.Core.List.{[], ◌∷◌, List}
use mathlib.Core.Path.{◌≡◌, ap, refl}
use native.Mathlib.Nat.{mul-add, mul_assoc, mul-le-mul, pow-le-pow_right, pow-suc}
use native.Mathlib.Numerals.{add-one}
use native.Mathlib.Omega.{arith}
use lib.Dec.{eqb, ltb}
use lib.ListN.{drop, drop_of_length-le, get_or, length, length-drop}
use lib.Seq.{drop-cons}
use borrow.Author.Tests.{eqb-false, le-leb, le-ltb, lt-leb, lt-ltb, ltb-false, ltb-true, ne_eqb}
use Rattle.digits.specs.Pick.{pick}
use Rattle.put.specs.Wrote.{Held, Puts, wrote}
use Rattle.index_sevens.specs.Places.{taken_at}
use Rattle.index_sevens.specs.Sevens.{bad, groups, most, onto, short, take_groups, take_sevens, Took, value, within}
use Rattle.index_sevens.specs.declared.Taken.TheVariants as T

-- The groups from the n-th on: the last one, or one before others.
module _ (n v : ℕ) (h : n < 5) where
  pub group-last : v < 128 → groups (5 - n) v ≡ v ∷ []
  unfolding groups
  group-last i = let e : 5 - n ≡ suc (5 - (n + 1)) = omega arith in rw (e, lt-ltb v 128 i)

  pub group-more : 128 ≤ v → groups (5 - n) v ≡ (128 + v % 128) ∷ groups (5 - (n + 1)) (v / 128)
  unfolding groups
  group-more i = let e : 5 - n ≡ suc (5 - (n + 1)) = omega arith in rw (e, le-ltb v 128 i)

-- Putting: the group that was put goes before those that are left.
pub put-more : {h k : Held} (n v : ℕ) → n < 5 → 128 ≤ v → Puts h ((128 + v % 128) ∷ []) k
    → wrote k (groups (5 - (n + 1)) (v / 128)) ≡ wrote h (groups (5 - n) v)
unfolding wrote
put-more n v h i p = rw (group-more n v h i, p.is)

pub put_last : {h k : Held} (n v : ℕ) → n < 5 → v < 128 → Puts h (v ∷ []) k → k ≡ wrote h (groups (5 - n) v)
unfolding wrote
put_last n v h i p = rw (group-last n v h i, p.is)

pub put-none : (h : Held) (n v : ℕ) → 5 ≤ n → h ≡ wrote h (groups (5 - n) v)
unfolding wrote groups
put-none h n v i = let e : 5 - n ≡ 0 = omega arith in rw e

-- The length: one for each group before the last.
pub size-more : (n v : ℕ) → n < 5 → 128 ≤ v → length (groups (5 - n) v) ≡ suc (length (groups (5 - (n + 1)) (v / 128)))
size-more n v h i = ap length (group-more n v h i)

pub size-last : (n v : ℕ) → n < 5 → v < 128 → length (groups (5 - n) v) ≡ 1
size-last n v h i = ap length (group-last n v h i)

pub size-fifth : (v : ℕ) → length (groups 1 v) ≡ 1
unfolding groups
size-fifth v = go (ltb v 128)
  where
    go : (t : Bool) → length (cond t (v ∷ []) ((128 + v % 128) ∷ [])) ≡ 1
    go true = refl
    go false = refl

-- Taking: the sum of the groups so far, and the unit of the next.
abbrev pub joined : ℕ → ℕ → Took → Took
joined sum unit (value v rest) = pick (eqb v 0) bad (value (sum + unit * v) rest)
joined sum unit short = short
joined sum unit bad = bad

joined-onto : (sum unit low : ℕ) (x : Took) → joined sum unit (onto low x) ≡ joined (sum + unit * low) (unit * 128) x
joined-onto sum unit low short = refl
joined-onto sum unit low bad = refl
joined-onto sum unit low (value v rest) = go (eqb v 0) refl
  where
    go : (t : Bool) → eqb v 0 ≡ t → joined sum unit (pick t bad (value (low + 128 * v) rest)) ≡ pick t bad
        (value (sum + unit * low + unit * 128 * v) rest)
    go true e = refl
    go false e =
        let some : eqb (low + 128 * v) 0 ≡ false = ne_eqb (low + 128 * v) 0 (λ z. omega (arith, eqb-false v 0 e)) in
        let sums : sum + unit * (low + 128 * v) ≡ sum + unit * low + unit * 128 * v = omega
        (arith, mul-add unit low (128 * v), mul_assoc unit 128 v) in
        rw some (ap (λ (m : ℕ). value m rest) sums)

-- The unit of the n-th group, and the sum of those before it, with one group more.
pub record Fine (n sum unit : ℕ) : Type 0 where
  pub power : unit ≡ 128 ^ n
  pub below : sum < unit

pub fine-one : (low : ℕ) → low < 128 → Fine 1 low 128
fine-one low h = record { power = refl; below = h }

module _ (n sum unit b : ℕ) (f : Fine n sum unit) where
  bounded : n ≤ 4 → unit ≤ 268435456
  bounded h = let e : 128 ^ n ≤ 128 ^ 4 = pow-le-pow_right {n = 128} (omega arith) h in omega (arith, f.power)

  pub unit-fits : n < 5 → unit * 128 < 18446744073709551616
  unit-fits h = let e = bounded (omega arith) in omega arith

  pub part-fits : n < 5 → b < 128 → unit * b ≤ 34359738368
  part-fits h i = let e = mul-le-mul (bounded (omega arith)) (le_of b i) in omega arith
    where
      le_of : (b : ℕ) → b < 128 → b ≤ 128
      le_of b i = omega arith

  pub sum_fits : n < 5 → b < 128 → sum + unit * b < 18446744073709551616
  sum_fits h i = let e = part-fits h i in let d = bounded (omega arith) in omega (arith, f.below)

  pub fine_more : b < 128 → Fine (n + 1) (sum + unit * b) (unit * 128)
  fine_more i =
      let e : unit * (b + 1) ≤ unit * 128 = mul-le-mul {n₁ = unit} {n₂ = unit} (omega arith) (omega arith) in
      record { power = rw (add-one n, pow-suc 128 n, ← f.power); below = omega (arith, f.below, mul-add unit b 1) }

-- One byte at the place p: none, the last group, or one before others.
module _ (s : List ℕ) (n p sum unit : ℕ) (h : n < 5) where
  pub take_none : length s ≤ p → T.Short ≡ taken_at (length s) (within (joined sum unit (take_groups (5 - n) (drop p s))))
  unfolding take_groups
  take_none i = let e : 5 - n ≡ suc (5 - (n + 1)) = omega arith in rw (e, drop_of_length-le s i)

  module _ (i : p < length s) where
    take-cons : take_groups (5 - n) (drop p s) ≡ take_groups (suc (5 - (n + 1))) (get_or s p 0 ∷ drop (p + 1) s)
    take-cons = let e : 5 - n ≡ suc (5 - (n + 1)) = omega arith in rw (e, drop-cons s p 0 i, ← add-one p)

    pub take_next : (b : ℕ) → b ≡ get_or s p 0 → 128 ≤ b → b < 256
        → joined sum unit (take_groups (5 - n) (drop p s)) ≡ joined (sum + unit * (b - 128)) (unit * 128)
        (take_groups (5 - (n + 1)) (drop (p + 1) s))
    unfolding take_groups
    take_next b e j k =
        rw (take-cons, ← e, le-ltb b 128 j, lt-ltb b 256 k) (joined-onto sum unit (b - 128) (take_groups (5 - (n + 1)) (drop (p + 1) s)))

    take-end : get_or s p 0 < 128 → joined sum unit (take_groups (5 - n) (drop p s)) ≡ joined sum unit (value (get_or s p 0) (drop (p + 1) s))
    unfolding take_groups
    take-end j = rw (take-cons, lt-ltb (get_or s p 0) 128 j)

    pub take-bad : (b : ℕ) → b ≡ get_or s p 0 → b < 128 → eqb b 0 || ltb most (sum + unit * b) ≡ true
        → T.Bad ≡ taken_at (length s) (within (joined sum unit (take_groups (5 - n) (drop p s))))
    take-bad b e j t = rw (take-end (rw (← e) j), ← e) (go (eqb b 0) refl (ltb most (sum + unit * b)) refl t)
      where
        go : (x : Bool) → eqb b 0 ≡ x → (y : Bool) → ltb most (sum + unit * b) ≡ y → x || y ≡ true
            → T.Bad ≡ taken_at (length s) (within (pick x bad (value (sum + unit * b) (drop (p + 1) s))))
        go true f y g u = refl
        go false f true g u = rw (lt-leb (sum + unit * b) most (ltb-true _ _ g))
        go false f false g u = cc

    pub take-value : (b : ℕ) → b ≡ get_or s p 0 → b < 128 → eqb b 0 || ltb most (sum + unit * b) ≡ false
        → T.Value (sum + unit * b) (p + 1) ≡ taken_at (length s) (within (joined sum unit (take_groups (5 - n) (drop p s))))
    take-value b e j t = rw (take-end (rw (← e) j), ← e) (go (eqb b 0) refl (ltb most (sum + unit * b)) refl t)
      where
        go : (x : Bool) → eqb b 0 ≡ x → (y : Bool) → ltb most (sum + unit * b) ≡ y → x || y ≡ false
            → T.Value (sum + unit * b) (p + 1) ≡ taken_at (length s) (within (pick x bad (value (sum + unit * b) (drop (p + 1) s))))
        go true f y g u = cc
        go false f true g u = cc
        go false f false g u =
            let place : p + 1 ≡ length s - length (drop (p + 1) s) = omega (arith, length-drop (p + 1) s, i) in
            rw (le-leb (sum + unit * b) most (ltb-false _ _ g)) (ap (T.Value (sum + unit * b)) place)

pub take-over : (s : List ℕ) (n p sum unit : ℕ) → 5 ≤ n → T.Bad ≡ taken_at (length s)
    (within (joined sum unit (take_groups (5 - n) (drop p s))))
unfolding take_groups
take-over s n p sum unit h = let e : 5 - n ≡ 0 = omega arith in rw e

pub onto-joined : (low : ℕ) (x : Took) → onto low x ≡ joined low 128 x
onto-joined low short = refl
onto-joined low bad = refl
onto-joined low (value v rest) = refl

-- The first byte: none, the whole number, or the lowest of several groups.
module _ (s : List ℕ) (at : ℕ) where
  pub first-none : length s ≤ at → T.Short ≡ taken_at (length s) (take_sevens (drop at s))
  unfolding take_sevens take_groups
  first-none i = rw (drop_of_length-le s i)

  module _ (i : at < length s) (b : ℕ) (e : b ≡ get_or s at 0) where
    pub first-value : b < 128 → T.Value b (at + 1) ≡ taken_at (length s) (take_sevens (drop at s))
    unfolding take_sevens take_groups
    first-value j =
        let place : at + 1 ≡ length s - length (drop (at + 1) s) = omega (arith, length-drop (at + 1) s, i) in
        rw (drop-cons s at 0 i, ← add-one at, ← e, lt-ltb b 128 j, le-leb b most (omega arith)) (ap (T.Value b) place)

    pub first_more : 128 ≤ b → b < 256 → within (onto (b - 128) (take_groups 4 (drop (at + 1) s))) ≡ take_sevens (drop at s)
    unfolding take_sevens take_groups
    first_more j k = rw (drop-cons s at 0 i, ← e, le-ltb b 128 j, lt-ltb b 256 k, add-one at)
