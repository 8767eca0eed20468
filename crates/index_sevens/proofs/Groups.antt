-- What is written in groups is taken as the same number, and what is taken was written so: both once over the number of groups, by going
-- along them.
use Prim.Native.Nat.{◌%◌, ◌*◌, ◌+◌, ◌-◌, ◌/◌, ◌<◌, ◌^◌, ◌≤◌, suc, zero, ℕ}
use mathlib.Core.Bool.{Bool, false, true}
use mathlib.Core.List.{[], ◌++◌, ◌∷◌, List}
use mathlib.Core.Path.{◌≡◌, ap, refl}
use native.Mathlib.Nat.{pow-suc}
use native.Mathlib.Omega.{arith}
use lib.Dec.{eqb, leb, ltb}
use lib.ListN.{length}
use borrow.Author.Tests.{eqb-false, le-leb, le-ltb, leb-true, lt-ltb, ltb-false, ltb-true, ne_eqb}
use Rattle.digits.specs.Pick.{pick}
use Rattle.index_sevens.specs.Sevens.{bad, groups, most, onto, sevens, short, take_groups, take_sevens, Took, value, within}

-- A number below 128 to the power of the groups.
pub groups-back : (w v : ℕ) (rest : List ℕ) → v < 128 ^ suc w → take_groups (suc w) (groups (suc w) v ++ rest) ≡ value v rest
unfolding groups take_groups
groups-back zero v rest h = let i : v < 128 = omega arith in simp (lt-ltb v 128 i)
groups-back (suc w) v rest h = go (groups-back w (v / 128) rest (omega (arith, pow-suc 128 (suc w)))) (ltb v 128) refl
  where
    go : take_groups (suc w) (groups (suc w) (v / 128) ++ rest) ≡ value (v / 128) rest
        → (t : Bool) → ltb v 128 ≡ t → take_groups (suc (suc w)) (groups (suc (suc w)) v ++ rest) ≡ value v rest
    go back true e = simp e
    go back false e =
        let i : 128 ≤ v = ltb-false v 128 e in
        let high : ltb (128 + v % 128) 128 ≡ false = le-ltb (128 + v % 128) 128 (omega arith) in
        let byte : ltb (128 + v % 128) 256 ≡ true = lt-ltb (128 + v % 128) 256 (omega arith) in
        let some : eqb (v / 128) 0 ≡ false = ne_eqb (v / 128) 0 (λ z. omega (arith, z)) in
        let whole : 128 + v % 128 - 128 + 128 * (v / 128) ≡ v = omega arith in
        simp e (rw (high, byte, back, some) (ap (λ (n : ℕ). value n rest) whole))

-- The bytes of the number that was taken, and those behind it.
pub groups-only : (w v : ℕ) (s rest : List ℕ) → take_groups w s ≡ value v rest → s ≡ groups w v ++ rest
unfolding groups take_groups
groups-only zero v s rest e = cc
groups-only (suc w) v [] rest e = cc
groups-only (suc w) v (b ∷ s) rest e = low (λ u r f. groups-only w u s r f) (ltb b 128) refl
  where
    Behind : Type 0
    Behind = (u : ℕ) (r : List ℕ) → take_groups w s ≡ value u r → s ≡ groups w u ++ r

    zeroed : Behind → (u : ℕ) (r : List ℕ) → take_groups w s ≡ value u r → 128 ≤ b → b < 256
        → (t : Bool) → eqb u 0 ≡ t → pick t bad (value (b - 128 + 128 * u) r) ≡ value v rest → b ∷ s ≡ groups (suc w) v ++ rest
    zeroed only u r f i j true z g = cc
    zeroed only u r f i j false z g =
        let sum : b - 128 + 128 * u ≡ v = cc in
        let some : 0 < u = omega (arith, eqb-false u 0 z) in
        let over : ltb v 128 ≡ false = le-ltb v 128 (omega arith) in
        let byte : 128 + v % 128 ≡ b = omega arith in
        let high : v / 128 ≡ u = omega arith in
        let same : r ≡ rest = cc in
        rw (over, byte, high, ← same) (ap (λ (l : List ℕ). b ∷ l) (only u r f))

    higher : Behind → (x : Took) → take_groups w s ≡ x → 128 ≤ b → b < 256 → onto (b - 128) x ≡ value v rest → b ∷ s ≡ groups (suc w) v ++
        rest
    higher only short f i j g = cc
    higher only bad f i j g = cc
    higher only (value u r) f i j g = zeroed only u r f i j (eqb u 0) refl g

    second : Behind → (t : Bool) → ltb b 256 ≡ t → 128 ≤ b → pick t (onto (b - 128) (take_groups w s)) bad ≡ value v rest
        → b ∷ s ≡ groups (suc w) v ++ rest
    second only true f i g = higher only (take_groups w s) refl i (ltb-true b 256 f) g
    second only false f i g = cc

    low : Behind → (t : Bool) → ltb b 128 ≡ t → b ∷ s ≡ groups (suc w) v ++ rest
    low only true f = let is : value b s ≡ value v rest = simp f at e in let a : b ≡ v = cc in let r : s ≡ rest = cc in rw (← a, f, r)
    low only false f = second only (ltb b 256) refl (ltb-false b 128 f) (simp f at e)

pub sevens-back : (v : ℕ) (rest : List ℕ) → v ≤ most → take_sevens (sevens v ++ rest) ≡ value v rest
unfolding sevens take_sevens
sevens-back v rest h = rw (groups-back 4 v rest (omega arith), le-leb v most h)

pub sevens-only : (v : ℕ) (s rest : List ℕ) → take_sevens s ≡ value v rest → (s ≡ sevens v ++ rest) × (v ≤ most)
unfolding sevens take_sevens
sevens-only v s rest e = go (take_groups 5 s) refl e
  where
    go : (x : Took) → take_groups 5 s ≡ x → within x ≡ value v rest → (s ≡ groups 5 v ++ rest) × (v ≤ most)
    go short f g = let z : ◌≡◌ {A = ℕ} 0 1 = cc in let n : ⊥ = omega arith in absurd n
    go bad f g = let z : ◌≡◌ {A = ℕ} 0 1 = cc in let n : ⊥ = omega arith in absurd n
    go (value u r) f g = test (leb u most) refl g
      where
        test : (t : Bool) → leb u most ≡ t → pick t (value u r) bad ≡ value v rest → (s ≡ groups 5 v ++ rest) × (v ≤ most)
        test false h k = let z : ◌≡◌ {A = ℕ} 0 1 = cc in let n : ⊥ = omega arith in absurd n
        test true h k =
            let a : u ≡ v = cc in
            let is : take_groups 5 s ≡ value v rest = cc in
            (groups-only 5 v s rest is, omega (arith, leb-true u most h))

-- A number takes at least one byte, and at most five.
groups-some : (w v : ℕ) → 0 < length (groups (suc w) v)
unfolding groups
groups-some w v = go (ltb v 128) refl
  where
    go : (t : Bool) → ltb v 128 ≡ t → 0 < length (groups (suc w) v)
    go true e = simp e (omega arith)
    go false e = simp e (omega arith)

pub groups-most : (w v : ℕ) → length (groups w v) ≤ w
unfolding groups
groups-most zero v = omega arith
groups-most (suc w) v = go (groups-most w (v / 128)) (ltb v 128) refl
  where
    go : length (groups w (v / 128)) ≤ w → (t : Bool) → ltb v 128 ≡ t → length (groups (suc w) v) ≤ suc w
    go i true e = simp e (omega arith)
    go i false e = simp e (omega arith)

pub sevens-some : (v : ℕ) → 0 < length (sevens v)
unfolding sevens
sevens-some v = groups-some 4 v

pub sevens-most : (v : ℕ) → length (sevens v) ≤ 5
unfolding sevens
sevens-most v = groups-most 5 v

-- A number below 128 is its own byte.
pub sevens-small : (v : ℕ) → v < 128 → sevens v ≡ v ∷ []
unfolding sevens groups
sevens-small v h = rw (lt-ltb v 128 h)
