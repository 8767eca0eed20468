-- A number taken at a place of a slice: the bytes behind it are those from the place that is answered on.
use Prim.Native.Nat.{◌+◌, ◌-◌, ◌<◌, ◌≤◌, ℕ}
use mathlib.Core.List.{List}
use mathlib.Core.Path.{◌∙◌, ◌≡◌, ap, refl, sym}
use native.Mathlib.Numerals.{add-one}
use native.Mathlib.Omega.{arith}
use lib.ListN.{drop, get_or, length, length-append, length-drop}
use lib.Seq.{drop_at, drop-cons, drop-drop}
use borrow.Author.Tests.{le-leb, lt-ltb}
use Rattle.index_sevens.specs.Places.{taken_at}
use Rattle.index_sevens.specs.Sevens.{bad, most, sevens, short, take_groups, take_sevens, Took, value}
use Rattle.index_sevens.specs.declared.Taken.TheVariants as T
use Rattle.index_sevens.proofs.Groups.{sevens-only, sevens-some}

pub record TakenUp (s : List ℕ) (at v p : ℕ) : Type 0 where
  pub is : take_sevens (drop at s) ≡ value v (drop p s)
  pub on : at < p
  pub inside : p ≤ length s
  pub small : v ≤ most

module _ (s : List ℕ) (at : ℕ) where
  pub taken : (v p : ℕ) → taken_at (length s) (take_sevens (drop at s)) ≡ T.Value v p → TakenUp s at v p
  taken v p e = go (take_sevens (drop at s)) refl e
    where
      go : (x : Took) → take_sevens (drop at s) ≡ x → taken_at (length s) x ≡ T.Value v p → TakenUp s at v p
      go short f g = let z : ◌≡◌ {A = ℕ} 0 1 = cc in let n : ⊥ = omega arith in absurd n
      go bad f g = let z : ◌≡◌ {A = ℕ} 0 1 = cc in let n : ⊥ = omega arith in absurd n
      go (value u rest) f g =
          let a : u ≡ v = cc in
          let q : length s - length rest ≡ p = cc in
          let only = sevens-only u (drop at s) rest f in
          let long : length s - at ≡ length (sevens u) + length rest = sym (length-drop at s) ∙ ap length only.0 ∙ length-append
          (sevens u) rest in
          let some = sevens-some u in
          let place : at + length (sevens u) ≡ p = omega arith in
          let behind : drop p s ≡ rest = rw (← place, ← drop-drop, only.0) (drop_at (sevens u) rest _ refl) in
          record { is = rw (behind, ← a) f; on = omega arith; inside = omega arith; small = omega (arith, only.1) }

  -- Short, or no number.
  pub taken-short : taken_at (length s) (take_sevens (drop at s)) ≡ T.Short → take_sevens (drop at s) ≡ short
  taken-short e = go (take_sevens (drop at s)) refl e
    where
      go : (x : Took) → take_sevens (drop at s) ≡ x → taken_at (length s) x ≡ T.Short → take_sevens (drop at s) ≡ short
      go short f g = f
      go bad f g = let z : ◌≡◌ {A = ℕ} 0 1 = cc in let n : ⊥ = omega arith in absurd n
      go (value u rest) f g = let z : ◌≡◌ {A = ℕ} 0 1 = cc in let n : ⊥ = omega arith in absurd n

  pub taken-bad : taken_at (length s) (take_sevens (drop at s)) ≡ T.Bad → take_sevens (drop at s) ≡ bad
  taken-bad e = go (take_sevens (drop at s)) refl e
    where
      go : (x : Took) → take_sevens (drop at s) ≡ x → taken_at (length s) x ≡ T.Bad → take_sevens (drop at s) ≡ bad
      go bad f g = f
      go short f g = let z : ◌≡◌ {A = ℕ} 0 1 = cc in let n : ⊥ = omega arith in absurd n
      go (value u rest) f g = let z : ◌≡◌ {A = ℕ} 0 1 = cc in let n : ⊥ = omega arith in absurd n

  -- A byte below 128 is a number by itself.
  pub taken-small : at < length s → get_or s at 0 < 128 → TakenUp s at (get_or s at 0) (at + 1)
  unfolding take_sevens take_groups
  taken-small i j =
      record {
        is = rw (drop-cons s at 0 i, lt-ltb (get_or s at 0) 128 j, le-leb (get_or s at 0) most (omega arith), add-one at);
        on = omega arith;
        inside = omega arith;
        small = omega arith;
      }
