-- How many entries have been before each line, and that they are the next four of a list, or what is left of it.
use Prim.Native.Nat.{◌*◌, ◌+◌, ◌-◌, ◌≤◌, ℕ}
use mathlib.Core.Bool.{Bool, false, true}
use mathlib.Core.List.{List}
use mathlib.Core.Path.{◌∙◌, ◌≡◌, ap, refl, subst, sym}
use native.Mathlib.Omega.{arith}
use lib.Dec.{ltb}
use lib.ListN.{drop, length, length-drop, take}
use lib.Seq.{length-take-le, take_all}
use borrow.Author.Tests.{ltb-false, ltb-true}
use Rattle.sky.specs.Group.{entries_at}
use Rattle.sky.proofs.Numbers.{entries-at}

module _ (n : ℕ) where
  -- With those of line k, so many have been before line k + 1.
  pub so-many : (k : ℕ) → 1 ≤ k → 4 * (k - 1) ≤ n → 4 * (k - 1) + entries_at n k ≡ n - (n - 4 * (k + 1 - 1))
  so-many k from h =
      let a : 4 * (k + 1 - 1) ≡ 4 * (k - 1) + 4 = omega arith in
      ap (λ (m : ℕ). 4 * (k - 1) + m) (entries-at n k) ∙ up (4 * (k - 1)) h ∙ ap (λ (m : ℕ). n - (n - m)) (sym a)
    where
      up : (b : ℕ) → b ≤ n → b + (n - b - (n - b - 4)) ≡ n - (n - (b + 4))
      up b p = omega arith

length-four : {A : Type 0} (l : List A) → length (take 4 l) ≡ length l - (length l - 4)
length-four l = go (ltb 4 (length l)) refl
  where
    go : (b : Bool) → ltb 4 (length l) ≡ b → length (take 4 l) ≡ length l - (length l - 4)
    go true q = let h = ltb-true 4 (length l) q in length-take-le 4 l (omega arith) ∙ omega arith
    go false q = let h = ltb-false 4 (length l) q in rw (take_all 4 l h) (omega arith)

-- So many are the next four of a list, or what is left of it.
pub next-four : {A : Type 0} (l : List A) (k : ℕ) → entries_at (length l) k ≡ length (take 4 (drop (4 * (k - 1)) l))
next-four l k =
    entries-at (length l) k
    ∙ sym (subst (λ (m : ℕ). length (take 4 (drop (4 * (k - 1)) l)) ≡ m - (m - 4)) (length-drop (4 * (k - 1)) l)
    (length-four (drop (4 * (k - 1)) l)))
