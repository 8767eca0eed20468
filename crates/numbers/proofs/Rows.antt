-- A row of numbers that the code casts is laid as the numbers of its record, where it is those number by number.
use Prim.Native.Nat.{◌<◌, ◌≤◌, ℕ}
use mathlib.Core.Path.{◌≡◌, refl, subst, sym, ◌∙◌, ap}
use mathlib.Core.Bool.{Bool, true}
use mathlib.Core.List.{[], ◌++◌, ◌∷◌, List}
use lib.Dec.{leb}
use lib.IntN.{ℤ, pos}
use lib.ListN.{drop, length}
use mir.Syntax.{w64}
use mir.Val.{to_z}
use native.Mathlib.Omega.{arith}
use borrow.Author.Tests.{le-leb, lt-leb}
use Rattle.digits.specs.Pick.{pick}
use Rattle.address.specs.declared.Talker.{Talker}
use Rattle.address.specs.declared.Talker.TheVariants as T
use Rattle.numbers.specs.Numbers.{laid, talker_number}
use Rattle.numbers.specs.Told.{Answer, gives, refuses, Tells, told}
use Rattle.numbers.specs.declared.Told.{Told}

-- Two lists, number by number.
infixr 30 ◌⋮◌
pub ◌⋮◌ : {x y : ℤ} {xs ys : List ℤ} → x ≡ y → xs ≡ ys → x ∷ xs ≡ y ∷ ys
◌⋮◌ {y = y} {xs = xs} p q = ap (λ (z : ℤ). z ∷ xs) p ∙ ap (λ (zs : List ℤ). y ∷ zs) q

module _ (out : List ℤ) {b : Bool} {left : List ℤ} where
  pub laid_as : (ms ns : List ℤ) → ms ≡ ns → (b ≡ leb (length ns) (length out)) × (left ≡ laid ns out)
      → (b ≡ leb (length ms) (length out)) × (left ≡ laid ms out)
  laid_as ms ns e p = (p.0 ∙ ap (λ l. leb (length l) (length out)) (sym e), p.1 ∙ ap (λ l. laid l out) (sym e))

  pub laid_by : (ns ms : List ℤ) → (b ≡ leb (length ns) (length out)) × (left ≡ laid ns out) → ns ≡ ms
      → (b ≡ leb (length ms) (length out)) × (left ≡ laid ms out)
  laid_by ns ms p e = laid_as ms ns (sym e) p

-- The number of a talker, cast.
pub talker-is : (t : Talker) (n : ℕ) → n ≡ talker_number t → to_z w64 n ≡ pos (talker_number t)
talker-is t n e = ap (to_z w64) e ∙ go t
  where
    go : (t : Talker) → to_z w64 (talker_number t) ≡ pos (talker_number t)
    go T.Gp = refl
    go T.Gl = refl
    go T.Ga = refl
    go T.Gq = refl
    go T.Gn = refl

-- The same of what is told; nothing is laid of a record that has no numbers.
pub tells-by : (out : List ℤ) (kind : ℕ) {t : Told} {left : List ℤ} (ns ms : List ℤ) → Tells (gives out kind ns) t left → ns ≡ ms
    → Tells (gives out kind ms) t left
tells-by out kind {t = t} {left = left} ns ms p e = subst (λ (l : List ℤ). Tells (gives out kind l) t left) e p

-- Numbers that have room are laid, and others are 8.
module _ (out : List ℤ) (kind : ℕ) {t : Told} (ns : List ℤ) where
  pub tells-laid : {left : List ℤ} → length ns ≤ length out → t ≡ told 0 kind 0 → left ≡ laid ns out → Tells (gives out kind ns) t left
  unfolding gives
  tells-laid h e i = (e ∙ ap (λ b. pick b (told 0 kind 0) (told 8 0 0)) (sym (le-leb (length ns) (length out) h)), i)

  pub tells-full : length out < length ns → t ≡ told 8 0 0 → Tells (gives out kind ns) t out
  unfolding gives laid
  tells-full h e =
      let no = sym (lt-leb (length ns) (length out) h) in
      (e ∙ ap (λ b. pick b (told 0 kind 0) (told 8 0 0)) no, ap (λ b. pick b (ns ++ drop (length ns) out) out) no)

pub laid_none : (out : List ℤ) → (true ≡ leb 0 (length out)) × (out ≡ laid [] out)
unfolding laid
laid_none out =
    let e : true ≡ leb 0 (length out) = sym (le-leb 0 (length out) (omega arith)) in
    (e, ap (λ b. pick b out out) e)

pub tells_none : (out : List ℤ) (kind : ℕ) {t : Told} → t ≡ told 0 kind 0 → Tells (gives out kind []) t out
unfolding gives
tells_none out kind e = let n = laid_none out in (e ∙ ap (λ b. pick b (told 0 kind 0) (told 8 0 0)) n.0, n.1)

-- What is told and left, by what it is equal to; and of a refusal.
pub tells_as : {x y : Answer} {t : Told} {left : List ℤ} → Tells x t left → x ≡ y → Tells y t left
tells_as {t = t} {left = left} p e = subst (λ (a : Answer). Tells a t left) e p

pub tells-refused : {no field : ℕ} {out : List ℤ} {t : Told} {y : Answer} → t ≡ told no 0 field → refuses out no field ≡ y → Tells y t out
tells-refused e = tells_as (e, refl)
