-- The unfinished line after one byte more follows from the unfinished line and the byte alone, so theorems on it go byte by byte.
use Prim.Native.Nat.{ℕ, suc, ◌≤◌}
use mathlib.Core.Path.{◌≡◌, refl, ◌∙◌, ap}
use mathlib.Core.List.{List, [], ◌∷◌, ◌++◌, append_assoc, append-nil}
use mathlib.Core.Bool.{Bool, true, false, cond, ◌||◌, true≢false}
use mathlib.Core.Logic.{◌⊎◌, inl, inr}
use native.Mathlib.Omega.{arith}
use lib.ListN.{length, length-append}
use lib.Dec.{leb, eqb}
use borrow.Author.Tests.{le-leb, eqb-true}
use Rattle.finder.specs.Finder.{has, after_last, from_last, open_line}

-- What holds of no bytes, and of one byte more where it holds of the bytes before, holds of all bytes.
pub snoc-ind : (P : List ℕ → Type 0) → P [] → ((h : List ℕ) (b : ℕ) → P h → P (h ++ b ∷ [])) → (h : List ℕ) → P h
snoc-ind P z s h = go [] h z
  where
    go : (p h : List ℕ) → P p → P (p ++ h)
    go p [] x = rw append-nil x
    go p (b ∷ h) x = rw append_assoc at (go (p ++ b ∷ []) h (s p b x))

pub neither : (t u : Bool) → (t || u) ≡ false → (t ≡ false) × (u ≡ false)
neither true u e = absurd (true≢false e)
neither false u e = (refl, e)

pub has-snoc : (x : ℕ) (h : List ℕ) (b : ℕ) → has x (h ++ b ∷ []) ≡ (eqb b x || has x h)
unfolding has
has-snoc x [] b = refl
has-snoc x (c ∷ h) b = rw (has-snoc x h b) (go (eqb c x) (eqb b x))
  where
    go : (t u : Bool) → (t || (u || has x h)) ≡ (u || (t || has x h))
    go true true = refl
    go true false = refl
    go false u = refl

after-snoc : (x : ℕ) (h : List ℕ) (b : ℕ) → after_last x (h ++ b ∷ []) ≡ cond (eqb b x) [] (after_last x h ++ b ∷ [])
unfolding after_last has
after-snoc x [] b = refl
after-snoc x (c ∷ h) b = rw (has-snoc x h b, after-snoc x h b) (go (eqb b x) (has x h) (eqb c x))
  where
    go : (t u v : Bool)
        → cond (t || u) (cond t [] (after_last x h ++ b ∷ [])) (cond v (h ++ b ∷ []) (c ∷ h ++ b ∷ []))
        ≡ cond t [] (cond u (after_last x h) (cond v h (c ∷ h)) ++ b ∷ [])
    go true u v = refl
    go false true v = refl
    go false false true = refl
    go false false false = refl

from-snoc : (x : ℕ) (h : List ℕ) (b : ℕ)
    → from_last x (h ++ b ∷ []) ≡ cond (eqb b x) (b ∷ []) (cond (leb 1 (length (from_last x h))) (from_last x h ++ b ∷ []) [])
unfolding from_last has
from-snoc x [] b = refl
from-snoc x (c ∷ h) b = rw (has-snoc x h b, from-snoc x h b) (go (eqb b x) (has x h) (eqb c x))
  where
    go : (t u v : Bool)
        → cond (t || u) (cond t (b ∷ []) (cond (leb 1 (length (from_last x h))) (from_last x h ++ b ∷ []) [])) (cond v (c ∷ h ++ b ∷ []) [])
        ≡ cond t (b ∷ []) (cond (leb 1 (length (cond u (from_last x h) (cond v (c ∷ h) []))))
        (cond u (from_last x h) (cond v (c ∷ h) []) ++ b ∷ []) [])
    go true u v = refl
    go false true v = refl
    go false false true = simp (le-leb 1 (suc (length h)) (omega arith))
    go false false false = refl

abbrev pub open_next : List ℕ → ℕ → List ℕ
open_next o b = cond (eqb b 36) (36 ∷ []) (cond (eqb b 10) [] (cond (leb 1 (length o)) (o ++ b ∷ []) []))

-- The unfinished line after one byte more.
pub open_snoc : (h : List ℕ) (b : ℕ) → open_line (h ++ b ∷ []) ≡ open_next (open_line h) b
unfolding open_line from_last
open_snoc h b = rw (after-snoc 10 h b) (go (eqb b 10) refl (eqb b 36) refl)
  where
    go : (t : Bool) → eqb b 10 ≡ t → (u : Bool) → eqb b 36 ≡ u
        → from_last 36 (cond t [] (after_last 10 h ++ b ∷ [])) ≡ cond u (36 ∷ [])
        (cond t [] (cond (leb 1 (length (open_line h))) (open_line h ++ b ∷ []) []))
    go true e true f = let p = eqb-true b 10 e in let q = eqb-true b 36 f in let z : ⊥ = omega arith in absurd z
    go true e false f = refl
    go false e true f = from-snoc 36 (after_last 10 h) b ∙ simp f (rw (eqb-true b 36 f))
    go false e false f = from-snoc 36 (after_last 10 h) b ∙ simp f

-- At `$` and at LF the bytes before do not matter.
module _ (h : List ℕ) where
  pub open-dollar : open_line (h ++ 36 ∷ []) ≡ 36 ∷ []
  open-dollar = open_snoc h 36

  pub open-lf : open_line (h ++ 10 ∷ []) ≡ []
  open-lf = open_snoc h 10

-- Bytes without `$` and LF lengthen an unfinished line.
pub open_more : (h o m : List ℕ) → open_line h ≡ o → 1 ≤ length o → has 36 m ≡ false → has 10 m ≡ false → open_line (h ++ m) ≡ o ++ m
unfolding has
open_more h o [] e k d l = rw (append-nil h, append-nil o) e
open_more h o (b ∷ m) e k d l =
    let p = neither (eqb b 36) (has 36 m) d in
    let q = neither (eqb b 10) (has 10 m) l in
    let n : open_line (h ++ b ∷ []) ≡ o ++ b ∷ [] = open_snoc h b ∙ rw e (simp (p.0, q.0, le-leb 1 (length o) k)) in
    rw (append_assoc h (b ∷ []) m, append_assoc o (b ∷ []) m) at
    (open_more (h ++ b ∷ []) (o ++ b ∷ []) m n (simp length-append (omega arith)) p.1 q.1)

-- An unfinished line starts with a `$` and has no `$` and no LF behind it: it is the end of the bytes fed.
pub record OpenBy (h : List ℕ) : Type 0 where
  pub past : List ℕ
  pub inner : List ℕ
  pub bytes : h ≡ past ++ 36 ∷ inner
  pub line : open_line h ≡ 36 ∷ inner
  pub no-dollar : has 36 inner ≡ false
  pub no-lf : has 10 inner ≡ false

pub open_is : (h : List ℕ) → (open_line h ≡ []) ⊎ OpenBy h
unfolding open_line after_last from_last has
open_is = snoc-ind (λ h. (open_line h ≡ []) ⊎ OpenBy h) (inl refl) next
  where
    next : (h : List ℕ) (b : ℕ) → (open_line h ≡ []) ⊎ OpenBy h → (open_line (h ++ b ∷ []) ≡ []) ⊎ OpenBy (h ++ b ∷ [])
    next h b w = go (eqb b 36) refl (eqb b 10) refl w
      where
        go : (t : Bool) → eqb b 36 ≡ t → (u : Bool) → eqb b 10 ≡ u → (open_line h ≡ []) ⊎ OpenBy h
            → (open_line (h ++ b ∷ []) ≡ []) ⊎ OpenBy (h ++ b ∷ [])
        go true d u l w = inr (record {
          past = h;
          inner = [];
          bytes = rw (eqb-true b 36 d);
          line = open_snoc h b
              ∙ simp d;
          no-dollar = refl;
          no-lf = refl;
        })
        go false d true l w = inl (open_snoc h b ∙ simp (d, l))
        go false d false l (inl e) = inl (open_snoc h b ∙ simp (d, l, e))
        go false d false l (inr o) = inr (record {
          past = o.past;
          inner = o.inner ++ b ∷ [];
          bytes = rw (o.bytes, append_assoc);
          line = open_snoc h b ∙ ap (λ (l : List ℕ). open_next l b) o.line
              ∙ simp (d, l, le-leb 1 (suc (length o.inner)) (omega arith));
          no-dollar = has-snoc 36 o.inner b ∙ simp (d, o.no-dollar);
          no-lf = has-snoc 10 o.inner b ∙ simp (l, o.no-lf);
        })
