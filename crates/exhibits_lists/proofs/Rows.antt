-- A row by the places where its words begin and end.
use Prim.Native.Nat.{◌+◌, ◌-◌, ◌<◌, ◌≤◌, ℕ}
use mathlib.Core.Bool.{◌&&◌, Bool, cond, false, true}
use mathlib.Core.List.{List}
use mathlib.Core.Path.{◌∙◌, ◌≡◌, ap, sym}
use native.Mathlib.Omega.{arith}
use lib.Dec.{eqb, leb}
use lib.ListN.{drop, get_or, length, length-drop, take}
use lib.Seq.{take_all}
use borrow.Author.Tests.{le-leb, le-ltb, lt-leb, lt-ltb}
use Rattle.exhibits_lists.specs.Lists.{behind, blanks, body_length, number_of, pair_of, row_of, skip, two_words, width, word_at}
use Rattle.exhibits_lists.specs.declared.Row.TheVariants as R

cond-le : (t : Bool) (x y n : ℕ) → x ≤ n → y ≤ n → cond t x y ≤ n
cond-le true x y n h k = h
cond-le false x y n h k = k

-- What a slice from a place on holds.
abbrev pub rest : List ℕ → ℕ → List ℕ
rest t k = take (length t - k) (drop k t)

rest-is : (t : List ℕ) (k : ℕ) → rest t k ≡ drop k t
rest-is t k = take_all (length t - k) (drop k t) (simp length-drop (omega arith))

module _ (t : List ℕ) (a : ℕ) (ea : a ≡ blanks t) where
  begins : skip t 0 ≡ a
  begins = omega (arith, ea)

  pub row-blank : length t ≤ a → R.Blank ≡ row_of t
  unfolding row_of
  row-blank h = rw (begins, le-leb _ _ h)

  first : a < length t → row_of t ≡ two_words t a (behind t a)
  unfolding row_of
  first h = rw (begins, lt-leb _ _ h)

  -- a word of w bytes, x blanks, a word of y bytes and z blanks
  module _ (w x y z : ℕ) (la : a < length t) (ew : w ≡ width (rest t a)) (ex : x ≡ blanks (rest t (a + w)))
      (ey : y ≡ width (rest t (a + w + x))) (ez : z ≡ blanks (rest t (a + w + x + y))) where
    in-first : w ≡ width (drop a t)
    in-first = ew ∙ ap width (rest-is t a)

    in-second : y ≡ width (drop (a + w + x) t)
    in-second = ey ∙ ap width (rest-is t (a + w + x))

    second : behind t a ≡ a + w + x
    second = rw (← in-first, ← (ex ∙ ap blanks (rest-is t (a + w))))

    third : behind t (a + w + x) ≡ a + w + x + y + z
    third = rw (← in-second, ← (ez ∙ ap blanks (rest-is t (a + w + x + y))))

    words : row_of t ≡ two_words t a (a + w + x)
    words = first la ∙ ap (λ (k : ℕ). two_words t a k) second

    more : a + w + x + y + z < length t → two_words t a (a + w + x) ≡ R.Bad
    unfolding two_words
    more h = rw (third, lt-ltb _ _ h)

    pub row_more : a + w + x + y + z < length t → R.Bad ≡ row_of t
    row_more h = sym (words ∙ more h)

    two : length t ≤ a + w + x + y + z → two_words t a (a + w + x) ≡ pair_of (number_of (word_at t a)) (number_of (word_at t (a + w + x)))
    unfolding two_words
    two h = rw (third, le-ltb _ _ h)

    parts : pair_of (number_of (take (a + w - a) (drop a t))) (number_of (take (a + w + x + y - (a + w + x)) (drop (a + w + x) t))) ≡ pair_of (number_of (word_at t a))
        (number_of (word_at t (a + w + x)))
    parts = rw (let p : a + w - a ≡ width (drop a t) = omega (arith, in-first) in p)
        (rw (let q : a + w + x + y - (a + w + x) ≡ width (drop (a + w + x) t) = omega (arith, in-second) in q))

    pub row-two : length t ≤ a + w + x + y + z → pair_of (number_of (take (a + w - a) (drop a t))) (number_of (take (a + w + x + y - (a + w + x)) (drop (a + w + x) t))) ≡ row_of t
    row-two h = parts ∙ sym (words ∙ two h)

-- The length without the CR is no longer.
pub body-within : (s : List ℕ) → body_length s ≤ length s
unfolding body_length
body-within s = cond-le (leb 1 (length s) && eqb (get_or s (length s - 1) 0) 13) (length s - 1) (length s) (length s) (omega arith)
    (omega arith)

pub body-front : (s : List ℕ) (n : ℕ) → n ≡ body_length s → row_of (take (n - 0) s) ≡ row_of (take (body_length s) s)
body-front s n e = ap (λ (k : ℕ). row_of (take k s)) (let z : n - 0 ≡ body_length s = omega (arith, e) in z)
