-- The parts of a row, by the tests that lead to them; and numbers put one after another.
use Prim.Native.Nat.{ℕ, ◌+◌, ◌≤◌, ◌<◌}
use mathlib.Core.Path.{◌≡◌}
use mathlib.Core.List.{List, [], ◌++◌}
use mathlib.Core.Bool.{true, false, ◌&&◌}
use lib.Dec.{ltb}
use lib.IntN.{ℤ, pos}
use lib.ListN.{length, get_or, take, drop, drop_of_length-le}
use lib.Seq.{drop-cons}
use native.Mathlib.Numerals.{add-one}
use mir.Facts.{to_z-of_z}
use mir.Syntax.{w64}
use mir.Val.{of_z, SFits, to_z}
use borrow.Author.Tests.{lt-ltb, le-ltb, eq-eqb, ne_eqb}
use Rattle.digits.specs.Ascii.{ascii}
use Rattle.put.specs.Wrote.{Held, wrote, Puts}
use Rattle.put.proofs.Chain.{wrote-append}
use Rattle.sentence.specs.Numbers.{count_of}
use Rattle.text.specs.Numbers.{int_text, value_text}
use Rattle.rows.specs.Row.{five_bytes, address_text, answer_text, numbers_text, shown}

module _ (n : ℕ) (line : List ℕ) where
  pub unknown : (ltb 0 n && ltb n 4) ≡ true → ascii "-" ≡ address_text n line
  unfolding address_text
  unknown e = rw e

  module _ (e : (ltb 0 n && ltb n 4) ≡ false) where
    pub too_short : length line < 6 → [] ≡ address_text n line
    unfolding address_text five_bytes
    too_short h = rw (e, lt-ltb (length line) 6 h)

    pub the-five : 6 ≤ length line → take 5 (drop 1 line) ≡ address_text n line
    unfolding address_text five_bytes
    the-five h = rw (e, le-ltb (length line) 6 h)

module _ (n field : ℕ) where
  pub was_read : n ≡ 0 → ascii "ok" ≡ answer_text n field
  unfolding answer_text
  was_read e = rw (eq-eqb n 0 e)

  pub was-refused : (n ≡ 0 → ⊥) → ascii "refused" ++ value_text n ++ value_text field ≡ answer_text n field
  unfolding answer_text
  was-refused h = rw (ne_eqb n 0 h)

-- Numbers put one after another: those from place i on are one and the ones behind it.
module _ (l : List ℤ) (i : ℕ) where
  pub numbers-next : {h k : Held} → SFits w64 (get_or l i (pos 0)) → i < length l
      → Puts h (int_text (to_z w64 (of_z w64 (get_or l i (pos 0))))) k
      → wrote k (numbers_text (drop (i + 1) l)) ≡ wrote h (numbers_text (drop i l))
  unfolding numbers_text
  numbers-next {h} {k} f b p =
      let q : Puts h (int_text (get_or l i (pos 0))) k = rw (to_z-of_z f) at p in
      rw (q.is, drop-cons l i (pos 0) b, add-one i, wrote-append h (int_text (get_or l i (pos 0))) _)

  pub numbers-end : (h : Held) → length l ≤ i → h ≡ wrote h (numbers_text (drop i l))
  unfolding numbers_text wrote
  numbers-end h b = rw (drop_of_length-le l b)

-- What a listing shows of the numbers of a kind, by whether it is a talker's.
module _ (kind : ℕ) (numbers : List ℤ) where
  pub shown-talker : kind < 8 → drop 1 (take (count_of kind) numbers) ≡ shown kind numbers
  unfolding shown
  shown-talker h = rw (lt-ltb kind 8 h)

  pub shown-maker : 8 ≤ kind → take (count_of kind) numbers ≡ shown kind numbers
  unfolding shown
  shown-maker h = rw (le-ltb kind 8 h)
