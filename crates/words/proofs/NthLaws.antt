-- What stands behind a byte that divides a text, from place i of the text on: each such byte that is passed is one less to pass.
use Prim.Native.Nat.{ℕ, zero, suc, ◌+◌, ◌-◌, ◌≤◌, ◌<◌}
use mathlib.Core.Path.{◌≡◌, refl, sym}
use mathlib.Core.List.{List}
use native.Mathlib.Omega.{arith}
use native.Mathlib.Numerals.{add-one}
use lib.ListN.{length, get_or, take, drop, length-drop, drop_of_length-le}
use lib.Seq.{drop-cons, take_all, length-take-le}
use borrow.Author.Tests.{eq-eqb, ne_eqb}
use Rattle.digits.specs.Decimal.{find_in}
use Rattle.digits.proofs.Finding.{find-le}
use Rattle.words.specs.Nth.{behind, nth}

pub behind-none : (d k : ℕ) (s : List ℕ) → k ≡ 0 → s ≡ behind d k s
unfolding behind
behind-none d k s e = rw e

module _ (d : ℕ) (s : List ℕ) (i : ℕ) (h : i < length s) where
  pub behind-next : (k : ℕ) → (k ≡ 0 → ⊥) → get_or s i 0 ≡ d → behind d (k - 1) (drop (i + 1) s) ≡ behind d k (drop i s)
  unfolding behind
  behind-next zero n e = absurd (n refl)
  behind-next (suc k) n e =
      let one : suc k - 1 ≡ k = omega arith in
      rw (one, drop-cons s i 0 h, add-one i, eq-eqb (get_or s i 0) d e)

  pub behind-other : (k : ℕ) → (k ≡ 0 → ⊥) → (get_or s i 0 ≡ d → ⊥) → behind d k (drop (i + 1) s) ≡ behind d k (drop i s)
  unfolding behind
  behind-other zero n e = absurd (n refl)
  behind-other (suc k) n e = rw (drop-cons s i 0 h, add-one i, ne_eqb (get_or s i 0) d e)

pub behind-end : (d : ℕ) (s : List ℕ) (i k : ℕ) → length s ≤ i → drop i s ≡ behind d k (drop i s)
unfolding behind
behind-end d s i zero h = refl
behind-end d s i (suc k) h = rw (drop_of_length-le s h)

-- The part that is put is the text.
module _ (d : ℕ) (s : List ℕ) (i n w : ℕ) (h : drop i s ≡ behind d n s) (f : w ≡ find_in d (take (length s - i) (drop i s))) where
  whole : take (length s - i) (drop i s) ≡ drop i s
  whole = take_all (length s - i) (drop i s) (simp length-drop (omega arith))

  pub nth-length : w ≡ length (take w (take (length s - i) (drop i s)))
  nth-length = sym (length-take-le w (take (length s - i) (drop i s)) (omega (arith, f, find-le d (take (length s - i) (drop i s)))))

  pub the-nth : take w (take (length s - i) (drop i s)) ≡ nth d n s
  unfolding nth
  the-nth = rw (f, whole, h)
