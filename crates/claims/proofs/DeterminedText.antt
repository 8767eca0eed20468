-- The functions under the listing and the stand-in: any two results that a contract permits are equal. A put answers a place and leaves a
-- buffer, both as one definition says; `keep` a count and a buffer. What `flush` answers within its buffer no contract of a write fixes.
use Prim.Native.Nat.{◌+◌, min, ℕ}
use mathlib.Core.Path.{◌∙◌, ◌≡◌, ap, sym}
use mathlib.Core.List.{◌++◌, List}
use mathlib.Core.Bool.{Bool}
use lib.IntN.{ℤ}
use lib.ListN.{drop}
use Rattle.digits.specs.Sign.{sign_text}
use Rattle.text.specs.Numbers.{decimal_text, int_text}
use Rattle.numbers.specs.declared.Told.{Told}
use Rattle.rows.specs.Row.{told_row}
use Rattle.turns.specs.Turns.{Keeps, part}
use Rattle.claims.proofs.Determined.{One, one}
use Rattle.claims.proofs.DeterminedWriting.{one-put, OnePut}

-- texts, of which the listing uses the sign
pub text-sign : (d : List ℕ) (at : ℕ) (z : ℤ) → OnePut d at (sign_text z)
text-sign d at z = one-put d at (sign_text z)

-- text
pub number-text : (d : List ℕ) (at : ℕ) (n : ℕ) → OnePut d at (decimal_text n)
number-text d at n = one-put d at (decimal_text n)

pub int : (d : List ℕ) (at : ℕ) (z : ℤ) → OnePut d at (int_text z)
int d at z = one-put d at (int_text z)

-- rows
pub next : (n : ℕ) → One (min (n + 1) 18446744073709551615)
next n = one

pub row : (d : List ℕ) (at : ℕ) (n : ℕ) (line : List ℕ) (told : Told) (numbers : List ℤ) (asked : Bool)
    → OnePut d at (told_row n line told numbers asked)
row d at n line told numbers asked = one-put d at (told_row n line told numbers asked)

-- turns
pub kept : (buf : List ℕ) (a e : ℕ) (r q : ℕ) (l m : List ℕ) → Keeps a e buf r l → Keeps a e buf q m → (r ≡ q) × (l ≡ m)
kept buf a e r q l m k n =
    let same : r ≡ q = k.many ∙ sym n.many in
    (same, k.bytes ∙ (ap (λ (j : ℕ). part a e buf ++ drop j buf) same ∙ sym n.bytes))
