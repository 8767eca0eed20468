-- What our writers put into a field: bytes from `-` to `[`, so none is a comma and all may stand in a body. A text put together of such
-- texts is such a text.
use Prim.Native.Nat.{◌%◌, ◌+◌, ◌/◌, ◌<◌, ◌≤◌, suc, zero, ℕ}
use mathlib.Core.Bool.{true}
use mathlib.Core.List.{[], ◌++◌, ◌∷◌, List}
use mathlib.Core.Path.{◌≡◌, refl}
use native.Mathlib.Omega.{arith}
use lib.Dec.{lit<, lit≤}
use borrow.Author.Tests.{le-leb, ne_eqb}
use Rattle.digits.specs.Decimal.{print_fixed}
use Rattle.digits.proofs.Bools.{and_left, and_right}
use Rattle.line.specs.Line.{body_byte, body_bytes, none_of}
use Rattle.address.specs.Address.{comma_free}
use Rattle.fields.specs.Fields.{join_fields}
use Rattle.fields.proofs.Joining.{Free}

abbrev pub Clean : List ℕ → Type 0
Clean [] = Unit {0}
Clean (b ∷ s) = ((44 < b) × (b < 92)) × Clean s

abbrev pub CleanAll : List (List ℕ) → Type 0
CleanAll [] = Unit {0}
CleanAll (f ∷ fs) = Clean f × CleanAll fs

pub clean-append : (s t : List ℕ) → Clean s → Clean t → Clean (s ++ t)
clean-append [] t p q = q
clean-append (b ∷ s) t p q = (p.0, clean-append s t p.1 q)

pub clean-all-append : (s t : List (List ℕ)) → CleanAll s → CleanAll t → CleanAll (s ++ t)
clean-all-append [] t p q = q
clean-all-append (f ∷ s) t p q = (p.0, clean-all-append s t p.1 q)

-- Digits of any width.
pub clean-fixed : (w n : ℕ) → Clean (print_fixed w n)
unfolding print_fixed
clean-fixed zero n = tt
clean-fixed (suc w) n = clean-append (print_fixed w (n / 10)) ((48 + n % 10) ∷ []) (clean-fixed w (n / 10)) ((omega arith, omega arith), tt)

-- Such a byte may stand in a body, and is no comma.
body-byte : (b : ℕ) → 44 ≤ b → b < 92 → body_byte b ≡ true
unfolding body_byte none_of
body-byte b h k =
    rw (le-leb 32 b (omega arith), le-leb b 126 (omega arith), ne_eqb b 36 (λ e. omega arith), ne_eqb b 42 (λ e. omega arith))
    (rw (ne_eqb b 33 (λ e. omega arith), ne_eqb b 92 (λ e. omega arith), ne_eqb b 94 (λ e. omega arith))
    (rw (ne_eqb b 126 (λ e. omega arith))))

clean-body : (s : List ℕ) → Clean s → body_bytes s ≡ true
unfolding body_bytes
clean-body [] c = refl
clean-body (b ∷ s) c = rw (body-byte b (omega (arith, c.0.0)) c.0.1, clean-body s c.1)

pub clean_free : (s : List ℕ) → Clean s → comma_free s ≡ true
unfolding comma_free
clean_free [] c = refl
clean_free (b ∷ s) c = rw (ne_eqb b 44 (λ e. omega (arith, c.0.0)), clean_free s c.1)

pub all-free : (fs : List (List ℕ)) → CleanAll fs → Free fs
all-free [] c = tt
all-free (f ∷ fs) c = (clean_free f c.0, all-free fs c.1)

bytes-append : (s t : List ℕ) → body_bytes s ≡ true → body_bytes t ≡ true → body_bytes (s ++ t) ≡ true
unfolding body_bytes
bytes-append [] t p q = q
bytes-append (b ∷ s) t p q = rw (and_left (body_byte b) (body_bytes s) p) (bytes-append s t (and_right (body_byte b) (body_bytes s) p) q)

comma : (s : List ℕ) → body_bytes s ≡ true → body_bytes (44 ∷ s) ≡ true
unfolding body_bytes
comma s e = rw (body-byte 44 (lit≤ tt) (lit< tt), e)

-- A body of such fields may stand in a line.
pub clean-joined : (f : List ℕ) (fs : List (List ℕ)) → Clean f → CleanAll fs → body_bytes (join_fields f fs) ≡ true
unfolding join_fields
clean-joined f [] c cs = clean-body f c
clean-joined f (g ∷ fs) c cs =
    bytes-append f (44 ∷ join_fields g fs) (clean-body f c) (comma (join_fields g fs) (clean-joined g fs cs.0 cs.1))
