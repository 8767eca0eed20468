-- Digits from the other side: what reads as a value is that value printed in as many digits. Each byte that is read is the last digit
-- of the value so far, so printing the value in one digit more gives it back.
use Prim.Native.Nat.{ℕ, zero, suc, ◌+◌, ◌-◌, ◌*◌, ◌/◌, ◌%◌, ◌^◌, ◌≤◌, ◌<◌}
use mathlib.Core.Path.{◌≡◌, sym, ap, ◌∙◌}
use mathlib.Core.List.{List, [], ◌∷◌, ◌++◌, append_assoc, append-nil}
use Rattle.std.specs.Prelude.{Some}
use Rattle.digits.proofs.Options.{some-injective}
use native.Mathlib.Omega.{arith}
use native.Mathlib.Nat.{add-zero, zero-add, zero-mul, mod-eq_of_lt, div-one}
use lib.ListN.{length}
use borrow.Author.Tests.{le-leb}
use Rattle.digits.specs.Decimal.{is_digit, digits_from, digits_of, print_fixed}
use Rattle.digits.proofs.DecimalLaws.{length-fixed, digits-rt}
use Rattle.digits.proofs.Options.{through}
use Rattle.digits.proofs.Powers.{div-pow}
use Rattle.digits.proofs.Bounds.{digit-range, opened, digits-len, digits-count}

-- The value so far with one digit more, printed.
one_more : (k n b : ℕ) → 48 ≤ b → b ≤ 57 → print_fixed (suc k) (n * 10 + (b - 48)) ≡ print_fixed k n ++ (b ∷ [])
unfolding print_fixed
one_more k n b h i =
    let q : (n * 10 + (b - 48)) / 10 ≡ n = omega arith in
    let r : 48 + (n * 10 + (b - 48)) % 10 ≡ b = omega arith in
    rw (q, r)

printed : (s : List ℕ) (k n v : ℕ) → digits_from n s ≡ Some v → print_fixed (k + length s) v ≡ print_fixed k n ++ s
unfolding digits_from
printed [] k n v e = rw (add-zero, append-nil, some-injective n v e)
printed (b ∷ s) k n v e =
    let t = through (is_digit b) (digits_from (n * 10 + (b - 48)) s) v e in
    let d = digit-range b t.0 in
    let q : k + suc (length s) ≡ suc k + length s = omega arith in
    rw (q, printed s (suc k) (n * 10 + (b - 48)) v t.1, one_more k n b d.0 d.1, append_assoc)

-- Digits that read as a value are that value in as many digits.
pub digits_are : (lo hi : ℕ) (s : List ℕ) (v : ℕ) → digits_of lo hi s ≡ Some v → s ≡ print_fixed (length s) v
unfolding print_fixed
digits_are lo hi s v e =
    let r : print_fixed (0 + length s) v ≡ s = printed s 0 0 v (opened lo hi s v e).1 in
    sym (rw zero-add at r)

-- A value in w digits, and in no more than nine, reads where lo to hi may stand.
pub digits-read : (lo hi w n : ℕ) → lo ≤ w → w ≤ hi → w ≤ 9 → n < 10 ^ w → digits_of lo hi (print_fixed w n) ≡ Some n
unfolding digits_of
digits-read lo hi w n a b h k =
    rw (length-fixed, le-leb lo w a, le-leb w hi b, le-leb w 9 h, digits-rt, mod-eq_of_lt k, zero-mul, zero-add)

-- Of one width, what reads is the value printed in that width.
pub fixed-are : (w : ℕ) (s : List ℕ) (v : ℕ) → digits_of w w s ≡ Some v → (s ≡ print_fixed w v) × (v < 10 ^ w)
fixed-are w s v e =
    let c = digits-count w w s v e in
    let q : length s ≡ w = omega arith in
    (rw q at (digits_are w w s v e), rw q at (digits-len w w s v e))

-- A value printed from its first digit on: that digit, and those of the rest.
pub fixed-first : (k v : ℕ) → print_fixed (suc k) v ≡ (48 + v / 10 ^ k % 10) ∷ print_fixed k v
unfolding print_fixed
fixed-first zero v = rw div-one
fixed-first (suc k) v =
    ap (λ (l : List ℕ). l ++ ((48 + v % 10) ∷ [])) (fixed-first k (v / 10))
    ∙ ap (λ (x : ℕ). (48 + x % 10) ∷ (print_fixed k (v / 10) ++ ((48 + v % 10) ∷ []))) (div-pow 10 v k)
