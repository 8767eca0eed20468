-- Numbers passed over, counted from a place on; the bound of a value's marks; and the last digit of a mask behind those before it.
use Prim.Native.Nat.{◌%◌, ◌+◌, ◌-◌, ◌/◌, ◌<◌, ◌≤◌, suc, zero, ℕ}
use mathlib.Core.Path.{◌∙◌, ◌≡◌, ap, refl, sym}
use mathlib.Core.List.{[], ◌∷◌, List}
use mathlib.Core.Bool.{Bool, cond, false, true}
use native.Mathlib.Omega.{arith}
use lib.Dec.{ltb}
use lib.IntN.{ℤ}
use lib.ListN.{drop, drop_of_length-le, length, length-drop, take}
use lib.Seq.{drop-drop, drop-length, take_all}
use Rattle.digits.specs.Hex.{hex_of}
use Rattle.form_mask.specs.Masks.{print_hex}
use Rattle.put.specs.Wrote.{Held, Puts}
use Rattle.put.proofs.Chain.{◌⨾◌, as-text, nothing_put}
use Rattle.words.specs.Forms.{marks_of}

pub marks-most : (f : ℕ) → marks_of f ≤ 1
unfolding marks_of
marks-most f = go (ltb f 97)
  where
    go : (t : Bool) → cond t 0 1 ≤ 1
    go true = omega arith
    go false = omega arith

pub past_end : (l : List ℤ) (from k : ℕ) → length l - from < k → drop (length l) l ≡ drop k (drop from l)
past_end l from k h =
    let over : length l ≤ from + k = omega arith in
    drop-length l ∙ sym (drop-drop k from l ∙ drop_of_length-le l over)

-- A part of a slice, as the code takes it, from a place on.
pub part-is : (ns : List ℤ) (n : ℕ) → take (length ns - n) (drop n ns) ≡ drop n ns
part-is ns n = take_all (length ns - n) (drop n ns) (simp length-drop (omega arith))

pub no-digits : (h : Held) (w v : ℕ) → w ≡ 0 → Puts h (print_hex w v) h
unfolding print_hex
no-digits h w v e = rw e (nothing_put h)

last_of : (v : ℕ) → v % 16 % 16 ≡ v % 16
last_of v = omega arith

pub more-digits : {h g k : Held} (w v b : ℕ) → (w ≡ 0 → ⊥) → b ≡ hex_of (v % 16 % 16)
    → Puts h (print_hex (w - 1) (v / 16)) g → Puts g (b ∷ []) k → Puts h (print_hex w v) k
unfolding print_hex
more-digits zero v b n e p q = absurd (n refl)
more-digits (suc w) v b n e p q =
    let one : suc w - 1 ≡ w = omega arith in
    (rw one at p) ⨾ as-text (ap (λ (x : ℕ). x ∷ []) (e ∙ ap hex_of (last_of v))) q
