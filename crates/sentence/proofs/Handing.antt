-- A refusal on line 0 leaves the output, since its number is not 0; and a record that numbers say is written as the numbers are, but for a
-- GPS mask that 32 bits do not hold.
use Prim.Native.Nat.{◌<◌, ◌≤◌, ℕ}
use mathlib.Core.Path.{◌∙◌, ◌≡◌, ap, sym}
use mathlib.Core.Bool.{◌&&◌, Bool, false, true}
use mathlib.Core.List.{[], List}
use native.Mathlib.Omega.{arith}
use borrow.Author.Tests.{le-leb, lt-leb, ne_eqb}
use lib.IntN.{ℤ}
use lib.ListN.{length}
use Rattle.address.specs.declared.Address.{Address}
use Rattle.sentence.specs.Sentence.{Sentence}
use Rattle.frame.specs.declared.Written.{Written}
use Rattle.frame.specs.Written.{left_of, refused, Writes, written_of}
use Rattle.frame.proofs.Sealing.{fault-out}
use Rattle.numbers.specs.Layout.{whole}
use Rattle.sentence.specs.Numbers.{count_of}
use Rattle.sentence.specs.Back.{address_at, record_at}
use Rattle.sentence.specs.FromHost.{gps_over, left_as, numbers_fault, over_in, record_body, record_fault, refused_by, written_as}

refused-by : (n : ℕ) → (n ≡ 0 → ⊥) → refused_by n 0 ≡ refused n 0 0
unfolding refused_by
refused-by n h = rw (ne_eqb n 0 h)

pub handed : (n : ℕ) → (n ≡ 0 → ⊥) → (out : List ℕ) (w : Written) → w ≡ refused n 0 0 → Writes (refused_by n 0) [] out w out
handed n h out w e = rw (refused-by n h, e) (fault-out (refused n 0 0) [] out h)

-- A mask is refused before the record is looked at; without one, the record decides.
module _ (r : Sentence) (out : List ℕ) (b : Bool) where
  pub refused_over : b ≡ true → (w : Written) → w ≡ refused 5 1 1 → Writes (numbers_fault b r) (record_body r) out w out
  refused_over e w i = rw (e, i) (fault-out (refused 5 1 1) (record_body r) out (λ z. omega (arith, z)))

  pub kept : b ≡ false → {w : Written} {left : List ℕ} → Writes (record_fault r) (record_body r) out w left
      → Writes (numbers_fault b r) (record_body r) out w left
  kept e p = rw e p

module _ (kind : ℕ) (n : List ℤ) where
  pub few-over : length n < count_of kind → gps_over kind n ≡ false
  unfolding gps_over
  few-over h = rw (lt-leb (count_of kind) (length n) h)

  pub enough-over : (a : Address) → a ≡ address_at kind (whole.at n 0) → count_of kind ≤ length n → gps_over kind n ≡ over_in a n
  unfolding gps_over
  enough-over a e h =
      ap (λ (b : Bool). b && over_in (address_at kind (whole.at n 0)) n) (le-leb (count_of kind) (length n) h)
      ∙ ap (λ (x : Address). over_in x n) (sym e)

  module _ (r : Sentence) (e : r ≡ record_at kind n) (b : Bool) (o : gps_over kind n ≡ b) (out : List ℕ) {w : Written} {left : List ℕ} where
    pub written_is : Writes (numbers_fault b r) (record_body r) out w left → (w ≡ written_as kind n out) × (left ≡ left_as kind n out)
    written_is p = (
      p.answers
          ∙ ap (λ (x : Bool). written_of (numbers_fault x r) (record_body r) (length out)) (sym o)
          ∙ ap (λ (x : Sentence). written_of (numbers_fault (gps_over kind n) x) (record_body x) (length out)) e,
      p.leaves
          ∙ ap (λ (x : Bool). left_of (numbers_fault x r) (record_body r) out) (sym o)
          ∙ ap (λ (x : Sentence). left_of (numbers_fault (gps_over kind n) x) (record_body x) out) e,
    )
