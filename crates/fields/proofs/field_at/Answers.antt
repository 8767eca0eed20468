-- `field_at` meets its contract: each way out is one of the definition's own; a line that passes has so few fields that each has its end
-- among the 80 that are kept, and the body starts one byte in the line.
use Prim.Native.Nat.{ℕ, ◌-◌, ◌≤◌, ◌<◌}
use mathlib.Core.Path.{◌≡◌, refl, sym, ◌∙◌}
use mathlib.Core.List.{List}
use native.Mathlib.Omega.{arith}
use borrow.Author.Rules.{rules}
use lib.ListN.{length, get_or, replicate}
use lib.Seq.{sets}
use Rattle.line.specs.Line.{body_of}
use Rattle.line.proofs.Form.{passes-long}
use Rattle.line.proofs.Laws.{body-part}
use Rattle.fields.specs.Fields.{fields_of}
use Rattle.line.specs.Ends.{ends_from}
use Rattle.fields.specs.FieldN.{address_refusal}
use Rattle.fields.proofs.Refusing.{address_line, not-addressed, no-zeroth, past-last, few, low, placed}
use Rattle.fields.proofs.field_at.Goals.{Else-refusal-ne0}
use Rattle.fields.proofs.field_at.Goals.{then-n-lt1-via-then-n-lt1, then-n-lt1-via-else-n-lt1+then-count-n}
use Rattle.fields.proofs.field_at.Goals as goal

known : (c : Else-refusal-ne0) → address_refusal c.args.line.now ≡ 0
known c = sym c.address_refusal-refusal.ensures ∙ c.if-refusal-ne0.false

-- a line with a known address is long enough
long : (c : Else-refusal-ne0) → 7 ≤ length c.args.line.now
long c = passes-long _ (address_line _ (known c))

-- Where a line with a known address has a field n: as many fields were counted as the body has, and their ends were kept.
module _ (l : List ℕ) (n count : ℕ) (a : address_refusal l ≡ 0) (one : 1 ≤ n) (counted : count ≡ length (fields_of (body_of l)))
    (below : n < count) where
  is_field : n < length (fields_of (body_of l))
  is_field = omega arith

  within : n < 80
  within = few l n a one is_field

  small : (kept : List ℕ) → kept ≡ sets (replicate 80 0) 0 (ends_from 0 (body_of l))
      → (get_or kept (n - 1) 0 ≤ 76) × (get_or kept n 0 ≤ 76)
  small kept stored = low l n a one is_field (replicate 80 0) kept refl stored

pub returns-then-refusal-ne0 : goal.returns-then-refusal-ne0
returns-then-refusal-ne0 c =
    c.refused.ensures ∙ not-addressed c.args.line.now c.args.n _ c.address_refusal-refusal.ensures c.if-refusal-ne0.true

pub returns-then-n-lt1 : goal.returns-then-n-lt1
returns-then-n-lt1 c =
    let a = known (goal.at.returns-then-n-lt1 c).Else-refusal-ne0 in
    let counted : c.places-count.result ≡ length (fields_of (body_of c.args.line.now)) =
    c.places-count.ensures.fields ∙ rw body-part in
    c.refused-then-n-lt1.ensures ∙ elim c.then-n-lt1.branch [
      | then-n-lt1-via-then-n-lt1 w ↦ no-zeroth c.args.line.now c.args.n a w.if-n-lt1.true
      | then-n-lt1-via-else-n-lt1+then-count-n w ↦ past-last c.args.line.now c.args.n a (omega arith) (omega (arith, counted))
    ]

pub returns : goal.returns
returns c =
    placed c.args.line.now c.args.n (known (goal.at.returns c).Else-refusal-ne0) (omega arith) (is_field c.args.line.now c.args.n c.places-count.result (known (goal.at.returns c).Else-refusal-ne0) (omega arith) (c.places-count.ensures.fields ∙ rw body-part) (omega arith)) (replicate 80 0) c.places-count.new.p refl
    (c.places-count.ensures.ends ∙ rw body-part)

pub overflow_sub-end : goal.overflow_sub-end
overflow_sub-end c = omega (arith, long (goal.at.overflow_sub-end c).Else-refusal-ne0)

pub slice_bounds-places-count : goal.slice_bounds-places-count
slice_bounds-places-count c = omega (arith, long (goal.at.slice_bounds-places-count c).Else-refusal-ne0)

pub slice_bounds-places-start : goal.slice_bounds-places-start
slice_bounds-places-start c = let l = long (goal.at.slice_bounds-places-start c).Else-refusal-ne0 in search rules

pub offset_bounds-ends-n : goal.offset_bounds-ends-n
offset_bounds-ends-n c = omega (arith, within c.args.line.now c.args.n c.places-count.result (known (goal.at.offset_bounds-ends-n c).Else-refusal-ne0) (omega arith) (c.places-count.ensures.fields ∙ rw body-part) (omega arith))

pub bounds-ends-n : goal.bounds-ends-n
bounds-ends-n c = omega (arith, within c.args.line.now c.args.n c.places-count.result (known (goal.at.bounds-ends-n c).Else-refusal-ne0) (omega arith) (c.places-count.ensures.fields ∙ rw body-part) (omega arith))

pub overflow_add-result : goal.overflow_add-result
overflow_add-result c = omega (arith, (small c.args.line.now c.args.n c.places-count.result (known (goal.at.overflow_add-result c).Else-refusal-ne0) (omega arith) (c.places-count.ensures.fields ∙ rw body-part) (omega arith) c.places-count.new.p (c.places-count.ensures.ends ∙ rw body-part)).0)

pub offset_bounds-ends-n-2 : goal.offset_bounds-ends-n-2
offset_bounds-ends-n-2 c = omega (arith, within c.args.line.now c.args.n c.places-count.result (known (goal.at.offset_bounds-ends-n-2 c).Else-refusal-ne0) (omega arith) (c.places-count.ensures.fields ∙ rw body-part) (omega arith))

pub bounds-ends-n-2 : goal.bounds-ends-n-2
bounds-ends-n-2 c = omega (arith, within c.args.line.now c.args.n c.places-count.result (known (goal.at.bounds-ends-n-2 c).Else-refusal-ne0) (omega arith) (c.places-count.ensures.fields ∙ rw body-part) (omega arith))

pub overflow_add-result-2 : goal.overflow_add-result-2
overflow_add-result-2 c = omega (arith, (small c.args.line.now c.args.n c.places-count.result (known (goal.at.overflow_add-result-2 c).Else-refusal-ne0) (omega arith) (c.places-count.ensures.fields ∙ rw body-part) (omega arith) c.places-count.new.p (c.places-count.ensures.ends ∙ rw body-part)).1)
