-- `address_refusal` meets its contract: a line that passes has a body, whose address decides.
use mathlib.Core.Path.{◌≡◌, sym, ◌∙◌, ap}
use mathlib.Core.Logic.{inl, inr}
use native.Mathlib.Omega.{arith}
use borrow.Author.Rules.{rules}
use lib.ListN.{length}
use Prim.Native.Nat.{◌≤◌}
use Rattle.line.proofs.Form.{passes-long}
use Rattle.fields.specs.FieldN.{unknown_no, address_refusal}
use Rattle.fields.proofs.Refusing.{line_refused, address-refused}
use Rattle.fields.proofs.address_refusal.Goals.{Else-no-ne0}
use Rattle.fields.proofs.address_refusal.Goals as goal

-- a line that passes is long enough
long : (c : Else-no-ne0) → 7 ≤ length c.args.line.now
long c = passes-long _ (sym c.line_refusal-no.ensures ∙ c.if-no-ne0.false)

pub returns-then-no-ne0 : goal.returns-then-no-ne0
returns-then-no-ne0 c = line_refused _ _ c.line_refusal-no.ensures c.if-no-ne0.true

pub returns-in-Standard : goal.returns-in-Standard
returns-in-Standard c =
    let decided : unknown_no c.address_of-address.result ≡ address_refusal c.args.line.now =
    address-refused _ _ c.line_refusal-no.ensures c.if-no-ne0.false _ c.address_of-address.ensures in
    elim c.in-Standard.is [
      | inl w ↦ sym (ap unknown_no w.2) ∙ decided
      | inr w ↦ sym (ap unknown_no w.1) ∙ decided
    ]

pub returns-in-Unknown : goal.returns-in-Unknown
returns-in-Unknown c =
    let decided : unknown_no c.address_of-address.result ≡ address_refusal c.args.line.now =
    address-refused _ _ c.line_refusal-no.ensures c.if-no-ne0.false _ c.address_of-address.ensures in
    sym (ap unknown_no c.in-Unknown.is) ∙ decided

pub overflow_sub-end : goal.overflow_sub-end
overflow_sub-end c = omega (arith, long (goal.at.overflow_sub-end c).Else-no-ne0)

pub slice_bounds-address_of-count : goal.slice_bounds-address_of-count
slice_bounds-address_of-count c = omega (arith, long (goal.at.slice_bounds-address_of-count c).Else-no-ne0)

pub slice_bounds-address_of-start : goal.slice_bounds-address_of-start
slice_bounds-address_of-start c = let l = long (goal.at.slice_bounds-address_of-start c).Else-no-ne0 in search rules

pub slice_bounds-address_of-end : goal.slice_bounds-address_of-end
slice_bounds-address_of-end c = let l = long (goal.at.slice_bounds-address_of-end c).Else-no-ne0 in search rules
