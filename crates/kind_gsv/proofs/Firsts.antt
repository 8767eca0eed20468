-- The values of an entry are looked at where it is used, and passed over where it is not.
use Prim.Native.Nat.{ℕ}
use mathlib.Core.Bool.{Bool, false, true}
use mathlib.Core.List.{◌++◌, List}
use mathlib.Core.Path.{◌∙◌, ◌≡◌, ap, refl, sym}
use Rattle.form.specs.Wrong.{After, first_wrong, near_of}
use Rattle.kind_gsv.specs.declared.Entry.{Entry}
use Rattle.kind_gsv.specs.declared.Gsv.{Gsv}
use Rattle.kind_gsv.specs.Row.{line_number, satellite_total}
use Rattle.kind_gsv.specs.Writing.{entry_afters, entry_of, first_in, gsv_wrong, used}

entry_first : (u : Bool) (n : ℕ) (e : Entry) (l : List After) → first_wrong (entry_afters u n e ++ l) ≡ first_in u n e (first_wrong l)
unfolding first_wrong
entry_first true n e l = refl
entry_first false n e l = refl

entry-last : (u : Bool) (n : ℕ) (e : Entry) → first_wrong (entry_afters u n e) ≡ first_in u n e 0
unfolding first_wrong
entry-last true n e = refl
entry-last false n e = refl

entry-step : (u : Bool) (n : ℕ) (e : Entry) (l : List After) (x : ℕ) → x ≡ first_wrong l
    → first_in u n e x ≡ first_wrong (entry_afters u n e ++ l)
entry-step u n e l x q = ap (first_in u n e) q ∙ sym (entry_first u n e l)

-- The first wrong field of a record, entry by entry from the last.
abbrev from : Gsv → ℕ → ℕ → ℕ → ℕ
from r k n rest = first_in (used r k) n (entry_of r k) rest

pub gsv-wrong : (r : Gsv)
    → near_of 0 (line_number.fault r.lines)
    (near_of 1 (line_number.fault r.line)
    (near_of 2 (satellite_total.fault r.satellites) (from r 0 3 (from r 1 7 (from r 2 11 (from r 3 15 0))))))
    ≡ gsv_wrong r
unfolding gsv_wrong first_wrong
gsv-wrong r =
    ap (λ (x : ℕ). near_of 0 (line_number.fault r.lines)
    (near_of 1 (line_number.fault r.line) (near_of 2 (satellite_total.fault r.satellites) x)))
    (entry-step (used r 0) 3 (entry_of r 0) _ _ (entry-step (used r 1) 7 (entry_of r 1) _ _
    (entry-step (used r 2) 11 (entry_of r 2) _ _ (sym (entry-last (used r 3) 15 (entry_of r 3))))))
