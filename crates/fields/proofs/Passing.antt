-- One pass over a line that passes leaves what `places` leaves of its body.
use Prim.Native.Nat.{ℕ}
use mathlib.Core.Path.{◌≡◌, ◌∙◌, ap}
use mathlib.Core.List.{List}
use lib.ListN.{length}
use lib.Seq.{sets}
use Rattle.line.specs.Line.{body_of, line_refusal}
use Rattle.line.specs.Ends.{ends_in}
use Rattle.line.proofs.Form.{passes-edges}
use Rattle.line.proofs.Laws.{ends_there}
use Rattle.fields.specs.Places.{Placed}
use Rattle.fields.proofs.Splitting.{ends-count}

pub pass-placed : (l p : List ℕ) (count : ℕ) (left : List ℕ) → line_refusal l ≡ 0 → count ≡ length (ends_in l) → left ≡ sets p 0 (ends_in l)
    → Placed (body_of l) p count left
pass-placed l p count left e c s =
    let there = ends_there l (passes-edges l e) in
    record { fields = c ∙ (ap length there ∙ ends-count 0 (body_of l)); ends = s ∙ ap (sets p 0) there }
