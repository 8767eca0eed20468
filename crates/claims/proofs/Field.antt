-- Field n as a host is given it: two places in its own line, between which the bytes of the field stand. Each claim is of what the
-- contract of the exported function says is left in the two places.
use Prim.Native.Nat.{ℕ}
use mathlib.Core.Path.{◌≡◌}
use mathlib.Core.List.{List, []}
use lib.ListN.{get_or}
use borrow.Author.Tests.{eq-eqb}
use Rattle.line.specs.Line.{body_of}
use Rattle.fields.specs.Fields.{fields_of}
use Rattle.fields.specs.FieldN.{field_at, field_bytes}
use Rattle.fields.proofs.FieldParts.{field-holds, field-nth, Holds}
use Rattle.host.specs.Answer.{set_at}
use Rattle.claims.proofs.Exported.{place-left}

module _ (l : List ℕ) (n start end : ℕ) where
  -- What is left in the two places.
  abbrev start_after : ℕ
  start_after = set_at (field_at l n).no (field_at l n).start start

  abbrev end_after : ℕ
  end_after = set_at (field_at l n).no (field_at l n).end end

  -- A refusal leaves both.
  pub field-leaves : ((field_at l n).no ≡ 0 → ⊥) → (start_after ≡ start) × (end_after ≡ end)
  field-leaves h = (place-left _ _ start h, place-left _ _ end h)

  -- Else they lie in the line, and what stands between them is the field: the nth of what stands between the commas of the body.
  pub field-handed : (field_at l n).no ≡ 0
      → Holds l start_after end_after (field_bytes l n) × (field_bytes l n ≡ get_or (fields_of (body_of l)) n [])
  field-handed e = (rw (eq-eqb (field_at l n).no 0 e) (field-holds l n), field-nth l n e)
