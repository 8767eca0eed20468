-- The order of the refusals: the line rule's number comes first, then the address. Each is one way of the definition.
use Prim.Native.Nat.{ℕ}
use mathlib.Core.Path.{◌≡◌}
use mathlib.Core.List.{List}
use borrow.Author.Tests.{ne_eqb, eq-eqb}
use Rattle.line.specs.Line.{line_refusal, body_of}
use Rattle.address.specs.declared.Address.TheVariants.{Unknown}
use Rattle.address.specs.Address.{address_of}
use Rattle.sentence.specs.Sentence.{Refused}
use Rattle.sentence.specs.Lines.{read_body, read_line}

pub refused : (l : List ℕ) → (line_refusal l ≡ 0 → ⊥) → read_line l ≡ Refused (line_refusal l) 0
unfolding read_line
refused l n = rw (ne_eqb (line_refusal l) 0 n)

pub sound : (l : List ℕ) → line_refusal l ≡ 0 → read_line l ≡ read_body (body_of l)
unfolding read_line
sound l e = rw (eq-eqb (line_refusal l) 0 e)

pub unknown : (l : List ℕ) → line_refusal l ≡ 0 → address_of (body_of l) ≡ Unknown → read_line l ≡ Refused 3 0
unfolding read_line read_body
unknown l e a = rw (eq-eqb (line_refusal l) 0 e, a)
