-- The place of a 5 of a line, by the fields of its body.
use Prim.Native.Nat.{◌-◌, suc, ℕ}
use mathlib.Core.List.{List}
use mathlib.Core.Path.{◌∙◌, ◌≡◌, ap, sym}
use lib.ListN.{length}
use Rattle.line.specs.Line.{body_of, line_refusal}
use Rattle.address.specs.Address.{address_of}
use Rattle.address.specs.declared.Address.{Address}
use Rattle.fields.specs.Fields.{fields_of}
use Rattle.fields.specs.Places.{the_fields}
use Rattle.form.proofs.PlaceLaws.{Agree}
use Rattle.sentence.specs.Lines.{read_body, read_line, refusal, refusal_of}
use Rattle.sentence.proofs.Order.{sound}
use Rattle.sentence_laws.proofs.Five.{five, told_of}

-- What a line that passes the line rule is refused with.
told_line : (l : List ℕ) → line_refusal l ≡ 0
    → refusal_of (read_line l) ≡ told_of (address_of (body_of l)) (length (fields_of (body_of l)) - 1) (the_fields (body_of l))
unfolding read_body
told_line l e = ap refusal_of (sound l e)

pub five-line : (l m : List ℕ) (w : ℕ) → line_refusal l ≡ 0 → line_refusal m ≡ 0 → address_of (body_of m) ≡ address_of (body_of l)
    → length (fields_of (body_of m)) ≡ length (fields_of (body_of l)) → refusal_of (read_line l) ≡ refusal 5 w
    → Agree (the_fields (body_of l)) (the_fields (body_of m)) suc w → refusal_of (read_line m) ≡ refusal 5 w
five-line l m w p q a n e s =
    told_line m q
    ∙ ap (λ (x : Address). told_of x (length (fields_of (body_of m)) - 1) (the_fields (body_of m))) a
    ∙ ap (λ (k : ℕ). told_of (address_of (body_of l)) (k - 1) (the_fields (body_of m))) n
    ∙ (five (address_of (body_of l)) _ (the_fields (body_of l)) w (sym (told_line l p) ∙ e)).stays (the_fields (body_of m)) s
