-- For each public function: any two results that its contract permits are equal. Where the contract is an equation with a definition,
-- both are what the definition says; of a part of the caller's slice its memory, place and bytes are fixed.
use Prim.Native.Nat.{ℕ, ◌+◌, ◌%◌}
use mathlib.Core.Path.{◌≡◌, refl, sym, ◌∙◌, ap}
use mathlib.Core.List.{List}
use mathlib.Core.Bool.{Bool}
use Rattle.std.specs.Prelude.{Option, None, Some}
use lib.ListN.{drop, set}
use lib.Seq.{sets}
use denote.Ref.{Bor}
use Rattle.digits.specs.Hex.{hex_digit, hex_of}
use Rattle.digits.specs.Same.{same}
use Rattle.digits.specs.Decimal.{digits_from, digits_of, find_in}
use Rattle.line.specs.Line.{line_refusal}
use Rattle.line.specs.Ends.{ends_in, passing}
use Rattle.lines.specs.Cut.{line_width}
use Rattle.address.specs.declared.Address.{Address}
use Rattle.address.specs.Address.{address_of}
use Rattle.fields.specs.Places.{Placed, field_in, place_in}
use Rattle.fields.specs.Part.{PartAt}
use Rattle.fields.specs.Parts.{parts_of}
use Rattle.fields.specs.declared.Fields.{Fields}
use Rattle.fields.specs.FieldN.{address_refusal, field_at}
use Rattle.fields.specs.declared.Field.{Field}
use Rattle.finder.specs.declared.Fed.{Fed}
use Rattle.finder.specs.declared.Found.{Found}
use Rattle.finder.specs.Finder.{ends_here, fed_of, held_next}
use Rattle.finder.specs.Slice.{found_at}

-- Two values that are what a definition says.
equation : {A : Type 0} {x r s : A} → r ≡ x → s ≡ x → r ≡ s
equation e f = e ∙ sym f

-- A definition x permits one result: any two that are what it says are equal.
abbrev pub One : {A : Type 0} → A → Type 0
One {A} x = (r s : A) → r ≡ x → s ≡ x → r ≡ s

pub one : {A : Type 0} {x : A} → One x
one r s = equation

-- Two parts of one slice at one place with the same bytes.
pub record SamePart (r s : Bor (List ℕ)) : Type 0 where
  pub block : r.ref_ptr.0 ≡ s.ref_ptr.0
  pub place : r.ref_ptr.1 ≡ s.ref_ptr.1
  pub bytes : r.now ≡ s.now

part : (l : Bor (List ℕ)) (at : ℕ) (bytes : List ℕ) (r s : Bor (List ℕ)) → PartAt l at bytes r → PartAt l at bytes s → SamePart r s
part l at bytes r s p q = record {
  block = equation p.block q.block;
  place = equation p.place q.place;
  bytes = equation p.holds q.holds;
}

-- digits
pub is-hex : (b : ℕ) (r s : Bool) → r ≡ hex_digit b → s ≡ hex_digit b → r ≡ s
is-hex b r s = equation

pub hex-of : (n r s : ℕ) → r ≡ hex_of (n % 16) → s ≡ hex_of (n % 16) → r ≡ s
hex-of n r s = equation

pub same_bytes : (a b : List ℕ) (r s : Bool) → r ≡ same a b → s ≡ same a b → r ≡ s
same_bytes a b r s = equation

pub find : (l : List ℕ) (b r s : ℕ) → r ≡ find_in b l → s ≡ find_in b l → r ≡ s
find l b r s = equation

pub decimal : (l : List ℕ) (r s : Option ℕ) → r ≡ digits_from 0 l → s ≡ digits_from 0 l → r ≡ s
decimal l r s = equation

pub digits : (l : List ℕ) (lo hi : ℕ) (r s : Option ℕ) → r ≡ digits_of lo hi l → s ≡ digits_of lo hi l → r ≡ s
digits l lo hi r s = equation

-- line, lines
pub line-refusal : (l : List ℕ) (r s : ℕ) → r ≡ line_refusal l → s ≡ line_refusal l → r ≡ s
line-refusal l r s = equation

pub line_store : (p : List ℕ) (n i : ℕ) → One (set p n i)
line_store p n i = one

pub line-pass : (l p : List ℕ) → One (passing l) × One (sets p 0 (ends_in l))
line-pass l p = (one, one)

pub line-end : (l : List ℕ) (at r s : ℕ) → r ≡ at + line_width (drop at l) → s ≡ at + line_width (drop at l) → r ≡ s
line-end l at r s = equation

-- address
pub address-of : (body : List ℕ) (r s : Address) → r ≡ address_of body → s ≡ address_of body → r ≡ s
address-of body r s = equation

-- fields
pub places : (l p : List ℕ) (r s : ℕ) (left other : List ℕ) → Placed l p r left → Placed l p s other → (r ≡ s) × (left ≡ other)
places l p r s left other d e = (equation d.fields e.fields, equation d.ends e.ends)

pub field_in_lem : (l : Bor (List ℕ)) (p : List ℕ) (k : ℕ) (r s : Bor (List ℕ))
    → PartAt l (place_in p k l.now) (field_in p k l.now) r → PartAt l (place_in p k l.now) (field_in p k l.now) s → SamePart r s
field_in_lem l p k r s = part l _ _ r s

pub fields-at : (f : Fields) (k : ℕ) (r s : Bor (List ℕ)) → PartAt f.body (place_in f.ends.now k f.body.now) (parts_of f k) r
    → PartAt f.body (place_in f.ends.now k f.body.now) (parts_of f k) s → SamePart r s
fields-at f k r s = part f.body _ _ r s

pub address-refusal : (l : List ℕ) (r s : ℕ) → r ≡ address_refusal l → s ≡ address_refusal l → r ≡ s
address-refusal l r s = equation

pub field-at : (l : List ℕ) (n : ℕ) (r s : Field) → r ≡ field_at l n → s ≡ field_at l n → r ≡ s
field-at l n r s = equation

-- finder
pub feed : (held b : ℕ) (r s : Fed) → r ≡ fed_of held b → s ≡ fed_of held b → r ≡ s
feed held b r s = equation

pub next-line : (l : List ℕ) (at : ℕ) (r s : Found) → r ≡ found_at l at → s ≡ found_at l at → r ≡ s
next-line l at r s = equation

-- host: each exported function hands on the answer of the function above, its struct taken apart into lent numbers.
pub host-next-line : (l : List ℕ) (at : ℕ) → One (found_at l at).line × One (found_at l at).start × One (found_at l at).end
host-next-line l at = (one, one, one)

pub host-feed : (held b : ℕ) → One (held_next held b) × One (ends_here held b)
host-feed held b = (one, one)
