-- Field n after the address is handed back as that part of the caller's line, nothing copied; refused, it is an empty part beside its
-- number, 1 to 3, or 4 where there is no field n. The part is said by its start and its end in the line.
use Rattle.std.specs.Prelude.{ℕ, ◌+◌, List, [], cond, ◌&&◌, length, get_or, ltb, leb, eqb}
use Rattle.line.specs.Line.{line_refusal, body_of}
use Rattle.address.specs.declared.Address.{Address}
use Rattle.address.specs.declared.Address.TheVariants.{Standard, Maker, Unknown}
use Rattle.address.specs.Address.{address_of}
use Rattle.fields.specs.Fields.{fields_of, start_of}
use Rattle.fields.specs.declared.Field.{Field}

-- 3 for an unknown address.
abbrev pub unknown_no : Address → ℕ
unknown_no (Standard t k) = 0
unknown_no (Maker p) = 0
unknown_no Unknown = 3

-- What is refused before the fields are looked at: 1, 2, then 3; or 0.
unfoldable pub address_refusal : List ℕ → ℕ
address_refusal l = cond (eqb (line_refusal l) 0) (unknown_no (address_of (body_of l))) (line_refusal l)

unfoldable pub field_no : List ℕ → ℕ → ℕ
field_no l n = cond (eqb (address_refusal l) 0) (cond (leb 1 n && ltb n (length (fields_of (body_of l)))) 0 4) (address_refusal l)

-- The bytes of field n, and their place in the line, whose body starts at place 1; refused, none, at place 0.
unfoldable pub field_bytes : List ℕ → ℕ → List ℕ
field_bytes l n = cond (eqb (field_no l n) 0) (get_or (fields_of (body_of l)) n []) []

unfoldable pub field_place : List ℕ → ℕ → ℕ
field_place l n = cond (eqb (field_no l n) 0) (start_of n (fields_of (body_of l)) + 1) 0

-- Field n: its number, and where it starts and ends in the line; refused, from 0 up to 0.
abbrev pub field_at : List ℕ → ℕ → Field
field_at l n = record { no = field_no l n; start = field_place l n; end = field_place l n + length (field_bytes l n) }

abbrev pub refused : ℕ → Field
refused n = record { no = n; start = 0; end = 0 }
