-- Field n is that part of the caller's line: from its start up to its end lie the bytes of the field, as the nth of the fields lies in the
-- body, and the body in the line; refused, there are none.
use Prim.Native.Nat.{ℕ, zero, suc, ◌+◌, ◌-◌, ◌≤◌, ◌<◌}
use mathlib.Core.Path.{◌≡◌, refl, sym, ◌∙◌, ap}
use mathlib.Core.List.{List, [], ◌∷◌}
use mathlib.Core.Bool.{Bool, true, false, cond, ◌&&◌}
use native.Mathlib.Omega.{arith}
use lib.ListN.{length, get_or, take, drop, length-drop}
use lib.Seq.{take-take, drop-drop, length-take-le}
use lib.Dec.{ltb, leb, eqb}
use borrow.Author.Tests.{eqb-true, eqb-false, eq-eqb, ltb-true}
use Rattle.digits.proofs.Bools.{and_right}
use Rattle.line.specs.Line.{body_of}
use Rattle.line.proofs.Form.{passes-long}
use Rattle.fields.specs.Fields.{fields_of, start_of}
use Rattle.fields.specs.FieldN.{address_refusal, field_no, field_bytes, field_place, field_at}
use Rattle.fields.proofs.Splitting.{field-at}
use Rattle.fields.proofs.Refusing.{address_line}

-- a part of the front of a list is a part of the list
of-front : (k s m : ℕ) (t : List ℕ) → s + k ≤ m → take k (drop s (take m t)) ≡ take k (drop s t)
of-front k zero m t h = take-take k m t (omega arith)
of-front k (suc s) zero t h = let z : ⊥ = omega arith in absurd z
of-front k (suc s) (suc m) [] h = refl
of-front k (suc s) (suc m) (x ∷ t) h = of-front k s m t (omega arith)

-- What is not refused has a known address, and a field n behind it.
pub is-there : (l : List ℕ) (n : ℕ) → field_no l n ≡ 0 → (address_refusal l ≡ 0) × (n < length (fields_of (body_of l)))
unfolding field_no
is-there l n e = go (eqb (address_refusal l) 0) refl (leb 1 n && ltb n (length (fields_of (body_of l)))) refl e
  where
    go : (t : Bool) → eqb (address_refusal l) 0 ≡ t → (u : Bool) → (leb 1 n && ltb n (length (fields_of (body_of l)))) ≡ u
        → cond t (cond u 0 4) (address_refusal l) ≡ 0 → (address_refusal l ≡ 0) × (n < length (fields_of (body_of l)))
    go true i true j f = (eqb-true (address_refusal l) 0 i, ltb-true n _ (and_right (leb 1 n) _ j))
    go true i false j f = let z : ⊥ = omega (arith, f) in absurd z
    go false i u j f = let z : ⊥ = eqb-false (address_refusal l) 0 i f in absurd z

-- The part of a line from a start up to an end: it lies in the line, and these are its bytes.
pub record Holds (l : List ℕ) (start end : ℕ) (bytes : List ℕ) : Type 0 where
  pub ordered : start ≤ end
  pub inside : end ≤ length l
  pub holds : take (end - start) (drop start l) ≡ bytes

module _ (l : List ℕ) (n : ℕ) where
  -- the nth of the fields, in the line
  in-line : address_refusal l ≡ 0 → n < length (fields_of (body_of l))
      → Holds l (start_of n (fields_of (body_of l)) + 1)
      (start_of n (fields_of (body_of l)) + 1 + length (get_or (fields_of (body_of l)) n [])) (get_or (fields_of (body_of l)) n [])
  in-line a h =
      let s = start_of n (fields_of (body_of l)) in
      let k = length (get_or (fields_of (body_of l)) n []) in
      let f = field-at 0 (body_of l) n h in
      let long = passes-long l (address_line l a) in
      let m : length (body_of l) ≡ length l - 6 =
      length-take-le (length l - 6) (drop 1 l) (rw (length-drop 1 l) (omega arith)) in
      let w : s + 1 + k - (s + 1) ≡ k = omega arith in
      let d : s + 1 ≡ 1 + s = omega arith in
      record {
        ordered = omega arith;
        inside = omega (arith, f.inside, m, long);
        holds =
            rw (w, d) (ap (λ (t : List ℕ). take k t) (sym (drop-drop s 1 l))
            ∙ sym (of-front k s (length l - 6) (drop 1 l) (omega (arith, f.inside, m)))
            ∙ f.bytes);
      }

  -- Field n lies in the line and holds its bytes, refused or not.
  pub field-holds : Holds l (field_at l n).start (field_at l n).end (field_bytes l n)
  unfolding field_place field_bytes
  field-holds = go (eqb (field_no l n) 0) refl
    where
      go : (t : Bool) → eqb (field_no l n) 0 ≡ t
          → Holds l (cond t (start_of n (fields_of (body_of l)) + 1) 0)
          (cond t (start_of n (fields_of (body_of l)) + 1) 0 + length (cond t (get_or (fields_of (body_of l)) n []) []))
          (cond t (get_or (fields_of (body_of l)) n []) [])
      go true e = let i = is-there l n (eqb-true (field_no l n) 0 e) in in-line i.0 i.1
      go false e = record { ordered = omega arith; inside = omega arith; holds = refl }

  -- Where nothing is refused these bytes are the nth of the fields of the body.
  pub field-nth : field_no l n ≡ 0 → field_bytes l n ≡ get_or (fields_of (body_of l)) n []
  unfolding field_bytes
  field-nth e = rw (eq-eqb (field_no l n) 0 e)
