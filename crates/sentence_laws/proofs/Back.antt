-- A body that was put together of clean fields is read as those fields: its line passes the line rule, its address is the first five bytes,
-- and its fields are found again.
use Prim.Native.Nat.{◌%◌, ◌-◌, ◌/◌, ◌≤◌, suc, ℕ}
use mathlib.Core.List.{[], ◌∷◌, List}
use mathlib.Core.Path.{◌∙◌, ◌≡◌, ap}
use native.Mathlib.Omega.{arith}
use lib.ListN.{get_or, length, length-append}
use lib.Seq.{get_or_at, take_at}
use borrow.Author.Tests.{eq-eqb}
use Rattle.digits.specs.Hex.{hex_of}
use Rattle.line.specs.Line.{as_line, line_refusal, xor_of}
use Rattle.line.proofs.Form.{accepts, Body, body-of}
use Rattle.address.specs.Address.{address_of, known_of}
use Rattle.address.specs.declared.Address.{Address}
use Rattle.fields.specs.Fields.{fields_of, join_fields}
use Rattle.fields.specs.Places.{the_fields}
use Rattle.fields.proofs.Joining.{fields_join}
use Rattle.form.proofs.Clean.{all-free, Clean, clean_free, clean-joined, CleanAll}
use Rattle.sentence.specs.Lines.{addressed, read_body, read_line}

module _ (a f : List ℕ) (fs : List (List ℕ)) (five : length a ≡ 5) (ca : Clean a) (cs : CleanAll (f ∷ fs)) where
  abbrev body : List ℕ
  body = join_fields a (f ∷ fs)

  starts : 5 ≤ length body
  unfolding join_fields
  starts = simp length-append (omega (arith, five))

  fits : length body ≤ 76 → Body body
  fits h = record { good = clean-joined a (f ∷ fs) ca cs; some = omega (arith, starts); room = h }

  -- A written line passes the line rule.
  pub passes : length body ≤ 76 → line_refusal (as_line body) ≡ 0
  passes h = accepts body (fits h)

  address_is : address_of body ≡ known_of a
  unfolding address_of join_fields
  address_is =
      rw (
        get_or_at a 44 (join_fields f fs) 0 5 five,
        take_at a (44 ∷ join_fields f fs) 5 five,
        clean_free a ca,
      )

  pub read-body : read_body body ≡ addressed (known_of a) (length (f ∷ fs)) (λ (k : ℕ). get_or (a ∷ f ∷ fs) k [])
  unfolding read_body
  read-body =
      let e : fields_of body ≡ a ∷ f ∷ fs = fields_join a (f ∷ fs) (clean_free a ca, all-free (f ∷ fs) cs) in
      let n : suc (suc (length fs)) - 1 ≡ suc (length fs) = omega arith in
      ap (λ (x : Address). addressed x (length (fields_of body) - 1) (the_fields body)) address_is
      ∙ ap (λ (x : List (List ℕ)). addressed (known_of a) (length x - 1) (λ (k : ℕ). get_or x k [])) e
      ∙ ap (λ (x : ℕ). addressed (known_of a) x (λ (k : ℕ). get_or (a ∷ f ∷ fs) k [])) n

  pub read_back : length body ≤ 76 → read_line (as_line body) ≡ addressed (known_of a) (length (f ∷ fs)) (λ (k : ℕ). get_or (a ∷ f ∷ fs) k [])
  unfolding read_line
  read_back h =
      rw (eq-eqb _ _ (passes h), body-of body (hex_of (xor_of body / 16)) (hex_of (xor_of body % 16))) read-body
