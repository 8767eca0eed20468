-- What is refused before the fields are looked at, and where field n stands, one law for each way out.
use Prim.Native.Nat.{ℕ, ◌+◌, ◌-◌, ◌≤◌, ◌<◌}
use mathlib.Core.Path.{◌≡◌, refl, sym, ◌∙◌, ap}
use mathlib.Core.List.{List, []}
use mathlib.Core.Bool.{Bool, true, false, cond, ◌&&◌}
use native.Mathlib.Omega.{arith}
use lib.ListN.{length, get_or, take, drop}
use lib.Seq.{sets}
use lib.Dec.{ltb, leb, eqb}
use borrow.Author.Tests.{eqb-true, eq-eqb, ne_eqb, lt-ltb, le-ltb, le-leb, lt-leb}
use Rattle.line.specs.Line.{line_refusal, body_of}
use Rattle.line.proofs.Form.{accepted}
use Rattle.line.proofs.Laws.{body-part}
use Rattle.address.specs.declared.Address.{Address}
use Rattle.address.specs.Address.{address_of}
use Rattle.fields.specs.Fields.{fields_of, start_of}
use Rattle.line.specs.Ends.{ends_from}
use Rattle.fields.specs.FieldN.{unknown_no, address_refusal, field_no, field_bytes, field_place, field_at}
use Rattle.fields.specs.declared.Field.{Field}
use Rattle.fields.proofs.Splitting.{fields-most, field-at}
use Rattle.fields.proofs.Placing.{end-at, starts}

module _ (l : List ℕ) (no : ℕ) (e : no ≡ line_refusal l) where
  pub line_refused : (no ≡ 0 → ⊥) → no ≡ address_refusal l
  unfolding address_refusal
  line_refused n = rw (← e, ne_eqb no 0 n)

  -- a is the address of the body
  pub address-refused : no ≡ 0 → (a : Address) → a ≡ address_of (take (length l - 5 - 1) (drop 1 l)) → unknown_no a ≡ address_refusal l
  unfolding address_refusal
  address-refused z a f = rw (← e, eq-eqb no 0 z, ← body-part l) (ap unknown_no f)

-- What has a known address passes the line rule.
pub address_line : (l : List ℕ) → address_refusal l ≡ 0 → line_refusal l ≡ 0
unfolding address_refusal
address_line l e = go (eqb (line_refusal l) 0) refl e
  where
    go : (t : Bool) → eqb (line_refusal l) 0 ≡ t → cond t (unknown_no (address_of (body_of l))) (line_refusal l) ≡ 0 → line_refusal l ≡ 0
    go true i f = eqb-true (line_refusal l) 0 i
    go false i f = f

-- field n of a line by its number, its start and its end
abbrev pub from-to : ℕ → ℕ → ℕ → Field
from-to k start end = record { no = k; start = start; end = end }

is-refused : (l : List ℕ) (n k : ℕ) → k ≡ field_no l n → (k ≡ 0 → ⊥) → from-to k 0 0 ≡ field_at l n
unfolding field_place field_bytes
is-refused l n k e z =
    let f : eqb (field_no l n) 0 ≡ false = rw (← e) (ne_eqb k 0 z) in
    rw (f, e)

module _ (l : List ℕ) (n : ℕ) where
  pub not-addressed : (k : ℕ) → k ≡ address_refusal l → (k ≡ 0 → ⊥) → from-to k 0 0 ≡ field_at l n
  unfolding field_no
  not-addressed k e z = is-refused l n k (rw (← e, ne_eqb k 0 z)) z

  module _ (a : address_refusal l ≡ 0) where
    there : field_no l n ≡ cond (leb 1 n && ltb n (length (fields_of (body_of l)))) 0 4
    unfolding field_no
    there = rw (eq-eqb (address_refusal l) 0 a)

    pub no-zeroth : n < 1 → from-to 4 0 0 ≡ field_at l n
    no-zeroth h = is-refused l n 4 (sym (there ∙ rw (lt-leb 1 n h))) (λ e. omega arith)

    module _ (o : 1 ≤ n) where
      pub past-last : length (fields_of (body_of l)) ≤ n → from-to 4 0 0 ≡ field_at l n
      past-last h = is-refused l n 4 (sym (there ∙ rw (le-leb 1 n o, le-ltb n (length (fields_of (body_of l))) h))) (λ e. omega arith)

      module _ (h : n < length (fields_of (body_of l))) where
        is_field : (s e : ℕ) → s ≡ start_of n (fields_of (body_of l)) + 1 → e ≡ s + length (get_or (fields_of (body_of l)) n [])
            → from-to 0 s e ≡ field_at l n
        unfolding field_place field_bytes
        is_field s e i j =
            let z : field_no l n ≡ 0 = there ∙ rw (le-leb 1 n o, lt-ltb n (length (fields_of (body_of l))) h) in
            let f : eqb (field_no l n) 0 ≡ true = eq-eqb (field_no l n) 0 z in
            rw (f, z, j, i)

        pub few : n < 80
        few = omega (arith, fields-most (body_of l), (accepted l (address_line l a)).0.room)

        -- by the ends q that were stored in 80 places p
        module _ (p q : List ℕ) (r : length p ≡ 80) (e : q ≡ sets p 0 (ends_from 0 (body_of l))) where
          start : get_or q (n - 1) 0 + 1 ≡ start_of n (fields_of (body_of l))
          start = rw e (starts (body_of l) p n o (omega (arith, few)) h)

          end : get_or q n 0 ≡ start_of n (fields_of (body_of l)) + length (get_or (fields_of (body_of l)) n [])
          end = rw e (end-at (body_of l) p n (omega (arith, few)) h)

          pub placed : from-to 0 (get_or q (n - 1) 0 + 2) (get_or q n 0 + 1) ≡ field_at l n
          placed = is_field _ _ (omega (arith, start)) (omega (arith, start, end))

          pub low : (get_or q (n - 1) 0 ≤ 76) × (get_or q n 0 ≤ 76)
          low =
              let b = (accepted l (address_line l a)).0.room in
              let f = (field-at 0 (body_of l) n h).inside in
              (omega (arith, b, f, start), omega (arith, b, f, end))
