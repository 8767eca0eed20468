-- Field by field, the ends that were found give the fields: for a field that is there by its place, for any other since no end was stored.
use Prim.Native.Nat.{ℕ, zero, suc, ◌+◌, ◌≤◌}
use mathlib.Core.Path.{◌≡◌, refl, sym, ◌∙◌, ap, fun_ext}
use mathlib.Core.List.{List, [], ◌∷◌}
use mathlib.Core.Bool.{Bool, true, false}
use native.Mathlib.Omega.{arith}
use lib.Dec.{ltb}
use lib.ListN.{length, get_or, set, replicate, get_or-eq_default}
use lib.Seq.{sets, length-sets, get_or-set_other}
use borrow.Author.Tests.{ltb-true, ltb-false}
use Rattle.fields.specs.Fields.{fields_of}
use Rattle.line.specs.Ends.{ends_from}
use Rattle.fields.specs.Places.{field_in, fields_by, the_fields}
use Rattle.fields.proofs.Splitting.{first_field, ends-count}
use Rattle.fields.proofs.Placing.{placed-field, no_place, not-past}

-- past what was stored
stored-after : (p : List ℕ) (n : ℕ) (vs : List ℕ) (j : ℕ) → n + length vs ≤ j → get_or (sets p n vs) j 0 ≡ get_or p j 0
stored-after p n [] j h = refl
stored-after p n (v ∷ vs) j h = stored-after (set p n v) (suc n) vs j (omega arith) ∙ get_or-set_other p n j v 0 (λ e. omega arith)

zeros : (n k : ℕ) → get_or {A = ℕ} (replicate n 0) k 0 ≡ 0
zeros zero k = refl
zeros (suc n) zero = refl
zeros (suc n) (suc k) = zeros n k

length-replicate : (n : ℕ) → length {A = ℕ} (replicate n 0) ≡ n
length-replicate zero = refl
length-replicate (suc n) = ap suc (length-replicate n)

pub some : (s : List ℕ) → 1 ≤ length (fields_of s)
some s = let r = first_field s in rw r.2 (omega arith)

module _ (s : List ℕ) (n : ℕ) (room : length (fields_of s) ≤ n) where
  abbrev ends : List ℕ
  ends = sets (replicate n 0) 0 (ends_from 0 s)

  length-ends : length ends ≡ n
  length-ends = length-sets (replicate n 0) 0 (ends_from 0 s) ∙ length-replicate n

  -- a field that is not there
  absent : (k : ℕ) → length (fields_of s) ≤ k → [] ≡ field_in ends k s
  absent k h = go (ltb k n) refl
    where
      z : get_or ends k 0 ≡ 0
      z = stored-after (replicate n 0) 0 (ends_from 0 s) k (omega (arith, ends-count 0 s)) ∙ zeros n k

      go : (t : Bool) → ltb k n ≡ t → [] ≡ field_in ends k s
      go true e =
          (not-past ends k s (omega (arith, length-ends, ltb-true k n e)) (omega (arith, z)) (λ q. omega (arith, some s))
          (omega (arith, z))).1
      go false e = (no_place ends k s (omega (arith, length-ends, ltb-false k n e))).1

  each : (k : ℕ) → fields_by ends s k ≡ the_fields s k
  each k = go (ltb k (length (fields_of s))) refl
    where
      go : (t : Bool) → ltb k (length (fields_of s)) ≡ t → field_in ends k s ≡ get_or (fields_of s) k []
      go true e =
          let h = ltb-true k (length (fields_of s)) e in
          placed-field s (replicate n 0) k (omega (arith, length-replicate n)) h
      go false e =
          let h = ltb-false k (length (fields_of s)) e in
          sym (absent k h) ∙ sym (get_or-eq_default (fields_of s) [] h)

  -- All fields at once.
  pub all-fields : fields_by ends s ≡ the_fields s
  all-fields = fun_ext each
