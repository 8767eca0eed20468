-- The ends of the fields, stored one after another: field k by the stored ends is the kth of the fields.
use Prim.Native.Nat.{ℕ, zero, suc, ◌+◌, ◌-◌, ◌≤◌, ◌<◌}
use mathlib.Core.Path.{◌≡◌, refl, ◌∙◌}
use mathlib.Core.List.{List, [], ◌∷◌}
use mathlib.Core.Bool.{true, false}
use native.Mathlib.Omega.{arith}
use native.Mathlib.Numerals.{sub-one}
use lib.ListN.{length, get_or, take, drop, set, length-set}
use lib.Seq.{sets, length-sets, get_or-set_same, get_or-set_other}
use borrow.Author.Tests.{eq-eqb, ne_eqb, lt-ltb, le-ltb, le-leb, lt-leb}
use Rattle.fields.specs.Fields.{fields_of, start_of}
use Rattle.line.specs.Ends.{ends_from}
use Rattle.fields.specs.Places.{start_in, is_in, field_in, place_in}
use Rattle.fields.proofs.Splitting.{ends-count, field-at}

-- what is stored, at each place
stored-before : (p : List ℕ) (n : ℕ) (vs : List ℕ) (j : ℕ) → j < n → get_or (sets p n vs) j 0 ≡ get_or p j 0
stored-before p n [] j h = refl
stored-before p n (v ∷ vs) j h = stored-before (set p n v) (suc n) vs j (omega arith) ∙ get_or-set_other p n j v 0 (λ e. omega arith)

stored_at : (p : List ℕ) (n : ℕ) (vs : List ℕ) (k : ℕ) → k < length vs → n + k < length p → get_or (sets p n vs) (n + k) 0 ≡ get_or vs k 0
stored_at p n [] k h r = let z : ⊥ = omega arith in absurd z
stored_at p n (v ∷ vs) zero h r =
    let e : n + 0 ≡ n = omega arith in
    rw e (stored-before (set p n v) (suc n) vs n (omega arith) ∙ get_or-set_same p n v 0 (omega arith))
stored_at p n (v ∷ vs) (suc k) h r =
    let e : n + suc k ≡ suc n + k = omega arith in
    rw e (stored_at (set p n v) (suc n) vs k (omega arith) (rw (length-set p n v) (omega arith)))

-- a field starts past the one before it
next_start : (k : ℕ) (fs : List (List ℕ)) → suc k < length fs → start_of (suc k) fs ≡ start_of k fs + length (get_or fs k []) + 1
unfolding start_of
next_start k [] h = let z : ⊥ = omega arith in absurd z
next_start zero (f ∷ fs) h = omega arith
next_start (suc k) (f ∷ fs) h = omega (arith, next_start k fs (omega arith))

module _ (s p : List ℕ) where
  abbrev ends : List ℕ
  ends = sets p 0 (ends_from 0 s)

  -- field k ends there
  pub end-at : (k : ℕ) → k < length p → k < length (fields_of s) → get_or ends k 0 ≡ start_of k (fields_of s) + length (get_or (fields_of s) k [])
  end-at k h g =
      let z : 0 + k ≡ k = omega arith in
      let w : k < length (ends_from 0 s) = rw (ends-count 0 s) g in
      let e = stored_at p 0 (ends_from 0 s) k w (rw z h) in
      omega (arith, rw z at e, (field-at 0 s k g).end)

  start-at : (k : ℕ) → k < length p → k < length (fields_of s) → start_in ends k ≡ start_of k (fields_of s)
  unfolding start_in start_of
  start-at zero h g = refl
  start-at (suc k) h g =
      rw (ne_eqb (suc k) 0 (λ e. omega arith), sub-one) (omega (arith, end-at k (omega arith) (omega arith), next_start k (fields_of s) g))

  -- a field behind another starts past its end and its comma
  pub starts : (k : ℕ) → 1 ≤ k → k < length p → k < length (fields_of s) → get_or ends (k - 1) 0 + 1 ≡ start_of k (fields_of s)
  unfolding start_in
  starts k o h g =
      rw (ne_eqb k 0 (λ e. omega arith)) at (start-at k h g)

  is-in : (k : ℕ) → k < length p → k < length (fields_of s) → is_in ends k s ≡ true
  unfolding is_in
  is-in k h g =
      let f = field-at 0 s k g in
      let l : length ends ≡ length p = length-sets p 0 (ends_from 0 s) in
      rw (
        lt-ltb k (length ends) (omega arith),
        le-leb (get_or ends k 0) (length s) (omega (arith, end-at k h g, f.inside)),
        le-leb (start_in ends k) (get_or ends k 0) (omega (arith, end-at k h g, start-at k h g)),
      )

  -- Field k by the places is the kth of the fields.
  pub placed-field : (k : ℕ) → k < length p → k < length (fields_of s) → field_in ends k s ≡ get_or (fields_of s) k []
  unfolding field_in
  placed-field k h g =
      let f = field-at 0 s k g in
      let w : get_or ends k 0 - start_in ends k ≡ length (get_or (fields_of s) k []) = omega (arith, end-at k h g, start-at k h g) in
      rw (is-in k h g, w, start-at k h g) f.bytes

-- the ways out of a field by its places, in the code's order
module _ (p : List ℕ) (k : ℕ) (s : List ℕ) where
  no_part : is_in p k s ≡ false → (0 ≡ place_in p k s) × ([] ≡ field_in p k s)
  unfolding place_in field_in
  no_part e = (rw e, rw e)

  a-part : is_in p k s ≡ true → (start_in p k ≡ place_in p k s) × (take (get_or p k 0 - start_in p k) (drop (start_in p k) s) ≡ field_in p k s)
  unfolding place_in field_in
  a-part e = (rw e, rw e)

  first-start : k ≡ 0 → start_in p k ≡ 0
  unfolding start_in
  first-start z = rw (eq-eqb k 0 z)

  later-start : (k ≡ 0 → ⊥) → start_in p k ≡ get_or p (k - 1) 0 + 1
  unfolding start_in
  later-start z = rw (ne_eqb k 0 z)

  pub no_place : length p ≤ k → (0 ≡ place_in p k s) × ([] ≡ field_in p k s)
  unfolding is_in
  no_place h = no_part (rw (le-ltb k (length p) h))

  module _ (h : k < length p) where
    pub past-body : length s < get_or p k 0 → (0 ≡ place_in p k s) × ([] ≡ field_in p k s)
    unfolding is_in
    past-body l = no_part (rw (lt-ltb k (length p) h, lt-leb (get_or p k 0) (length s) l))

    module _ (l : get_or p k 0 ≤ length s) where
      pub first_part : k ≡ 0 → (0 ≡ place_in p k s) × (take (get_or p k 0 - 0) s ≡ field_in p k s)
      unfolding is_in
      first_part z =
          let e : start_in p k ≡ 0 = first-start z in
          let r = a-part (rw (lt-ltb k (length p) h, le-leb (get_or p k 0) (length s) l, e, le-leb 0 (get_or p k 0) (omega arith))) in
          (rw e at r.0, rw e at r.1)

      module _ (z : k ≡ 0 → ⊥) where
        pub not-past : get_or p k 0 ≤ get_or p (k - 1) 0 → (0 ≡ place_in p k s) × ([] ≡ field_in p k s)
        unfolding is_in
        not-past o = no_part (rw (lt-ltb k (length p) h, le-leb (get_or p k 0) (length s) l, later-start z)
            (rw (lt-leb (get_or p (k - 1) 0 + 1) (get_or p k 0) (omega arith))))

        pub later-part : get_or p (k - 1) 0 < get_or p k 0
            → (get_or p (k - 1) 0 + 1 ≡ place_in p k s)
            × (take (get_or p k 0 - (get_or p (k - 1) 0 + 1)) (drop (get_or p (k - 1) 0 + 1) s) ≡ field_in p k s)
        unfolding is_in
        later-part o =
            let r = a-part (rw (
              lt-ltb k (length p) h,
              le-leb (get_or p k 0) (length s) l,
              later-start z,
              le-leb (get_or p (k - 1) 0 + 1) (get_or p k 0) (omega arith),
            )) in
            (rw (later-start z) at r.0, rw (later-start z) at r.1)
