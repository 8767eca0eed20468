-- An address is its talker and its type: what is written of an address that was read is the same bytes.
use Prim.Native.Nat.{suc, zero, ℕ}
use mathlib.Core.Bool.{◌&&◌, Bool, false, not, true}
use mathlib.Core.List.{[], ◌++◌, ◌∷◌, List}
use Rattle.std.specs.Prelude.{None, Option, Some}
use mathlib.Core.Path.{◌∙◌, ◌≡◌, ap, refl, sym}
use native.Mathlib.Omega.{arith}
use lib.Dec.{eqb}
use lib.ListN.{drop, get_or, take, take-append-drop}
use borrow.Author.Tests.{eq-eqb, eqb-true, not-true}
use Rattle.digits.specs.Ascii.{ascii}
use Rattle.digits.specs.Pick.{pick}
use Rattle.digits.specs.Same.{same}
use Rattle.digits.proofs.Bools.{and_left, and_right}
use Rattle.digits.proofs.Options.{nothing}
use Rattle.digits.proofs.Sameness.{same_true}
use Rattle.address.specs.Address.{address_of, comma_free, kind_of, kinds, known_of, look_up, maker, Named, pir_of, standard, talked, talker_of}
use Rattle.address.specs.Address.{talkers}
use Rattle.address.specs.declared.Address.TheVariants.{Standard, Unknown}
use Rattle.address.specs.declared.Kind.{Kind}
use Rattle.address.specs.declared.Kind.TheVariants as K
use Rattle.address.specs.declared.Pir.{Pir}
use Rattle.address.specs.declared.Talker.{Talker}
use Rattle.fields.specs.Fields.{fields_of, onto}
use Rattle.fields.specs.Places.{the_fields}
use Rattle.fields.proofs.Splitting.{First, first_field}
use Rattle.frame.specs.Body.{talker_text}

-- What is found in a table whose rows have the bytes of their things has the bytes of the thing.
module _ {A : Type 0} (text : A → List ℕ) where
  abbrev Texts : List (Named A) → Type 0
  Texts [] = Unit {0}
  Texts (n ∷ ns) = (n.bytes ≡ text n.thing) × Texts ns

  found-text : (a : List ℕ) (ns : List (Named A)) (v : A) → Texts ns → look_up a ns ≡ Some v → a ≡ text v
  unfolding look_up
  found-text a [] v r e = nothing v e
  found-text a (n ∷ ns) v r e = go (same a n.bytes) refl e (found-text a ns v r.1)
    where
      go : (t : Bool) → same a n.bytes ≡ t → pick t (Some n.thing) (look_up a ns) ≡ Some v → (look_up a ns ≡ Some v → a ≡ text v)
          → a ≡ text v
      go true q i ih = let s : n.thing ≡ v = cc in same_true a n.bytes q ∙ r.0 ∙ ap text s
      go false q i ih = ih i

abbrev pub kind_text : Kind → List ℕ
kind_text K.Gga = ascii "GGA"
kind_text K.Gll = ascii "GLL"
kind_text K.Gsa = ascii "GSA"
kind_text K.Gsv = ascii "GSV"
kind_text K.Rmc = ascii "RMC"
kind_text K.Vtg = ascii "VTG"
kind_text K.Zda = ascii "ZDA"

talker-is : (a : List ℕ) (t : Talker) → talker_of a ≡ Some t → a ≡ talker_text t
talker-is a t = found-text talker_text a talkers t (refl, (refl, (refl, (refl, (refl, tt)))))

kind-is : (a : List ℕ) (k : Kind) → kind_of a ≡ Some k → a ≡ kind_text k
kind-is a k = found-text kind_text a kinds k (refl, (refl, (refl, (refl, (refl, (refl, (refl, tt)))))))

module _ (t : Talker) (k : Kind) where
  unknown-not : {P : Type 0} → Unknown ≡ Standard t k → P
  unknown-not e = let z : ◌≡◌ {A = ℕ} 0 1 = cc in let w : ⊥ = omega arith in absurd w

  known_is : (a : List ℕ) → known_of a ≡ Standard t k → a ≡ talker_text t ++ kind_text k
  unfolding known_of
  known_is a e = by-talker (talker_of (take 2 a)) refl e
    where
      by_kind : (u : Talker) → talker_of (take 2 a) ≡ Some u → (o : Option Kind) → kind_of (drop 2 a) ≡ o → standard u o ≡ Standard t k
          → a ≡ talker_text t ++ kind_text k
      by_kind u p (Some j) q i =
          let x : u ≡ t = cc in
          let y : j ≡ k = cc in
          sym (take-append-drop 2 a) ∙ rw (talker-is (take 2 a) u p, kind-is (drop 2 a) j q, x, y)
      by_kind u p None q i = unknown-not i

      by-maker : (o : Option Pir) → maker o ≡ Standard t k → a ≡ talker_text t ++ kind_text k
      by-maker (Some p) i = let z : ◌≡◌ {A = ℕ} 0 1 = cc in let w : ⊥ = omega arith in absurd w
      by-maker None i = unknown-not i

      by-talker : (o : Option Talker) → talker_of (take 2 a) ≡ o → talked o a ≡ Standard t k → a ≡ talker_text t ++ kind_text k
      by-talker (Some u) p i = by_kind u p (kind_of (drop 2 a)) refl i
      by-talker None p i = by-maker (pir_of a) i

-- The first field is all before the first comma.
onto-first : (b : ℕ) (fs : List (List ℕ)) → First fs → get_or (onto b fs) 0 [] ≡ b ∷ get_or fs 0 []
unfolding onto
onto-first b fs r = rw r.2

first-is : (n : ℕ) (s : List ℕ) → get_or s n 0 ≡ 44 → comma_free (take n s) ≡ true → the_fields s 0 ≡ take n s
unfolding comma_free fields_of
first-is zero [] h c = let z : ⊥ = omega arith in absurd z
first-is (suc n) [] h c = let z : ⊥ = omega arith in absurd z
first-is zero (b ∷ s) h c = rw (eq-eqb b 44 h)
first-is (suc n) (b ∷ s) h c =
    rw (not-true (eqb b 44) (and_left _ _ c))
    (onto-first b (fields_of s) (first_field s) ∙ ap (λ (f : List ℕ). b ∷ f) (first-is n s h (and_right (not (eqb b 44)) _ c)))

-- The first field of a body with a talker's address is the talker's bytes and the type's.
pub address_same : (body : List ℕ) (t : Talker) (k : Kind) → address_of body ≡ Standard t k → the_fields body 0 ≡ talker_text t ++ kind_text k
unfolding address_of
address_same body t k e = go (eqb (get_or body 5 0) 44 && comma_free (take 5 body)) refl e
  where
    go : (b : Bool) → (eqb (get_or body 5 0) 44 && comma_free (take 5 body)) ≡ b → pick b (known_of (take 5 body)) Unknown ≡ Standard t k
        → the_fields body 0 ≡ talker_text t ++ kind_text k
    go true q i =
        first-is 5 body (eqb-true (get_or body 5 0) 44 (and_left _ _ q)) (and_right (eqb (get_or body 5 0) 44) _ q)
        ∙ known_is t k (take 5 body) i
    go false q i = unknown-not t k i
