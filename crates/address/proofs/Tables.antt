-- Tables of fixed bytes: the first row that is the same decides, and what is found has the bytes of some row.
use Prim.Native.Nat.{◌+◌, ℕ}
use mathlib.Core.Path.{◌∙◌, ◌≡◌, ap, ap₂, refl, sym}
use mathlib.Core.List.{[], ◌∷◌, List}
use mathlib.Core.Bool.{◌&&◌, Bool, false, true}
use Rattle.std.proofs.Common.{Some, None}
use native.Mathlib.Omega.{arith}
use native.Mathlib.Numerals.{add-one}
use lib.ListN.{drop, drop_of_length-le, get_or, length}
use lib.Seq.{drop-cons}
use Rattle.digits.specs.Ascii.{ascii}
use Rattle.digits.specs.Same.{same}
use Rattle.digits.proofs.Bools.{and_left, and_right}
use Rattle.digits.proofs.Sameness.{same_true}
use Rattle.address.specs.declared.Kind.{Kind}
use Rattle.address.specs.declared.Kind.TheVariants.{Gga, Gll, Gsa, Gsv, Rmc, Vtg, Zda}
use Rattle.address.specs.declared.Pir.{Pir}
use Rattle.address.specs.declared.Pir.TheVariants.{Ea, Er, Pa, Pr, Sa, Sr, Ta, Tr}
use Rattle.address.specs.declared.Talker.{Talker}
use Rattle.address.specs.declared.Talker.TheVariants.{Ga, Gl, Gn, Gp, Gq}
use Rattle.address.specs.Address.{kind_of, kinds, look_up, Named, pir_of, pirs, talker_of, talkers}
use Rattle.digits.specs.Pick.{pick}

-- The bytes of a talker, of a type and of a maker's sentence.
abbrev pub talker_text : Talker → List ℕ
talker_text Gp = ascii "GP"
talker_text Gl = ascii "GL"
talker_text Ga = ascii "GA"
talker_text Gq = ascii "GQ"
talker_text Gn = ascii "GN"

abbrev pub kind_text : Kind → List ℕ
kind_text Gga = ascii "GGA"
kind_text Gll = ascii "GLL"
kind_text Gsa = ascii "GSA"
kind_text Gsv = ascii "GSV"
kind_text Rmc = ascii "RMC"
kind_text Vtg = ascii "VTG"
kind_text Zda = ascii "ZDA"

abbrev pub pir_text : Pir → List ℕ
pir_text Pr = ascii "PIRPR"
pir_text Tr = ascii "PIRTR"
pir_text Sr = ascii "PIRSR"
pir_text Er = ascii "PIRER"
pir_text Pa = ascii "PIRPA"
pir_text Ta = ascii "PIRTA"
pir_text Sa = ascii "PIRSA"
pir_text Ea = ascii "PIREA"

-- bytes that are those of no row
abbrev pub in-none : {A : Type 0} → List ℕ → List (Named A) → Type 0
in-none a [] = Unit
in-none a (n ∷ ns) = (a ≡ n.bytes → ⊥) × in-none a ns

pub no_row : {A : Type 0} (a : List ℕ) (ns : List (Named A)) → in-none a ns → None ≡ look_up a ns
unfolding look_up
no_row a [] h = refl
no_row a (n ∷ ns) h = go (same a n.bytes) refl (no_row a ns h.1)
  where
    go : (t : Bool) → same a n.bytes ≡ t → None ≡ look_up a ns → None ≡ pick t (Some n.thing) (look_up a ns)
    go true e r = absurd (h.0 (same_true a n.bytes e))
    go false e r = r

pub no_talker : (a : List ℕ) → in-none a talkers → None ≡ talker_of a
no_talker a h = no_row a talkers h

pub no_kind : (a : List ℕ) → in-none a kinds → None ≡ kind_of a
no_kind a h = no_row a kinds h

pub no_pir : (a : List ℕ) → in-none a pirs → None ≡ pir_of a
no_pir a h = no_row a pirs h

-- bytes read off one after another, from place i on
abbrev pub spelt : List ℕ → ℕ → List ℕ → Type 0
spelt a i [] = Unit
spelt a i (b ∷ m) = (get_or a i 0 ≡ b) × spelt a (i + 1) m

spelt-from : (a m : List ℕ) (i : ℕ) → length a ≡ i + length m → spelt a i m → drop i a ≡ m
spelt-from a [] i n h = drop_of_length-le a (omega arith)
spelt-from a (b ∷ m) i n h =
    drop-cons a i 0 (omega arith) ∙ ap₂ (λ (x : ℕ) (l : List ℕ). x ∷ l) h.0 (rw add-one at (spelt-from a m (i + 1) (omega arith) h.1))

pub talks : (a : List ℕ) (t : Talker) → length a ≡ 2 → spelt a 0 (talker_text t) → Some t ≡ talker_of a
unfolding look_up same
talks a t n h = found t ∙ sym (ap talker_of (spelt-from a (talker_text t) 0 (n ∙ two t) h))
  where
    two : (t : Talker) → 2 ≡ 0 + length (talker_text t)
    two Gp = refl
    two Gl = refl
    two Ga = refl
    two Gq = refl
    two Gn = refl

    found : (t : Talker) → Some t ≡ talker_of (talker_text t)
    found Gp = refl
    found Gl = refl
    found Ga = refl
    found Gq = refl
    found Gn = refl

pub tells : (a : List ℕ) (k : Kind) → length a ≡ 3 → spelt a 0 (kind_text k) → Some k ≡ kind_of a
unfolding look_up same
tells a k n h = found k ∙ sym (ap kind_of (spelt-from a (kind_text k) 0 (n ∙ three k) h))
  where
    three : (k : Kind) → 3 ≡ 0 + length (kind_text k)
    three Gga = refl
    three Gll = refl
    three Gsa = refl
    three Gsv = refl
    three Rmc = refl
    three Vtg = refl
    three Zda = refl

    found : (k : Kind) → Some k ≡ kind_of (kind_text k)
    found Gga = refl
    found Gll = refl
    found Gsa = refl
    found Gsv = refl
    found Rmc = refl
    found Vtg = refl
    found Zda = refl

pub orders : (a : List ℕ) (p : Pir) → length a ≡ 5 → spelt a 0 (pir_text p) → Some p ≡ pir_of a
unfolding look_up same
orders a p n h = found p ∙ sym (ap pir_of (spelt-from a (pir_text p) 0 (n ∙ five p) h))
  where
    five : (p : Pir) → 5 ≡ 0 + length (pir_text p)
    five Pr = refl
    five Tr = refl
    five Sr = refl
    five Er = refl
    five Pa = refl
    five Ta = refl
    five Sa = refl
    five Ea = refl

    found : (p : Pir) → Some p ≡ pir_of (pir_text p)
    found Pr = refl
    found Tr = refl
    found Sr = refl
    found Er = refl
    found Pa = refl
    found Ta = refl
    found Sa = refl
    found Ea = refl

-- a test of bytes that all rows pass
abbrev pub rows : {A : Type 0} → (List ℕ → Bool) → List (Named A) → Bool
rows test [] = true
rows test (n ∷ ns) = test n.bytes && rows test ns

-- What is found passes a test that all rows pass.
pub found-passes : {A : Type 0} (test : List ℕ → Bool) (a : List ℕ) (ns : List (Named A)) (v : A) → rows test ns ≡ true
    → look_up a ns ≡ Some v → test a ≡ true
unfolding look_up
found-passes test a [] v r e = let z : ◌≡◌ {A = ℕ} 0 1 = cc in let w : ⊥ = omega arith in absurd w
found-passes test a (n ∷ ns) v r e = go (same a n.bytes) refl e (found-passes test a ns v (and_right (test n.bytes) _ r))
  where
    go : (t : Bool) → same a n.bytes ≡ t → pick t (Some n.thing) (look_up a ns) ≡ Some v → (look_up a ns ≡ Some v → test a ≡ true)
        → test a ≡ true
    go true i e ih = ap test (same_true a n.bytes i) ∙ and_left _ _ r
    go false i e ih = ih e
