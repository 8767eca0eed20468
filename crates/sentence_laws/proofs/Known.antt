-- The addresses that our writers put are known, clean and of five bytes.
use Prim.Native.Nat.{ℕ}
use mathlib.Core.List.{◌++◌, List}
use Rattle.std.specs.Prelude.{Some}
use mathlib.Core.Path.{◌∙◌, ◌≡◌, refl}
use lib.Dec.{lit<}
use lib.ListN.{length, length-append}
use lib.Seq.{drop_at, take_at}
use Rattle.digits.specs.Ascii.{ascii}
use Rattle.digits.specs.Same.{same}
use Rattle.address.specs.Address.{kind_of, known_of, look_up, talker_of}
use Rattle.address.specs.declared.Address.TheVariants.{Maker, Standard}
use Rattle.address.specs.declared.Kind.{Kind}
use Rattle.address.specs.declared.Kind.TheVariants as K
use Rattle.address.specs.declared.Pir.TheVariants as P
use Rattle.address.specs.declared.Talker.{Talker}
use Rattle.address.specs.declared.Talker.TheVariants.{Ga, Gl, Gn, Gp, Gq}
use Rattle.frame.specs.Body.{talker_text}
use Rattle.form.proofs.Clean.{Clean, clean-append}

talker-clean : (t : Talker) → Clean (talker_text t)
talker-clean Gp = ((lit< tt, lit< tt), ((lit< tt, lit< tt), tt))
talker-clean Gl = ((lit< tt, lit< tt), ((lit< tt, lit< tt), tt))
talker-clean Ga = ((lit< tt, lit< tt), ((lit< tt, lit< tt), tt))
talker-clean Gq = ((lit< tt, lit< tt), ((lit< tt, lit< tt), tt))
talker-clean Gn = ((lit< tt, lit< tt), ((lit< tt, lit< tt), tt))

talker-two : (t : Talker) → length (talker_text t) ≡ 2
talker-two Gp = refl
talker-two Gl = refl
talker-two Ga = refl
talker-two Gq = refl
talker-two Gn = refl

-- A talker with a type of three letters.
module _ (t : Talker) (kind : List ℕ) (three : length kind ≡ 3) where
  pub address-five : length (talker_text t ++ kind) ≡ 5
  address-five = length-append (talker_text t) kind ∙ rw (talker-two t, three)

  pub address-clean : Clean kind → Clean (talker_text t ++ kind)
  address-clean c = clean-append (talker_text t) kind (talker-clean t) c

-- Each talker is known by its two bytes, so each pair of talker and type is known.
talker-known : (t : Talker) → talker_of (talker_text t) ≡ Some t
unfolding look_up same
talker-known Gp = refl
talker-known Gl = refl
talker-known Ga = refl
talker-known Gq = refl
talker-known Gn = refl

known-standard : (t : Talker) (kind : List ℕ) (k : Kind) → kind_of kind ≡ Some k → known_of (talker_text t ++ kind) ≡ Standard t k
unfolding known_of
known-standard t kind k e = rw (take_at (talker_text t) kind 2 (talker-two t), talker-known t)
    (rw (drop_at (talker_text t) kind 2 (talker-two t), e))

pub known-gga : (t : Talker) → known_of (talker_text t ++ ascii "GGA") ≡ Standard t K.Gga
unfolding look_up same
known-gga t = known-standard t (ascii "GGA") K.Gga refl

pub known-gll : (t : Talker) → known_of (talker_text t ++ ascii "GLL") ≡ Standard t K.Gll
unfolding look_up same
known-gll t = known-standard t (ascii "GLL") K.Gll refl

pub known-gsa : (t : Talker) → known_of (talker_text t ++ ascii "GSA") ≡ Standard t K.Gsa
unfolding look_up same
known-gsa t = known-standard t (ascii "GSA") K.Gsa refl

pub known-gsv : (t : Talker) → known_of (talker_text t ++ ascii "GSV") ≡ Standard t K.Gsv
unfolding look_up same
known-gsv t = known-standard t (ascii "GSV") K.Gsv refl

pub known-rmc : (t : Talker) → known_of (talker_text t ++ ascii "RMC") ≡ Standard t K.Rmc
unfolding look_up same
known-rmc t = known-standard t (ascii "RMC") K.Rmc refl

pub known-vtg : (t : Talker) → known_of (talker_text t ++ ascii "VTG") ≡ Standard t K.Vtg
unfolding look_up same
known-vtg t = known-standard t (ascii "VTG") K.Vtg refl

pub known-zda : (t : Talker) → known_of (talker_text t ++ ascii "ZDA") ≡ Standard t K.Zda
unfolding look_up same
known-zda t = known-standard t (ascii "ZDA") K.Zda refl

-- Each of the maker's addresses is known.
pub known-pirpr : known_of (ascii "PIRPR") ≡ Maker P.Pr
unfolding known_of look_up same
known-pirpr = refl

pub known-pirtr : known_of (ascii "PIRTR") ≡ Maker P.Tr
unfolding known_of look_up same
known-pirtr = refl

pub known-pirsr : known_of (ascii "PIRSR") ≡ Maker P.Sr
unfolding known_of look_up same
known-pirsr = refl

pub known-pirer : known_of (ascii "PIRER") ≡ Maker P.Er
unfolding known_of look_up same
known-pirer = refl

pub known-pirpa : known_of (ascii "PIRPA") ≡ Maker P.Pa
unfolding known_of look_up same
known-pirpa = refl

pub known-pirta : known_of (ascii "PIRTA") ≡ Maker P.Ta
unfolding known_of look_up same
known-pirta = refl

pub known-pirsa : known_of (ascii "PIRSA") ≡ Maker P.Sa
unfolding known_of look_up same
known-pirsa = refl

pub known-pirea : known_of (ascii "PIREA") ≡ Maker P.Ea
unfolding known_of look_up same
known-pirea = refl
