-- Address: talker GP, GL, GA, GQ or GN with one of the seven types, compared with the fixed bytes of each type; or one of the eight
-- PIR addresses in full.
use Rattle.std.specs.Prelude.{ℕ, Option, Some, None, ◌&&◌, Bool, not, true, [], ◌∷◌, List, eqb, drop, get_or, take}
use Prim.Native.String.{String}
use Rattle.digits.specs.Ascii.{ascii}
use Rattle.digits.specs.Pick.{pick}
use Rattle.digits.specs.Same.{same}
use Rattle.address.specs.declared.Address.{Address}
use Rattle.address.specs.declared.Address.TheVariants.{Maker, Standard, Unknown}
use Rattle.address.specs.declared.Kind.{Kind}
use Rattle.address.specs.declared.Kind.TheVariants.{Gga, Gll, Gsa, Gsv, Rmc, Vtg, Zda}
use Rattle.address.specs.declared.Pir.{Pir}
use Rattle.address.specs.declared.Pir.TheVariants.{Ea, Er, Pa, Pr, Sa, Sr, Ta, Tr}
use Rattle.address.specs.declared.Talker.{Talker}
use Rattle.address.specs.declared.Talker.TheVariants.{Ga, Gl, Gn, Gp, Gq}

-- The fixed bytes of a thing.
pub record Named (A : Type 0) : Type 0 where
  pub bytes : List ℕ
  pub thing : A

infix 40 ◌is◌
abbrev pub ◌is◌ : {A : Type 0} → String → A → Named A
text is a = record { bytes = ascii text; thing = a }

abbrev pub talkers : List (Named Talker)
talkers = ("GP" is Gp) ∷ ("GL" is Gl) ∷ ("GA" is Ga) ∷ ("GQ" is Gq) ∷ ("GN" is Gn) ∷ []

abbrev pub kinds : List (Named Kind)
kinds = ("GGA" is Gga) ∷ ("GLL" is Gll) ∷ ("GSA" is Gsa) ∷ ("GSV" is Gsv) ∷ ("RMC" is Rmc) ∷ ("VTG" is Vtg) ∷ ("ZDA" is Zda) ∷ []

abbrev pub pirs : List (Named Pir)
pirs =
    ("PIRPR" is Pr) ∷ ("PIRTR" is Tr) ∷ ("PIRSR" is Sr) ∷ ("PIRER" is Er)
    ∷ ("PIRPA" is Pa) ∷ ("PIRTA" is Ta) ∷ ("PIRSA" is Sa) ∷ ("PIREA" is Ea) ∷ []

-- The thing of a table whose bytes are a.
unfoldable pub look_up : {A : Type 0} → List ℕ → List (Named A) → Option A
look_up a [] = None
look_up a (n ∷ ns) = pick (same a n.bytes) (Some n.thing) (look_up a ns)

abbrev pub talker_of : List ℕ → Option Talker
talker_of a = look_up a talkers

abbrev pub kind_of : List ℕ → Option Kind
kind_of a = look_up a kinds

abbrev pub pir_of : List ℕ → Option Pir
pir_of a = look_up a pirs

abbrev pub standard : Talker → Option Kind → Address
standard t (Some k) = Standard t k
standard t None = Unknown

abbrev pub maker : Option Pir → Address
maker (Some p) = Maker p
maker None = Unknown

-- A talker has one of the seven types after it; anything else is a PIR address in full, or unknown.
abbrev pub talked : Option Talker → List ℕ → Address
talked (Some t) a = standard t (kind_of (drop 2 a))
talked None a = maker (pir_of a)

unfoldable pub known_of : List ℕ → Address
known_of a = talked (talker_of (take 2 a)) a

-- No byte is a comma.
unfoldable pub comma_free : List ℕ → Bool
comma_free [] = true
comma_free (b ∷ s) = not (eqb b 44) && comma_free s

-- The five bytes before the first comma are the address; a body whose sixth byte is not its first comma has no known address.
unfoldable pub address_of : List ℕ → Address
address_of body = pick (eqb (get_or body 5 0) 44 && comma_free (take 5 body)) (known_of (take 5 body)) Unknown
