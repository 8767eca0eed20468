-- A record crosses to a host and back unchanged, whatever its kind: the kind's number and the count of its numbers lead back to its kind,
-- the talker's number to its talker, and the numbers to the record.
use Prim.Native.Nat.{◌≤◌, ℕ}
use mathlib.Core.Path.{◌∙◌, ◌≡◌, ap, refl, sym}
use mathlib.Core.Bool.{◌&&◌, Bool, false, true}
use mathlib.Core.List.{◌++◌, List}
use native.Mathlib.Omega.{arith}
use lib.Dec.{ltb}
use lib.IntN.{ℤ}
use lib.ListN.{length}
use Rattle.address.specs.declared.Address.TheVariants.{Maker, Unknown}
use Rattle.address.specs.declared.Pir.{Pir}
use Rattle.address.specs.declared.Pir.TheVariants as P
use Rattle.address.specs.declared.Talker.{Talker}
use Rattle.address.specs.declared.Talker.TheVariants as T
use Rattle.sentence.specs.Sentence.{Sentence}
use Rattle.sentence.specs.Sentence as S
use Rattle.digits.specs.Pick.{pick}
use Rattle.numbers.specs.Numbers.{talker_number}
use Rattle.numbers.specs.Layout.{whole}
use Rattle.sentence.specs.Numbers.{count_of, kind_of, numbers_of}
use Rattle.kind_gga.specs.Row.{gga_layout}
use Rattle.kind_gll.specs.Row.{gll_layout}
use Rattle.kind_gsa.specs.Row.{gsa_layout}
use Rattle.kind_gsv.specs.Row.{gsv_layout}
use Rattle.kind_pir_code.specs.Reply.{pirea_layout}
use Rattle.kind_pir_port.specs.Reply.{pirpa_layout}
use Rattle.kind_pir_port.specs.Command.{pirpr_layout}
use Rattle.kind_pir_masks.specs.Reply.{pirsa_layout}
use Rattle.kind_pir_masks.specs.Command.{pirsr_layout}
use Rattle.kind_pir_datum.specs.Reply.{pirta_layout}
use Rattle.kind_pir_datum.specs.Command.{pirtr_layout}
use Rattle.kind_rmc.specs.Row.{rmc_layout}
use Rattle.kind_vtg.specs.Row.{vtg_layout}
use Rattle.kind_zda.specs.Row.{zda_layout}
use Rattle.sentence.specs.Back.{address_at, addressed, known_of, record_at}
use Rattle.sentence.proofs.Numbered.{enough}
use Rattle.sentence_laws.proofs.LawfulLayouts.{lawful-gga, lawful-gll, lawful-gsa}
use Rattle.sentence_laws.proofs.LawfulLayouts.{lawful-gsv, lawful-pirea, lawful-pirpa, lawful-pirpr}
use Rattle.sentence_laws.proofs.LawfulLayouts.{lawful-pirsa, lawful-pirsr, lawful-pirta}
use Rattle.sentence_laws.proofs.LawfulLayouts.{lawful-pirtr, lawful-rmc, lawful-vtg, lawful-zda}
use Rattle.sentence_laws.proofs.LawfulLayouts.{maker-back, maker-long, standard-back, standard-first, standard-long}

-- What a record is as the library holds it: twelve satellites, four entries, and values of 32 bits; a refused line has none.
unfoldable pub Held : Sentence → Type 0
Held (S.Gga t r) = gga_layout.held r ≡ true
Held (S.Gll t r) = gll_layout.held r ≡ true
Held (S.Gsa t r) = gsa_layout.held r ≡ true
Held (S.Gsv t r) = gsv_layout.held r ≡ true
Held (S.Rmc t r) = rmc_layout.held r ≡ true
Held (S.Vtg t r) = vtg_layout.held r ≡ true
Held (S.Zda t r) = zda_layout.held r ≡ true
Held (S.Pr r) = pirpr_layout.held r ≡ true
Held (S.Tr r) = pirtr_layout.held r ≡ true
Held (S.Sr r) = pirsr_layout.held r ≡ true
Held S.Er = Unit {0}
Held (S.Pa r) = pirpa_layout.held r ≡ true
Held (S.Ta r) = pirta_layout.held r ≡ true
Held (S.Sa r) = pirsa_layout.held r ≡ true
Held (S.Ea r) = pirea_layout.held r ≡ true
Held (S.Refused n f) = ⊥

and_no : (b : Bool) → (b && false) ≡ false
and_no true = refl
and_no false = refl

-- A talker's number leads to the talker.
talker-known : (kind : ℕ) (t : Talker) → known_of kind t ≡ address_at kind (talker_number t)
unfolding address_at
talker-known kind T.Gp = sym (ap (λ b. pick b Unknown (known_of kind T.Gp)) (and_no (ltb kind 8)))
talker-known kind T.Gl = sym (ap (λ b. pick b Unknown (known_of kind T.Gl)) (and_no (ltb kind 8)))
talker-known kind T.Ga = sym (ap (λ b. pick b Unknown (known_of kind T.Ga)) (and_no (ltb kind 8)))
talker-known kind T.Gq = sym (ap (λ b. pick b Unknown (known_of kind T.Gq)) (and_no (ltb kind 8)))
talker-known kind T.Gn = sym (ap (λ b. pick b Unknown (known_of kind T.Gn)) (and_no (ltb kind 8)))

-- Numbers of a talker's sentence, and of the maker's, at least as many as the kind has.
from-talker : (kind : ℕ) (t : Talker) (n : List ℤ) → count_of kind ≤ length n → whole.at n 0 ≡ talker_number t
    → addressed (known_of kind t) n ≡ record_at kind n
from-talker kind t n full first =
    enough kind n (count_of kind) refl (known_of kind t) (talker-known kind t ∙ ap (address_at kind) (sym first)) full

from-maker : (kind : ℕ) (k : Pir) (n : List ℤ) → count_of kind ≤ length n → Maker k ≡ address_at kind (whole.at n 0)
    → addressed (Maker k) n ≡ record_at kind n
from-maker kind k n full known = enough kind n (count_of kind) refl (Maker k) known full

-- The record at the numbers of a record is the record, whatever numbers come after.
pub back : (s : Sentence) (rest : List ℤ) → Held s → record_at (kind_of s) (numbers_of s ++ rest) ≡ s
unfolding known_of address_at Held
back (S.Gga t r) rest h =
    sym (from-talker 1 t _ (standard-long lawful-gga t r rest) (standard-first lawful-gga t r rest))
    ∙ ap (λ x. S.Gga t x) (standard-back lawful-gga t r rest h)
back (S.Gll t r) rest h =
    sym (from-talker 2 t _ (standard-long lawful-gll t r rest) (standard-first lawful-gll t r rest))
    ∙ ap (λ x. S.Gll t x) (standard-back lawful-gll t r rest h)
back (S.Gsa t r) rest h =
    sym (from-talker 3 t _ (standard-long lawful-gsa t r rest) (standard-first lawful-gsa t r rest))
    ∙ ap (λ x. S.Gsa t x) (standard-back lawful-gsa t r rest h)
back (S.Gsv t r) rest h =
    sym (from-talker 4 t _ (standard-long lawful-gsv t r rest) (standard-first lawful-gsv t r rest))
    ∙ ap (λ x. S.Gsv t x) (standard-back lawful-gsv t r rest h)
back (S.Rmc t r) rest h =
    sym (from-talker 5 t _ (standard-long lawful-rmc t r rest) (standard-first lawful-rmc t r rest))
    ∙ ap (λ x. S.Rmc t x) (standard-back lawful-rmc t r rest h)
back (S.Vtg t r) rest h =
    sym (from-talker 6 t _ (standard-long lawful-vtg t r rest) (standard-first lawful-vtg t r rest))
    ∙ ap (λ x. S.Vtg t x) (standard-back lawful-vtg t r rest h)
back (S.Zda t r) rest h =
    sym (from-talker 7 t _ (standard-long lawful-zda t r rest) (standard-first lawful-zda t r rest))
    ∙ ap (λ x. S.Zda t x) (standard-back lawful-zda t r rest h)
back (S.Pr r) rest h =
    sym (from-maker 8 P.Pr _ (maker-long lawful-pirpr r rest) refl)
    ∙ ap (λ x. S.Pr x) (maker-back lawful-pirpr r rest h)
back (S.Tr r) rest h =
    sym (from-maker 9 P.Tr _ (maker-long lawful-pirtr r rest) refl)
    ∙ ap (λ x. S.Tr x) (maker-back lawful-pirtr r rest h)
back (S.Sr r) rest h =
    sym (from-maker 10 P.Sr _ (maker-long lawful-pirsr r rest) refl)
    ∙ ap (λ x. S.Sr x) (maker-back lawful-pirsr r rest h)
back S.Er rest h = sym (from-maker 11 P.Er _ (omega arith) refl)
back (S.Pa r) rest h =
    sym (from-maker 12 P.Pa _ (maker-long lawful-pirpa r rest) refl)
    ∙ ap (λ x. S.Pa x) (maker-back lawful-pirpa r rest h)
back (S.Ta r) rest h =
    sym (from-maker 13 P.Ta _ (maker-long lawful-pirta r rest) refl)
    ∙ ap (λ x. S.Ta x) (maker-back lawful-pirta r rest h)
back (S.Sa r) rest h =
    sym (from-maker 14 P.Sa _ (maker-long lawful-pirsa r rest) refl)
    ∙ ap (λ x. S.Sa x) (maker-back lawful-pirsa r rest h)
back (S.Ea r) rest h =
    sym (from-maker 15 P.Ea _ (maker-long lawful-pirea r rest) refl)
    ∙ ap (λ x. S.Ea x) (maker-back lawful-pirea r rest h)
back (S.Refused n f) rest h = absurd h
