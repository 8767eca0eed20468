-- The numbers of a sentence, as docs/LAYOUT.md lays them out, by the layout of its kind; how many they are; the number of its kind.
use Rattle.std.specs.Prelude.{ℕ, [], ◌∷◌, List, ℤ, get_or}
use Rattle.numbers.specs.Layout.{standard}
use Rattle.kind_gga.specs.Row.{gga_layout, gga_numbers}
use Rattle.kind_gll.specs.Row.{gll_layout, gll_numbers}
use Rattle.kind_gsa.specs.Row.{gsa_layout, gsa_numbers}
use Rattle.kind_gsv.specs.Row.{gsv_layout, gsv_numbers}
use Rattle.kind_rmc.specs.Row.{rmc_layout, rmc_numbers}
use Rattle.kind_vtg.specs.Row.{vtg_layout, vtg_numbers}
use Rattle.kind_zda.specs.Row.{zda_layout, zda_numbers}
use Rattle.kind_pir_port.specs.Command.{pirpr_layout, pirpr_numbers}
use Rattle.kind_pir_datum.specs.Command.{pirtr_layout, pirtr_numbers}
use Rattle.kind_pir_masks.specs.Command.{pirsr_layout, pirsr_numbers}
use Rattle.kind_pir_port.specs.Reply.{pirpa_layout, pirpa_numbers}
use Rattle.kind_pir_datum.specs.Reply.{pirta_layout, pirta_numbers}
use Rattle.kind_pir_masks.specs.Reply.{pirsa_layout, pirsa_numbers}
use Rattle.kind_pir_code.specs.Reply.{pirea_layout, pirea_numbers}
use Rattle.sentence.specs.Sentence as S
use Rattle.sentence.specs.Sentence.{Sentence}

-- The numbers of what a line was read to; none where it was refused.
abbrev pub numbers_of : Sentence → List ℤ
numbers_of (S.Gga t r) = gga_numbers t r
numbers_of (S.Gll t r) = gll_numbers t r
numbers_of (S.Gsa t r) = gsa_numbers t r
numbers_of (S.Gsv t r) = gsv_numbers t r
numbers_of (S.Rmc t r) = rmc_numbers t r
numbers_of (S.Vtg t r) = vtg_numbers t r
numbers_of (S.Zda t r) = zda_numbers t r
numbers_of (S.Pr r) = pirpr_numbers r
numbers_of (S.Tr r) = pirtr_numbers r
numbers_of (S.Sr r) = pirsr_numbers r
numbers_of S.Er = []
numbers_of (S.Pa r) = pirpa_numbers r
numbers_of (S.Ta r) = pirta_numbers r
numbers_of (S.Sa r) = pirsa_numbers r
numbers_of (S.Ea r) = pirea_numbers r
numbers_of (S.Refused n f) = []

-- The number of a sentence's kind; 0 where it was refused.
abbrev pub kind_of : Sentence → ℕ
kind_of (S.Gga t r) = 1
kind_of (S.Gll t r) = 2
kind_of (S.Gsa t r) = 3
kind_of (S.Gsv t r) = 4
kind_of (S.Rmc t r) = 5
kind_of (S.Vtg t r) = 6
kind_of (S.Zda t r) = 7
kind_of (S.Pr r) = 8
kind_of (S.Tr r) = 9
kind_of (S.Sr r) = 10
kind_of S.Er = 11
kind_of (S.Pa r) = 12
kind_of (S.Ta r) = 13
kind_of (S.Sa r) = 14
kind_of (S.Ea r) = 15
kind_of (S.Refused n f) = 0

-- How many numbers each kind has, by its number; none for what is no kind.
abbrev pub counts : List ℕ
counts =
    0
    ∷ (standard gga_layout).size
    ∷ (standard gll_layout).size
    ∷ (standard gsa_layout).size
    ∷ (standard gsv_layout).size
    ∷ (standard rmc_layout).size
    ∷ (standard vtg_layout).size
    ∷ (standard zda_layout).size
    ∷ pirpr_layout.size
    ∷ pirtr_layout.size
    ∷ pirsr_layout.size
    ∷ 0
    ∷ pirpa_layout.size
    ∷ pirta_layout.size
    ∷ pirsa_layout.size
    ∷ pirea_layout.size
    ∷ []

abbrev pub count_of : ℕ → ℕ
count_of kind = get_or counts kind 0
