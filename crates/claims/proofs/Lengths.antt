-- Which kinds can pass 82 bytes: GGA, RMC and GSA, each shown by a record in range; the others cannot (`fits` of each kind). And no writer
-- with one constant line meets its contract: two records are written as different bytes.
use Prim.Native.Nat.{◌<◌, ℕ}
use mathlib.Core.Path.{◌∙◌, ◌≡◌, ap, refl, sym}
use mathlib.Core.List.{List}
use mathlib.Core.Bool.{true}
use native.Mathlib.Omega.{arith}
use lib.Dec.{lit<}
use lib.IntN.{negsuc, pos}
use lib.ListN.{length, replicate}
use Rattle.digits.specs.Decimal.{print_fixed}
use Rattle.line.specs.Line.{as_line}
use Rattle.address.specs.declared.Talker.TheVariants.{Gp}
use Rattle.form_date.specs.Calendar.{days_in, is_date, leap_year}
use Rattle.fields.specs.Fields.{join_fields}
use Rattle.form_letter.specs.Letters.{is_in, letter_wrong}
use Rattle.digits.specs.Plain.{fraction_text, number_text, plain_text, width_of}
use Rattle.form.specs.Wrong.{near_of}
use Rattle.kind_pir_code.specs.declared.reply.CodeTold.{CodeTold}
use Rattle.kind_gga.specs.declared.Gga.{Gga}
use Rattle.kind_gsa.specs.declared.Gsa.{Gsa}
use Rattle.kind_rmc.specs.declared.Rmc.{Rmc}
use Rattle.sentence.specs.Sentence.{Sentence}
use Rattle.sentence.specs.Sentence as S
use Rattle.form_number.specs.declared.Number.{Number}
use Rattle.form.specs.Values.{outside, range_wrong, signed_wrong}
use Rattle.form_position.specs.Values.{place_wrong}
use Rattle.form_date.specs.Values.{six_wrong}
use Rattle.sentence.specs.Lines.{read_line}
use Rattle.kind_pir_code.specs.Reply.{pirea_body, pirea_row}
use Rattle.kind_gga.specs.Row.{gga_body, gga_row, gga_wrong}
use Rattle.kind_rmc.specs.Row.{rmc_body, rmc_row, rmc_wrong}
use Rattle.kind_gsa.specs.Row.{gsa_body, gsa_fields, gsa_row, gsa_wrong}
use Rattle.sentence_laws.proofs.Maker as C
use Rattle.form.specs.Kind.{fault_by, fields_for}

-- Numbers of six digits before the point and three behind it.
abbrev pub most : Number
most = record { there = true; value = 999999999 }

abbrev pub long_gga : Gga
long_gga =
    record {
      time = record { there = true; value = 0 };
      place = record { there = true; lat = pos 0; lon = pos 0 };
      quality = 1;
      satellites = record { there = true; value = 5 };
      hdop = most;
      altitude = record { there = true; value = negsuc 999999998 };
      geoid = record { there = true; value = negsuc 999999998 };
      age = most;
      station = record { there = true; value = 0 };
    }

pub gga-can-pass : (gga_wrong long_gga ≡ 0) × (82 < length (as_line (gga_body Gp long_gga)))
unfolding fault_by fields_for gga_row near_of range_wrong outside place_wrong signed_wrong join_fields number_text plain_text width_of fraction_text
    print_fixed
gga-can-pass = (refl, lit< tt)

abbrev pub long_rmc : Rmc
long_rmc =
    record {
      time = record { there = true; value = 0 };
      status = 65;
      place = record { there = true; lat = pos 0; lon = pos 0 };
      speed = record { there = true; value = 999999999 };
      course = record { there = true; value = 359999 };
      date = record { there = true; day = 15; month = 11; year = 2026 };
      variation = record { there = true; value = pos 179999 };
      mode = 65;
    }

pub rmc-can-pass : (rmc_wrong long_rmc ≡ 0) × (82 < length (as_line (rmc_body Gp long_rmc)))
unfolding fault_by fields_for rmc_row near_of range_wrong outside place_wrong signed_wrong six_wrong is_date days_in leap_year letter_wrong is_in
    join_fields number_text plain_text width_of fraction_text print_fixed
rmc-can-pass = (refl, lit< tt)

abbrev pub long_gsa : Gsa
long_gsa = record {
  selection = 65;
  fix = 3;
  satellites = replicate 12 (record { there = true; value = 5 });
  pdop = most;
  hdop = most;
  vdop = most;
}

pub gsa-can-pass : (gsa_wrong long_gsa ≡ 0) × (82 < length (as_line (gsa_body Gp long_gsa)))
unfolding gsa_wrong gsa_fields fault_by fields_for gsa_row near_of range_wrong outside letter_wrong is_in join_fields number_text plain_text width_of
    fraction_text print_fixed
gsa-can-pass = (refl, lit< tt)

-- One line is not written for two records: what differs when read differs when written.
pub different-bytes : (l m : List ℕ) (r s : Sentence) → read_line l ≡ r → read_line m ≡ s → (r ≡ s → ⊥) → l ≡ m → ⊥
different-bytes l m r s e f h q = h (sym e ∙ ap read_line q ∙ f)

abbrev pub code : ℕ → CodeTold
code n = record { code = n }

abbrev code_of : Sentence → ℕ
code_of (S.Ea r) = r.code
code_of (S.Gga t r) = 0
code_of (S.Gll t r) = 0
code_of (S.Gsa t r) = 0
code_of (S.Gsv t r) = 0
code_of (S.Rmc t r) = 0
code_of (S.Vtg t r) = 0
code_of (S.Zda t r) = 0
code_of (S.Pr r) = 0
code_of (S.Tr r) = 0
code_of (S.Sr r) = 0
code_of S.Er = 0
code_of (S.Pa r) = 0
code_of (S.Ta r) = 0
code_of (S.Sa r) = 0
code_of (S.Refused n f) = 0

pub no-constant-writer : (line : List ℕ) → as_line (pirea_body (code 0)) ≡ line → as_line (pirea_body (code 1)) ≡ line → ⊥
unfolding fault_by pirea_row near_of outside
no-constant-writer line e f =
    different-bytes (as_line (pirea_body (code 0))) (as_line (pirea_body (code 1))) _ _ ((C.pirea).read-write (code 0) refl)
    ((C.pirea).read-write (code 1) refl) (λ q. let z : ◌≡◌ {A = ℕ} 0 1 = ap code_of q in omega (arith, z)) (e ∙ sym f)
