-- GSA there and back: its row again, law by law. An array of twelve is the list of its places.
use Prim.Native.Nat.{◌≤◌, ℕ}
use mathlib.Core.List.{List}
use mathlib.Core.Path.{◌∙◌, ◌≡◌, ap, refl}
use lib.Dec.{lit<, lit≤}
use lib.ListN.{length}
use Rattle.line.specs.Line.{as_line}
use Rattle.address.specs.declared.Address.TheVariants as A
use Rattle.address.specs.declared.Kind.TheVariants as K
use Rattle.address.specs.declared.Talker.{Talker}
use Rattle.form.specs.Values.{no_maybe}
use Rattle.form.specs.declared.Maybe.{Maybe}
use Rattle.form.proofs.CleanTexts.{total}
use Rattle.form.proofs.Laws.{bytes}
use Rattle.form.proofs.Lists.{all-twelve}
use Rattle.kind_gsa.specs.declared.Gsa.{Gsa}
use Rattle.sentence.specs.Sentence as S
use Rattle.sentence.specs.Sentence.{Sentence}
use Rattle.sentence.specs.Kinds.{gsa_of}
use Rattle.kind_gsa.specs.Row.{gsa_body, gsa_fields, gsa_made, gsa_row, gsa_values, gsa_wrong}
use Rattle.kind_gsa.proofs.Laws.{tight-gsa}
use Rattle.sentence.specs.Lines.{read_line}
use Rattle.sentence_laws.proofs.KindLaws.{Standard, standard}
use Rattle.sentence_laws.proofs.Known.{known-gsa}

gsa : Standard "GSA" gsa_row (λ t v. S.Gsa t (gsa_made v))
unfolding gsa_row
gsa =
    standard "GSA" gsa_row (λ t v. S.Gsa t (gsa_made v)) tight-gsa refl
    ((lit< tt, lit< tt), ((lit< tt, lit< tt), ((lit< tt, lit< tt), tt))) (lit≤ tt) (λ t. A.Standard t K.Gsa) known-gsa (λ t field. refl)

-- What is written of a record with twelve places is read back as the same record and talker.
pub read-write : (t : Talker) (r : Gsa) → length r.satellites ≡ 12 → gsa_wrong r ≡ 0 → length (gsa_body t r) ≤ 76
    → read_line (as_line (gsa_body t r)) ≡ S.Gsa t r
unfolding gsa_wrong gsa_fields
read-write t r twelve good fits =
    let again : List Maybe → Sentence = λ l.
    S.Gsa t (record { selection = r.selection; fix = r.fix; satellites = l; pdop = r.pdop; hdop = r.hdop; vdop = r.vdop }) in
    gsa.read-write t (gsa_values r) good fits ∙ ap again (all-twelve no_maybe r.satellites twelve)

-- Whatever holds of refusals and of records in range, no longer than the fields were, holds of what is read.
pub write_read : (t : Talker) (n : ℕ) (field : ℕ → List ℕ) (P : Sentence → Type 0) → ((no at : ℕ) → P (S.Refused no at))
    → ((r : Gsa) → length r.satellites ≡ 12 → n ≡ gsa_row.width → gsa_wrong r ≡ 0 → total (gsa_fields r) ≤ bytes field 0 gsa_row.width
    → P (S.Gsa t r))
    → P (gsa_of t n field)
unfolding gsa_wrong gsa_fields
write_read t n field P none written = gsa.write_read t n field P none (λ v c e s. written (gsa_made v) refl c e s)
