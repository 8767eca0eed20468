-- A line read to numbers and written from them: the numbers are refused by nothing but the room, and the line that they are written as is
-- read as the same sentence. By the kind: what was read can be written, 32 bits hold its GPS mask, and its own body reads as it.
use Prim.Native.Nat.{◌≤◌, ℕ}
use mathlib.Core.Path.{◌∙◌, ◌≡◌, ap, refl, subst}
use mathlib.Core.Bool.{◌&&◌, Bool, false, not, true}
use mathlib.Core.List.{◌++◌, List}
use native.Mathlib.Omega.{arith}
use lib.Dec.{eqb, leb, ltb}
use lib.IntN.{pos, ℤ}
use lib.ListN.{drop, length}
use Rattle.digits.specs.Pick.{pick}
use Rattle.line.specs.Line.{as_line}
use Rattle.address.specs.declared.Address.{Address}
use Rattle.address.specs.declared.Address.TheVariants.{Maker, Standard, Unknown}
use Rattle.address.specs.declared.Kind.TheVariants as K
use Rattle.address.specs.declared.Pir.TheVariants as P
use Rattle.frame.specs.Written.{fault_at, wrote, written_of}
use Rattle.frame.specs.declared.Written.{Written}
use Rattle.frame.proofs.Sealing.{line-length}
use Rattle.kind_gsa.specs.Row.{gsa_layout}
use Rattle.kind_gsv.specs.Row.{gsv_layout}
use Rattle.kind_gsv.proofs.GoodLaws.{good-is}
use Rattle.kind_pir_masks.specs.Command.{pirsr_layout, pirsr_row}
use Rattle.kind_pir_masks.specs.Reply.{pirsa_layout, pirsa_row}
use Rattle.numbers.specs.Layout.{maker_numbers, whole}
use Rattle.numbers.specs.Numbers.{is_there, is_whole, laid, mark_of, most, talker_of}
use Rattle.numbers.specs.Told.{told}
use Rattle.numbers.specs.declared.Told.{Told}
use Rattle.numbers.proofs.Layouts.{and-true}
use Rattle.sentence.specs.Back.{address_at, addressed, known_of, record_at}
use Rattle.sentence.specs.FromHost.{gps_over, numbers_fault, over_in, record_body, record_fault, written_as}
use Rattle.sentence.specs.Lines.{read_line, refusal_of}
use Rattle.sentence.specs.Numbers.{count_of, kind_of, numbers_of}
use Rattle.sentence.specs.Sentence as S
use Rattle.sentence.specs.Sentence.{Sentence}
use Rattle.sentence.specs.ToHost.{laid_for, told_for, told_of}
use Rattle.sentence_laws.proofs.FittedKinds.{pirsa-fits, pirsr-fits}
use Rattle.sentence_laws.proofs.Gsa as TGsa
use Rattle.sentence_laws.proofs.Gsv as TGsv
use Rattle.sentence_laws.proofs.HostBack.{host-back}
use Rattle.sentence_laws.proofs.Maker as C
use Rattle.sentence_laws.proofs.Standard as N
use Rattle.claims.proofs.Rewriting.{CanBeWritten, Fits, read-can-be-written}

-- A body of a line has at most 76 bytes.
short : (body : List ℕ) → Fits body → length body ≤ 76
short body h = omega (arith, line-length body, h)

-- What can be written has no fault, and its line fits.
no-fault : (w : ℕ) → w ≡ 0 → fault_at w ≡ wrote 0
unfolding fault_at
no-fault w e = rw e

written-right : (s : Sentence) → CanBeWritten s → (kind_of s ≡ 0 → ⊥) → (record_fault s ≡ wrote 0) × Fits (record_body s)
written-right (S.Gga t r) w h = (no-fault _ w.0, w.1)
written-right (S.Gll t r) w h = (no-fault _ w.0, w.1)
written-right (S.Gsa t r) w h = (no-fault _ w.0, w.1)
written-right (S.Gsv t r) w h = (w.0, w.1)
written-right (S.Rmc t r) w h = (no-fault _ w.0, w.1)
written-right (S.Vtg t r) w h = (no-fault _ w.0, w.1)
written-right (S.Zda t r) w h = (no-fault _ w.0, w.1)
written-right (S.Pr r) w h = (no-fault _ w.0, w.1)
written-right (S.Tr r) w h = (no-fault _ w.0, w.1)
written-right (S.Sr r) w h = (no-fault _ w.0, w.1)
written-right S.Er w h = (no-fault 0 refl, w)
written-right (S.Pa r) w h = (no-fault _ w.0, w.1)
written-right (S.Ta r) w h = (no-fault _ w.0, w.1)
written-right (S.Sa r) w h = (no-fault _ w.0, w.1)
written-right (S.Ea r) w h = (no-fault _ w.0, w.1)
written-right (S.Refused n f) w h = absurd (h refl)

-- The arrays of GSA and GSV have all their places; so they have in a record that numbers say.
abbrev pub Full : Sentence → Type 0
Full (S.Gga t r) = Unit {0}
Full (S.Gll t r) = Unit {0}
Full (S.Gsa t r) = length r.satellites ≡ 12
Full (S.Gsv t r) = length r.entries ≡ 4
Full (S.Rmc t r) = Unit {0}
Full (S.Vtg t r) = Unit {0}
Full (S.Zda t r) = Unit {0}
Full (S.Pr r) = Unit {0}
Full (S.Tr r) = Unit {0}
Full (S.Sr r) = Unit {0}
Full S.Er = Unit {0}
Full (S.Pa r) = Unit {0}
Full (S.Ta r) = Unit {0}
Full (S.Sa r) = Unit {0}
Full (S.Ea r) = Unit {0}
Full (S.Refused n f) = Unit {0}

full_at : (a : Address) (n : List ℤ) → Full (addressed a n)
unfolding gsa_layout gsv_layout
full_at (Standard t K.Gga) n = tt
full_at (Standard t K.Gll) n = tt
full_at (Standard t K.Gsa) n = refl
full_at (Standard t K.Gsv) n = refl
full_at (Standard t K.Rmc) n = tt
full_at (Standard t K.Vtg) n = tt
full_at (Standard t K.Zda) n = tt
full_at (Maker P.Pr) n = tt
full_at (Maker P.Tr) n = tt
full_at (Maker P.Sr) n = tt
full_at (Maker P.Er) n = tt
full_at (Maker P.Pa) n = tt
full_at (Maker P.Ta) n = tt
full_at (Maker P.Sa) n = tt
full_at (Maker P.Ea) n = tt
full_at Unknown n = tt

pub full-record : (kind : ℕ) (n : List ℤ) → Full (record_at kind n)
unfolding record_at
full-record kind n = go (ltb (length n) (count_of kind))
  where
    go : (b : Bool) → Full (pick b (S.Refused 5 0) (addressed (address_at kind (whole.at n 0)) n))
    go true = tt
    go false = full_at (address_at kind (whole.at n 0)) n

-- Its own line reads as it.
pub body_back : (s : Sentence) → CanBeWritten s → Full s → (kind_of s ≡ 0 → ⊥) → read_line (as_line (record_body s)) ≡ s
body_back (S.Gga t r) w n h = (N.gga).read-write t r w.0 (short (record_body (S.Gga t r)) w.1)
body_back (S.Gll t r) w n h = (N.gll).read-write t r w.0 (short (record_body (S.Gll t r)) w.1)
body_back (S.Gsa t r) w n h = TGsa.read-write t r n w.0 (short (record_body (S.Gsa t r)) w.1)
body_back (S.Gsv t r) w n h = TGsv.read-write t r n (good-is r (ap (λ (x : Written). x.no) w.0))
body_back (S.Rmc t r) w n h = (N.rmc).read-write t r w.0 (short (record_body (S.Rmc t r)) w.1)
body_back (S.Vtg t r) w n h = (N.vtg).read-write t r w.0 (short (record_body (S.Vtg t r)) w.1)
body_back (S.Zda t r) w n h = (N.zda).read-write t r w.0 (short (record_body (S.Zda t r)) w.1)
body_back (S.Pr r) w n h = (C.pirpr).read-write r w.0
body_back (S.Tr r) w n h = (C.pirtr).read-write r w.0
body_back (S.Sr r) w n h = (C.pirsr).read-write r w.0
body_back S.Er w n h = (C.pirer).read-write tt C.pirer-good
body_back (S.Pa r) w n h = (C.pirpa).read-write r w.0
body_back (S.Ta r) w n h = (C.pirta).read-write r w.0
body_back (S.Sa r) w n h = (C.pirsa).read-write r w.0
body_back (S.Ea r) w n h = (C.pirea).read-write r w.0
body_back (S.Refused m f) w n h = absurd (h refl)

-- 32 bits hold its GPS mask.
and_no : (b : Bool) → (b && false) ≡ false
and_no true = refl
and_no false = refl

any-over : (a b : Bool) (x : Address) (n : List ℤ) → over_in x n ≡ false → (a && over_in (pick b Unknown x) n) ≡ false
any-over a true x n e = and_no a
any-over a false x n e = rw e (and_no a)

over_none : (kind : ℕ) (n : List ℤ) → over_in (known_of kind (talker_of (whole.at n 0))) n ≡ false → gps_over kind n ≡ false
unfolding gps_over address_at
over_none kind n =
    any-over (leb (count_of kind) (length n)) (ltb kind 8 && ltb 4 (whole.at n 0)) (known_of kind (talker_of (whole.at n 0))) n

mask-whole : (v : ℕ) → leb v most ≡ true → not (is_whole (pos v)) ≡ false
unfolding is_whole
mask-whole v e = rw e

no-over : (s : Sentence) → CanBeWritten s → (kind_of s ≡ 0 → ⊥) → (rest : List ℤ) → gps_over (kind_of s) (numbers_of s ++ rest) ≡ false
unfolding known_of maker_numbers pirsr_layout pirsr_row pirsa_layout pirsa_row
no-over (S.Gga t r) w h rest = over_none 1 _ refl
no-over (S.Gll t r) w h rest = over_none 2 _ refl
no-over (S.Gsa t r) w h rest = over_none 3 _ refl
no-over (S.Gsv t r) w h rest = over_none 4 _ refl
no-over (S.Rmc t r) w h rest = over_none 5 _ refl
no-over (S.Vtg t r) w h rest = over_none 6 _ refl
no-over (S.Zda t r) w h rest = over_none 7 _ refl
no-over (S.Pr r) w h rest = over_none 8 _ refl
no-over (S.Tr r) w h rest = over_none 9 _ refl
no-over (S.Sr r) w h rest =
    over_none 10 _
    (rw (mask-whole r.gps.value (and-true _ _ (pirsr-fits r w.0)).0) (and_no (is_there (pos (mark_of r.gps.there)))))
no-over S.Er w h rest = over_none 11 _ refl
no-over (S.Pa r) w h rest = over_none 12 _ refl
no-over (S.Ta r) w h rest = over_none 13 _ refl
no-over (S.Sa r) w h rest = over_none 14 _ (mask-whole r.gps (and-true _ _ (pirsa-fits r w.0)).0)
no-over (S.Ea r) w h rest = over_none 15 _ refl
no-over (S.Refused n f) w h rest = absurd (h refl)

-- Where a host is told a kind, its numbers are those of the sentence, with whatever stood behind them.
abbrev tell_by : Sentence → Bool → Bool → Told
tell_by s a b = pick a (pick b (told 0 (kind_of s) 0) (told 8 0 0)) (told (refusal_of s).no 0 (refusal_of s).field)

laid-there : (s : Sentence) (numbers : List ℤ) → ((told_for s numbers).kind ≡ 0 → ⊥)
    → ((told_for s numbers).kind ≡ kind_of s) × (laid_for s numbers ≡ numbers_of s ++ drop (length (numbers_of s)) numbers)
unfolding told_of laid
laid-there s numbers = go (eqb (refusal_of s).no 0) (leb (length (numbers_of s)) (length numbers))
  where
    go : (a b : Bool) → ((tell_by s a b).kind ≡ 0 → ⊥)
        → ((tell_by s a b).kind ≡ kind_of s)
        × (pick b (numbers_of s ++ drop (length (numbers_of s)) numbers) numbers ≡ numbers_of s ++ drop (length (numbers_of s)) numbers)
    go true true h = (refl, refl)
    go true false h = absurd (h refl)
    go false b h = absurd (h refl)

-- A line that was read to numbers, written from them: only the room can refuse it, and what is written reads as the line did.
pub read_again : (l : List ℕ) (numbers : List ℤ) (out : List ℕ) → ((told_for (read_line l) numbers).kind ≡ 0 → ⊥)
    → (written_as (told_for (read_line l) numbers).kind (laid_for (read_line l) numbers) out
    ≡ written_of (wrote 0) (record_body (read_line l)) (length out))
    × (Fits (record_body (read_line l)) × (read_line (as_line (record_body (read_line l))) ≡ read_line l))
read_again l numbers out h =
    let s = read_line l in
    let there = laid-there s numbers h in
    let some : (kind_of s ≡ 0 → ⊥) = λ q. h (there.0 ∙ q) in
    let can = read-can-be-written l in
    let right = written-right s can some in
    let back = host-back l numbers h in
    let over = ap (λ (k : ℕ). gps_over k (laid_for s numbers)) there.0 ∙ ap (gps_over (kind_of s)) there.1
    ∙ no-over s can some (drop (length (numbers_of s)) numbers) in
    let full = subst Full back (full-record (told_for s numbers).kind (laid_for s numbers)) in (
      ap (λ (b : Bool). written_of (numbers_fault b (record_at (told_for s numbers).kind (laid_for s numbers)))
          (record_body (record_at (told_for s numbers).kind (laid_for s numbers))) (length out)) over
          ∙ ap (λ (x : Sentence). written_of (record_fault x) (record_body x) (length out)) back
          ∙ ap (λ (f : Written). written_of f (record_body s) (length out)) right.0,
      (right.1, body_back s can full some),
    )
