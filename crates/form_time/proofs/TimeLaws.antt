-- A time from both sides: its parts are taken out of the definition one by one, and put back by printing each in two digits.
use Prim.Native.Nat.{◌*◌, ◌+◌, ◌<◌, ◌≤◌, ℕ}
use mathlib.Core.Bool.{◌&&◌, true}
use mathlib.Core.List.{◌++◌, ◌∷◌, append-nil, List}
use Rattle.std.specs.Prelude.{None, Option, Some}
use mathlib.Core.Path.{◌∙◌, ◌≡◌, ap, refl, sym}
use native.Mathlib.Omega.{arith}
use lib.Dec.{eqb, leb, lit≤}
use lib.ListN.{drop_of_length-le, get_or, length}
use lib.Seq.{drop-cons}
use borrow.Author.Tests.{eqb-true, leb-true}
use Rattle.digits.specs.Decimal.{print_fixed}
use Rattle.digits.specs.Pairs.{pair_at}
use Rattle.digits.proofs.Bools.{and_left, and_right}
use Rattle.digits.proofs.DecimalLaws.{fixed-rt}
use Rattle.digits.proofs.Options.{nothing, through}
use Rattle.digits.proofs.PairLaws.{pair-cut, pair_lt}
use Rattle.form_time.specs.Time.{clock_of, is_time, time_of}

-- The parts of a time that was read.
record Parts (hours minutes seconds hundredths : Option ℕ) (v : ℕ) : Type 0 where
  h : ℕ
  m : ℕ
  s : ℕ
  c : ℕ
  is-h : hours ≡ Some h
  is_m : minutes ≡ Some m
  is-s : seconds ≡ Some s
  is_c : hundredths ≡ Some c
  day : is_time h m s ≡ true
  sum : h * 360000 + m * 6000 + s * 100 + c ≡ v

parts : (oh om os oc : Option ℕ) (v : ℕ) → clock_of oh om os oc ≡ Some v → Parts oh om os oc v
unfolding clock_of
parts None om os oc v e = nothing v e
parts (Some h) None os oc v e = nothing v e
parts (Some h) (Some m) None oc v e = nothing v e
parts (Some h) (Some m) (Some s) None v e = nothing v e
parts (Some h) (Some m) (Some s) (Some c) v e =
    let t = through _ (Some (h * 360000 + m * 6000 + s * 100 + c)) v e in
    let q : Some (h * 360000 + m * 6000 + s * 100 + c) ≡ Some v = t.1 in
    record { h = h; m = m; s = s; c = c; is-h = refl; is_m = refl; is-s = refl; is_c = refl; day = t.0; sum = cc }

clock-of : (f : List ℕ) (v : ℕ) → time_of f ≡ Some v
    → (length f ≡ 9) × ((get_or f 6 0 ≡ 46) × Parts (pair_at 0 f) (pair_at 2 f) (pair_at 4 f) (pair_at 7 f) v)
unfolding time_of
clock-of f v e =
    let t = through _ (clock_of (pair_at 0 f) (pair_at 2 f) (pair_at 4 f) (pair_at 7 f)) v e in (
      eqb-true (length f) 9 (and_left _ _ t.0),
      (eqb-true (get_or f 6 0) 46 (and_right (eqb (length f) 9) _ t.0), parts _ _ _ _ v t.1),
    )

in-day : (h m s : ℕ) → is_time h m s ≡ true → (h ≤ 23) × ((m ≤ 59) × (s ≤ 59))
unfolding is_time
in-day h m s e =
    let r = and_right (leb h 23) _ e in
    (leb-true h 23 (and_left _ _ e), (leb-true m 59 (and_left _ _ r), leb-true s 59 (and_right (leb m 59) _ r)))

-- A time that was read is below one day.
pub time-lt : (f : List ℕ) (v : ℕ) → time_of f ≡ Some v → v < 8640000
time-lt f v e =
    let p = (clock-of f v e).1.1 in
    let r = in-day p.h p.m p.s p.day in
    let k : p.c < 100 = pair_lt 7 f (Some p.c) (sym p.is_c) in
    omega (arith, p.sum)

-- The text of a time: its parts in two digits each, with a point before the last.
pub record TimeText (f : List ℕ) (v : ℕ) : Type 0 where
  pub hours : ℕ
  pub minutes : ℕ
  pub seconds : ℕ
  pub hundredths : ℕ
  pub of-day : is_time hours minutes seconds ≡ true
  pub below : hundredths < 100
  pub text : f ≡ print_fixed 2 hours ++ (print_fixed 2 minutes ++ (print_fixed 2 seconds ++ (46 ∷ print_fixed 2 hundredths)))
  pub value : v ≡ hours * 360000 + minutes * 6000 + seconds * 100 + hundredths

-- Bytes that are read as a time are the text of it.
pub time-text : (f : List ℕ) (v : ℕ) → time_of f ≡ Some v → TimeText f v
time-text f v e =
    let t = clock-of f v e in
    let p = t.1.1 in
    let l : 6 < length f = omega (arith, t.0) in
    let n : length f ≤ 9 = omega (arith, t.0) in
    record {
      hours = p.h;
      minutes = p.m;
      seconds = p.s;
      hundredths = p.c;
      of-day = p.day;
      below = pair_lt 7 f (Some p.c) (sym p.is_c);
      text =
          pair-cut 0 f p.h p.is-h
          ∙ ap (λ (l : List ℕ). print_fixed 2 p.h ++ l) (pair-cut 2 f p.m p.is_m
          ∙ ap (λ (l : List ℕ). print_fixed 2 p.m ++ l) (pair-cut 4 f p.s p.is-s
          ∙ ap (λ (l : List ℕ). print_fixed 2 p.s ++ l) (drop-cons f 6 0 l
          ∙ rw t.1.0 (ap (λ (l : List ℕ). 46 ∷ l) (pair-cut 7 f p.c p.is_c
          ∙ rw (drop_of_length-le f n, append-nil))))));
      value = sym p.sum;
    }

-- Each part is found at its place.
module _ (h m s c : ℕ) where
  abbrev bytes : List ℕ
  bytes = print_fixed 2 h ++ (print_fixed 2 m ++ (print_fixed 2 s ++ (46 ∷ print_fixed 2 c)))

  shape : (eqb (length bytes) 9 && eqb (get_or bytes 6 0) 46) ≡ true
  unfolding print_fixed
  shape = refl

  at-0 : h < 100 → pair_at 0 bytes ≡ Some h
  unfolding pair_at print_fixed
  at-0 k = fixed-rt 2 h (lit≤ tt) k

  at-2 : m < 100 → pair_at 2 bytes ≡ Some m
  unfolding pair_at print_fixed
  at-2 k = fixed-rt 2 m (lit≤ tt) k

  at-4 : s < 100 → pair_at 4 bytes ≡ Some s
  unfolding pair_at print_fixed
  at-4 k = fixed-rt 2 s (lit≤ tt) k

  at_7 : c < 100 → pair_at 7 bytes ≡ Some c
  unfolding pair_at print_fixed
  at_7 k = fixed-rt 2 c (lit≤ tt) k

  read : is_time h m s ≡ true → c < 100 → time_of bytes ≡ Some (h * 360000 + m * 6000 + s * 100 + c)
  unfolding time_of clock_of
  read e k =
      let r = in-day h m s e in
      rw (shape, at-0 (omega (arith, r.0)), at-2 (omega (arith, r.1.0)), at-4 (omega (arith, r.1.1)), at_7 k, e)

-- The text of a time is read as that time.
pub text-time : (f : List ℕ) (v : ℕ) → TimeText f v → time_of f ≡ Some v
text-time f v t = rw (t.text, t.value) (read t.hours t.minutes t.seconds t.hundredths t.of-day t.below)
