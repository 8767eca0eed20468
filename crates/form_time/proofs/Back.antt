-- The text of a time is clean and of nine bytes, is read back, and a time that was read is in its day.
use Prim.Native.Nat.{◌%◌, ◌/◌, ◌≤◌, ℕ}
use mathlib.Core.Bool.{Bool}
use mathlib.Core.List.{◌++◌, ◌∷◌, List}
use Rattle.std.specs.Prelude.{Some}
use mathlib.Core.Path.{◌≡◌, refl}
use native.Mathlib.Omega.{arith}
use lib.Dec.{leb}
use lib.ListN.{length, length-append}
use borrow.Author.Tests.{le-leb, leb-true}
use Rattle.digits.specs.Decimal.{print_fixed}
use Rattle.digits.proofs.Bools.{and_left, and_right}
use Rattle.digits.proofs.DecimalLaws.{length-fixed}
use Rattle.form.specs.Got.{maybe_of}
use Rattle.form.specs.Values.{if_there, maybe_text, range_wrong}
use Rattle.form.specs.declared.Maybe.{Maybe}
use Rattle.form.proofs.Clean.{Clean, clean-append, clean-fixed}
use Rattle.form.proofs.CleanTexts.{clean-if, length-if, point}
use Rattle.form.proofs.Ranged.{maybe-in, maybe-short}
use Rattle.form.proofs.Values.{maybe_back, the_got}
use Rattle.form_time.specs.Time.{clock_text, is_time, time_of}
use Rattle.form_time.proofs.TimeLaws.{text-time, time-text}

pub clean-clock : (v : ℕ) → Clean (clock_text v)
clean-clock v =
    clean-append (print_fixed 2 (v / 360000)) _ (clean-fixed 2 (v / 360000))
    (clean-append (print_fixed 2 (v / 6000 % 60)) _ (clean-fixed 2 (v / 6000 % 60))
    (clean-append (print_fixed 2 (v / 100 % 60)) _ (clean-fixed 2 (v / 100 % 60))
    (point (print_fixed 2 (v % 100)) (clean-fixed 2 (v % 100)))))

pub length-clock : (v : ℕ) → length (clock_text v) ≤ 9
length-clock v = simp (length-append, length-fixed) (omega arith)

pub field-time : (m : Maybe) → Clean (maybe_text clock_text m)
field-time m = clean-if m.there (clock_text m.value) (clean-clock m.value)

-- Lengths, of values in their ranges where that matters.
pub long-time : (m : Maybe) → length (maybe_text clock_text m) ≤ 9
long-time m = length-if m.there (clock_text m.value) 9 (length-clock m.value)

-- Time.
clock-reads : (v : ℕ) → 0 ≤ v → v ≤ 8639999 → time_of (clock_text v) ≡ Some v
unfolding is_time
clock-reads v l h =
    text-time (clock_text v) v (record {
      hours = v / 360000;
      minutes = v / 6000 % 60;
      seconds = v / 100 % 60;
      hundredths = v % 100;
      of-day = rw (le-leb (v / 360000) 23 (omega arith), le-leb (v / 6000 % 60) 59 (omega arith), le-leb (v / 100 % 60) 59 (omega arith));
      below = omega arith;
      text = refl;
      value = omega arith;
    })

clock-filled : (v : ℕ) → 0 ≤ v → v ≤ 8639999 → length (clock_text v) ≡ 0 → ⊥
clock-filled v l h e = omega (
  arith,
  length-append (print_fixed 2 (v / 360000))
      (print_fixed 2 (v / 6000 % 60) ++ (print_fixed 2 (v / 100 % 60) ++ (46 ∷ print_fixed 2 (v % 100)))),
  length-fixed 2 (v / 360000),
)

pub time-back : (there : Bool) (v : ℕ) → range_wrong 0 8639999 there v ≡ 0
    → maybe_of (if_there there (clock_text v)) (time_of (if_there there (clock_text v))) ≡ the_got there v
time-back = maybe_back time_of clock_text 0 8639999 clock-reads clock-filled

-- Time.
time-is : (f : List ℕ) (v : ℕ) → time_of f ≡ Some v → (0 ≤ v) × (v ≤ 8639999)
unfolding is_time
time-is f v e =
    let t = time-text f v e in
    let h = leb-true t.hours 23 (and_left _ _ t.of-day) in
    let ms = and_right (leb t.hours 23) _ t.of-day in
    let m = leb-true t.minutes 59 (and_left _ _ ms) in
    let s = leb-true t.seconds 59 (and_right (leb t.minutes 59) _ ms) in
    (omega arith, omega (arith, t.value, t.below, h, m, s))

clock-nine : (v : ℕ) → length (clock_text v) ≡ 9
clock-nine v = simp (length-append, length-fixed) refl

time-long : (f : List ℕ) (v : ℕ) → time_of f ≡ Some v → length (clock_text v) ≤ length f
time-long f v e =
    let t = time-text f v e in
    let l : length f ≡ 9 = rw t.text (simp (length-append, length-fixed) refl) in
    omega (arith, l, clock-nine v)

pub time-in : (f : List ℕ) → (maybe_of f (time_of f)).wrong ≡ 0
    → range_wrong 0 8639999 (maybe_of f (time_of f)).there (maybe_of f (time_of f)).value ≡ 0
time-in = maybe-in time_of clock_text 0 8639999 time-is

pub time-short : (f : List ℕ) → (maybe_of f (time_of f)).wrong ≡ 0
    → length (if_there (maybe_of f (time_of f)).there (clock_text (maybe_of f (time_of f)).value)) ≤ length f
time-short = maybe-short time_of clock_text 0 8639999 time-long
