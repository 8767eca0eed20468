-- The zone from both sides: its magnitude is what was joined, at most 13 hours and 59 minutes, and its sign is that of the hours.
use Prim.Native.Nat.{◌%◌, ◌*◌, ◌+◌, ◌/◌, ◌≤◌, suc, zero, ℕ}
use mathlib.Core.Bool.{Bool, cond, false, true}
use mathlib.Core.List.{[], ◌++◌, ◌∷◌, append-nil, List}
use Rattle.std.specs.Prelude.{None, Option, Some}
use Rattle.digits.specs.Bind.{bind}
use mathlib.Core.Path.{◌∙◌, ◌≡◌, ap, refl, sym}
use native.Mathlib.Omega.{arith}
use lib.Dec.{eqb, eqb-suc-zero, lit≤}
use lib.IntN.{nat_abs, negsuc, neg_ℤ, pos, ℤ}
use lib.ListN.{drop_of_length-le, length, get_or-eq_default}
use borrow.Author.Tests.{eqb-true, ne_eqb}
use Rattle.digits.specs.Decimal.{digits_of, print_fixed}
use Rattle.digits.specs.Pairs.{pair_at}
use Rattle.digits.specs.Pick.{pick}
use Rattle.digits.specs.Sign.{sign_text}
use Rattle.digits.proofs.Bools.{true-false}
use Rattle.digits.proofs.DecimalLaws.{fixed-rt}
use Rattle.digits.proofs.DigitSides.{fixed-are}
use Rattle.digits.proofs.Options.{nothing, through}
use Rattle.digits.proofs.PairLaws.{pair-cut}
use Rattle.digits.proofs.SignLaws.{size}
use Rattle.form.specs.Got.{got_int_of, missing_int, within_of}
use Rattle.form.specs.declared.got.GotInt.{GotInt}
use Rattle.form.proofs.RangeLaws.{within-range, within-yes}
use Rattle.form_date.specs.Zone.{bare_of, got_zone_at, minus, zone_at, zone_four, zone_of, zone_two}

-- No bytes have no minus.
pub minus-none : (f : List ℕ) → length f ≡ 0 → minus f ≡ false
unfolding minus
minus-none f e = let k : length f ≤ 0 = omega arith in rw (get_or-eq_default f 0 k)

-- In one field all is wrong at 1.
pub zone-one : (s : Bool) (hours minutes : Option ℕ)
    → zone_at 1 s hours minutes ≡ got_int_of (bind hours λ h. bind minutes λ m. zone_of s (h * 60 + m))
unfolding zone_at
zone-one s None minutes = refl
zone-one s (Some h) None = refl
zone-one s (Some h) (Some m) = go (zone_of s (h * 60 + m))
  where
    go : (o : Option ℤ) → got_zone_at 1 o ≡ got_int_of o
    go None = refl
    go (Some z) = refl

-- The sign does not change the minutes.
signed-abs : (s : Bool) (n : ℕ) (z : ℤ) → zone_of s n ≡ Some z → nat_abs z ≡ n
unfolding zone_of
signed-abs false n z e = let p : pos n ≡ z = cc in ap nat_abs (sym p)
signed-abs true n z e = go (eqb n 0) e
  where
    go : (t : Bool) → cond t None (Some (neg_ℤ (pos n))) ≡ Some z → nat_abs z ≡ n
    go true q = nothing z q
    go false q = let p : neg_ℤ (pos n) ≡ z = cc in ap nat_abs (sym p) ∙ size true n

-- The hours, the minutes and the sign of a zone that was read.
record Parts (s : Bool) (hours minutes : Option ℕ) (z : ℤ) : Type 0 where
  h : ℕ
  m : ℕ
  is-h : hours ≡ Some h
  is_m : minutes ≡ Some m
  is-z : zone_of s (h * 60 + m) ≡ Some z

parts : (s : Bool) (oh om : Option ℕ) (z : ℤ) → bind oh (λ h. bind om λ m. zone_of s (h * 60 + m)) ≡ Some z → Parts s oh om z
parts s None om z e = nothing z e
parts s (Some h) None z e = nothing z e
parts s (Some h) (Some m) z e = record { h = h; m = m; is-h = refl; is_m = refl; is-z = e }

-- Hours to 13 and minutes to 59 are at most 839 minutes.
parts-le : (s : Bool) (a b : Option ℕ) (z : ℤ) → Parts s (within_of 0 13 a) (within_of 0 59 b) z → nat_abs z ≤ 839
parts-le s a b z p =
    let h = within-range 0 13 a p.h p.is-h in
    let m = within-range 0 59 b p.m p.is_m in
    omega (arith, h.2, m.2, signed-abs s (p.h * 60 + p.m) z p.is-z)

four-parts : (f : List ℕ) (z : ℤ) → zone_four f ≡ Some z
    → (length (bare_of f) ≡ 4) × Parts (minus f) (within_of 0 13 (pair_at 0 (bare_of f))) (within_of 0 59 (pair_at 2 (bare_of f))) z
unfolding zone_four
four-parts f z e =
    let t = through (eqb (length (bare_of f)) 4)
    (bind (within_of 0 13 (pair_at 0 (bare_of f))) λ h. bind (within_of 0 59 (pair_at 2 (bare_of f))) λ m. zone_of (minus f) (h * 60 + m)) z e in
    (eqb-true (length (bare_of f)) 4 t.0, parts (minus f) _ _ z t.1)

-- A zone in one field is within 839 minutes of zero.
pub four-range : (f : List ℕ) (z : ℤ) → zone_four f ≡ Some z → nat_abs z ≤ 839
four-range f z e = parts-le (minus f) (pair_at 0 (bare_of f)) (pair_at 2 (bare_of f)) z (four-parts f z e).1

int_le : (n : ℕ) (o : Option ℤ) → ((z : ℤ) → o ≡ Some z → nat_abs z ≤ 839) → nat_abs (got_zone_at n o).value ≤ 839
int_le n None k = omega arith
int_le n (Some z) k = k z refl

at-le : (n : ℕ) (s : Bool) (a b : Option ℕ) (oh : Option ℕ) → within_of 0 13 a ≡ oh → nat_abs (zone_at n s oh (within_of 0 59 b)).value ≤ 839
unfolding zone_at
at-le n s a b None e = omega arith
at-le n s a b (Some h) e = int_le n _ (λ z q. parts-le s a b z (parts s _ _ z (rw e q)))

-- A zone in two fields is within 839 minutes of zero.
pub two-range : (h m : List ℕ) → nat_abs (zone_two h m).value ≤ 839
unfolding zone_two
two-range h m = go (eqb (length h) 0) (eqb (length m) 0)
  where
    go : (a b : Bool) → nat_abs (pick a (pick b missing_int (record { wrong = 2; there = false; value = pos 0 }))
        (zone_at 2 (minus h) (within_of 0 13 (digits_of 2 2 (bare_of h))) (within_of 0 59 (digits_of 2 2 m)))).value ≤ 839
    go true true = omega arith
    go true false = omega arith
    go false b = at-le 2 (minus h) (digits_of 2 2 (bare_of h)) (digits_of 2 2 m) _ refl

-- The minus of a zone that is negative.
sign-is : (s : Bool) (n : ℕ) (z : ℤ) → zone_of s n ≡ Some z → sign_text z ≡ cond s (45 ∷ []) []
unfolding zone_of
sign-is false n z e = let p : pos n ≡ z = cc in ap sign_text (sym p)
sign-is true zero z e = nothing z e
sign-is true (suc n) z e =
    let q : Some (negsuc n) ≡ Some z = rw (eqb-suc-zero n) at e in
    let p : negsuc n ≡ z = cc in
    ap sign_text (sym p)

-- A field is its minus, if it has one, and the rest.
bare-back : (f : List ℕ) → f ≡ cond (minus f) (45 ∷ []) [] ++ bare_of f
unfolding minus bare_of
bare-back [] = refl
bare-back (b ∷ f) = go (eqb b 45) refl
  where
    go : (t : Bool) → eqb b 45 ≡ t → b ∷ f ≡ cond t (45 ∷ []) [] ++ cond t f (b ∷ f)
    go true e = ap (λ (x : ℕ). x ∷ f) (eqb-true b 45 e)
    go false e = refl

-- The hours and the minutes of a zone that was read, and how it was signed.
record Read (s : Bool) (a b : Option ℕ) (z : ℤ) : Type 0 where
  hours : a ≡ Some (nat_abs z / 60)
  minutes : b ≡ Some (nat_abs z % 60)
  sign : sign_text z ≡ cond s (45 ∷ []) []
  range : nat_abs z ≤ 839

reads : (s : Bool) (a b : Option ℕ) (z : ℤ) → Parts s (within_of 0 13 a) (within_of 0 59 b) z → Read s a b z
reads s a b z p =
    let h = within-range 0 13 a p.h p.is-h in
    let m = within-range 0 59 b p.m p.is_m in
    let n : nat_abs z ≡ p.h * 60 + p.m = signed-abs s (p.h * 60 + p.m) z p.is-z in
    let i : p.h ≡ nat_abs z / 60 = omega (arith, m.2) in
    let j : p.m ≡ nat_abs z % 60 = omega (arith, m.2) in
    record { hours = rw i at h.0; minutes = rw j at m.0; sign = sign-is s _ z p.is-z; range = parts-le s a b z p }

-- A field that is read as a zone is the text of that zone.
pub four-text : (f : List ℕ) (z : ℤ) → zone_four f ≡ Some z
    → (nat_abs z ≤ 839) × (f ≡ sign_text z ++ (print_fixed 2 (nat_abs z / 60) ++ print_fixed 2 (nat_abs z % 60)))
four-text f z e =
    let t = four-parts f z e in
    let r = reads (minus f) (pair_at 0 (bare_of f)) (pair_at 2 (bare_of f)) z t.1 in
    let n : length (bare_of f) ≤ 4 = omega (arith, t.0) in (
      r.range,
      bare-back f
          ∙ rw r.sign (ap (λ (l : List ℕ). cond (minus f) (45 ∷ []) [] ++ l) (pair-cut 0 (bare_of f) _ r.hours
          ∙ ap (λ (l : List ℕ). print_fixed 2 (nat_abs z / 60) ++ l) (pair-cut 2 (bare_of f) _ r.minutes
          ∙ rw (drop_of_length-le (bare_of f) n, append-nil)))),
    )

-- A zone that is there.
abbrev pub the_int : ℤ → GotInt
the_int z = record { wrong = 0; there = true; value = z }

int_is : (n : ℕ) (o : Option ℤ) (z : ℤ) → got_zone_at (suc n) o ≡ the_int z → o ≡ Some z
int_is n None z e = let w : suc n ≡ 0 = ap (λ (r : GotInt). r.wrong) e in let q : ⊥ = omega arith in absurd q
int_is n (Some y) z e = ap Some (ap (λ (r : GotInt). r.value) e)

at-parts : (s : Bool) (oh om : Option ℕ) (z : ℤ) → zone_at 2 s oh om ≡ the_int z → Parts s oh om z
unfolding zone_at
at-parts s None om z e = let w : ◌≡◌ {A = ℕ} 1 0 = ap (λ (r : GotInt). r.wrong) e in let q : ⊥ = omega arith in absurd q
at-parts s (Some h) om z e = parts s (Some h) om z (int_is 1 _ z e)

not_there : (t : Bool) (x y : GotInt) (z : ℤ) → x.there ≡ false → pick t x y ≡ the_int z → (t ≡ false) × (y ≡ the_int z)
not_there true x y z n e = absurd (true-false (sym (ap (λ (r : GotInt). r.there) (sym e))) n)
not_there false x y z n e = (refl, e)

-- Two fields that are read as a zone are the texts of its hours, with the sign, and of its minutes.
pub two-text : (h m : List ℕ) (z : ℤ) → zone_two h m ≡ the_int z
    → (nat_abs z ≤ 839) × ((h ≡ sign_text z ++ print_fixed 2 (nat_abs z / 60)) × (m ≡ print_fixed 2 (nat_abs z % 60)))
unfolding zone_two
two-text h m z e =
    let t = not_there (eqb (length h) 0) (pick (eqb (length m) 0) missing_int (record { wrong = 2; there = false; value = pos 0 })) _ z
    (empty (eqb (length m) 0)) e in
    let r = reads (minus h) (digits_of 2 2 (bare_of h)) (digits_of 2 2 m) z (at-parts (minus h) _ _ z t.1) in (
      r.range,
      (
        bare-back h ∙ rw r.sign (ap (λ (l : List ℕ). cond (minus h) (45 ∷ []) [] ++ l) (fixed-are 2 (bare_of h) _ r.hours).0),
        (fixed-are 2 m _ r.minutes).0,
      ),
    )
  where
    empty : (t : Bool) → (pick t missing_int (record { wrong = 2; there = false; value = pos 0 })).there ≡ false
    empty true = refl
    empty false = refl

-- A zone printed is read again: first its sign and its bare text, then its two pairs.
sign-back : (z : ℤ) (a : Bool) → sign_text z ≡ cond a (45 ∷ []) [] → zone_of a (nat_abs z) ≡ Some z
unfolding zone_of
sign-back (pos n) false e = refl
sign-back (pos n) true e = let w : ◌≡◌ {A = ℕ} 0 1 = cc in let q : ⊥ = omega arith in absurd q
sign-back (negsuc n) false e = let w : ◌≡◌ {A = ℕ} 0 1 = cc in let q : ⊥ = omega arith in absurd q
sign-back (negsuc n) true e = rw (eqb-suc-zero n)

digit-first : (n : ℕ) (l : List ℕ) → minus (print_fixed 2 n ++ l) ≡ false
unfolding minus print_fixed
digit-first n l = ne_eqb (48 + n / 10 % 10) 45 (λ e. omega arith)

signed-first : (z : ℤ) (n : ℕ) (l : List ℕ)
    → (sign_text z ≡ cond (minus (sign_text z ++ (print_fixed 2 n ++ l))) (45 ∷ []) [])
    × (bare_of (sign_text z ++ (print_fixed 2 n ++ l)) ≡ print_fixed 2 n ++ l)
unfolding bare_of
signed-first (pos k) n l = rw (digit-first n l) (refl, refl)
signed-first (negsuc k) n l = unfold minus in (refl, refl)

some_bytes : (z : ℤ) (n : ℕ) → length (sign_text z ++ print_fixed 2 n) ≡ 0 → ⊥
unfolding print_fixed
some_bytes (pos k) n e = omega arith
some_bytes (negsuc k) n e = omega arith

module _ (z : ℤ) (k : nat_abs z ≤ 839) where
  joined : (a : Bool) → sign_text z ≡ cond a (45 ∷ []) [] → zone_of a (nat_abs z / 60 * 60 + nat_abs z % 60) ≡ Some z
  joined a e = let s : nat_abs z / 60 * 60 + nat_abs z % 60 ≡ nat_abs z = omega arith in rw s (sign-back z a e)

  bytes-0 : pair_at 0 (print_fixed 2 (nat_abs z / 60) ++ print_fixed 2 (nat_abs z % 60)) ≡ Some (nat_abs z / 60)
  unfolding pair_at print_fixed
  bytes-0 = fixed-rt 2 (nat_abs z / 60) (lit≤ tt) (omega arith)

  bytes_2 : pair_at 2 (print_fixed 2 (nat_abs z / 60) ++ print_fixed 2 (nat_abs z % 60)) ≡ Some (nat_abs z % 60)
  unfolding pair_at print_fixed
  bytes_2 = fixed-rt 2 (nat_abs z % 60) (lit≤ tt) (omega arith)

  shape : length (print_fixed 2 (nat_abs z / 60) ++ print_fixed 2 (nat_abs z % 60)) ≡ 4
  unfolding print_fixed
  shape = refl

  -- The text of a zone is read as that zone, in one field.
  pub text-four : zone_four (sign_text z ++ (print_fixed 2 (nat_abs z / 60) ++ print_fixed 2 (nat_abs z % 60))) ≡ Some z
  unfolding zone_four
  text-four =
      let t = signed-first z (nat_abs z / 60) (print_fixed 2 (nat_abs z % 60)) in
      rw (
        t.1,
        shape,
        bytes-0,
        bytes_2,
        within-yes 0 13 (nat_abs z / 60) (omega arith) (omega arith),
        within-yes 0 59 (nat_abs z % 60) (omega arith) (omega arith),
      ) (joined _ t.0)

  -- And so it is in two fields.
  pub text-two : zone_two (sign_text z ++ print_fixed 2 (nat_abs z / 60)) (print_fixed 2 (nat_abs z % 60)) ≡ the_int z
  unfolding zone_two zone_at
  text-two =
      let t = rw append-nil at (signed-first z (nat_abs z / 60) []) in
      rw (ne_eqb (length (sign_text z ++ print_fixed 2 (nat_abs z / 60))) 0 (λ e. some_bytes z (nat_abs z / 60) e), t.1)
      (rw (fixed-rt 2 (nat_abs z / 60) (lit≤ tt) (omega arith), fixed-rt 2 (nat_abs z % 60) (lit≤ tt) (omega arith))
      (rw (within-yes 0 13 (nat_abs z / 60) (omega arith) (omega arith), within-yes 0 59 (nat_abs z % 60) (omega arith) (omega arith))
      (rw (joined _ t.0))))
