-- Texts put one after another: what is put in two steps is put in one, and what a buffer holds from its start is the text, as far as there
-- was room. Each by going along the bytes that are put.
use Prim.Native.Nat.{◌%◌, ◌+◌, ◌/◌, ◌<◌, ◌≤◌, suc, ℕ}
use mathlib.Core.Path.{◌∙◌, ◌≡◌, ap, refl, sym}
use mathlib.Core.List.{[], ◌++◌, ◌∷◌, append_assoc, append-nil, List}
use mathlib.Core.Bool.{Bool, false, true}
use native.Mathlib.Omega.{arith}
use native.Mathlib.Nat.{add-zero, zero-add}
use native.Mathlib.Numerals.{add-one}
use lib.Dec.{ltb}
use lib.ListN.{drop, drop_of_length-le, get_or, length, length-set, length-take, set, take, take-append-drop}
use lib.Seq.{drop-cons, drop-set-lt, take_all, take_at, take-suc-set}
use borrow.Author.Tests.{le-ltb, lt-ltb, ltb-false, ltb-true}
use Rattle.digits.specs.Decimal.{print_fixed}
use Rattle.put.specs.Wrote.{Held, held, put_one, Puts, PutsFields, wrote, wrote_fields}
use Rattle.digits.specs.Pick.{pick}

-- One byte, with room and without.
pub put-room : (p : ℕ) (d : List ℕ) (b : ℕ) → p < length d → Puts (held p d) (b ∷ []) (held (p + 1) (set d p b))
unfolding wrote put_one
put-room p d b h = record { is = rw (lt-ltb p (length d) h, add-one p) }

pub put_full : (p : ℕ) (d : List ℕ) (b : ℕ) → length d ≤ p → Puts (held p d) (b ∷ []) (held p d)
unfolding wrote put_one
put_full p d b h = record { is = rw (le-ltb p (length d) h) }

pub wrote-append : (h : Held) (s t : List ℕ) → wrote h (s ++ t) ≡ wrote (wrote h s) t
unfolding wrote
wrote-append h [] t = refl
wrote-append h (b ∷ s) t = wrote-append (put_one h b) s t

-- One text, and another behind it.
infixl 30 ◌⨾◌
pub ◌⨾◌ : {h g k : Held} {s t : List ℕ} → Puts h s g → Puts g t k → Puts h (s ++ t) k
◌⨾◌ {h} {g} {k} {s} {t} e f = record { is = f.is ∙ ap (λ (x : Held). wrote x t) e.is ∙ sym (wrote-append h s t) }

-- Nothing put, and a text that is known by another name.
pub nothing_put : (h : Held) → Puts h [] h
unfolding wrote
nothing_put h = record { is = refl }

pub as-text : {h k : Held} {s t : List ℕ} → s ≡ t → Puts h s k → Puts h t k
as-text {h} e p = record { is = p.is ∙ ap (wrote h) e }

-- The digits before the last, then the last.
pub one_more : {h g k : Held} (w v : ℕ) → Puts h (print_fixed w (v / 10)) g → Puts g (print_fixed 1 v) k → Puts h (print_fixed (suc w) v) k
unfolding print_fixed
one_more w v e f = e ⨾ f

pub one-digit : {h k : Held} (v : ℕ) → Puts h ((48 + v % 10) ∷ []) k → Puts h (print_fixed 1 v) k
unfolding print_fixed
one-digit v e = e

-- No field, a field behind its comma, and fields after others.
pub no_field : (h : Held) → PutsFields h [] h
unfolding wrote_fields
no_field h = record { is = refl }

pub a-field : {h k : Held} {f : List ℕ} → Puts h (44 ∷ f) k → PutsFields h (f ∷ []) k
unfolding wrote_fields
a-field p = record { is = p.is }

fields-append : (h : Held) (fs gs : List (List ℕ)) → wrote_fields h (fs ++ gs) ≡ wrote_fields (wrote_fields h fs) gs
unfolding wrote_fields
fields-append h [] gs = refl
fields-append h (f ∷ fs) gs = fields-append (wrote h (44 ∷ f)) fs gs

infixl 30 ◌then◌
pub ◌then◌ : {h g k : Held} {fs gs : List (List ℕ)} → PutsFields h fs g → PutsFields g gs k → PutsFields h (fs ++ gs) k
◌then◌ {h} {g} {k} {fs} {gs} e f = record { is = f.is ∙ ap (λ (x : Held). wrote_fields x gs) e.is ∙ sym (fields-append h fs gs) }

-- The buffer keeps its length.
put-length : (h : Held) (b : ℕ) → length (put_one h b).bytes ≡ length h.bytes
unfolding put_one
put-length h b = go (ltb h.place (length h.bytes))
  where
    go : (t : Bool) → length (pick t (held (suc h.place) (set h.bytes h.place b)) h).bytes ≡ length h.bytes
    go true = length-set h.bytes h.place b
    go false = refl

wrote-length : (h : Held) (s : List ℕ) → length (wrote h s).bytes ≡ length h.bytes
unfolding wrote
wrote-length h [] = refl
wrote-length h (b ∷ s) = wrote-length (put_one h b) s ∙ put-length h b

-- The place never passes the end.
put-within : (h : Held) (b : ℕ) → h.place ≤ length h.bytes → (put_one h b).place ≤ length (put_one h b).bytes
unfolding put_one
put-within h b i = go (ltb h.place (length h.bytes)) refl
  where
    go : (t : Bool) → ltb h.place (length h.bytes) ≡ t
        → (pick t (held (suc h.place) (set h.bytes h.place b)) h).place ≤ length
        (pick t (held (suc h.place) (set h.bytes h.place b)) h).bytes
    go true e = rw (length-set h.bytes h.place b) (ltb-true _ _ e)
    go false e = i

-- What stands before the place, after one byte and after a text: what stood there, and the new bytes behind it, cut at the end.
put-text : (h : Held) (b : ℕ) (s : List ℕ) → h.place ≤ length h.bytes
    → take (length h.bytes) (take (put_one h b).place (put_one h b).bytes ++ s) ≡ take (length h.bytes)
    (take h.place h.bytes ++ (b ∷ s))
unfolding put_one
put-text h b s i = go (ltb h.place (length h.bytes)) refl
  where
    d : List ℕ
    d = h.bytes

    go : (t : Bool) → ltb h.place (length h.bytes) ≡ t
        → take (length h.bytes) (take (pick t (held (suc h.place) (set h.bytes h.place b)) h).place
        (pick t (held (suc h.place) (set h.bytes h.place b)) h).bytes ++ s)
        ≡ take (length h.bytes) (take h.place h.bytes ++ (b ∷ s))
    go true e = rw (take-suc-set h.bytes h.place b (ltb-true _ _ e), append_assoc)
    go false e =
        let q : h.place ≡ length h.bytes = omega (arith, ltb-false h.place (length h.bytes) e) in
        rw (q, take_all (length h.bytes) h.bytes (omega arith))
        (take_at h.bytes s _ refl ∙ sym (take_at h.bytes (b ∷ s) _ refl))

wrote-text : (h : Held) (s : List ℕ) → h.place ≤ length h.bytes
    → take (wrote h s).place (wrote h s).bytes ≡ take (length h.bytes) (take h.place h.bytes ++ s)
unfolding wrote
wrote-text h [] i =
    sym (ap (take (length h.bytes)) (append-nil (take h.place h.bytes))
    ∙ take_all (length h.bytes) (take h.place h.bytes) (simp length-take (omega arith)))
wrote-text h (b ∷ s) i =
    wrote-text (put_one h b) s (put-within h b i)
    ∙ ap (λ (n : ℕ). take n (take (put_one h b).place (put_one h b).bytes ++ s)) (put-length h b)
    ∙ put-text h b s i

-- From the start of a buffer: the text, cut at its end.
pub put-start : {d e s : List ℕ} {r : ℕ} → Puts (held 0 d) s (held r e) → take r e ≡ take (length d) s
put-start {d} {e} {s} {r} p = ap (λ (h : Held). take h.place h.bytes) p.is ∙ wrote-text (held 0 d) s (omega arith)

-- The bytes from place i on, put byte by byte.
pub put_next : (s : List ℕ) (i : ℕ) {h k : Held} → i < length s → Puts h (get_or s i 0 ∷ []) k → wrote k (drop (i + 1) s) ≡ wrote h (drop i s)
unfolding wrote
put_next s i {h} {k} l p = rw (p.is, drop-cons s i 0 l, add-one i)

pub put-end : (s : List ℕ) (i : ℕ) (h : Held) → length s ≤ i → h ≡ wrote h (drop i s)
unfolding wrote
put-end s i h l = rw (drop_of_length-le s l)

-- Where there is room for all of it: the text stands at the place, and the bytes around it stay.
pub put-fits : (p : ℕ) (d s : List ℕ) → p + length s ≤ length d
    → wrote (held p d) s ≡ held (p + length s) (take p d ++ (s ++ drop (p + length s) d))
unfolding wrote put_one
put-fits p d [] h = rw (add-zero p, take-append-drop p d)
put-fits p d (b ∷ s) h =
    let i : p < length d = omega arith in
    let n : p + suc (length s) ≡ suc p + length s = omega arith in
    rw (lt-ltb p (length d) i, n) (put-fits (suc p) (set d p b) s (rw (length-set d p b) (omega arith))
    ∙ ap (held (suc p + length s)) (rw (take-suc-set d p b i, append_assoc, drop-set-lt (suc p + length s) d p b (omega arith))))

pub put_whole : {d e s : List ℕ} {r : ℕ} → Puts (held 0 d) s (held r e) → length s ≤ length d → e ≡ s ++ drop (length s) d
put_whole {d} {e} {s} p h = ap (λ (k : Held). k.bytes) (p.is ∙ put-fits 0 d s (omega arith)) ∙ rw (zero-add (length s))

-- Fields keep the buffer's length too.
fields-length : (h : Held) (fs : List (List ℕ)) → length (wrote_fields h fs).bytes ≡ length h.bytes
unfolding wrote_fields
fields-length h [] = refl
fields-length h (f ∷ fs) = fields-length (wrote h (44 ∷ f)) fs ∙ wrote-length h (44 ∷ f)

pub fields-kept : {p q : ℕ} {d e : List ℕ} {fs : List (List ℕ)} → PutsFields (held p d) fs (held q e) → length e ≡ length d
fields-kept {p} {q} {d} {e} {fs} w = ap (λ (k : Held). length k.bytes) w.is ∙ fields-length (held p d) fs

-- The bytes from place i on, stored one after another.
pub copy-next : (s out : List ℕ) (at i : ℕ) → i < length s → at + i < length out
    → wrote (held (at + (i + 1)) (set out (at + i) (get_or s i 0))) (drop (i + 1) s) ≡ wrote (held (at + i) out) (drop i s)
copy-next s out at i l h =
    let e : at + (i + 1) ≡ at + i + 1 = omega arith in
    rw e (put_next s i l (put-room (at + i) out (get_or s i 0) h))

-- Two digits where there is room for both, and where there may not be; and four in two steps.
pub two-room : (p v : ℕ) (d : List ℕ) → p + 2 ≤ length d
    → Puts (held p d) (print_fixed 2 v) (held (p + 2) (set (set d p (48 + v / 10 % 10)) (p + 1) (48 + v % 10)))
unfolding print_fixed
two-room p v d h =
    let e : p + 2 ≡ p + 1 + 1 = omega arith in
    rw e (put-room p d (48 + v / 10 % 10) (omega arith)
    ⨾ put-room (p + 1) (set d p (48 + v / 10 % 10)) (48 + v % 10) (rw (length-set d p (48 + v / 10 % 10)) (omega arith)))

pub two_digits : {h g k : Held} (v : ℕ) → Puts h ((48 + v / 10 % 10) ∷ []) g → Puts g ((48 + v % 10) ∷ []) k → Puts h (print_fixed 2 v) k
unfolding print_fixed
two_digits v e f = e ⨾ f

pub four-digits : {h g k : Held} (v : ℕ) → Puts h (print_fixed 2 (v / 10 / 10)) g → Puts g (print_fixed 2 v) k → Puts h (print_fixed 4 v) k
unfolding print_fixed
four-digits v e f = e ⨾ f
