-- An entry's bytes are read as that entry, and bytes that read as an entry are its bytes: by the same of the three numbers.
use Prim.Native.Nat.{◌-◌, ◌<◌, ◌≤◌, ℕ}
use mathlib.Core.Path.{◌∙◌, ◌≡◌, ap, refl}
use mathlib.Core.Bool.{Bool, false, true}
use mathlib.Core.List.{◌++◌, append_assoc, List}
use native.Mathlib.Omega.{arith}
use native.Mathlib.Nat.{add-sub_cancel_left}
use lib.ListN.{length, length-append}
use Rattle.index_sevens.specs.Sevens.{most, sevens, take_sevens, Took}
use Rattle.index_sevens.specs.Sevens as S
use Rattle.index_sevens.proofs.Groups.{sevens-back, sevens-only, sevens-some}
use Rattle.index.specs.declared.Entry.{Entry}
use Rattle.index.specs.Index.{bad, end_of, entry, entry_behind, entry_bytes, entry_of, fits, Head, length_of, short, skip_of, then_took}
use Rattle.digits.specs.Pick.{pick}
use Rattle.index.proofs.Ranges.{Fits, fits-is}

pub same-entry : (a b : Entry) → a.number ≡ b.number → a.offset ≡ b.offset → a.length ≡ b.length → a ≡ b
same-entry a b p q r =
    ap (λ (n : ℕ). record { number = n; offset = a.offset; length = a.length }) p
    ∙ ap (λ (n : ℕ). record { number = b.number; offset = n; length = a.length }) q
    ∙ ap (λ (n : ℕ). record { number = b.number; offset = b.offset; length = n }) r

-- The gaps of an entry that fits make it again.
behind-is : (before e : Entry) → Fits before e → entry_behind before (e.number - before.number) (e.offset - end_of before) e.length ≡ e
behind-is before e f =
    same-entry (entry_behind before (e.number - before.number) (e.offset - end_of before) e.length) e
    (omega (arith, f.later)) (omega (arith, f.behind)) refl

pub entry-back : (before e : Entry) (rest : List ℕ) → fits before e ≡ true → entry_of before (entry_bytes before e ++ rest) ≡ entry e rest
unfolding entry_bytes entry_of skip_of length_of
entry-back before e rest t =
    let f = fits-is before e t in
    let gap : e.number - before.number ≤ most = omega (arith, f.number) in
    let skip : e.offset - end_of before ≤ most = omega (arith, f.ends) in
    let size : e.length ≤ most = omega (arith, f.longest) in
    rw (append_assoc, append_assoc, sevens-back _ _ gap, sevens-back _ _ skip, sevens-back _ _ size, behind-is before e f, t)

-- The bytes that were read, and that the entry fits.
pub record Stood (before e : Entry) (s rest : List ℕ) : Type 0 where
  pub bytes : s ≡ entry_bytes before e ++ rest
  pub fitting : fits before e ≡ true

three-parts : (before : Entry) (gap skip size : ℕ) (rest : List ℕ)
    → sevens gap ++ (sevens skip ++ (sevens size ++ rest)) ≡ entry_bytes before (entry_behind before gap skip size) ++ rest
unfolding entry_bytes
three-parts before gap skip size rest =
    rw (add-sub_cancel_left before.number gap, add-sub_cancel_left (end_of before) skip, append_assoc, append_assoc)

pub entry-only : (before e : Entry) (s rest : List ℕ) → entry_of before s ≡ entry e rest → Stood before e s rest
unfolding entry_of skip_of length_of
entry-only before e s rest h = first (take_sevens s) refl h
  where
    never : {x : Head} → x ≡ entry e rest → (x ≡ short) → Stood before e s rest
    never p q = let z : ◌≡◌ {A = ℕ} 0 1 = cc in let n : ⊥ = omega arith in absurd n

    never-bad : {x : Head} → x ≡ entry e rest → (x ≡ bad) → Stood before e s rest
    never-bad p q = let z : ◌≡◌ {A = ℕ} 0 1 = cc in let n : ⊥ = omega arith in absurd n

    test : (gap skip size : ℕ) (r : List ℕ) → s ≡ sevens gap ++ (sevens skip ++ (sevens size ++ r)) → (t : Bool)
        → fits before (entry_behind before gap skip size) ≡ t → pick t (entry (entry_behind before gap skip size) r) bad ≡ entry e rest →
        Stood before e s rest
    test gap skip size r b false f p = never-bad p refl
    test gap skip size r b true f p =
        let is : entry_behind before gap skip size ≡ e = cc in
        let same : r ≡ rest = cc in
        record {
          bytes = b ∙ three-parts before gap skip size r ∙ rw (is, same);
          fitting = rw (← is) f;
        }

    third : (gap skip : ℕ) (r : List ℕ) → s ≡ sevens gap ++ (sevens skip ++ r) → (x : Took) → take_sevens r ≡ x
        → then_took x (λ size rest. pick (fits before (entry_behind before gap skip size)) (entry (entry_behind before gap skip size) rest)
        bad) ≡ entry e rest
        → Stood before e s rest
    third gap skip r b S.short f p = never p refl
    third gap skip r b S.bad f p = never-bad p refl
    third gap skip r b (S.value size q) f p =
        let only = sevens-only size r q f in
        test gap skip size q (b ∙ ap (λ (l : List ℕ). sevens gap ++ (sevens skip ++ l)) only.0)
        (fits before (entry_behind before gap skip size)) refl p

    second : (gap : ℕ) (r : List ℕ) → s ≡ sevens gap ++ r → (x : Took) → take_sevens r ≡ x
        → then_took x (λ skip rest. length_of before gap skip rest) ≡ entry e rest → Stood before e s rest
    second gap r b S.short f p = never p refl
    second gap r b S.bad f p = never-bad p refl
    second gap r b (S.value skip q) f p =
        let only = sevens-only skip r q f in
        third gap skip q (b ∙ ap (λ (l : List ℕ). sevens gap ++ l) only.0) (take_sevens q) refl p

    first : (x : Took) → take_sevens s ≡ x → then_took x (λ gap rest. skip_of before gap rest) ≡ entry e rest → Stood before e s rest
    first S.short f p = never p refl
    first S.bad f p = never-bad p refl
    first (S.value gap q) f p = let only = sevens-only gap s q f in second gap q only.0 (take_sevens q) refl p

-- An entry has bytes.
pub entry-some : (before e : Entry) → 0 < length (entry_bytes before e)
unfolding entry_bytes
entry-some before e =
    omega (
      arith,
      length-append (sevens (e.number - before.number)) (sevens (e.offset - end_of before) ++ sevens e.length),
      sevens-some (e.number - before.number),
    )

pub entry-shorter : (before e : Entry) (s rest : List ℕ) → entry_of before s ≡ entry e rest → length rest < length s
entry-shorter before e s rest h =
    omega (arith, ap length (entry-only before e s rest h).bytes, length-append (entry_bytes before e) rest, entry-some before e)
