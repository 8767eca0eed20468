-- What reading, adding and writing answer, from what the bytes read as.
use Prim.Native.Nat.{◌%◌, ◌*◌, ◌+◌, ◌-◌, ◌/◌, ◌<◌, ◌≤◌, ℕ}
use mathlib.Core.Path.{◌∙◌, ◌≡◌, ap, refl, sym}
use mathlib.Core.Bool.{Bool, false, true}
use mathlib.Core.List.{[], ◌++◌, ◌∷◌, List}
use native.Mathlib.Omega.{arith}
use native.Mathlib.Nat.{sub-zero}
use lib.Dec.{eqb, ltb}
use lib.ListN.{drop, length, take}
use borrow.Author.Tests.{eq-eqb, le-ltb, lt-ltb, ltb-false, ne_eqb}
use Rattle.digits.proofs.Bools.{and_right}
use Rattle.put.specs.Wrote.{Held, held, Puts}
use Rattle.put.proofs.Chain.{put-fits, put_whole}
use Rattle.frame.specs.declared.Written.{Written}
use Rattle.frame.specs.Written.{refused, wrote}
use Rattle.index.specs.declared.Entry.{Entry}
use Rattle.index.specs.declared.reading.Listed.{Listed}
use Rattle.index.specs.declared.reading.Scanned.{Scanned}
use Rattle.index.specs.Index.{entry_bytes, fits, index_bytes, in_order, listed, Listing, no_index, origin, read_index}
use Rattle.digits.specs.Pick.{pick}
use Rattle.index.specs.Answers.{added_index, added_to, are_entries, entries_in, entries_of, laid_for, last_of, left_added, left_index}
use Rattle.index.specs.Answers.{listed_for, listing, numbers_of, written_index}
use Rattle.index.specs.Places.{Putting, reached_at, scan_of}

-- Going over the bytes tells whether they are an index, how many entries it has, and the last.
pub scan-none : (x : Listing) (r : Scanned) → r ≡ scan_of x → r.whole ≡ false → x ≡ no_index
scan-none no_index r e f = refl
scan-none (listed es) r e f = let z : ◌≡◌ {A = ℕ} 0 1 = cc (ap (λ (y : Scanned). y.whole) e) in let n : ⊥ = omega arith in absurd n

pub record Whole (x : Listing) (r : Scanned) : Type 0 where
  pub reads : x ≡ listed (entries_in x)
  pub count : r.count ≡ length (entries_in x)
  pub last : r.last ≡ last_of origin (entries_in x)

pub scan-whole : (x : Listing) (r : Scanned) → r ≡ scan_of x → r.whole ≡ true → Whole x r
scan-whole no_index r e f = let z : ◌≡◌ {A = ℕ} 0 1 = cc (ap (λ (y : Scanned). y.whole) e) in let n : ⊥ = omega arith in absurd n
scan-whole (listed es) r e f =
    record { reads = refl; count = ap (λ (y : Scanned). y.count) e; last = ap (λ (y : Scanned). y.last) e }

-- The first bytes, as the code cuts them.
pub scan-front : (n : ℕ) (l : List ℕ) (r : Scanned) → r ≡ scan_of (read_index (take (n - 0) l)) → r ≡ scan_of (read_index (take n l))
scan-front n l r e = e ∙ ap (λ (k : ℕ). scan_of (read_index (take k l))) (sub-zero n)

numbers-long : (es : List Entry) → length (numbers_of es) ≡ 3 * length es
unfolding numbers_of
numbers-long [] = refl
numbers-long (e ∷ es) = omega (arith, numbers-long es)

-- Reading: no index, no room, and all of it.
pub read_none : (x : Listing) (out : List ℕ) → x ≡ no_index → {r : Listed} → r ≡ listing 11 0 → (r ≡ listed_for x (length out)) ×
    (out ≡ laid_for x out)
read_none x out e f = rw e (f, refl)

module _ (x : Listing) (out : List ℕ) (es : x ≡ listed (entries_in x)) where
  pub read-full : length out / 3 < length (entries_in x) → {r : Listed} → r ≡ listing 8 0 → (r ≡ listed_for x (length out)) ×
      (out ≡ laid_for x out)
  read-full h e =
      let over : ltb (length out) (length (numbers_of (entries_in x))) ≡ true = lt-ltb (length out) (length (numbers_of (entries_in x)))
      (omega (arith, numbers-long (entries_in x))) in
      rw (es, over) (e, refl)

  pub read-room : length (entries_in x) ≤ length out / 3 → length (numbers_of (entries_in x)) ≤ length out
  read-room h = omega (arith, numbers-long (entries_in x))

  pub read_all : {count : ℕ} → length (entries_in x) ≤ length out / 3 → count ≡ length (entries_in x)
      → {r : Listed} → r ≡ listing 0 count → r ≡ listed_for x (length out)
  read_all h c e =
      let room : ltb (length out) (length (numbers_of (entries_in x))) ≡ false = le-ltb (length out) (length (numbers_of (entries_in x)))
      (read-room h) in
      rw (es, room) (e ∙ ap (listing 0) c)

-- What was written had room.
written-room : (ns : List ℕ) (room : ℕ) → (written_index ns room).no ≡ 0 → length (index_bytes (entries_of ns)) ≤ room
unfolding written_index
written-room ns room e = go (are_entries ns) (ltb room (length (index_bytes (entries_of ns)))) refl e
  where
    go : (a b : Bool) → ltb room (length (index_bytes (entries_of ns))) ≡ b
        → (pick a (pick b (refused 8 0 0) (wrote (length (index_bytes (entries_of ns))))) (refused 5 0 0)).no ≡ 0 → length
        (index_bytes (entries_of ns)) ≤ room
    go true true f h = let z : ⊥ = omega arith in absurd z
    go true false f h = ltb-false _ _ f
    go false b f h = let z : ⊥ = omega arith in absurd z

written-order : (ns : List ℕ) (room : ℕ) → (written_index ns room).no ≡ 0 → in_order origin (entries_of ns) ≡ true
unfolding written_index
written-order ns room e = go (are_entries ns) refl e
  where
    go : (a : Bool) → are_entries ns ≡ a
        → (pick a (pick (ltb room (length (index_bytes (entries_of ns)))) (refused 8 0 0) (wrote (length (index_bytes (entries_of ns)))))
        (refused 5 0 0)).no ≡ 0 → in_order origin (entries_of ns) ≡ true
    go true f h = and_right (eqb (length ns % 3) 0) _ f
    go false f h = let z : ⊥ = omega arith in absurd z

-- So its bytes can be put.
pub written-puts : (ns out : List ℕ) {r : Written} → r ≡ written_index ns (length out) → r.no ≡ 0 → Putting ns out (reached_at 0 0 0 0)
written-puts ns out e z =
    let done : (written_index ns (length out)).no ≡ 0 = sym (ap (λ (w : Written). w.no) e) ∙ z in
    record {
      ordered = record { inside = omega arith; order = written-order ns (length out) done };
      room = omega (arith, written-room ns (length out) done);
    }

-- Adding: the answer, and the buffer after it.
pub record Adds (buffer : List ℕ) (used : ℕ) (e : Entry) (answer : Written) (left : List ℕ) : Type 0 where
  pub answers : answer ≡ added_index buffer used e
  pub leaves : left ≡ left_added buffer used e

refusing : (buffer : List ℕ) (used : ℕ) (e : Entry) (n : ℕ) {r : Written} → (eqb n 0 ≡ false) → r ≡ refused n 0 0 → refused n 0 0 ≡
    added_index buffer used e
    → Adds buffer used e r buffer
unfolding left_added
refusing buffer used e n some is h =
    let no : eqb (added_index buffer used e).no 0 ≡ false = ap (λ (w : Written). eqb w.no 0) (sym h) ∙ some in
    record { answers = is ∙ h; leaves = rw no }

added-over : (buffer : List ℕ) (used : ℕ) (e : Entry) → length buffer < used → refused 11 0 0 ≡ added_index buffer used e
unfolding added_index
added-over buffer used e h = rw (lt-ltb (length buffer) used h)

added-in : (buffer : List ℕ) (used : ℕ) (e : Entry) (x : Listing) → used ≤ length buffer → read_index (take used buffer) ≡ x
    → added_to x used e (length buffer) ≡ added_index buffer used e
unfolding added_index
added-in buffer used e x h f = rw (le-ltb (length buffer) used h, f)

module _ (buffer : List ℕ) (used : ℕ) (e : Entry) {r : Written} where
  pub add-over : length buffer < used → r ≡ refused 11 0 0 → Adds buffer used e r buffer
  add-over h is = refusing buffer used e 11 refl is (added-over buffer used e h)

  module _ (h : used ≤ length buffer) where
    pub add_none : read_index (take used buffer) ≡ no_index → r ≡ refused 11 0 0 → Adds buffer used e r buffer
    add_none f is = refusing buffer used e 11 refl is (added-in buffer used e no_index h f)

    module _ (x : read_index (take used buffer) ≡ listed (entries_in (read_index (take used buffer)))) (last : Entry)
        (l : last ≡ last_of origin (entries_in (read_index (take used buffer)))) where
      pub add-unfit : fits last e ≡ false → r ≡ refused 5 0 0 → Adds buffer used e r buffer
      add-unfit f is = refusing buffer used e 5 refl is
          (rw (← l, f) at (added-in buffer used e (listed (entries_in (read_index (take used buffer)))) h x))

      module _ (f : fits last e ≡ true) (n : ℕ) (size : n ≡ length (entry_bytes last e)) where
        pub add-full : length buffer - used < n → r ≡ refused 8 0 0 → Adds buffer used e r buffer
        add-full g is =
            let over : ltb (length buffer) (used + length (entry_bytes last e)) ≡ true = lt-ltb (length buffer)
            (used + length (entry_bytes last e)) (omega arith) in
            refusing buffer used e 8 refl is
            (rw (← l, f, over) at (added-in buffer used e (listed (entries_in (read_index (take used buffer)))) h x))

        pub add-all : {place : ℕ} {left : List ℕ} → n ≤ length buffer - used → Puts (held used buffer) (entry_bytes last e) (held place left)
            → r ≡ wrote (used + n) → Adds buffer used e r left
        unfolding left_added
        add-all {place} {left} g p is =
            let room : ltb (length buffer) (used + length (entry_bytes last e)) ≡ false = le-ltb (length buffer)
            (used + length (entry_bytes last e)) (omega arith) in
            let answer : wrote (used + length (entry_bytes last e)) ≡ added_index buffer used e = rw (← l, f, room) at
            (added-in buffer used e (listed (entries_in (read_index (take used buffer)))) h x) in
            let done : eqb (added_index buffer used e).no 0 ≡ true = ap (λ (w : Written). eqb w.no 0) (sym answer) in
            let bytes : left ≡ take used buffer ++ (entry_bytes last e ++ drop (used + length (entry_bytes last e)) buffer) =
            ap (λ (k : Held). k.bytes) (p.is ∙ put-fits used buffer (entry_bytes last e) (omega arith)) in
            record {
              answers = is ∙ rw size answer;
              leaves = bytes ∙ rw (done, x, ← l);
            }

-- Writing: a refusal leaves the output, and what is written stands at its start.
pub write-refused : (ns out : List ℕ) {r : Written} → r ≡ written_index ns (length out) → (r.no ≡ 0 → ⊥) →
    (r ≡ written_index ns (length out)) × (out ≡ left_index ns out)
unfolding left_index
write-refused ns out e n =
    let no : eqb (written_index ns (length out)).no 0 ≡ false = ne_eqb _ 0 (λ z. n (ap (λ (w : Written). w.no) e ∙ z)) in
    (e, rw no)

pub write-all : (ns out : List ℕ) {r : Written} {place : ℕ} {left : List ℕ} → r ≡ written_index ns (length out) → r.no ≡ 0
    → Puts (held 0 out) (index_bytes (entries_of ns)) (held place left) → (r ≡ written_index ns (length out)) × (left ≡ left_index ns out)
unfolding left_index
write-all ns out {r} {place} {left} e z p =
    let done : (written_index ns (length out)).no ≡ 0 = sym (ap (λ (w : Written). w.no) e) ∙ z in
    let yes-done : eqb (written_index ns (length out)).no 0 ≡ true = eq-eqb _ 0 done in
    (e, rw yes-done (put_whole p (written-room ns (length out) done)))
