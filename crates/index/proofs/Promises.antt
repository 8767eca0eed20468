-- The index beside a log, from what its functions answer: what is written reads back, what is found is the entry with that number, what is
-- added stands behind what was there, and numbers ascend. Each from the laws of lists of entries, by going along them.
use Prim.Native.Nat.{◌%◌, ◌+◌, ◌<◌, ◌≤◌, ℕ}
use mathlib.Core.Path.{◌∙◌, ◌≡◌, ap, refl, sym}
use mathlib.Core.Bool.{Bool, false, true}
use mathlib.Core.List.{[], ◌++◌, ◌∷◌, append_assoc, List}
use native.Mathlib.Omega.{arith}
use lib.Dec.{eqb, ltb}
use lib.ListN.{drop, length, length-append, take}
use lib.Seq.{length-take-le, take_at}
use borrow.Author.Tests.{eq-eqb, eqb-true, le-ltb, ltb-false, ne_eqb}
use Rattle.digits.proofs.Bools.{and_left, and_right}
use Rattle.frame.specs.Written.{refused, wrote}
use Rattle.index.specs.declared.Entry.{Entry}
use Rattle.index.specs.declared.reading.Found.{Found}
use Rattle.index.specs.Index.{entry_bytes, fits, index_bytes, in_order, listed, Listing, no_index, origin, read_index}
use Rattle.digits.specs.Pick.{pick}
use Rattle.index.specs.Answers.{added_index, added_to, are_entries, entries_of, find_in, finding, found_in, laid_for}
use Rattle.index.specs.Answers.{last_of, left_added, left_index, listed_for, listing, numbers_of, written_index}
use Rattle.index.proofs.Ranges.{fits-is}
use Rattle.index.proofs.Lists.{bytes-more, from_back, from-only, order-more, same_entries}

-- An entry stands in a list.
pub data Stands (e : Entry) : List Entry → Type 0 where
  here : {es : List Entry} → Stands e (e ∷ es)
  later : {d : Entry} {es : List Entry} → Stands e es → Stands e (d ∷ es)

-- What is written is an index, and reads as the entries.
written-good : (ns : List ℕ) (room : ℕ) → (written_index ns room).no ≡ 0
    → (are_entries ns ≡ true) × (length (index_bytes (entries_of ns)) ≤ room) ×
    ((written_index ns room).length ≡ length (index_bytes (entries_of ns)))
unfolding written_index
written-good ns room e = go (are_entries ns) (ltb room (length (index_bytes (entries_of ns)))) refl e
  where
    go : (a b : Bool) → ltb room (length (index_bytes (entries_of ns))) ≡ b
        → (pick a (pick b (refused 8 0 0) (wrote (length (index_bytes (entries_of ns))))) (refused 5 0 0)).no ≡ 0
        → (a ≡ true) × (length (index_bytes (entries_of ns)) ≤ room)
        × ((pick a (pick b (refused 8 0 0) (wrote (length (index_bytes (entries_of ns))))) (refused 5 0 0)).length ≡ length
        (index_bytes (entries_of ns)))
    go true true f h = let z : ⊥ = omega arith in absurd z
    go true false f h = (refl, ltb-false _ _ f, refl)
    go false b f h = let z : ⊥ = omega arith in absurd z

written-bytes : (ns out : List ℕ) → (written_index ns (length out)).no ≡ 0
    → take (written_index ns (length out)).length (left_index ns out) ≡ index_bytes (entries_of ns)
unfolding left_index
written-bytes ns out e =
    let good = written-good ns (length out) e in
    let done : eqb (written_index ns (length out)).no 0 ≡ true = eq-eqb (written_index ns (length out)).no 0 e in
    rw (done, good.2) (take_at (index_bytes (entries_of ns)) (drop (length (index_bytes (entries_of ns))) out) _ refl)

pub written_back : (ns out : List ℕ) → (written_index ns (length out)).no ≡ 0
    → read_index (take (written_index ns (length out)).length (left_index ns out)) ≡ listed (entries_of ns)
written_back ns out e =
    ap read_index (written-bytes ns out e)
    ∙ from_back origin (entries_of ns) (and_right (eqb (length ns % 3) 0) _ (written-good ns (length out) e).0)

-- Numbers say entries, three each, and entries say their numbers.
pub numbers-back : (es : List Entry) → entries_of (numbers_of es) ≡ es
unfolding entries_of numbers_of
numbers-back [] = refl
numbers-back (e ∷ es) = ap (λ (l : List Entry). e ∷ l) (numbers-back es)

numbers-threes : (es : List Entry) → length (numbers_of es) % 3 ≡ 0
unfolding numbers_of
numbers-threes [] = refl
numbers-threes (e ∷ es) = omega (arith, numbers-threes es)

-- Bytes that read are what is written of their entries.
pub read-bytes : (s : List ℕ) (es : List Entry) → read_index s ≡ listed es → (s ≡ index_bytes es) × (in_order origin es ≡ true)
read-bytes s es h = let said = from-only origin es s h in (said.bytes, said.ordered)

pub read-written : (s out : List ℕ) (es : List Entry) → read_index s ≡ listed es → length s ≤ length out
    → (written_index (numbers_of es) (length out) ≡ wrote (length s)) × (left_index (numbers_of es) out ≡ s ++ drop (length s) out)
unfolding written_index left_index
read-written s out es h l =
    let said = from-only origin es s h in
    let bytes : index_bytes (entries_of (numbers_of es)) ≡ s = ap index_bytes (numbers-back es) ∙ sym said.bytes in
    let threes : eqb (length (numbers_of es) % 3) 0 ≡ true = eq-eqb (length (numbers_of es) % 3) 0 (numbers-threes es) in
    let order : in_order origin (entries_of (numbers_of es)) ≡ true = ap (in_order origin) (numbers-back es) ∙ said.ordered in
    let room : ltb (length out) (length s) ≡ false = le-ltb (length out) (length s) l in
    rw (threes, order, bytes, room) (refl, refl)

-- Entries in order are equal exactly when their bytes are.
pub same_bytes : (es ds : List Entry) → in_order origin es ≡ true → in_order origin ds ≡ true
    → (index_bytes es ≡ index_bytes ds → es ≡ ds) × (es ≡ ds → index_bytes es ≡ index_bytes ds)
same_bytes es ds a b = (same_entries es ds a b, ap index_bytes)

-- Numbers ascend.
above : (before e : Entry) (es : List Entry) → in_order before es ≡ true → Stands e es → before.number < e.number
unfolding in_order
above before e [] t x' = elim x' [ ]
above before e (d ∷ es) t here = (fits-is before d (and_left _ _ t)).later
above before e (d ∷ es) t (later x) =
    let low = (fits-is before d (and_left _ _ t)).later in
    let high = above d e es (and_right (fits before d) _ t) x in
    omega arith

behind-order : (before : Entry) (front : List Entry) (d : Entry) (es : List Entry) → in_order before (front ++ (d ∷ es)) ≡ true → in_order d
    es ≡ true
unfolding in_order
behind-order before [] d es t = and_right (fits before d) _ t
behind-order before (c ∷ front) d es t = behind-order c front d es (and_right (fits before c) _ t)

pub ascending : (s : List ℕ) (front : List Entry) (d e : Entry) (es : List Entry) → read_index s ≡ listed (front ++ (d ∷ es)) → Stands e es
    → d.number < e.number
ascending s front d e es h x = above d e es (behind-order origin front d es (read-bytes s (front ++ (d ∷ es)) h).1) x

-- What is found, and what is not.
found_first : (number : ℕ) (es : List Entry) → (find_in number es).no ≡ 0
    → (e : Entry) × (Stands e es × ((e.number ≡ number) × (find_in number es ≡ finding 0 e.offset e.length)))
unfolding find_in
found_first number [] z = let n : ⊥ = omega arith in absurd n
found_first number (d ∷ es) z = go (found_first number es) (eqb d.number number) refl z
  where
    Behind : Type 0
    Behind = (find_in number es).no ≡ 0 → (e : Entry) ×
        (Stands e es × ((e.number ≡ number) × (find_in number es ≡ finding 0 e.offset e.length)))

    go : Behind → (t : Bool) → eqb d.number number ≡ t → (pick t (finding 0 d.offset d.length) (find_in number es)).no ≡ 0
        → (e : Entry) × (Stands e (d ∷ es)
        × ((e.number ≡ number) × (pick t (finding 0 d.offset d.length) (find_in number es) ≡ finding 0 e.offset e.length)))
    go behind true f h = (d, (here, (eqb-true _ _ f, refl)))
    go behind false f h = let x = behind h in (x.0, (later x.1.0, x.1.1))

find-stands : (number : ℕ) (before e : Entry) (es : List Entry) → in_order before es ≡ true → Stands e es → e.number ≡ number
    → find_in number es ≡ finding 0 e.offset e.length
unfolding in_order find_in
find-stands number before e [] t x3 h = elim x3 [ ]
find-stands number before e (d ∷ es) t here h = rw (eq-eqb e.number number h)
find-stands number before e (d ∷ es) t (later x) h =
    let low = above d e es (and_right (fits before d) _ t) x in
    let other : eqb d.number number ≡ false = ne_eqb d.number number (λ z. omega (arith, low, h, z)) in
    rw other (find-stands number d e es (and_right (fits before d) _ t) x h)

find_none : (number : ℕ) (es : List Entry) → ((e : Entry) → Stands e es → e.number ≡ number → ⊥) → find_in number es ≡ finding 12 0 0
unfolding find_in
find_none number [] n = refl
find_none number (d ∷ es) n =
    rw (ne_eqb d.number number (n d here)) (find_none number es (λ e x. n e (later x)))

module _ (s : List ℕ) (es : List Entry) (h : read_index s ≡ listed es) (number : ℕ) where
  -- An entry with that number is found, with its offset and length.
  pub found-entry : (e : Entry) → Stands e es → e.number ≡ number → found_in number (read_index s) ≡ finding 0 e.offset e.length
  found-entry e x n = rw h (find-stands number origin e es (read-bytes s es h).1 x n)

  -- What is found is an entry with that number.
  pub entry_found : (found_in number (read_index s)).no ≡ 0
      → (e : Entry) × (Stands e es × ((e.number ≡ number) × (found_in number (read_index s) ≡ finding 0 e.offset e.length)))
  entry_found z =
      let x = found_first number es (sym (ap (λ (y : Listing). (found_in number y).no) h) ∙ z) in
      (x.0, (x.1.0, (x.1.1.0, ap (found_in number) h ∙ x.1.1.1)))

  -- 12 exactly where no entry has that number.
  pub none_found : ((e : Entry) → Stands e es → e.number ≡ number → ⊥) → found_in number (read_index s) ≡ finding 12 0 0
  none_found n = rw h (find_none number es n)

  pub twelve-none : (found_in number (read_index s)).no ≡ 12 → (e : Entry) → Stands e es → e.number ≡ number → ⊥
  twelve-none z e x n = let y = ap (λ (f : Found). f.no) (found-entry e x n) in omega (arith, y, z)

not-eleven : (number : ℕ) (es : List Entry) → (find_in number es).no ≡ 11 → ⊥
unfolding find_in
not-eleven number [] z = omega arith
not-eleven number (d ∷ es) z = go (not-eleven number es) (eqb d.number number) z
  where
    go : ((find_in number es).no ≡ 11 → ⊥) → (t : Bool) → (pick t (finding 0 d.offset d.length) (find_in number es)).no ≡ 11 → ⊥
    go n true h = omega arith
    go n false h = n h

-- 11 exactly where the bytes are no index, whatever the number.
pub eleven : (s : List ℕ) (number : ℕ)
    → (read_index s ≡ no_index → found_in number (read_index s) ≡ finding 11 0 0) ×
    ((found_in number (read_index s)).no ≡ 11 → read_index s ≡ no_index)
eleven s number = ((λ e. ap (found_in number) e), go (read_index s))
  where
    go : (x : Listing) → (found_in number x).no ≡ 11 → x ≡ no_index
    go no_index z = refl
    go (listed es) z = absurd (not-eleven number es z)

-- What is added stands behind what was there, and reads as the old entries and the new one.
pub record Added (buffer : List ℕ) (used : ℕ) (e : Entry) : Type 0 where
  pub before : List Entry
  pub reads : read_index (take used buffer) ≡ listed before
  pub fitting : fits (last_of origin before) e ≡ true
  pub bytes : take (added_index buffer used e).length (left_added buffer used e) ≡ take used buffer ++ entry_bytes (last_of origin before) e
  pub after : read_index (take (added_index buffer used e).length (left_added buffer used e)) ≡ listed (before ++ (e ∷ []))

-- An answer is a length only where the bytes are an index, the entry fits and there is room.
pub record Room (buffer : List ℕ) (used : ℕ) (e : Entry) : Type 0 where
  pub old : List Entry
  pub reading : read_index (take used buffer) ≡ listed old
  pub within : used ≤ length buffer
  pub fit : fits (last_of origin old) e ≡ true
  pub room : used + length (entry_bytes (last_of origin old) e) ≤ length buffer

has_room : (buffer : List ℕ) (used : ℕ) (e : Entry) → (added_index buffer used e).no ≡ 0 → Room buffer used e
unfolding added_index
has_room buffer used e z = outer (ltb (length buffer) used) refl z
  where
    inner : used ≤ length buffer → (es : List Entry) → read_index (take used buffer) ≡ listed es → (f : Bool) → fits (last_of origin es) e ≡ f
        → (b : Bool) → ltb (length buffer) (used + length (entry_bytes (last_of origin es) e)) ≡ b
        → (pick f (pick b (refused 8 0 0) (wrote (used + length (entry_bytes (last_of origin es) e)))) (refused 5 0 0)).no ≡ 0 → Room buffer
        used e
    inner u es r true fe true be h = let n : ⊥ = omega arith in absurd n
    inner u es r true fe false be h = record { old = es; reading = r; within = u; fit = fe; room = ltb-false _ _ be }
    inner u es r false fe b be h = let n : ⊥ = omega arith in absurd n

    listing-of : used ≤ length buffer → (x : Listing) → read_index (take used buffer) ≡ x → (added_to x used e (length buffer)).no ≡ 0 → Room
        buffer used e
    listing-of u no_index r h = let n : ⊥ = omega arith in absurd n
    listing-of u (listed es) r h =
        inner u es r (fits (last_of origin es) e) refl (ltb (length buffer) (used + length (entry_bytes (last_of origin es) e))) refl h

    outer : (t : Bool) → ltb (length buffer) used ≡ t
        → (pick t (refused 11 0 0) (added_to (read_index (take used buffer)) used e (length buffer))).no ≡ 0 → Room buffer used e
    outer true f h = let n : ⊥ = omega arith in absurd n
    outer false f h = listing-of (ltb-false _ _ f) (read_index (take used buffer)) refl h

answer-is : (buffer : List ℕ) (used : ℕ) (e : Entry) (x : Room buffer used e)
    → (added_index buffer used e).length ≡ used + length (entry_bytes (last_of origin x.old) e)
unfolding added_index
answer-is buffer used e x =
    rw (le-ltb (length buffer) used x.within, x.reading, x.fit)
    (rw (le-ltb (length buffer) (used + length (entry_bytes (last_of origin x.old) e)) x.room))

left_is : (buffer : List ℕ) (used : ℕ) (e : Entry) → (added_index buffer used e).no ≡ 0 → (x : Room buffer used e)
    → left_added buffer used e
    ≡ take used buffer ++ (entry_bytes (last_of origin x.old) e ++ drop (used + length (entry_bytes (last_of origin x.old) e)) buffer)
unfolding left_added
left_is buffer used e z x = rw (eq-eqb (added_index buffer used e).no 0 z, x.reading)

pub added : (buffer : List ℕ) (used : ℕ) (e : Entry) → (added_index buffer used e).no ≡ 0 → Added buffer used e
added buffer used e z =
    let x = has_room buffer used e z in
    let new = entry_bytes (last_of origin x.old) e in
    let front = take used buffer in
    let said = from-only origin x.old front x.reading in
    let long : length front ≡ used = length-take-le used buffer x.within in
    let sizes : used + length new ≡ length (front ++ new) = rw (length-append, long) in
    let cut : take (added_index buffer used e).length (left_added buffer used e) ≡ front ++ new =
    rw (answer-is buffer used e x, left_is buffer used e z x, ← append_assoc, sizes)
    (take_at (front ++ new) (drop (length (front ++ new)) buffer) _ refl) in
    let whole : front ++ new ≡ index_bytes (x.old ++ (e ∷ [])) =
    ap (λ (l : List ℕ). l ++ new) said.bytes ∙ sym (bytes-more origin x.old e) in
    record {
      before = x.old;
      reads = x.reading;
      fitting = x.fit;
      bytes = cut;
      after = ap read_index (cut ∙ whole) ∙ from_back origin (x.old ++ (e ∷ [])) (order-more origin x.old e said.ordered x.fit);
    }

-- 5 exactly where the entry does not fit behind the last.
pub five-unfit : (buffer : List ℕ) (used : ℕ) (e : Entry) (es : List Entry) → used ≤ length buffer → read_index (take used buffer) ≡ listed
    es
    → (fits (last_of origin es) e ≡ false → added_index buffer used e ≡ refused 5 0 0) ×
    ((added_index buffer used e).no ≡ 5 → fits (last_of origin es) e ≡ false)
unfolding added_index
five-unfit buffer used e es u r = ((λ f. rw (le-ltb (length buffer) used u, r, f)), λ z. go (fits (last_of origin es) e) refl (is z))
  where
    is : (pick (ltb (length buffer) used) (refused 11 0 0) (added_to (read_index (take used buffer)) used e (length buffer))).no ≡ 5
        → (added_to (listed es) used e (length buffer)).no ≡ 5
    is z = rw (le-ltb (length buffer) used u, r) at z

    go : (f : Bool) → fits (last_of origin es) e ≡ f
        → (pick f (pick (ltb (length buffer) (used + length (entry_bytes (last_of origin es) e))) (refused 8 0 0)
        (wrote (used + length (entry_bytes (last_of origin es) e)))) (refused 5 0 0)).no ≡ 5 → f ≡ false
    go false fe h = refl
    go true fe h = room (ltb (length buffer) (used + length (entry_bytes (last_of origin es) e))) h
      where
        room : (b : Bool) → (pick b (refused 8 0 0) (wrote (used + length (entry_bytes (last_of origin es) e)))).no ≡ 5 → true ≡ false
        room true h = let n : ⊥ = omega arith in absurd n
        room false h = let n : ⊥ = omega arith in absurd n

-- A refusal leaves what was lent.
pub write-leaves : (ns out : List ℕ) → ((written_index ns (length out)).no ≡ 0 → ⊥) → left_index ns out ≡ out
unfolding left_index
write-leaves ns out n = rw (ne_eqb (written_index ns (length out)).no 0 n)

pub add-leaves : (buffer : List ℕ) (used : ℕ) (e : Entry) → ((added_index buffer used e).no ≡ 0 → ⊥) → left_added buffer used e ≡ buffer
unfolding left_added
add-leaves buffer used e n = rw (ne_eqb (added_index buffer used e).no 0 n)

pub read-leaves : (s out : List ℕ) → ((listed_for (read_index s) (length out)).no ≡ 0 → ⊥) → laid_for (read_index s) out ≡ out
read-leaves s out n = go (read_index s) n
  where
    room : (b : Bool) (es : List Entry) → ((pick b (listing 8 0) (listing 0 (length es))).no ≡ 0 → ⊥)
        → pick b out (numbers_of es ++ drop (length (numbers_of es)) out) ≡ out
    room true es n = refl
    room false es n = absurd (n refl)

    go : (x : Listing) → ((listed_for x (length out)).no ≡ 0 → ⊥) → laid_for x out ≡ out
    go no_index n = refl
    go (listed es) n = room (ltb (length out) (length (numbers_of es))) es n
