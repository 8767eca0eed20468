-- One line of a group. The line of a table in range has four places and no fault: its used entries are the next four of the table, or
-- those that are left, and the other places are blank. And the other way round: of a record without a fault the used entries are in range,
-- and its four places are these, filled up with blank ones.
use Prim.Native.Nat.{◌*◌, ◌+◌, ◌-◌, ◌≤◌, suc, zero, ℕ}
use mathlib.Core.Bool.{◌&&◌, true}
use mathlib.Core.List.{[], ◌++◌, ◌∷◌, List}
use mathlib.Core.Path.{◌∙◌, ◌≡◌, ap, refl, subst, sym}
use native.Mathlib.Omega.{arith}
use lib.Dec.{lit≤}
use lib.ListN.{drop, length, length-drop, replicate, take}
use lib.Seq.{drop-append-le}
use Rattle.digits.proofs.Bools.{and_left, and_right}
use Rattle.form.specs.Values.{outside}
use Rattle.form.specs.Wrong.{After}
use Rattle.form.proofs.Lists.{all-four}
use Rattle.form.proofs.Ranged.{in-outside}
use Rattle.form.proofs.Values.{inside}
use Rattle.form.proofs.Zeros.{all-zero, Zero, zero-all}
use Rattle.kind_gsv.specs.Blank.{blank_entry, is_blank}
use Rattle.kind_gsv.specs.declared.Entry.{Entry}
use Rattle.kind_gsv.specs.declared.Gsv.{Gsv}
use Rattle.kind_gsv.specs.Writing.{entry_afters, entry_of, gsv_wrong, rest_blank}
use Rattle.kind_gsv.proofs.EntryLaws.{blank-is}
use Rattle.kind_gsv.proofs.GoodLaws.{Good}
use Rattle.sky.specs.Group.{entries_at, lines_for, used_of}
use Rattle.sky.specs.Sky.{table_of}
use Rattle.sky.specs.Table.{entry_wrong, line_at}
use Rattle.sky.proofs.Numbers.{nine-lines, some-line, starts}
use Rattle.sky_laws.proofs.InRange.{EachGood, good-drop}
use Rattle.sky_laws.proofs.Numbers.{next-four}

-- So many places, filled up with blank ones.
abbrev pub filled : ℕ → List Entry → List Entry
filled zero es = []
filled (suc m) [] = blank_entry ∷ filled m []
filled (suc m) (e ∷ es) = e ∷ filled m es

take-filled : (m a : ℕ) (es : List Entry) → m ≤ length es + a → take m (es ++ replicate a blank_entry) ≡ filled m es
take-filled zero a es h = refl
take-filled (suc m) zero [] h = let z : ⊥ = omega arith in absurd z
take-filled (suc m) (suc a) [] h = ap (λ (l : List Entry). blank_entry ∷ l) (take-filled m a [] (omega arith))
take-filled (suc m) a (e ∷ es) h = ap (λ (l : List Entry). e ∷ l) (take-filled m a es (omega arith))

used-filled : (m : ℕ) (es : List Entry) → take (length (take m es)) (filled m es) ≡ take m es
used-filled zero es = refl
used-filled (suc m) [] = refl
used-filled (suc m) (e ∷ es) = ap (λ (l : List Entry). e ∷ l) (used-filled m es)

-- More entries behind as many as there are places, or none behind fewer, fill them the same.
pub filled_more : (m : ℕ) (es fs : List Entry) → (length es + 1 ≤ m → length fs ≡ 0) → filled m (es ++ fs) ≡ filled m es
filled_more zero es fs h = refl
filled_more (suc m) [] [] h = refl
filled_more (suc m) [] (f ∷ fs) h = let z = h (omega arith) in let y : ⊥ = omega (arith, z) in absurd y
filled_more (suc m) (e ∷ es) fs h = ap (λ (l : List Entry). e ∷ l) (filled_more m es fs (λ p. h (omega arith)))

pub filled-many : (m : ℕ) (es : List Entry) → length (filled m es) ≡ m
filled-many zero es = refl
filled-many (suc m) [] = ap suc (filled-many m [])
filled-many (suc m) (e ∷ es) = ap suc (filled-many m es)

-- The values of some entries, one after another, are in range exactly where each entry's are.
abbrev values : ℕ → List Entry → List After
values n [] = []
values n (e ∷ es) = entry_afters true n e ++ values (n + 4) es

all_in : (n : ℕ) (es : List Entry) → EachGood es → Zero (values n es)
unfolding entry_wrong
all_in n [] g = tt
all_in n (e ∷ es) g =
    let z = all-zero (entry_afters true 0 e) g.0 in
    (z.0, (z.1.0, (z.1.1.0, (z.1.1.1.0, all_in (n + 4) es g.1))))

in_all : (n : ℕ) (es : List Entry) → Zero (values n es) → EachGood es
unfolding entry_wrong
in_all n [] z = tt
in_all n (e ∷ es) z =
    (zero-all (entry_afters true 0 e) (z.0, (z.1.0, (z.1.1.0, (z.1.1.1.0, tt)))), in_all (n + 4) es z.1.1.1.1)

-- A line of some entries: four of them, or all where they are fewer.
module _ (lines line satellites : ℕ) where
  abbrev holding : ℕ → List Entry → Gsv
  holding n es = record { lines = lines; line = line; satellites = satellites; count = n; entries = es }

  module _ (a : outside 1 9 lines ≡ 0) (b : outside 1 9 line ≡ 0) (c : outside 0 99 satellites ≡ 0) where
    of-good : (es : List Entry) → EachGood es → Good (holding (length (take 4 es)) (filled 4 es))
    unfolding gsv_wrong rest_blank is_blank
    of-good [] g = record { few = lit≤ tt; values = zero-all _ (a, (b, (c, tt))); blank = refl }
    of-good (e0 ∷ []) g = record { few = lit≤ tt; values = zero-all _ (a, (b, (c, all_in 3 (e0 ∷ []) g))); blank = refl }
    of-good (e0 ∷ e1 ∷ []) g = record { few = lit≤ tt; values = zero-all _ (a, (b, (c, all_in 3 (e0 ∷ e1 ∷ []) g))); blank = refl }
    of-good (e0 ∷ e1 ∷ e2 ∷ []) g = record {
      few = lit≤ tt;
      values = zero-all _ (a, (b, (c, all_in 3 (e0 ∷ e1 ∷ e2 ∷ []) g)));
      blank = refl;
    }
    of-good (e0 ∷ e1 ∷ e2 ∷ e3 ∷ es) g =
        let first : EachGood (e0 ∷ e1 ∷ e2 ∷ e3 ∷ []) = (g.0, (g.1.0, (g.1.1.0, (g.1.1.1.0, tt)))) in
        record { few = lit≤ tt; values = zero-all _ (a, (b, (c, all_in 3 (e0 ∷ e1 ∷ e2 ∷ e3 ∷ []) first))); blank = refl }

  -- And back: the values of the used places are in range, and a place that is not used is blank.
  module _ (e0 e1 e2 e3 : Entry) where
    abbrev four : List Entry
    four = e0 ∷ e1 ∷ e2 ∷ e3 ∷ []

    last-two : is_blank e2 && is_blank e3 ≡ true → (e2 ≡ blank_entry) × (e3 ≡ blank_entry)
    last-two b = (blank-is e2 (and_left _ _ b), blank-is e3 (and_right (is_blank e2) _ b))

    last-three : is_blank e1 && (is_blank e2 && is_blank e3) ≡ true → (e1 ≡ blank_entry) × ((e2 ≡ blank_entry) × (e3 ≡ blank_entry))
    last-three b = (blank-is e1 (and_left _ _ b), last-two (and_right (is_blank e1) _ b))

    good_of : (n : ℕ) → Good (holding n four) → EachGood (take n four) × (four ≡ filled 4 (take n four))
    unfolding gsv_wrong rest_blank
    good_of zero g =
        let b = last-three (and_right (is_blank e0) _ g.blank) in
        (tt, rw (blank-is e0 (and_left _ _ g.blank), b.0, b.1.0, b.1.1))
    good_of (suc zero) g = let b = last-three g.blank in
        (in_all 3 (e0 ∷ []) (all-zero _ g.values).1.1.1, rw (b.0, b.1.0, b.1.1))
    good_of (suc (suc zero)) g = let b = last-two g.blank in (in_all 3 (e0 ∷ e1 ∷ []) (all-zero _ g.values).1.1.1, rw (b.0, b.1))
    good_of (suc (suc (suc zero))) g = (in_all 3 (e0 ∷ e1 ∷ e2 ∷ []) (all-zero _ g.values).1.1.1, rw (blank-is e3 g.blank))
    good_of (suc (suc (suc (suc zero)))) g = (in_all 3 four (all-zero _ g.values).1.1.1, refl)
    good_of (suc (suc (suc (suc (suc n))))) g = let h = g.few in let z : ⊥ = omega arith in absurd z

-- The used entries of a record without a fault are in range, its places are these and blank ones, and it is of at most nine lines.
module _ (v : Gsv) (places : length v.entries ≡ 4) (g : Good v) where
  abbrev Told : List Entry → Type 0
  Told l = Good (holding v.lines v.line v.satellites v.count l) → EachGood (take v.count l)
      × (l ≡ filled 4 (take v.count l))

  entries-of : EachGood (used_of v) × (v.entries ≡ filled 4 (used_of v))
  entries-of =
      subst Told (all-four blank_entry v.entries places)
      (good_of v.lines v.line v.satellites (entry_of v 0) (entry_of v 1) (entry_of v 2) (entry_of v 3) v.count) g

  pub used-good : EachGood (used_of v)
  used-good = entries-of.0

  pub used-places : v.entries ≡ filled 4 (used_of v)
  used-places = entries-of.1

  pub at-most-nine : v.lines ≤ 9
  unfolding gsv_wrong
  at-most-nine = (inside 1 9 v.lines (all-zero _ g.values).0).1

-- Line k of a table in range.
abbrev pub the_line : List Entry → ℕ → Gsv
the_line es k =
    record {
      lines = lines_for (length es);
      line = k;
      satellites = length es;
      count = entries_at (length es) k;
      entries = filled 4 (drop (4 * (k - 1)) es);
    }

module _ (es : List Entry) (few : length es ≤ 36) (k : ℕ) (from : 1 ≤ k) (to : k ≤ lines_for (length es)) where
  abbrev from-k : List Entry
  from-k = drop (4 * (k - 1)) es

  pub line-is : line_at (table_of es) k ≡ the_line es k
  unfolding line_at
  line-is =
      let blanks = replicate (36 - length es) blank_entry in
      let p = starts (length es) k from to in
      ap (λ (l : List Entry). holding (lines_for (length es)) k (length es) (entries_at (length es) k) l)
      (ap (take 4) (drop-append-le (4 * (k - 1)) es blanks p)
      ∙ take-filled 4 (36 - length es) from-k (omega (arith, p, length-drop (4 * (k - 1)) es, nine-lines (length es) few)))

  pub line-used : used_of (the_line es k) ≡ take 4 from-k
  line-used = ap (λ (n : ℕ). take n (filled 4 from-k)) (next-four es k) ∙ used-filled 4 from-k

  pub line-good : EachGood es → Good (the_line es k)
  line-good g =
      let n = nine-lines (length es) few in
      subst (λ (n : ℕ). Good (holding (lines_for (length es)) k (length es) n (filled 4 from-k))) (sym (next-four es k))
      (of-good (lines_for (length es)) k (length es) (in-outside 1 9 (lines_for (length es)) (some-line (length es)) n)
      (in-outside 1 9 k from (omega (arith, n))) (in-outside 0 99 (length es) (omega arith) (omega arith))
      from-k (good-drop (4 * (k - 1)) es g))
