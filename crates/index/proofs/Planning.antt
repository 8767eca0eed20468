-- What writing comes to, entry by entry: the order of the rest decides the order of all, and the bytes counted so far and those of the
-- rest are all of them.
use Prim.Native.Nat.{◌%◌, ◌+◌, ◌-◌, ◌<◌, ◌≤◌, ℕ}
use mathlib.Core.Path.{◌∙◌, ◌≡◌, ap, refl, sym}
use mathlib.Core.Bool.{◌&&◌, Bool, false, true}
use mathlib.Core.List.{[], ◌++◌, ◌∷◌, List}
use native.Mathlib.Omega.{arith}
use native.Mathlib.Nat.{sub-zero}
use lib.Dec.{eqb, leb, ltb}
use lib.ListN.{drop, get_or, length, length-append}
use borrow.Author.Tests.{eq-eqb, le-ltb, leb-true, lt-ltb, ltb-true, ne_eqb}
use Rattle.digits.proofs.Bools.{and_left, and_right}
use Rattle.frame.specs.Written.{refused, wrote}
use Rattle.index_sevens.specs.Sevens.{most, sevens}
use Rattle.index_sevens.proofs.Groups.{sevens-most}
use Rattle.index.specs.declared.Entry.{Entry}
use Rattle.index.specs.declared.writing.Reached.{Reached}
use Rattle.index.specs.Index.{bytes_from, end_of, entry_bytes, fits, index_bytes, in_order, origin}
use Rattle.index.specs.Answers.{are_entries, entries_of, three_at, written_index}
use Rattle.index.specs.Places.{bytes_left, Planning, reached_at, Small, tip}
use Rattle.index.proofs.Ranges.{Fits, fits-is, is-fits}
use Rattle.index.proofs.Threes.{bytes_next, order-next, three-bytes}

-- The tests that the code makes of three numbers.
abbrev tested : List ℕ → ℕ → ℕ → ℕ → Bool
tested ns i number end =
    ltb number (get_or ns i 0) && (leb (get_or ns i 0) (number + 127) && (leb end (get_or ns (i + 1) 0) &&
    (leb (get_or ns (i + 1) 0) (end + 127) && (leb 7 (get_or ns (i + 2) 0) && leb (get_or ns (i + 2) 0) 82))))

pub tested_low : (ns : List ℕ) (i number end : ℕ) → tested ns i number end ≡ true
    → (get_or ns (i + 1) 0 ≤ end + 127) × (get_or ns (i + 2) 0 ≤ 82)
tested_low ns i number end t =
    let b = and_right (ltb number (get_or ns i 0)) _ t in
    let c = and_right (leb (get_or ns i 0) (number + 127)) _ b in
    let d = and_right (leb end (get_or ns (i + 1) 0)) _ c in
    let f = and_right (leb (get_or ns (i + 1) 0) (end + 127)) _ d in
    (leb-true _ _ (and_left _ _ d), leb-true _ _ (and_right (leb 7 (get_or ns (i + 2) 0)) _ f))

pub is-small : (ns : List ℕ) (i number end : ℕ) → i + 3 ≤ length ns → tested ns i number end ≡ true
    → leb (get_or ns i 0) most && leb (get_or ns (i + 1) 0 + get_or ns (i + 2) 0) most ≡ true → Small ns i number end
is-small ns i number end l t u =
    let b = and_right (ltb number (get_or ns i 0)) _ t in
    let c = and_right (leb (get_or ns i 0) (number + 127)) _ b in
    let d = and_right (leb end (get_or ns (i + 1) 0)) _ c in
    let f = and_right (leb (get_or ns (i + 1) 0) (end + 127)) _ d in
    let low = tested_low ns i number end t in
    record {
      inside = l;
      later = ltb-true _ _ (and_left _ _ t);
      gap = leb-true _ _ (and_left _ _ b);
      behind = leb-true _ _ (and_left _ _ c);
      skip = low.0;
      least = leb-true _ _ (and_left _ _ f);
      longest = low.1;
      numbered = leb-true _ _ (and_left _ _ u);
      ends = leb-true _ _ (and_right (leb (get_or ns i 0) most) _ u);
    }

-- An entry takes at most fifteen bytes.
pub entry-most : (before e : Entry) → length (entry_bytes before e) ≤ 15
unfolding entry_bytes
entry-most before e =
    omega (
      arith,
      length-append (sevens (e.number - before.number)) (sevens (e.offset - end_of before) ++ sevens e.length),
      length-append (sevens (e.offset - end_of before)) (sevens e.length),
      sevens-most (e.number - before.number),
      sevens-most (e.offset - end_of before),
      sevens-most e.length,
    )

pub planning-start : (ns : List ℕ) → Planning ns (reached_at 0 0 0 0)
planning-start ns =
    record {
      low = record { inside = omega arith; numbered = omega arith; ends = omega arith };
      order = refl;
      threes = ap (λ (n : ℕ). n % 3) (sym (sub-zero (length ns)));
      counts = omega arith;
      few = omega arith;
    }

-- The same count by another name.
pub planning-as : {ns : List ℕ} {i number end used more : ℕ} → used ≡ more → Planning ns (reached_at i number end used)
    → Planning ns (reached_at i number end more)
planning-as e x = rw e at x

and-false : (a : Bool) → a && false ≡ false
and-false true = refl
and-false false = refl

module _ {ns : List ℕ} {p : Reached} (x : Planning ns p) where
  three-next : {n : ℕ} → p.at + 3 ≤ length ns → fits (tip p.number p.end) (three_at ns p.at) ≡ true
      → n ≡ length (entry_bytes (tip p.number p.end) (three_at ns p.at))
      → Planning ns (reached_at (p.at + 3) (get_or ns p.at 0) (get_or ns (p.at + 1) 0 + get_or ns (p.at + 2) 0) (p.used + n))
  three-next {n} l f size =
      let fit = fits-is (tip p.number p.end) (three_at ns p.at) f in
      record {
        low = record { inside = l; numbered = fit.number; ends = fit.ends };
        order = x.order ∙ order-next ns p.at (tip p.number p.end) l ∙ rw f;
        threes = x.threes ∙ (omega arith);
        counts = omega (
          arith,
          x.counts,
          size,
          ap length (bytes_next ns p.at (tip p.number p.end) l),
          length-append (entry_bytes (tip p.number p.end) (three_at ns p.at))
              (bytes_from (tip (get_or ns p.at 0) (get_or ns (p.at + 1) 0 + get_or ns (p.at + 2) 0)) (entries_of (drop (p.at + 3) ns))),
        );
        few = omega (arith, x.few, size, entry-most (tip p.number p.end) (three_at ns p.at));
      }

  -- The entry at the place fits, and its bytes are counted.
  pub planning-next : {e : Entry} {n : ℕ} → p.at + 3 ≤ length ns → e ≡ three_at ns p.at → fits (tip p.number p.end) e ≡ true
      → n ≡ length (entry_bytes (tip p.number p.end) e) → Planning ns (reached_at (p.at + 3) e.number (end_of e) (p.used + n))
  planning-next l is f size = rw is (three-next l (rw is at f) (rw is at size))

  -- An entry that does not fit, numbers that are not threes, no room, and all of it.
  pub planned-unfit : {e : Entry} → p.at + 3 ≤ length ns → e ≡ three_at ns p.at → fits (tip p.number p.end) e ≡ false → (room : ℕ)
      → refused 5 0 0 ≡ written_index ns room
  unfolding written_index
  planned-unfit {e} l is f room =
      let none : in_order origin (entries_of ns) ≡ false = x.order ∙ order-next ns p.at (tip p.number p.end) l ∙
      rw (← is, f) in
      rw (none, and-false (eqb (length ns % 3) 0))

  pub planned-threes : length ns - p.at < 3 → (p.at ≡ length ns → ⊥) → (room : ℕ) → refused 5 0 0 ≡ written_index ns room
  unfolding written_index
  planned-threes l n room = rw (ne_eqb (length ns % 3) 0 (λ z. omega (arith, x.threes, z, n' n)))
    where
      n' : (p.at ≡ length ns → ⊥) → p.at < length ns
      n' k = omega (arith, k, x.low.inside)

  module _ (i-end : p.at ≡ length ns) where
    ended : drop p.at ns ≡ []
    ended = rw (i-end) (nothing ns)
      where
        nothing : (l : List ℕ) → drop (length l) l ≡ []
        nothing [] = refl
        nothing (a ∷ l) = nothing l

    good : are_entries ns ≡ true
    unfolding in_order entries_of
    good =
        let threes : eqb (length ns % 3) 0 ≡ true = eq-eqb (length ns % 3) 0 (omega (arith, x.threes, i-end)) in
        let none : in_order (tip p.number p.end) (entries_of (drop p.at ns)) ≡ true = rw ended in
        rw (threes, x.order, none)

    all : length (index_bytes (entries_of ns)) ≡ p.used
    unfolding bytes_from entries_of
    all =
        let none : length (bytes_left ns p) ≡ 0 = rw ended in
        omega (arith, x.counts, none)

    pub planned-full : (room : ℕ) → room < p.used → refused 8 0 0 ≡ written_index ns room
    unfolding written_index
    planned-full room h = rw (good, all, lt-ltb room p.used h)

    pub planned-all : (room : ℕ) → p.used ≤ room → wrote p.used ≡ written_index ns room
    unfolding written_index
    planned-all room h = rw (good, all, le-ltb room p.used h)

-- An entry of three bytes.
pub planning-small : {ns : List ℕ} {i number end used : ℕ} → Planning ns (reached_at i number end used) → Small ns i number end
    → Planning ns (reached_at (i + 3) (get_or ns i 0) (get_or ns (i + 1) 0 + get_or ns (i + 2) 0) (used + 3))
planning-small {ns} {i} {number} {end} x q =
    let fit : Fits (tip number end) (three_at ns i) = record {
      later = q.later;
      number = q.numbered;
      behind = omega (arith, q.behind);
      least = q.least;
      longest = q.longest;
      ends = q.ends;
    } in
    let bytes = three-bytes ns i number end (omega (arith, q.gap)) (omega (arith, q.skip)) (omega (arith, q.longest)) in
    planning-next x {e = three_at ns i} {n = 3} q.inside refl (is-fits (tip number end) (three_at ns i) fit) (ap length bytes)
