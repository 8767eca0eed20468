-- Going on over entries of three bytes: each is read as an entry that fits behind the one before it and is not the one wanted, so that what
-- the rest comes to is the same before it and behind it.
use Prim.Native.Nat.{◌+◌, ◌-◌, ◌≤◌, ℕ}
use mathlib.Core.Path.{◌∙◌, ◌≡◌, ap, refl}
use mathlib.Core.Bool.{◌&&◌, true}
use mathlib.Core.List.{List}
use native.Mathlib.Omega.{arith}
use lib.Dec.{leb, ltb}
use lib.ListN.{drop, get_or, length}
use borrow.Author.Tests.{leb-true, ltb-true, ne_eqb}
use Rattle.digits.proofs.Bools.{and_left, and_right}
use Rattle.index_sevens.specs.Sevens.{most}
use Rattle.index.specs.declared.Entry.{Entry}
use Rattle.index.specs.declared.reading.Place.{Place}
use Rattle.index.specs.Index.{end_of, entry_behind, listed, Listing, no_index, onto, read_from}
use Rattle.index.specs.Answers.{find_in, found_in}
use Rattle.index.specs.Places.{Near, Passes, Quick, scan_on}
use Rattle.index.proofs.Ranges.{Fits, is-fits}
use Rattle.index.proofs.Back.{same-entry}
use Rattle.index.proofs.Parts.{near-is}
use Rattle.index.proofs.Places.{by, Entered, entered}
use Rattle.index.proofs.Scanning.{scan-next}

-- The tests that the code makes of three bytes.
pub is-quick : (s : List ℕ) (at number end wanted : ℕ) → at + 3 ≤ length s
    → (ltb 0 (get_or s at 0) && (ltb (get_or s at 0) 128 &&
    (ltb (get_or s (at + 1) 0) 128 && (leb 7 (get_or s (at + 2) 0) && leb (get_or s (at + 2) 0) 82)))) ≡ true
    → (number + get_or s at 0 ≡ wanted → ⊥)
    → leb (number + get_or s at 0) most && leb (end + get_or s (at + 1) 0 + get_or s (at + 2) 0) most ≡ true → Quick s at number end wanted
is-quick s at number end wanted i t o u =
    let b = and_right (ltb 0 (get_or s at 0)) _ t in
    let c = and_right (ltb (get_or s at 0) 128) _ b in
    let d = and_right (ltb (get_or s (at + 1) 0) 128) _ c in
    record {
      inside = i;
      some = ltb-true _ _ (and_left _ _ t);
      first = ltb-true _ _ (and_left _ _ b);
      second = ltb-true _ _ (and_left _ _ c);
      least = leb-true _ _ (and_left _ _ d);
      longest = leb-true _ _ (and_right (leb 7 (get_or s (at + 2) 0)) _ d);
      other = o;
      numbered = leb-true _ _ (and_left _ _ u);
      ends = leb-true _ _ (and_right (leb (number + get_or s at 0) most) _ u);
    }

-- Three bytes that are an entry which fits.
pub quick-entered : (s : List ℕ) (at : ℕ) {number end wanted : ℕ} (last : Entry) → Quick s at number end wanted → last.number ≡ number
    → end_of last ≡ end → Entered s at last (entry_behind last (get_or s at 0) (get_or s (at + 1) 0) (get_or s (at + 2) 0)) (at + 3)
quick-entered s at last q n e =
    let near : Near s at = record { inside = q.inside; first = q.first; second = q.second; third = omega (arith, q.longest) } in
    let fit : Fits last (entry_behind last (get_or s at 0) (get_or s (at + 1) 0) (get_or s (at + 2) 0)) = record {
      later = omega (arith, q.some);
      number = omega (arith, q.numbered);
      behind = omega arith;
      least = q.least;
      longest = q.longest;
      ends = omega (arith, q.ends);
    } in
    entered s at last (near-is s at last near)
    (rw (is-fits last (entry_behind last (get_or s at 0) (get_or s (at + 1) 0) (get_or s (at + 2) 0)) fit))

-- An entry that is not the one wanted does not change what is found behind it.
find-other : (wanted : ℕ) (e : Entry) (x : Listing) → (e.number ≡ wanted → ⊥) → found_in wanted (onto e x) ≡ found_in wanted x
unfolding find_in
find-other wanted e (listed es) n = rw (ne_eqb e.number wanted n)
find-other wanted e no_index n = refl

abbrev pub placed : ℕ → ℕ → Entry → Place
placed at count last = record { at = at; count = count; last = last }

pub passes-start : (s : List ℕ) (wanted : ℕ) (p : Place) → p.at ≤ length s → p.count ≤ p.at → Passes s wanted p p
passes-start s wanted p i n = record { on = omega arith; inside = i; few = n; counts = refl; finds = refl }

passes-next : {s : List ℕ} {wanted : ℕ} {p : Place} {at count : ℕ} {last e : Entry} {b : ℕ} → Passes s wanted p (placed at count last)
    → Entered s at last e b → (e.number ≡ wanted → ⊥) → Passes s wanted p (placed b (count + 1) e)
passes-next {s} {wanted} {p} {at} {count} {last} {e} {b} x t n =
    record {
      on = omega (arith, x.on, t.on);
      inside = t.inside;
      few = omega (arith, x.few, t.on);
      counts = x.counts ∙ ap (scan_on count last) t.reads ∙ scan-next count last e (read_from e (drop b s));
      finds = x.finds ∙ ap (found_in wanted) t.reads ∙ find-other wanted e (read_from e (drop b s)) n;
    }

-- The last entry by its number, the end of its line and its length, as the loop holds it.
abbrev pub ending : ℕ → ℕ → ℕ → Entry
ending number end bytes = by number (end - bytes) bytes

pub passes-from : {s : List ℕ} {wanted : ℕ} {q : Place} (p : Place)
    → Passes s wanted (placed p.at p.count (ending p.last.number (end_of p.last) p.last.length)) q → Passes s wanted p q
passes-from p x =
    let is : ending p.last.number (end_of p.last) p.last.length ≡ p.last =
    same-entry (ending p.last.number (end_of p.last) p.last.length) p.last refl (omega arith) refl in
    rw is at x

pub pass-next : {s : List ℕ} {wanted : ℕ} {p : Place} {at count number end bytes : ℕ}
    → Passes s wanted p (placed at count (ending number end bytes)) → bytes ≤ end → Quick s at number end wanted
    → Passes s wanted p (placed (at + 3) (count + 1)
    (ending (number + get_or s at 0) (end + (get_or s (at + 1) 0 + get_or s (at + 2) 0)) (get_or s (at + 2) 0)))
pass-next {s} {wanted} {p} {at} {count} {number} {end} {bytes} x i q =
    let t = quick-entered s at (ending number end bytes) q refl (omega arith) in
    let is : entry_behind (ending number end bytes) (get_or s at 0) (get_or s (at + 1) 0) (get_or s (at + 2) 0)
    ≡ ending (number + get_or s at 0) (end + (get_or s (at + 1) 0 + get_or s (at + 2) 0)) (get_or s (at + 2) 0) =
    same-entry (entry_behind (ending number end bytes) (get_or s at 0) (get_or s (at + 1) 0) (get_or s (at + 2) 0))
    (ending (number + get_or s at 0) (end + (get_or s (at + 1) 0 + get_or s (at + 2) 0)) (get_or s (at + 2) 0)) refl (omega arith) refl in
    rw is at (passes-next x t q.other)
