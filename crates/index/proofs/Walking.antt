-- Going over an index: what is known of the entries before a place, and what the rest reads as, give what the whole comes to.
use Prim.Native.Nat.{ℕ, ◌+◌, ◌≤◌}
use mathlib.Core.Path.{◌≡◌, sym, ap, ◌∙◌}
use mathlib.Core.Bool.{false}
use mathlib.Core.List.{List}
use native.Mathlib.Omega.{arith}
use lib.ListN.{length, drop}
use Rattle.digits.proofs.Bools.{true-false}
use Rattle.index.specs.declared.Entry.{Entry}
use Rattle.index.specs.declared.reading.Found.{Found}
use Rattle.index.specs.declared.reading.Scanned.{Scanned}
use Rattle.index.specs.declared.reading.Place.{Place}
use Rattle.index.specs.Index.{origin, no_index, read_from, read_index}
use Rattle.index.specs.Answers.{finding, best_of, found_in}
use Rattle.index.specs.Places.{whole_with, scan_of, scan_on, Walks, Starts, Passes}
use Rattle.index.proofs.Places.{Entered, entered-none}
use Rattle.index.proofs.Scanning.{scan-start, scan-next, scan-end, Kept, behind, kept-start, kept_next, find-start}
use Rattle.index.proofs.Scanning.{find-next, find-end}
use Rattle.index.proofs.Passing.{placed}

pub record Walking (s : List ℕ) (number : ℕ) (best : Found) (p : Place) : Type 0 where
  pub inside : p.at ≤ length s
  pub few : p.count ≤ p.at
  pub goes : scan_of (read_index s) ≡ scan_on p.count p.last (read_from p.last (drop p.at s))
  pub kept : Kept best
  pub finds : found_in number (read_index s) ≡ behind best (found_in number (read_from p.last (drop p.at s)))

pub walking_start : (s : List ℕ) (number : ℕ) → Walking s number (finding 12 0 0) (placed 0 0 origin)
walking_start s number =
    record {
      inside = omega arith;
      few = omega arith;
      goes = scan-start (read_index s);
      kept = kept-start;
      finds = find-start (found_in number (read_index s));
    }

module _ {s : List ℕ} {number : ℕ} {best : Found} {p : Place} (x : Walking s number best p) where
  -- One entry, and then others of which none is the one wanted.
  pub walking-next : {e : Entry} {a : ℕ} → Entered s p.at p.last e a
      → Walking s number (best_of best number e) (placed a (p.count + 1) e)
  walking-next {e} {a} t =
      let rest = read_from e (drop a s) in
      record {
        inside = t.inside;
        few = omega (arith, t.on, x.few);
        goes = x.goes ∙ ap (scan_on p.count p.last) t.reads ∙ scan-next p.count p.last e rest;
        kept = kept_next best number e x.kept;
        finds = x.finds ∙ ap (λ y. behind best (found_in number y)) t.reads ∙ find-next best number e rest;
      }

  pub walking_on : {q : Place} → Passes s number p q → Walking s number best q
  walking_on t =
      record {
        inside = t.inside;
        few = t.few;
        goes = x.goes ∙ t.counts;
        kept = x.kept;
        finds = x.finds ∙ ap (behind best) t.finds;
      }

  pub starts-next : {e : Entry} {a : ℕ} → Entered s p.at p.last e a → Starts (length s) (placed a (p.count + 1) e)
  starts-next t =
      record {
        low = record { inside = t.inside; numbered = t.fitting.number; ends = t.fitting.ends };
        few = omega (arith, t.on, x.few);
      }

  -- At the end, and where the rest is no index.
  pub walked_none : {r : Scanned} {b : Found} → r ≡ scan_of no_index → read_from p.last (drop p.at s) ≡ no_index → Walks s number r b
  walked_none {r} e f =
      let broken : r.whole ≡ false = ap (λ (y : Scanned). y.whole) e in
      record {
        goes = e ∙ sym (x.goes ∙ ap (scan_on p.count p.last) f);
        finds = λ t. absurd (true-false t broken);
      }

  pub walked_all : {r : Scanned} → r ≡ whole_with p.count p.last → length s ≤ p.at → Walks s number r best
  walked_all e h =
      let none = entered-none s p.at p.last h in
      record {
        goes = e ∙ scan-end p.count p.last ∙ sym (x.goes ∙ ap (scan_on p.count p.last) none);
        finds = λ t. find-end best x.kept number ∙ sym (x.finds ∙ ap (λ y. behind best (found_in number y)) none);
      }
