-- Going over an index: what is known so far, and what the rest reads as, give what the whole comes to.
use Prim.Native.Nat.{◌+◌, suc, ℕ}
use mathlib.Core.Path.{◌≡◌, ap, refl}
use mathlib.Core.Bool.{◌&&◌, Bool, false, true}
use mathlib.Core.List.{[], ◌∷◌, List}
use native.Mathlib.Omega.{arith}
use lib.Dec.{eqb}
use lib.ListN.{length}
use Rattle.index.specs.declared.Entry.{Entry}
use Rattle.index.specs.declared.reading.Found.{Found}
use Rattle.index.specs.declared.reading.Scanned.{Scanned}
use Rattle.index.specs.Index.{listed, Listing, no_index, onto, origin}
use Rattle.digits.specs.Pick.{pick}
use Rattle.index.specs.Answers.{best_of, find_in, finding, found_in, last_of}
use Rattle.index.specs.Places.{scan_of, scan_on}

counted : (n m : ℕ) (e : Entry) → n ≡ m → ◌≡◌ {A = Scanned} (record { whole = true; count = n; last = e })
    (record { whole = true; count = m; last = e })
counted n m e h = ap (λ (k : ℕ). record { whole = true; count = k; last = e }) h

pub scan-start : (x : Listing) → scan_of x ≡ scan_on 0 origin x
scan-start (listed es) = counted (length es) (0 + length es) (last_of origin es) (omega arith)
scan-start no_index = refl

pub scan-next : (count : ℕ) (last e : Entry) (x : Listing) → scan_on count last (onto e x) ≡ scan_on (count + 1) e x
unfolding last_of
scan-next count last e (listed es) = counted (count + suc (length es)) (count + 1 + length es) (last_of e es) (omega arith)
scan-next count last e no_index = refl

pub scan-end : (count : ℕ) (last : Entry) → record { whole = true; count = count; last = last } ≡ scan_on count last (listed [])
unfolding last_of
scan-end count last = counted count (count + 0) last (omega arith)

-- What was found so far, before what the rest comes to.
abbrev pub behind : Found → Found → Found
behind best x = pick (eqb x.no 11) x (pick (eqb best.no 12) x best)

-- Nothing found so far is the refusal.
pub record Kept (best : Found) : Type 0 where
  pub none : eqb best.no 12 ≡ true → best ≡ finding 12 0 0

pub find-start : (x : Found) → x ≡ behind (finding 12 0 0) x
find-start x = go (eqb x.no 11)
  where
    go : (t : Bool) → x ≡ pick t x x
    go true = refl
    go false = refl

pub kept-start : Kept (finding 12 0 0)
kept-start = record { none = λ t. refl }

pub find-end : (best : Found) → Kept best → (number : ℕ) → best ≡ behind best (found_in number (listed []))
unfolding find_in
find-end best k number = go (eqb best.no 12) refl
  where
    go : (t : Bool) → eqb best.no 12 ≡ t → best ≡ pick t (finding 12 0 0) best
    go true e = k.none e
    go false e = refl

found-no : (number : ℕ) (es : List Entry) → eqb (find_in number es).no 11 ≡ false
unfolding find_in
found-no number [] = refl
found-no number (e ∷ es) = go (found-no number es) (eqb e.number number)
  where
    go : eqb (find_in number es).no 11 ≡ false → (t : Bool) → eqb (pick t (finding 0 e.offset e.length) (find_in number es)).no 11 ≡
        false
    go rest true = refl
    go rest false = rest

module _ (best : Found) (number : ℕ) (e : Entry) where
  pub kept_next : Kept best → Kept (best_of best number e)
  kept_next k = go (eqb best.no 12 && eqb e.number number)
    where
      go : (t : Bool) → Kept (pick t (finding 0 e.offset e.length) best)
      go true = record { none = λ t. cc }
      go false = k

  pub find-next : (x : Listing) → behind best (found_in number (onto e x)) ≡ behind (best_of best number e) (found_in number x)
  unfolding find_in
  find-next no_index = refl
  find-next (listed es) = go (eqb e.number number) (eqb best.no 12) refl
    where
      here : Found
      here = finding 0 e.offset e.length

      go : (t b : Bool) → eqb best.no 12 ≡ b
          → behind best (pick t (finding 0 e.offset e.length) (find_in number es))
          ≡ behind (pick (b && t) (finding 0 e.offset e.length) best) (find_in number es)
      go true true f = rw (f, found-no number es)
      go true false f = rw (f, found-no number es)
      go false true f = refl
      go false false f = refl
