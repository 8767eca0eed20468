-- What a line comes to, by cases as the code meets them.
use Prim.Native.Nat.{ℕ}
use mathlib.Core.Bool.{◌&&◌, Bool, false, true, true≢false}
use mathlib.Core.List.{[], List}
use mathlib.Core.Option as Math
use mathlib.Core.Option.{some}
use mathlib.Core.Path.{◌∙◌, ◌≡◌, ap, refl, subst, sym}
use lib.Dec.{eqb, leb}
use lib.ListN.{length}
use Rattle.std.specs.Prelude.{Err, None, Ok, Option, Result, Some}
use borrow.Author.Tests.{eqb-true}
use Rattle.digits.specs.Pick.{pick}
use Rattle.lines.specs.Reader.{next, stop}
use Rattle.address.specs.declared.Talker.{Talker}
use Rattle.kind_gsv.specs.declared.Entry.{Entry}
use Rattle.kind_gsv.specs.declared.Gsv.{Gsv}
use Rattle.sentence.specs.Lines.{read_line}
use Rattle.sentence.specs.Numbers.{kind_of}
use Rattle.sentence.specs.Sentence as S
use Rattle.sentence.specs.Sentence.{Sentence}
use Rattle.sky.specs.Group.{entries_at, entries_of, follows, gsv_rule, in_place, lines_for, repeats, rule, ruled, same_talker, Seen, seen}
use Rattle.sky.specs.Group.{used_of}
use Rattle.sky_read.specs.Steps.{Before, Checks, IsTaken, seen_of, Steps}
use Rattle.sky_read.specs.declared.Head.{Head}
use Rattle.sky_read.specs.declared.Stop.{Stop}
use Rattle.sky_read.specs.declared.Taken.{Taken}

abbrev taken_in : Result Taken Stop → Taken → Taken
taken_in (Ok t) u = t
taken_in (Err s) u = u

taken-same : {t u : Taken} → ◌≡◌ {A = Result Taken Stop} (Ok t) (Ok u) → t ≡ u
taken-same {t} {u} q = ap (λ (x : Result Taken Stop). taken_in x t) q

-- The entries of the line's own number are those of line k where it carries k.
pub in-place-is : (k : ℕ) (v : Gsv)
    → (eqb v.line k && (leb v.line v.lines && eqb v.count (entries_at v.satellites v.line))) ≡ in_place k v
unfolding in_place
in-place-is k v = go (eqb v.line k) refl
  where
    go : (b : Bool) → eqb v.line k ≡ b
        → (b && (leb v.line v.lines && eqb v.count (entries_at v.satellites v.line)))
        ≡ (b && (leb k v.lines && eqb v.count (entries_at v.satellites k)))
    go false e = refl
    go true e = ap (λ (n : ℕ). leb n v.lines && eqb v.count (entries_at v.satellites n)) (eqb-true v.line k e)

-- Whether a line follows does not depend on the entries before it.
pub follows-any : (h : Option Head) (es : List Entry) (k : ℕ) (t : Talker) (v : Gsv)
    → follows (seen_of h []) k t v ≡ follows (seen_of h es) k t v
unfolding follows
follows-any None es k t v = refl
follows-any (Some h) es k t v = refl

-- Line 1, and a later line.
pub follows-first : {h : Option Head} (k : ℕ) (t : Talker) (v : Gsv) → h ≡ None
    → (eqb v.lines (lines_for v.satellites) && in_place k v) ≡ follows (seen_of h []) k t v
unfolding follows
follows-first k t v e = rw e

pub follows-later : {h : Option Head} (f : Head) (k : ℕ) (t : Talker) (v : Gsv) → h ≡ Some f
    → (same_talker f.talker t && (eqb f.lines v.lines && (eqb f.satellites v.satellites && in_place k v)))
    ≡ follows (seen_of h []) k t v
unfolding follows
follows-later f k t v e = rw e

-- What the rule says of a line that was read, by the sentence.
module _ (q : Math.Option Seen) (k : ℕ) (l : List ℕ) where
  pub rule-refused : (n f : ℕ) → read_line l ≡ S.Refused n f → rule q k l ≡ stop n f
  unfolding rule
  rule-refused n f e = rw e

  pub rule-gsv : (t : Talker) (v : Gsv) → read_line l ≡ S.Gsv t v → rule q k l ≡ gsv_rule q k t v
  unfolding rule
  rule-gsv t v e = rw e

  other-six : (s : Sentence) → (kind_of s ≡ 0 → ⊥) → (kind_of s ≡ 4 → ⊥) → ruled q k s ≡ stop 6 0
  other-six (S.Refused n f) a b = absurd (a refl)
  other-six (S.Gsv t r) a b = absurd (b refl)
  other-six (S.Gga t r) a b = refl
  other-six (S.Gll t r) a b = refl
  other-six (S.Gsa t r) a b = refl
  other-six (S.Rmc t r) a b = refl
  other-six (S.Vtg t r) a b = refl
  other-six (S.Zda t r) a b = refl
  other-six (S.Pr r) a b = refl
  other-six (S.Tr r) a b = refl
  other-six (S.Sr r) a b = refl
  other-six S.Er a b = refl
  other-six (S.Pa r) a b = refl
  other-six (S.Ta r) a b = refl
  other-six (S.Sa r) a b = refl
  other-six (S.Ea r) a b = refl

  -- Any other kind.
  pub rule-other : (kind_of (read_line l) ≡ 0 → ⊥) → (kind_of (read_line l) ≡ 4 → ⊥) → rule q k l ≡ stop 6 0
  unfolding rule
  rule-other = other-six (read_line l)

-- A line that ends the group.
abbrev is_taken : Result Taken Stop → Bool
is_taken (Ok t) = true
is_taken (Err s) = false

module _ (h : Option Head) (k : ℕ) (l before left : List ℕ) (kept : length left ≡ length before) where
  pub steps-stop : (s : Stop) → ((es : List Entry) → Before h es before → rule (seen_of h es) k l ≡ stop s.no s.field)
      → Steps h k l before (Err s) left
  steps-stop s u = record {
    kept = kept;
    ruled = λ es b. sym (u es b);
    taken = λ es b t q. absurd (true≢false (sym (ap is_taken q)));
  }

  module _ (t : Talker) (v : Gsv) (s : read_line l ≡ S.Gsv t v) where
    -- Whether it follows, and the answer of the marks, decide.
    module _ (f answer : Bool) (i : f ≡ follows (seen_of h []) k t v) (c : Checks v before answer left) where
      decided : (es : List Entry) → Before h es before
          → rule (seen_of h es) k l ≡ pick f (pick answer (stop 7 0) (next (some (seen (seen_of h es) t v)))) (stop 6 0)
      unfolding gsv_rule
      decided es b =
          rule-gsv (seen_of h es) k l t v s
          ∙ ap (λ (x : Bool). pick x (pick (repeats (entries_of (seen_of h es)) (used_of v)) (stop 7 0)
          (next (some (seen (seen_of h es) t v)))) (stop 6 0)) (sym (i ∙ follows-any h es k t v))
          ∙ ap (λ (l : List Entry). pick f (pick (repeats l (used_of v)) (stop 7 0) (next (some (seen (seen_of h es) t v)))) (stop 6 0))
          b.0
          ∙ ap (λ (x : Bool). pick f (pick x (stop 7 0) (next (some (seen (seen_of h es) t v)))) (stop 6 0)) (sym (c.finds es b.1))

      -- It does not go with the lines before it.
      pub steps-six : f ≡ false → Steps h k l before (Err (record { no = 6; field = 0 })) left
      steps-six p = steps-stop (record { no = 6; field = 0 }) (λ es b. decided es b ∙ rw p)

      -- It repeats a satellite.
      pub steps-seven : f ≡ true → answer ≡ true → Steps h k l before (Err (record { no = 7; field = 0 })) left
      steps-seven p q = steps-stop (record { no = 7; field = 0 }) (λ es b. decided es b ∙ rw (p, q))

      -- It is taken.
      pub steps-taken : f ≡ true → answer ≡ false → Steps h k l before (Ok (record { talker = t; gsv = v })) left
      steps-taken p q = record {
        kept = kept;
        ruled = λ es b. sym (decided es b ∙ rw (p, q));
        taken = λ es b u z. subst (λ (x : Taken). IsTaken h k l x es left) (taken-same z) (record {
          read = s;
          fits = sym (i ∙ follows-any h es k t v) ∙ p;
          marks = c.marks es b.1;
        });
      }
