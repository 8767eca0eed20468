-- What a whole answer says of a line: it is a GSV sentence, it is in its place, it repeats no number, and the answer is that of the lines
-- behind it. Of line 1 that fixes talker, number of lines and of satellites, and each later line repeats them, so that from line 1 on only
-- the entries that were seen grow.
use Prim.Native.Nat.{◌+◌, ◌≤◌, suc, zero, ℕ}
use mathlib.Core.Bool.{Bool, false, true}
use mathlib.Core.List.{[], ◌++◌, ◌∷◌, List}
use mathlib.Core.Option.{none, Option, some}
use mathlib.Core.Path.{◌∙◌, ◌≡◌, ap, refl, subst, sym}
use native.Mathlib.Omega.{arith}
use lib.Dec.{eqb, leb}
use borrow.Author.Tests.{eqb-true, leb-true}
use Rattle.digits.specs.Pick.{pick}
use Rattle.digits.proofs.Bools.{and_left, and_right}
use Rattle.lines.specs.Reader.{next, onward, read_from, Step, stop}
use Rattle.address.specs.declared.Talker.{Talker}
use Rattle.address.specs.declared.Talker.TheVariants.{Ga, Gl, Gn, Gp, Gq}
use Rattle.kind_gsv.specs.declared.Entry.{Entry}
use Rattle.kind_gsv.specs.declared.Gsv.{Gsv}
use Rattle.sentence.specs.Lines.{read_line}
use Rattle.sentence.specs.Sentence as S
use Rattle.sentence.specs.Sentence.{Sentence}
use Rattle.sky.specs.Group.{Answer, ended, entries_at, entries_of, follows, gsv_rule, in_place, lines_for, refused, repeats, rule, ruled}
use Rattle.sky.specs.Group.{same_talker, Seen, seen, talker_no, used_of, whole}

-- What the group's reader answers from a state and line k on; and that it goes on behind a line that it took.
abbrev pub answer_from : Option Seen → ℕ → List (List ℕ) → Answer
answer_from q k ls = read_from refused rule ended q k ls

pub read-on : (q : Option Seen) (k : ℕ) (l : List ℕ) (ls : List (List ℕ)) (s : Seen) → rule q k l ≡ next (some s)
    → answer_from q k (l ∷ ls) ≡ answer_from (some s) (k + 1) ls
unfolding read_from
read-on q k l ls s e = ap (λ (x : Step (Option Seen)). onward refused x k (λ (r : Option Seen). answer_from r (k + 1) ls)) e

pub no_whole : (n k f : ℕ) (t : Talker) (es : List Entry) → refused n k f ≡ whole t es → ⊥
no_whole n k f t es e = let z : ◌≡◌ {A = ℕ} 0 1 = cc in omega arith

-- A line that was taken on the way to a whole answer.
pub record Took (t : Talker) (es : List Entry) (q : Option Seen) (k : ℕ) (l : List ℕ) (ls : List (List ℕ)) : Type 0 where
  pub talker : Talker
  pub gsv : Gsv
  pub reads : read_line l ≡ S.Gsv talker gsv
  pub right : follows q k talker gsv ≡ true
  pub fresh : repeats (entries_of q) (used_of gsv) ≡ false
  pub rest : answer_from (some (seen q talker gsv)) (k + 1) ls ≡ whole t es

module _ (t : Talker) (es : List Entry) (q : Option Seen) (k : ℕ) (l : List ℕ) (ls : List (List ℕ)) where
  -- The answer after a step is whole.
  abbrev Leads : Step (Option Seen) → Type 0
  Leads x = onward refused x k (λ (r : Option Seen). answer_from r (k + 1) ls) ≡ whole t es

  took-gsv : (u : Talker) (v : Gsv) → read_line l ≡ S.Gsv u v → Leads (gsv_rule q k u v) → Took t es q k l ls
  unfolding gsv_rule
  took-gsv u v p = go (follows q k u v) (repeats (entries_of q) (used_of v)) refl refl
    where
      go : (a b : Bool) → follows q k u v ≡ a → repeats (entries_of q) (used_of v) ≡ b
          → Leads (pick a (pick b (stop 7 0) (next (some (seen q u v)))) (stop 6 0)) → Took t es q k l ls
      go true true f g i = absurd (no_whole 7 k 0 t es i)
      go true false f g i = record { talker = u; gsv = v; reads = p; right = f; fresh = g; rest = i }
      go false b f g i = absurd (no_whole 6 k 0 t es i)

  pub took : answer_from q k (l ∷ ls) ≡ whole t es → Took t es q k l ls
  unfolding read_from rule
  took = go (read_line l) refl
    where
      go : (x : Sentence) → read_line l ≡ x → Leads (ruled q k x) → Took t es q k l ls
      go (S.Gsv u v) p i = took-gsv u v p i
      go (S.Refused n f) p i = absurd (no_whole n k f t es i)
      go (S.Gga u r) p i = absurd (no_whole 6 k 0 t es i)
      go (S.Gll u r) p i = absurd (no_whole 6 k 0 t es i)
      go (S.Gsa u r) p i = absurd (no_whole 6 k 0 t es i)
      go (S.Rmc u r) p i = absurd (no_whole 6 k 0 t es i)
      go (S.Vtg u r) p i = absurd (no_whole 6 k 0 t es i)
      go (S.Zda u r) p i = absurd (no_whole 6 k 0 t es i)
      go (S.Pr r) p i = absurd (no_whole 6 k 0 t es i)
      go (S.Tr r) p i = absurd (no_whole 6 k 0 t es i)
      go (S.Sr r) p i = absurd (no_whole 6 k 0 t es i)
      go S.Er p i = absurd (no_whole 6 k 0 t es i)
      go (S.Pa r) p i = absurd (no_whole 6 k 0 t es i)
      go (S.Ta r) p i = absurd (no_whole 6 k 0 t es i)
      go (S.Sa r) p i = absurd (no_whole 6 k 0 t es i)
      go (S.Ea r) p i = absurd (no_whole 6 k 0 t es i)

  -- And so the reader goes on.
  pub took-next : (x : Took t es q k l ls) → rule q k l ≡ next (some (seen q x.talker x.gsv))
  unfolding rule gsv_rule
  took-next x = ap (ruled q k) x.reads ∙ rw (x.right, x.fresh)

-- Talkers with one number are one.
abbrev of_no : ℕ → Talker
of_no zero = Gp
of_no (suc zero) = Gl
of_no (suc (suc zero)) = Ga
of_no (suc (suc (suc zero))) = Gq
of_no (suc (suc (suc (suc n)))) = Gn

of-no : (t : Talker) → of_no (talker_no t) ≡ t
of-no Gp = refl
of-no Gl = refl
of-no Ga = refl
of-no Gq = refl
of-no Gn = refl

talkers-same : (t u : Talker) → same_talker t u ≡ true → t ≡ u
unfolding same_talker
talkers-same t u e = sym (of-no t) ∙ ap of_no (eqb-true (talker_no t) (talker_no u) e) ∙ of-no u

-- Line k of n satellites of a talker, behind some entries.
pub record Line (t : Talker) (n k : ℕ) (before : List Entry) (l : List ℕ) : Type 0 where
  pub gsv : Gsv
  pub reads : read_line l ≡ S.Gsv t gsv
  pub lines : gsv.lines ≡ lines_for n
  pub line : gsv.line ≡ k
  pub satellites : gsv.satellites ≡ n
  pub count : gsv.count ≡ entries_at n k
  pub no-later : k ≤ lines_for n
  pub fresh : repeats before (used_of gsv) ≡ false

-- What was seen then.
abbrev pub seen_so : Talker → ℕ → List Entry → Option Seen
seen_so u n before = some (record { talker = u; lines = lines_for n; satellites = n; entries = before })

-- A line that was taken, and the answer of the lines behind it.
pub record Next (t : Talker) (es : List Entry) (u : Talker) (n k : ℕ) (before : List Entry) (l : List ℕ) (ls : List (List ℕ)) : Type 0 where
  pub taken : Line u n k before l
  pub rest : answer_from (seen_so u n (before ++ used_of taken.gsv)) (k + 1) ls ≡ whole t es

module _ (k : ℕ) (v : Gsv) (h : in_place k v ≡ true) where
  place-line : v.line ≡ k
  unfolding in_place
  place-line = eqb-true v.line k (and_left _ _ h)

  pub place-to : k ≤ v.lines
  unfolding in_place
  place-to = leb-true k v.lines (and_left _ _ (and_right (eqb v.line k) _ h))

  place-count : v.count ≡ entries_at v.satellites k
  unfolding in_place
  place-count = eqb-true v.count _ (and_right (leb k v.lines) _ (and_right (eqb v.line k) _ h))

module _ (t : Talker) (es : List Entry) (l : List ℕ) (ls : List (List ℕ)) where
  -- What was seen by what the line itself says.
  abbrev said : Talker → Gsv → List Entry → Option Seen
  said u v before = some (record { talker = u; lines = v.lines; satellites = v.satellites; entries = before })

  made : (u : Talker) (v : Gsv) (n k : ℕ) (before : List Entry) → read_line l ≡ S.Gsv u v → v.lines ≡ lines_for n → v.satellites ≡ n
      → in_place k v ≡ true
      → repeats before (used_of v) ≡ false → answer_from (said u v (before ++ used_of v)) (k + 1) ls ≡ whole t es
      → Next t es u n k before l ls
  made u v n k before r a b h f e =
      record {
        taken = record {
          gsv = v;
          reads = r;
          lines = a;
          line = place-line k v h;
          satellites = b;
          count = place-count k v h ∙ ap (λ (m : ℕ). entries_at m k) b;
          no-later = subst (λ (m : ℕ). k ≤ m) a (place-to k v h);
          fresh = f;
        };
        rest = rw (a, b) at e;
      }

  pub first-line : answer_from none 1 (l ∷ ls) ≡ whole t es → (u : Talker) × (n : ℕ) × Next t es u n 1 [] l ls
  unfolding follows
  first-line e =
      let x = took t es none 1 l ls e in
      let v = x.gsv in
      let a = eqb-true v.lines (lines_for v.satellites) (and_left _ _ x.right) in
      let h = and_right (eqb v.lines (lines_for v.satellites)) _ x.right in
      (x.talker, v.satellites, made x.talker v v.satellites 1 [] x.reads a refl h x.fresh x.rest)

  pub next-line : (u : Talker) (n k : ℕ) (before : List Entry) → answer_from (seen_so u n before) k (l ∷ ls) ≡ whole t es
      → Next t es u n k before l ls
  unfolding follows
  next-line u n k before e =
      let x = took t es (seen_so u n before) k l ls e in
      let v = x.gsv in
      let f = and_right (same_talker u x.talker) _ x.right in
      let g = and_right (eqb (lines_for n) v.lines) _ f in
      let w = sym (talkers-same u x.talker (and_left _ _ x.right)) in
      made u v n k before (x.reads ∙ ap (λ (y : Talker). S.Gsv y v) w) (sym (eqb-true (lines_for n) v.lines (and_left _ _ f)))
      (sym (eqb-true n v.satellites (and_left _ _ g))) (and_right (eqb n v.satellites) _ g) x.fresh
      (subst (λ (y : Talker). answer_from (said y v (before ++ used_of v)) (k + 1) ls ≡ whole t es) w x.rest)
