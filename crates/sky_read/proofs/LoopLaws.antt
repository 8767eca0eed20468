-- The loop of the group reader: what was read so far, as the definition has it, and as the table, the marks and the head hold it. A line
-- that ends the group ends both; a line that is taken goes on in both.
use Prim.Native.Nat.{◌*◌, ◌+◌, ◌-◌, ◌<◌, ◌≤◌, suc, ℕ}
use mathlib.Core.Bool.{Bool, cond, false, true}
use mathlib.Core.List.{[], ◌++◌, ◌∷◌, List}
use mathlib.Core.Option.{none, some}
use mathlib.Core.Path.{◌∙◌, ◌≡◌, ap, refl, subst, sym}
use native.Mathlib.Omega.{arith}
use lib.Dec.{eqb}
use Rattle.std.specs.Prelude.{Err, None, Ok, Option, Result, Some}
use lib.ListN.{drop, length, length-append, length-drop, replicate, take}
use borrow.Author.Tests.{eqb-true}
use Rattle.digits.specs.Pick.{pick}
use Rattle.line.specs.Line.{line_refusal}
use Rattle.line.proofs.Laws.{line-short}
use Rattle.lines.specs.Cut.{cut_rest, line_width}
use Rattle.lines.specs.Reader.{next, read_from, stop}
use Rattle.lines.proofs.ReadOn.{read-end, read_next, read_none, read-start, read-stop}
use Rattle.kind_gsv.specs.Blank.{blank_entry}
use Rattle.kind_gsv.specs.declared.Entry.{Entry}
use Rattle.sky.specs.Group as Group
use Rattle.sky.specs.Group.{ended, entries_of, group_of, refused, rule, used_of, whole}
use Rattle.sky.specs.Sky.{refused_sky, sky_of}
use Rattle.sky.proofs.Damage.{line_first}
use Rattle.sky.proofs.MarkLaws.{marks-none}
use Rattle.sky.proofs.Numbers.{room}
use Rattle.sky_read.specs.Steps.{Before, IsTaken, seen_of, sky_end, Sound, step_of, Steps}
use Rattle.sky_read.specs.declared.Head.{Head}
use Rattle.sky_read.specs.declared.Stop.{Stop}
use Rattle.sky_read.specs.declared.Taken.{Taken}
use Rattle.sky_read.proofs.Placing.{padded, placed, used-length}
use Rattle.sky_read.proofs.Sizes.{Begun, follows-sized, head_of, Size, Sized}
use Rattle.sky_read.proofs.SoundLaws.{sound}

pub record Going (s : List ℕ) (entries : List Entry) (seen : List ℕ) (head : Option Head) (at k : ℕ) : Type 0 where
  pub es : List Entry
  pub reads : group_of s ≡ read_from refused rule ended (seen_of head es) k (cut_rest (drop at s))
  pub places : entries ≡ padded es
  pub before : Before head es seen
  pub long : length seen ≡ 100
  pub size : Size head k (length es)

-- Where a line ends: past its start and within the bytes.
width-most : (s : List ℕ) → line_width s ≤ length s
unfolding line_width
width-most [] = omega arith
width-most (b ∷ s) = go (eqb b 10) (width-most s)
  where
    go : (t : Bool) → line_width s ≤ length s → cond t 1 (suc (line_width s)) ≤ suc (length s)
    go true h = omega arith
    go false h = omega (arith, h)

width_some : (s : List ℕ) → 0 < length s → 1 ≤ line_width s
unfolding line_width
width_some [] h = h
width_some (b ∷ s) h = go (eqb b 10)
  where
    go : (t : Bool) → 1 ≤ cond t 1 (suc (line_width s))
    go true = omega arith
    go false = omega arith

module _ (s : List ℕ) (at e : ℕ) (h : at < length s) (p : e ≡ at + line_width (drop at s)) where
  pub line-inside : e ≤ length s
  line-inside = omega (arith, h, p, width-most (drop at s), length-drop at s)

  pub goes-forward : length s - e < length s - at
  goes-forward = omega (arith, h, p, width_some (drop at s) (omega (arith, h, length-drop at s)), length-drop at s)

pub some_bytes : (s : List ℕ) → (length s ≡ 0 → ⊥) → 0 < length s
some_bytes s h = omega (arith, h)

-- No bytes are one empty line, which fails the line rule.
pub no_bytes : (s : List ℕ) → length s ≡ 0 → refused_sky 1 1 0 ≡ sky_of (group_of s)
unfolding group_of
no_bytes s h =
    let one : line_refusal [] ≡ 1 = line-short [] (omega arith) in
    let first : rule none 1 [] ≡ stop 1 0 = line_first none 1 [] (λ z. omega (arith, one, z)) ∙ ap (λ (n : ℕ). stop n 0) one in
    ap sky_of (sym (read_none refused rule ended s none h 1 0 first))

pub begins : (s : List ℕ) (e : Entry) → 0 < length s → e ≡ blank_entry → Going s (replicate 36 e) (replicate 100 0) None 0 1
unfolding group_of
begins s e l p = record {
  es = [];
  reads = read-start refused rule ended s none l;
  places = ap (λ (x : Entry). replicate 36 x) p;
  before = (refl, marks-none);
  long = refl;
  size = (refl, refl);
}

module _ (s : List ℕ) (entries : List Entry) (seen : List ℕ) (head : Option Head) (at k : ℕ) (g : Going s entries seen head at k) where
  module _ (e : ℕ) (h : at < length s) (p : e ≡ at + line_width (drop at s)) (r : Result Taken Stop) (left : List ℕ)
      (st : Steps head k (take (e - at) (drop at s)) seen r left) where
    line : List ℕ
    line = take (e - at) (drop at s)

    -- A line that ends the group.
    pub stops : (z : Stop) → r ≡ Err z → refused_sky z.no k z.field ≡ sky_of (group_of s)
    stops z q =
        let i : stop z.no z.field ≡ rule (seen_of head g.es) k (take (e - at) (drop at s)) =
        sym (ap (λ (x : Result Taken Stop). step_of x (seen_of head g.es)) q) ∙ st.ruled g.es g.before in
        ap sky_of (sym (g.reads ∙ read-stop refused rule ended s (seen_of head g.es) at k e h p (stop z.no z.field) i z.no z.field refl))

    module _ (t : Taken) (q : r ≡ Ok t) where
      is-taken : IsTaken head k (take (e - at) (drop at s)) t g.es left
      is-taken = st.taken g.es g.before t q

      is-sound : Sound t.gsv
      is-sound = sound (take (e - at) (drop at s)) t.talker t.gsv is-taken.read

      pub sized : Sized k (length g.es) t.talker t.gsv
      sized = follows-sized k (length g.es) t.talker t.gsv is-sound head g.es is-taken.fits g.size

      reads_on : group_of s ≡ read_from refused rule ended
          (seen_of (Some (head_of t.talker t.gsv)) (entries_of (seen_of head g.es) ++ used_of t.gsv)) (k + 1) (cut_rest (drop e s))
      reads_on =
          let i = sym (ap (λ (x : Result Taken Stop). step_of x (seen_of head g.es)) q) ∙ st.ruled g.es g.before in
          let seen = Group.seen (seen_of head g.es) t.talker t.gsv in
          g.reads ∙ read_next refused rule ended s (seen_of head g.es) at k e h p (next (some seen)) i (some seen) refl

      -- A line that is taken.
      pub goes_on : (stored : List Entry)
          → stored ≡ take (4 * (k - 1)) entries ++ (t.gsv.entries ++ drop (4 * (k - 1) + 4) entries)
          → Going s stored left (Some (head_of t.talker t.gsv)) e (k + 1)
      goes_on stored b = record {
        es = g.es ++ used_of t.gsv;
        reads = reads_on ∙ ap (λ (l : List Entry). read_from refused rule ended
            (seen_of (Some (head_of t.talker t.gsv)) (l ++ used_of t.gsv)) (k + 1) (cut_rest (drop e s))) g.before.0;
        places = b ∙ placed t.gsv is-sound g.es (4 * (k - 1)) sized.behind (omega (arith, sized.to-nine)) entries g.places;
        before = (refl, is-taken.marks);
        long = st.kept ∙ g.long;
        size = subst (λ (n : ℕ). Begun (head_of t.talker t.gsv) (k + 1) n) (sym length-used) sized.after;
      }
        where
          length-used : length (g.es ++ used_of t.gsv) ≡ length g.es + t.gsv.count
          length-used = length-append g.es (used_of t.gsv)
              ∙ ap (λ (n : ℕ). length g.es + n)
              (used-length t.gsv is-sound g.es (4 * (k - 1)) sized.behind (omega (arith, sized.to-nine)))

  -- The lines end, as they must or too soon.
  end_by : (h : Head) → Begun h k (length g.es) → (b : Bool) → eqb (h.lines + 1) k ≡ b
      → pick b (record { no = 0; line = 0; field = 0; talker = Some h.talker; table = record { count = h.satellites; entries = entries } })
      (refused_sky 6 k 0) ≡ sky_of (pick b (whole h.talker g.es) (refused 6 k 0))
  end_by h z false q = refl
  end_by h z true q =
      let last = eqb-true (h.lines + 1) k q in
      let all : h.satellites ≡ length g.es = omega (arith, last, z.least, z.announced, room h.satellites) in
      rw (all, g.places)

  end_is : (x : Option Head) → Size x k (length g.es) → sky_end x k entries ≡ sky_of (ended (seen_of x g.es) k)
  unfolding ended
  end_is None z = refl
  end_is (Some h) z = end_by h z (eqb (h.lines + 1) k) refl

  pub ends : length s ≤ at → sky_end head k entries ≡ sky_of (group_of s)
  ends h = end_is head g.size ∙ ap sky_of (sym (g.reads ∙ read-end refused rule ended s (seen_of head g.es) at k h))
