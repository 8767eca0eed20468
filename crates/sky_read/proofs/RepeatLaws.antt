-- A line of up to four entries is four marks, one after another, of which as many are used as the line has entries.
use Prim.Native.Nat.{◌≤◌, suc, zero, ℕ}
use mathlib.Core.Bool.{◌&&◌, ◌||◌, Bool, false, true}
use mathlib.Core.List.{[], ◌++◌, ◌∷◌, append_assoc, List}
use mathlib.Core.Path.{◌∙◌, ◌≡◌, ap, refl, subst, sym}
use native.Mathlib.Omega.{arith}
use lib.Dec.{ltb}
use lib.ListN.{get_or, length, length-set, take}
use Rattle.form.proofs.Lists.{all-four}
use Rattle.kind_gsv.specs.Blank.{blank_entry}
use Rattle.kind_gsv.specs.declared.Entry.{Entry}
use Rattle.kind_gsv.specs.declared.Gsv.{Gsv}
use Rattle.sky.specs.Group.{numbered, repeats, used_of}
use Rattle.sky.specs.Marks.{had_if, HasMark, marked_if, Marks}
use Rattle.sky.proofs.MarkLaws.{if_used, One, one-mark}
use Rattle.sky_read.specs.Steps.{Checks, Sound}

or-none : (a : Bool) → (a || false) ≡ a
or-none true = refl
or-none false = refl

-- Four steps, of which as many are used as the line has entries.
module _ (v : Gsv) (four : length v.entries ≡ 4) (few : v.count ≤ 4) where
  abbrev used : ℕ → Bool
  used j = ltb j v.count

  abbrev entry : ℕ → Entry
  entry j = get_or v.entries j blank_entry

  abbrev part : ℕ → List Entry
  part j = if_used (used j) (entry j)

  parts : (c : ℕ) → c ≤ 4 → (a b d e : Entry)
      → if_used (ltb 0 c) a ++ (if_used (ltb 1 c) b ++ (if_used (ltb 2 c) d ++ if_used (ltb 3 c) e)) ≡ take c (a ∷ b ∷ d ∷ e ∷ [])
  parts zero h a b d e = refl
  parts (suc zero) h a b d e = refl
  parts (suc (suc zero)) h a b d e = refl
  parts (suc (suc (suc zero))) h a b d e = refl
  parts (suc (suc (suc (suc zero)))) h a b d e = refl
  parts (suc (suc (suc (suc (suc c))))) h a b d e = let z : ⊥ = omega arith in absurd z

  entries-four : entry 0 ∷ entry 1 ∷ entry 2 ∷ entry 3 ∷ [] ≡ v.entries
  entries-four = all-four blank_entry v.entries four

  used-parts : part 0 ++ (part 1 ++ (part 2 ++ part 3)) ≡ used_of v
  used-parts = parts v.count few (entry 0) (entry 1) (entry 2) (entry 3) ∙ ap (take v.count) entries-four

  module _ (es : List Entry) where
    tests : (c : ℕ) → c ≤ 4 → (a b d e : Entry)
        → ((ltb 0 c && numbered a.number es)
        || ((ltb 1 c && numbered b.number (es ++ if_used (ltb 0 c) a))
        || ((ltb 2 c && numbered d.number (es ++ if_used (ltb 0 c) a ++ if_used (ltb 1 c) b))
        || (ltb 3 c && numbered e.number (es ++ if_used (ltb 0 c) a ++ if_used (ltb 1 c) b ++ if_used (ltb 2 c) d)))))
        ≡ repeats es (take c (a ∷ b ∷ d ∷ e ∷ []))
    unfolding repeats
    tests zero h a b d e = refl
    tests (suc zero) h a b d e = refl
    tests (suc (suc zero)) h a b d e = refl
    tests (suc (suc (suc zero))) h a b d e = refl
    tests (suc (suc (suc (suc zero)))) h a b d e = ap (λ (x : Bool). numbered a.number es ||
        (numbered b.number (es ++ (a ∷ [])) || (numbered d.number (es ++ (a ∷ []) ++ (b ∷ [])) || x)))
        (sym (or-none (numbered e.number (es ++ (a ∷ []) ++ (b ∷ []) ++ (d ∷ [])))))
    tests (suc (suc (suc (suc (suc c))))) h a b d e = let z : ⊥ = omega arith in absurd z

    all-tests : ((used 0 && numbered (entry 0).number es)
        || ((used 1 && numbered (entry 1).number (es ++ part 0))
        || ((used 2 && numbered (entry 2).number (es ++ part 0 ++ part 1))
        || (used 3 && numbered (entry 3).number (es ++ part 0 ++ part 1 ++ part 2)))))
        ≡ repeats es (used_of v)
    all-tests = tests v.count few (entry 0) (entry 1) (entry 2) (entry 3)
        ∙ ap (λ (l : List Entry). repeats es (take v.count l)) entries-four

    all-parts : es ++ part 0 ++ part 1 ++ part 2 ++ part 3 ≡ es ++ used_of v
    all-parts =
        append_assoc (es ++ part 0 ++ part 1) (part 2) (part 3)
        ∙ append_assoc (es ++ part 0) (part 1) (part 2 ++ part 3)
        ∙ append_assoc es (part 0) (part 1 ++ (part 2 ++ part 3))
        ∙ ap (λ (l : List Entry). es ++ l) used-parts

kept-one : (used : Bool) (n : ℕ) (seen : List ℕ) → length (marked_if used n seen) ≡ length seen
kept-one true n seen = length-set seen n 1
kept-one false n seen = refl

-- What marking an entry answers and leaves.
abbrev pub Marked : Bool → ℕ → List ℕ → Bool → List ℕ → Type 0
Marked used n seen answer left = (answer ≡ had_if used n seen) × (left ≡ marked_if used n seen)

marked-length : (used : Bool) (n : ℕ) (seen : List ℕ) (b : Bool) (left : List ℕ) → Marked used n seen b left → length left ≡ length seen
marked-length used n seen b left m = ap length m.1 ∙ kept-one used n seen

four-or : {a b c d e f g h : Bool} → a ≡ e → b ≡ f → c ≡ g → d ≡ h → (a || (b || (c || d))) ≡ (e || (f || (g || h)))
four-or {a} {b} {c} {d} p q r s = rw (p, q, r, s)

module _ (v : Gsv) (sound : Sound v) where
  pub has-mark : (j : ℕ) (seen : List ℕ) → length seen ≡ 100 → HasMark (ltb j v.count) (get_or v.entries j blank_entry).number seen
  has-mark j seen h u = omega (arith, sound.numbers j u, h)

  pub long : (j : ℕ) (seen : List ℕ) (b : Bool) (left : List ℕ)
      → Marked (ltb j v.count) (get_or v.entries j blank_entry).number seen b left
      → length seen ≡ 100 → length left ≡ 100
  long j seen b left m h = marked-length (ltb j v.count) (get_or v.entries j blank_entry).number seen b left m ∙ h

  marked-one : (j : ℕ) (es : List Entry) (seen : List ℕ) (b : Bool) (left : List ℕ) → length seen ≡ 100 → Marks es seen
      → Marked (ltb j v.count) (get_or v.entries j blank_entry).number seen b left
      → One (ltb j v.count) (get_or v.entries j blank_entry) es b left
  marked-one j es seen b left h m q =
      let e = get_or v.entries j blank_entry in
      let one = one-mark (ltb j v.count) e es seen m (has-mark j seen h) in
      record {
        finds = q.0 ∙ one.finds;
        marks = subst (λ (l : List ℕ). Marks (es ++ if_used (ltb j v.count) e) l) (sym q.1) one.marks;
      }

  module _ (s0 s1 s2 s3 s4 : List ℕ) (b0 b1 b2 b3 : Bool) (h : length s0 ≡ 100)
      (m0 : Marked (ltb 0 v.count) (get_or v.entries 0 blank_entry).number s0 b0 s1)
      (m1 : Marked (ltb 1 v.count) (get_or v.entries 1 blank_entry).number s1 b1 s2)
      (m2 : Marked (ltb 2 v.count) (get_or v.entries 2 blank_entry).number s2 b2 s3)
      (m3 : Marked (ltb 3 v.count) (get_or v.entries 3 blank_entry).number s3 b3 s4) where
    h1 : length s1 ≡ 100
    h1 = long 0 s0 b0 s1 m0 h

    h2 : length s2 ≡ 100
    h2 = long 1 s1 b1 s2 m1 h1

    h3 : length s3 ≡ 100
    h3 = long 2 s2 b2 s3 m2 h2

    h4 : length s4 ≡ 100
    h4 = long 3 s3 b3 s4 m3 h3

    module _ (es : List Entry) (m : Marks es s0) where
      abbrev P : ℕ → List Entry
      P j = part v sound.four sound.few j

      one-0 : One (ltb 0 v.count) (get_or v.entries 0 blank_entry) es b0 s1
      one-0 = marked-one 0 es s0 b0 s1 h m m0

      one-1 : One (ltb 1 v.count) (get_or v.entries 1 blank_entry) (es ++ P 0) b1 s2
      one-1 = marked-one 1 (es ++ P 0) s1 b1 s2 h1 one-0.marks m1

      one-2 : One (ltb 2 v.count) (get_or v.entries 2 blank_entry) (es ++ P 0 ++ P 1) b2 s3
      one-2 = marked-one 2 (es ++ P 0 ++ P 1) s2 b2 s3 h2 one-1.marks m2

      one-3 : One (ltb 3 v.count) (get_or v.entries 3 blank_entry) (es ++ P 0 ++ P 1 ++ P 2) b3 s4
      one-3 = marked-one 3 (es ++ P 0 ++ P 1 ++ P 2) s3 b3 s4 h3 one-2.marks m3

      found : (b0 || (b1 || (b2 || b3))) ≡ repeats es (used_of v)
      found = four-or one-0.finds one-1.finds one-2.finds one-3.finds ∙ all-tests v sound.four sound.few es

    pub checked : Checks v s0 (b0 || (b1 || (b2 || b3))) s4
    checked = record {
      kept = h4 ∙ sym h;
      finds = λ es m. found es m;
      marks = λ es m. subst (λ (l : List Entry). Marks l s4) (all-parts v sound.four sound.few es) (one-3 es m).marks;
    }
