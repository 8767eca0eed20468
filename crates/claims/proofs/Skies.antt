-- Groups from the contracts of their reader and their writer. A written group is the first bytes of the output, which the round trips
-- read back; what was read is in range, so with room enough it is written, as the bytes that it came from.
use Prim.Native.Nat.{◌≤◌, ℕ}
use mathlib.Core.Path.{◌∙◌, ◌≡◌, ap, refl, sym}
use mathlib.Core.List.{◌++◌, List}
use mathlib.Core.Bool.{Bool, false, true}
use native.Mathlib.Omega.{arith}
use lib.Dec.{eqb, ltb}
use lib.ListN.{drop, length, take}
use lib.Seq.{drop_at, take_at}
use borrow.Author.Tests.{eq-eqb, eqb-false, eqb-true, le-ltb, ne_eqb}
use Rattle.address.specs.declared.Talker.{Talker}
use Rattle.kind_gsv.specs.declared.Entry.{Entry}
use Rattle.frame.specs.declared.Written.{Written}
use Rattle.digits.specs.Pick.{pick}
use Rattle.frame.specs.Written.{refused, wrote}
use Rattle.sky.specs.declared.Sky.{Sky}
use Rattle.sky.specs.declared.Table.{Table}
use Rattle.sky.specs.Group as Group
use Rattle.sky.specs.Sky.{sky_of, table_of}
use Rattle.sky.specs.Table.{all_blank, group_text, left_group, or_else, table_fault, WritesGroup, written_group}
use Rattle.sky_laws.proofs.ReadWrite as ReadWrite
use Rattle.sky_laws.proofs.WriteRead as WriteRead

-- A group writer that answers a length: the table has no fault, and the room was there.
module _ {t : Talker} {r : Table} {out : List ℕ} {answer : Written} {left : List ℕ} (w : WritesGroup t r out answer left) where
  pub group-refusal-leaves : (answer.no ≡ 0 → ⊥) → left ≡ out
  unfolding left_group
  group-refusal-leaves h = w.leaves
      ∙ rw (ne_eqb (written_group t r (length out)).no 0 (λ z. h (ap (λ (a : Written). a.no) w.answers ∙ z)))

  module _ (h : answer.no ≡ 0) where
    none : (written_group t r (length out)).no ≡ 0
    none = sym (ap (λ (a : Written). a.no) w.answers) ∙ h

    cases : (f : Written) (room : Bool) (n : ℕ) → (or_else f (pick room (refused 8 0 0) (wrote n))).no ≡ 0
        → (f.no ≡ 0) × (or_else f (pick room (refused 8 0 0) (wrote n)) ≡ wrote n)
    cases f room n e = go (eqb f.no 0) refl room e
      where
        go : (b : Bool) → eqb f.no 0 ≡ b → (room : Bool) → (pick b (pick room (refused 8 0 0) (wrote n)) f).no ≡ 0
            → (f.no ≡ 0) × (pick b (pick room (refused 8 0 0) (wrote n)) f ≡ wrote n)
        go true q true e = let z : ⊥ = omega arith in absurd z
        go true q false e = (eqb-true f.no 0 q, refl)
        go false q room e = absurd (eqb-false f.no 0 q e)

    parts : ((table_fault r).no ≡ 0) × (written_group t r (length out) ≡ wrote (length (group_text t r)))
    unfolding written_group
    parts = cases (table_fault r) (ltb (length out) (length (group_text t r))) (length (group_text t r)) none

    pub group-good : (table_fault r).no ≡ 0
    group-good = parts.0

    pub group-length : answer.length ≡ length (group_text t r)
    group-length = ap (λ (a : Written). a.length) (w.answers ∙ parts.1)

    pub group-left : left ≡ group_text t r ++ drop (length (group_text t r)) out
    unfolding left_group
    group-left = w.leaves ∙ rw (eq-eqb (written_group t r (length out)).no 0 none)

    pub group-written : take answer.length left ≡ group_text t r
    group-written = ap (take answer.length) group-left ∙ take_at (group_text t r) (drop (length (group_text t r)) out) answer.length
        (sym group-length)

    -- The bytes past what was written stay.
    pub group-rest-stays : drop answer.length left ≡ drop answer.length out
    group-rest-stays =
        ap (drop answer.length) group-left
        ∙ drop_at (group_text t r) (drop (length (group_text t r)) out) answer.length (sym group-length)
        ∙ ap (λ (n : ℕ). drop n out) (sym group-length)

    -- What was written is read back as the same table.
    pub group-back : length r.entries ≡ 36 → Group.group_of (take answer.length left) ≡ Group.whole t (take r.count r.entries)
    group-back n = ap Group.group_of group-written ∙ ReadWrite.read-write t r n group-good

-- A group that was read, written into an output with room for it, is the same bytes.
pub group-same-bytes : (g : List ℕ) (t : Talker) (es : List Entry) → Group.group_of g ≡ Group.whole t es
    → {out : List ℕ} {answer : Written} {left : List ℕ} → length g ≤ length out → WritesGroup t (table_of es) out answer left
    → (answer ≡ wrote (length g)) × (take (length g) left ≡ g)
unfolding written_group
group-same-bytes g t es e {out} {answer} {left} room w =
    let same = WriteRead.same_bytes g t es e in
    let good = (WriteRead.write_read g t es e).1 in
    let long = ap length same in
    let said : answer ≡ wrote (length (group_text t (table_of es))) = w.answers
    ∙ rw (
      eq-eqb (table_fault (table_of es)).no 0 good,
      le-ltb (length out) (length (group_text t (table_of es))) (omega (arith, room, long)),
    ) in
    let n = ap (λ (a : Written). a.no) said in (
      said ∙ ap wrote long,
      ap (λ (k : ℕ). take k left) (sym long ∙ sym (group-length w n)) ∙ group-written w n ∙ same,
    )

-- Any two results that the contract of the group reader permits are equal; so are any two of the group writer.
pub read-group : (s : List ℕ) (a b : Sky) → a ≡ sky_of (Group.group_of s) → b ≡ sky_of (Group.group_of s) → a ≡ b
read-group s a b p q = p ∙ sym q

pub write-group : (out : List ℕ) (t : Talker) (r : Table) (a b : Written) (l m : List ℕ) → WritesGroup t r out a l
    → WritesGroup t r out b m → (a ≡ b) × (l ≡ m)
write-group out t r a b l m v w = (v.answers ∙ sym w.answers, v.leaves ∙ sym w.leaves)

pub table-fault : (r : Table) (a b : Written) → a ≡ table_fault r → b ≡ table_fault r → a ≡ b
table-fault r a b p q = p ∙ sym q

pub table-rest : (r : Table) (a b : Bool) → a ≡ all_blank (drop r.count r.entries) → b ≡ all_blank (drop r.count r.entries)
    → a ≡ b
table-rest r a b p q = p ∙ sym q
