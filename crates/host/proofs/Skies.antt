-- A sky that was read, by the answer that it says: a whole one has its talker and at most 36 satellites, which fill the places of its
-- table, and is laid into the numbers; nobody's is refused and leaves them.
use Prim.Native.Nat.{ℕ, ◌-◌, ◌≤◌}
use mathlib.Core.Path.{◌≡◌, refl, sym, ◌∙◌, ap}
use mathlib.Core.Bool.{cond}
use mathlib.Core.List.{List}
use native.Mathlib.Omega.{arith}
use lib.Dec.{ltb}
use lib.IntN.{ℤ}
use lib.ListN.{length, replicate, length-append, length-replicate}
use Rattle.address.specs.declared.Talker.{Talker}
use Rattle.address.specs.declared.Talker.TheVariants.{Gn}
use Rattle.kind_gsv.specs.Blank.{blank_entry}
use Rattle.sky.specs.declared.Sky.{Sky}
use Rattle.std.specs.Prelude.{None, Option, Some}
use Rattle.sky.specs.Group.{Answer, whole, refused}
use Rattle.sky.specs.Sky.{sky_of}
use Rattle.numbers.specs.Numbers.{laid}
use Rattle.sky_numbers.specs.Numbers.{sky_numbers}
use Rattle.host.specs.Group.{handed}

pub few : (a : Answer) (s : Sky) → s ≡ sky_of a → length s.table.entries ≡ 36 → s.table.count ≤ 36
few a s e h = rw e (go a (sym (ap (λ (s : Sky). length s.table.entries) e) ∙ h))
  where
    go : (a : Answer) → length (sky_of a).table.entries ≡ 36 → (sky_of a).table.count ≤ 36
    go (whole t es) h =
        omega (arith, h, length-append es (replicate (36 - length es) blank_entry), length-replicate (36 - length es) blank_entry)
    go (refused n k f) h = omega arith

-- What a whole sky and nobody's differ in.
abbrev count : Option Talker → ℕ
count None = 0
count (Some t) = 1

abbrev who : Option Talker → Talker
who None = Gn
who (Some t) = t

-- The four parts that reading a group hands over.
abbrev Hands : Answer → List ℤ → ℕ → Sky → List ℤ → Type 0
Hands a out n s left =
    (n ≡ (handed a out).no) × ((s.line ≡ (handed a out).line) × ((s.field ≡ (handed a out).field) × (left ≡ (handed a out).numbers)))

pub nobody : (a : Answer) (s : Sky) (out : List ℤ) → s ≡ sky_of a → s.talker ≡ None → Hands a out s.no s out
nobody (whole t es) s out e h =
    let z : ◌≡◌ {A = ℕ} 1 0 = ap count (sym (ap (λ (s : Sky). s.talker) e) ∙ h) in
    let w : ⊥ = omega (arith, z) in
    absurd w
nobody (refused n k f) s out e h = (ap (λ (s : Sky). s.no) e, (ap (λ (s : Sky). s.line) e, (ap (λ (s : Sky). s.field) e, refl)))

pub somebody : (a : Answer) (s : Sky) (t : Talker) (out left : List ℤ) → s ≡ sky_of a → s.talker ≡ Some t
    → left ≡ laid (sky_numbers t s.table) out → {n : ℕ} → n ≡ cond (ltb (length out) 254) 8 0 → Hands a out n s left
somebody (refused n k f) s t out left e h l q =
    let z : ◌≡◌ {A = ℕ} 0 1 = ap count (sym (ap (λ (s : Sky). s.talker) e) ∙ h) in
    let w : ⊥ = omega (arith, z) in
    absurd w
somebody (whole t' es) s t out left e h l q =
    let same : t ≡ t' = ap who (sym h ∙ ap (λ (s : Sky). s.talker) e) in
    let left =
    l ∙ ap (λ (t : Talker). laid (sky_numbers t s.table) out) same ∙ ap (λ (s : Sky). laid (sky_numbers t' s.table) out) e in
    (q, (ap (λ (s : Sky). s.line) e, (ap (λ (s : Sky). s.field) e, left)))
