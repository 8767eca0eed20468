-- The groups are exactly what the writer writes of the tables in range; and there are groups of every number of entries that a table holds:
-- the satellites from 1 on, without values, are in range, since each number is above all before it.
use Prim.Native.Nat.{◌+◌, ◌≤◌, suc, zero, ℕ}
use mathlib.Core.Bool.{false, true}
use mathlib.Core.List.{[], ◌++◌, ◌∷◌, List}
use mathlib.Core.Path.{◌∙◌, ◌≡◌, ap, refl, sym}
use native.Mathlib.Omega.{arith}
use lib.Dec.{eqb, lit≤}
use lib.ListN.{length, take}
use borrow.Author.Tests.{ne_eqb}
use Rattle.address.specs.declared.Talker.{Talker}
use Rattle.address.specs.declared.Talker.TheVariants.{Gp}
use Rattle.form.specs.Values.{no_maybe, outside, range_wrong}
use Rattle.form.proofs.Ranged.{in-outside}
use Rattle.form.proofs.Zeros.{zero-all}
use Rattle.kind_gsv.specs.declared.Entry.{Entry}
use Rattle.kind_gsv.specs.Writing.{entry_afters}
use Rattle.sky.specs.Group.{group_of, numbered, repeats, whole}
use Rattle.sky.specs.Sky.{table_of}
use Rattle.sky.specs.Table.{entry_wrong, group_text, table_fault}
use Rattle.sky.specs.declared.Table.{Table}
use Rattle.sky_laws.proofs.InRange.{EachGood, InRange, none_left, none_right, or-none, table-good, table-places}
use Rattle.sky_laws.proofs.ReadWrite.{list_back, read-write}
use Rattle.sky_laws.proofs.WriteRead.{same_bytes, told}

-- Bytes that are a group; and bytes that the writer writes of a table in range.
pub record IsGroup (g : List ℕ) : Type 0 where
  pub talker : Talker
  pub entries : List Entry
  pub reads : group_of g ≡ whole talker entries

pub record IsWritten (g : List ℕ) : Type 0 where
  pub talker : Talker
  pub table : Table
  pub places : length table.entries ≡ 36
  pub good : (table_fault table).no ≡ 0
  pub writes : group_text talker table ≡ g

-- Bytes are a group exactly where they are what the writer writes of some table in range.
pub exactly : (g : List ℕ) → (IsGroup g → IsWritten g) × (IsWritten g → IsGroup g)
exactly g = (written, group)
  where
    written : IsGroup g → IsWritten g
    written x =
        let s = (told g x.talker x.entries x.reads).0 in
        record {
          talker = x.talker;
          table = table_of x.entries;
          places = table-places x.entries s;
          good = table-good x.entries s;
          writes = same_bytes g x.talker x.entries x.reads;
        }

    group : IsWritten g → IsGroup g
    group x =
        record {
          talker = x.talker;
          entries = take x.table.count x.table.entries;
          reads = ap group_of (sym x.writes) ∙ read-write x.talker x.table x.places x.good;
        }

-- A satellite without values, and so many of them from number k on.
abbrev pub plain : ℕ → Entry
plain k = record { number = k; elevation = no_maybe; azimuth = no_maybe; signal = no_maybe }

abbrev pub plains : ℕ → ℕ → List Entry
plains k zero = []
plains k (suc m) = plain k ∷ plains (k + 1) m

pub plains-many : (m k : ℕ) → length (plains k m) ≡ m
plains-many zero k = refl
plains-many (suc m) k = ap suc (plains-many m (k + 1))

pub plain-good : (k : ℕ) → 1 ≤ k → k ≤ 99 → entry_wrong (plain k) ≡ 0
unfolding entry_wrong range_wrong outside
plain-good k a b = zero-all (entry_afters true 0 (plain k)) (in-outside 1 99 k a b, (refl, (refl, (refl, tt))))

plains-good : (m k : ℕ) → 1 ≤ k → k + m ≤ 100 → EachGood (plains k m)
plains-good zero k a b = tt
plains-good (suc m) k a b = (plain-good k a (omega arith), plains-good m (k + 1) (omega arith) (omega arith))

-- Numbers from k on are not among some entries.
abbrev Below : ℕ → List Entry → Type 0
Below k es = (n : ℕ) → k ≤ n → numbered n es ≡ false

below_next : (k : ℕ) (es : List Entry) → Below k es → Below (k + 1) (es ++ (plain k ∷ []))
unfolding numbered
below_next k [] b n h = rw (ne_eqb k n (λ e. omega arith))
below_next k (e ∷ es) b n h =
    or-none (eqb e.number n) _ (none_left _ _ (b n (omega arith)))
    (below_next k es (λ m i. none_right (eqb e.number m) _ (b m i)) n h)

plains-once : (m k : ℕ) (before : List Entry) → Below k before → repeats before (plains k m) ≡ false
unfolding repeats
plains-once zero k before b = refl
plains-once (suc m) k before b = rw (b k (omega arith)) (plains-once m (k + 1) (before ++ (plain k ∷ [])) (below_next k before b))

pub plains-in-range : (n : ℕ) → n ≤ 36 → InRange (plains 1 n)
unfolding numbered
plains-in-range n h =
    record {
      few = omega (arith, plains-many n 1);
      each = plains-good n 1 (lit≤ tt) (omega arith);
      once = plains-once n 1 [] (λ m i. refl);
    }

-- There are groups of every number of entries from 0 to 36.
pub every-count : (n : ℕ) → n ≤ 36 → (g : List ℕ) × (x : IsGroup g) × (length x.entries ≡ n)
every-count n h =
    let s = plains-in-range n h in (
      group_text Gp (table_of (plains 1 n)),
      record { talker = Gp; entries = plains 1 n; reads = list_back Gp (plains 1 n) s },
      plains-many n 1,
    )
