-- A kind of sentence there and back, by its name: its address leads to its row, and the laws of all rows give the rest.
use Prim.Native.Nat.{◌≤◌, ℕ}
use Prim.Native.String.{String}
use mathlib.Core.List.{◌++◌, List}
use mathlib.Core.Path.{◌∙◌, ◌≡◌, ap}
use native.Mathlib.Omega.{arith}
use lib.ListN.{length}
use Rattle.digits.specs.Ascii.{ascii}
use Rattle.line.specs.Line.{as_line}
use Rattle.address.specs.Address.{known_of}
use Rattle.address.specs.declared.Address.{Address}
use Rattle.address.specs.declared.Talker.{Talker}
use Rattle.frame.specs.Body.{maker_body, standard_body, talker_text}
use Rattle.form.specs.Kind.{fault_by, fields_for, read_by}
use Rattle.form.specs.Row.{Row}
use Rattle.form.proofs.Clean.{Clean}
use Rattle.form.proofs.CleanTexts.{total}
use Rattle.form.proofs.Laws.{bytes, Lawful, Tight}
use Rattle.sentence.specs.Sentence.{Sentence}
use Rattle.sentence.specs.Sentence as S
use Rattle.sentence.specs.Lines.{addressed, read_line}
use Rattle.sentence_laws.proofs.Known.{address-clean, address-five}
use Rattle.sentence_laws.proofs.Trips.{body-long, line-back, read-in-range, read-shorter}

-- Of a standard kind: what is written is read back as the same record and talker; and whatever holds of refusals and of records in range,
-- whose texts are no longer than the fields were, holds of what is read.
pub record Standard {G R : Type 0} (name : String) (row : Row G R) (make : Talker → R → Sentence) : Type 1 where
  pub read-write : (t : Talker) (r : R) → fault_by row r ≡ 0 → length (standard_body t name (fields_for row r)) ≤ 76
      → read_line (as_line (standard_body t name (fields_for row r))) ≡ make t r
  pub write_read : (t : Talker) (n : ℕ) (field : ℕ → List ℕ) (P : Sentence → Type 0) → ((no at : ℕ) → P (S.Refused no at))
      → ((r : R) → n ≡ row.width → fault_by row r ≡ 0 → total (fields_for row r) ≤ bytes field 0 row.width → P (make t r))
      → P (read_by S.Refused row (make t) n field)

module _ {G R : Type 0} (name : String) (row : Row G R) (make : Talker → R → Sentence) where
  pub standard : Tight row → length (ascii name) ≡ 3 → Clean (ascii name) → 1 ≤ row.width → (address : Talker → Address)
      → ((t : Talker) → known_of (talker_text t ++ ascii name) ≡ address t)
      → ((t : Talker) (field : ℕ → List ℕ) → addressed (address t) row.width field
      ≡ read_by S.Refused row (make t) row.width field)
      → Standard name row make
  standard l three clean some address known leads =
      record {
        read-write = λ t r good fits.
            line-back row l.0 (make t) (talker_text t ++ ascii name) (address-five t (ascii name) three)
            (address-clean t (ascii name) three clean) some
            (λ field. ap (λ (x : Address). addressed x row.width field) (known t) ∙ leads t field) r good fits;
        write_read = λ t n field P refused. read-shorter row l.0 (make t) n field P refused l.1;
      }

  -- Its body is never too long where its row is not.
  pub standard-fits : Tight row → length (ascii name) ≡ 3 → row.most ≤ 71 → (t : Talker) (r : R) → fault_by row r ≡ 0
      → length (standard_body t name (fields_for row r)) ≤ 76
  standard-fits l three most t r good =
      let a = talker_text t ++ ascii name in
      omega (arith, most, address-five t (ascii name) three, body-long row l.0 (make t) a r good)

-- The same of a kind of the maker, whose lines are never too long.
pub record Maker {G R : Type 0} (name : String) (row : Row G R) (make : R → Sentence) : Type 1 where
  pub fits : (r : R) → fault_by row r ≡ 0 → length (maker_body name (fields_for row r)) ≤ 76
  pub read-write : (r : R) → fault_by row r ≡ 0 → read_line (as_line (maker_body name (fields_for row r))) ≡ make r
  pub write_read : (n : ℕ) (field : ℕ → List ℕ) (P : Sentence → Type 0) → ((no at : ℕ) → P (S.Refused no at))
      → ((r : R) → n ≡ row.width → fault_by row r ≡ 0 → P (make r)) → P (read_by S.Refused row make n field)

module _ {G R : Type 0} (name : String) (row : Row G R) (make : R → Sentence) (l : Lawful row) (five : length (ascii name) ≡ 5)
    (most : row.most ≤ 71) where
  short : (r : R) → fault_by row r ≡ 0 → length (maker_body name (fields_for row r)) ≤ 76
  short r good = omega (arith, most, five, body-long row l make (ascii name) r good)

  pub maker : Clean (ascii name) → 1 ≤ row.width → (address : Address) → known_of (ascii name) ≡ address
      → ((field : ℕ → List ℕ) → addressed address row.width field ≡ read_by S.Refused row make row.width field)
      → Maker name row make
  maker clean some address known leads =
      record {
        fits = short;
        read-write = λ r good.
            line-back row l make (ascii name) five clean some
            (λ field. ap (λ (x : Address). addressed x row.width field) known ∙ leads field) r good (short r good);
        write_read = read-in-range row l make;
      }
