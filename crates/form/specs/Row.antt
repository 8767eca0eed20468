-- The row of a sentence: its table of fields, one definition for reading, for ranges, for writing and for the way back.
use Rattle.std.specs.Prelude.{◌+◌, ℕ, Bool, cond, [], ◌++◌, ◌∷◌, List}
use Rattle.digits.specs.Pick.{pick}
use Rattle.numbers.specs.Layout.{◌then◌, Layout, nothing, shaped}
use Rattle.form.specs.Units.{unit_wrong}
use Rattle.form.specs.Values.{unit_field}
use Rattle.form.specs.Wrong.{near_of}

-- A form: a value X that stands in one field or in some that follow each other. G is what its fields read as, good or wrong. Its fields are
-- numbered from 1; a number of a wrong one is 0 where none is wrong.
pub record Form (G X : Type 0) : Type 0 where
  -- How many fields it takes, and how many bytes with their commas at most.
  pub width : ℕ
  pub most : ℕ
  -- What the fields read as, which of them is wrong, and the value.
  pub got : (ℕ → List ℕ) → G
  pub wrong : G → ℕ
  pub value : G → X
  -- Which field of a value outside its range is at fault, and the fields' texts.
  pub fault : X → ℕ
  pub text : X → List (List ℕ)
  -- How the value stands in numbers.
  pub layout : Layout X

-- A row: the same in its place in a sentence. The numbers are how many fields stand before it, and the first wrong one after it; the list
-- is the texts after it.
pub record Row (G X : Type 0) : Type 0 where
  pub width : ℕ
  pub most : ℕ
  pub got : (ℕ → List ℕ) → ℕ → G
  pub wrong : G → ℕ → ℕ → ℕ
  pub value : G → X
  pub fault : X → ℕ → ℕ → ℕ
  pub text : X → List (List ℕ) → List (List ℕ)
  pub layout : Layout X

-- A row of one form.
abbrev pub one : {G X : Type 0} → Form G X → Row G X
one f =
    record {
      width = f.width;
      most = f.most;
      got = λ field n. f.got (λ k. field (n + k));
      wrong = λ g n rest. near_of n (f.wrong g) rest;
      value = f.value;
      fault = λ v n rest. near_of n (f.fault v) rest;
      text = λ v rest. f.text v ++ rest;
      layout = f.layout;
    }

-- One row, then another that depends on what the first holds, by a key that is found in what was read and in the value. Whatever the key,
-- the second has w fields, m bytes at most, and the layout y.
abbrev pub depending : {K G X H Y : Type 0} → ℕ → ℕ → Layout Y → (G → K) → (X → K) → Row G X → (K → Row H Y) → Row (G × H) (X × Y)
depending w m y found held a b =
    record {
      width = a.width + w;
      most = a.most + m;
      got = λ field n. (a.got field n, (b (found (a.got field n))).got field (n + a.width));
      wrong = λ g n rest. a.wrong g.0 n ((b (found g.0)).wrong g.1 (n + a.width) rest);
      value = λ g. (a.value g.0, (b (found g.0)).value g.1);
      fault = λ v n rest. a.fault v.0 n ((b (held v.0)).fault v.1 (n + a.width) rest);
      text = λ v rest. a.text v.0 ((b (held v.0)).text v.1 rest);
      layout = a.layout then y;
    }

-- One row, then another.
infixr 30 ◌▷◌
abbrev pub ◌▷◌ : {G X H Y : Type 0} → Row G X → Row H Y → Row (G × H) (X × Y)
◌▷◌ a b = depending {K = Unit {0}} b.width b.most b.layout (λ g. tt) (λ v. tt) a (λ k. b)

-- The values of a row as a record, and back.
abbrev pub made : {G X R : Type 0} → (X → R) → (R → X) → Row G X → Row G R
made to from a =
    record {
      width = a.width;
      most = a.most;
      got = a.got;
      wrong = a.wrong;
      value = λ g. to (a.value g);
      fault = λ r. a.fault (from r);
      text = λ r. a.text (from r);
      layout = shaped to from a.layout;
    }

-- A value with the letter of its unit in the field after it; the letter may be empty where the value is missing.
abbrev pub unit_after : ℕ → Bool → Row ℕ (Unit {0})
unit_after letter there =
    record {
      width = 1;
      most = 2;
      got = λ field n. unit_wrong (field (n + 1)) there letter;
      wrong = λ g n rest. near_of n g rest;
      value = λ g. tt;
      fault = λ v n rest. rest;
      text = λ v rest. unit_field there letter ∷ rest;
      layout = nothing;
    }

abbrev pub measured : {G X : Type 0} → ℕ → (G → Bool) → (X → Bool) → Row G X → Row (G × ℕ) X
measured letter found held a = made (λ v. v.0) (λ v. (v, tt)) (depending 1 2 nothing found held a (unit_after letter))

-- A form that stands only where it is on, as the last field of one profile, or an entry that is used; else it has no field, reads as
-- `none`, and holds the value of that.
abbrev pub only_if : {G X : Type 0} → Bool → G → (X → ℕ) → Form G X → Form G X
only_if on none filled f =
    record {
      width = cond on f.width 0;
      most = f.most;
      got = λ field. pick on (f.got field) none;
      wrong = f.wrong;
      value = f.value;
      fault = λ v. cond on (f.fault v) (filled v);
      text = λ v. pick on (f.text v) [];
      layout = f.layout;
    }
