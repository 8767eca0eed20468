-- How forms are made: of one field, of a value that stands exactly where another does, of one that is never missing.
use Rattle.std.specs.Prelude.{ℕ, Bool, true, [], ◌∷◌, List}
use Rattle.numbers.specs.Layout.{Layout, nothing, whole}
use Rattle.form.specs.Row.{Form}
use Rattle.form.specs.Units.{empty_wrong}
use Rattle.form.specs.Values.{alike_wrong, kept_if, needed_wrong}
use Rattle.form.specs.declared.Maybe.{Maybe}
use Rattle.form.specs.declared.got.Got.{Got}
use Rattle.form.specs.declared.got.GotInt.{GotInt}

-- A form of one field: at most how many bytes with its comma, how its value stands in numbers, what the field reads as, its value, whether
-- that is outside its range, and its text.
abbrev pub single : {X : Type 0} → ℕ → Layout X → (List ℕ → Got) → (Got → X) → (X → ℕ) → (X → List ℕ) → Form Got X
single most layout read value fault text =
    record {
      width = 1;
      most = most;
      got = λ field. read (field 1);
      wrong = λ g. g.wrong;
      value = value;
      fault = fault;
      text = λ v. text v ∷ [];
      layout = layout;
    }

abbrev pub single_int : {X : Type 0} → ℕ → Layout X → (List ℕ → GotInt) → (GotInt → X) → (X → ℕ) → (X → List ℕ) → Form GotInt X
single_int most layout read value fault text =
    record {
      width = 1;
      most = most;
      got = λ field. read (field 1);
      wrong = λ g. g.wrong;
      value = value;
      fault = fault;
      text = λ v. text v ∷ [];
      layout = layout;
    }

-- A value that stands exactly where another does; a line may have one too many, which is not kept.
abbrev pub needed : Form Got Maybe → Bool → Form Got Maybe
needed f key =
    record {
      width = f.width;
      most = f.most;
      got = f.got;
      wrong = λ g. needed_wrong key g;
      value = λ g. kept_if key g;
      fault = λ m. alike_wrong key m.there (f.fault m);
      text = f.text;
      layout = f.layout;
    }

-- A value that is never missing.
abbrev pub present : ℕ → Maybe
present v = record { there = true; value = v }

abbrev pub filled : Form Got Maybe → Form Got ℕ
filled f =
    record {
      width = f.width;
      most = f.most;
      got = f.got;
      wrong = λ g. needed_wrong true g;
      value = λ g. g.value;
      fault = λ v. f.fault (present v);
      text = λ v. f.text (present v);
      layout = whole;
    }

abbrev pub empty_field : Form ℕ (Unit {0})
empty_field =
    record {
      width = 1;
      most = 1;
      got = λ field. empty_wrong (field 1);
      wrong = λ g. g;
      value = λ g. tt;
      fault = λ v. 0;
      text = λ v. [] ∷ [];
      layout = nothing;
    }
