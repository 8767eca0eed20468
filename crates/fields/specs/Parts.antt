-- The parts of a body that fields are lent as: field k by the ends that stand beside the body.
use Rattle.std.specs.Prelude.{ℕ, List}
use Rattle.fields.specs.declared.Fields.{Fields}
use Rattle.fields.specs.Places.{fields_by}

abbrev pub parts_of : Fields → ℕ → List ℕ
parts_of f = fields_by f.ends.now f.body.now
