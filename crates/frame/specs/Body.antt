-- The body of a written line: the address, then the fields, with a comma between each two.
use Rattle.std.specs.Prelude.{ℕ, ◌++◌, List}
use Prim.Native.String.{String}
use Rattle.digits.specs.Ascii.{ascii}
use Rattle.address.specs.declared.Talker.{Talker}
use Rattle.address.specs.declared.Talker.TheVariants.{Ga, Gl, Gn, Gp, Gq}
use Rattle.fields.specs.Fields.{join_fields}

abbrev pub talker_text : Talker → List ℕ
talker_text Gp = ascii "GP"
talker_text Gl = ascii "GL"
talker_text Ga = ascii "GA"
talker_text Gq = ascii "GQ"
talker_text Gn = ascii "GN"

-- A talker's sentence, and one of the maker.
abbrev pub standard_body : Talker → String → List (List ℕ) → List ℕ
standard_body t kind fields = join_fields (talker_text t ++ ascii kind) fields

abbrev pub maker_body : String → List (List ℕ) → List ℕ
maker_body address fields = join_fields (ascii address) fields
