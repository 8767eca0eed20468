-- PIRPR (4): port 0, 1 or empty; rate or empty; protocol 0-4; mask. Empty rate: a question; the last two are valid or empty in a line,
-- missing in the record.
use Rattle.std.specs.Prelude.{ℕ, Bool, List, ℤ}
use Rattle.frame.specs.Body.{maker_body}
use Rattle.form.specs.Forms.{needed}
use Rattle.form.specs.Kind.{answer_by, fault_by, fields_for, read_by}
use Rattle.form.specs.Row.{◌▷◌, depending, made, one, Row}
use Rattle.form.specs.declared.Maybe.{Maybe}
use Rattle.form.specs.declared.got.Got.{Got}
use Rattle.form_number.specs.Forms.{fixed}
use Rattle.form_mask.specs.Forms.{port_mask, rate}
use Rattle.kind_pir_port.specs.declared.command.PortAsked.{PortAsked}
use Rattle.numbers.specs.Layout.{◌then◌, Layout, maker_numbers}
use Rattle.form.specs.Numbers.{maybe_layout}
use Rattle.numbers.specs.Told.{Answer, gives, refuses}

-- The last port, and the last protocol.
abbrev pub port_most : ℕ
port_most = 1

abbrev pub protocol_most : ℕ
protocol_most = 4

abbrev pub Readings : Type 0
Readings = Got × (Got × (Got × Got))

abbrev pub Values : Type 0
Values = Maybe × (Maybe × (Maybe × Maybe))

-- Protocol and mask, which stand where the rate does.
abbrev pub setting : Bool → Row (Got × Got) (Maybe × Maybe)
setting key = one (needed (fixed 1 0 protocol_most) key) ▷ one (needed port_mask key)

abbrev pub pirpr_parts : Row Readings Values
pirpr_parts = one (fixed 1 0 port_most) ▷ depending 2 7 (maybe_layout then maybe_layout) (λ g. g.there) (λ m. m.there) (one rate) setting

unfoldable pub pirpr_row : Row Readings PortAsked
pirpr_row =
    made
    (λ v. record { port = v.0; rate = v.1.0; protocol = v.1.1.0; mask = v.1.1.1 })
    (λ r. (r.port, (r.rate, (r.protocol, r.mask))))
    pirpr_parts

-- The record as numbers, as docs/LAYOUT.md lays them out, in the order of its fields; and back.
unfoldable pub pirpr_layout : Layout PortAsked
pirpr_layout = pirpr_row.layout

abbrev pub pirpr_numbers : PortAsked → List ℤ
pirpr_numbers = maker_numbers pirpr_layout

abbrev pub pirpr_at : List ℤ → PortAsked
pirpr_at n = pirpr_layout.at n 0

-- What the contracts cite.
abbrev pub pirpr_from : List ℤ → Got → Got → Got → Got → Answer
pirpr_from out port rate protocol mask =
    answer_by (refuses out) pirpr_row (λ r. gives out 8 (pirpr_numbers r)) (port, (rate, (protocol, mask)))

abbrev pub pirpr_told : List ℤ → ℕ → (ℕ → List ℕ) → Answer
pirpr_told out = read_by (refuses out) pirpr_row (λ r. gives out 8 (pirpr_numbers r))

-- The first value outside its range, by the number of its field, or 0; the fields; the body.
abbrev pub pirpr_wrong : PortAsked → ℕ
pirpr_wrong = fault_by pirpr_row

abbrev pub pirpr_fields : PortAsked → List (List ℕ)
pirpr_fields = fields_for pirpr_row

abbrev pub pirpr_body : PortAsked → List ℕ
pirpr_body r = maker_body "PIRPR" (pirpr_fields r)
